-- How far a client's run is driven on is determined.
use Rattle.std.specs.Prelude.{◌≡◌, ◌⊎◌, ◌≤◌, ℕ, Bool, true, false, List, length}
use Rattle.client_components.specs.Meaning.{ClientMeaning}
use Rattle.client_components.specs.Serving.{Served}
use Rattle.client_components.specs.declared.parts.Parts.{Parts}
use Rattle.client_components.specs.declared.world.RuntimeComponents.{RuntimeComponents}
use Rattle.retry_quota.specs.Calls.{Limiters}
use Rattle.retry_quota.specs.Registers.{Registers}
use Rattle.run_driver.specs.Driving.{Stretches}
use Rattle.run_grammar.specs.Laws.{Begins, IsWhole}
use Rattle.run_grammar.specs.Standing.{State}
use Rattle.run_grammar.specs.declared.answer.Entry.{Entry}
use Rattle.smithy_types.specs.declared.kinds.StopPoint.{StopPoint}
use Rattle.laws_determined.specs.Client.Alike.{PartsAlike}
use Rattle.laws_determined.specs.Client.Answering.{ArePlain, over_registers}

module _ {W T X Q C I A R Z D P L : Type 0} (means : ClientMeaning T X Q C I A R Z D P L)
    (parts : W → Parts T X Q C I A R Z D P L) (log : W → List Entry) (parks : X → Bool) where
  -- One stretch of a run of at most some calls: the log begins a run, and the run has to wait, made all its calls or is
  -- whole.
  pub record Drives (stop : StopPoint) (begin : State) (fuel : ℕ) (old new : W) : Type 0 where
    pub stretches : Stretches log (λ w l v. Served means (parts w) l (parts v)) (λ w. parks (parts w).outside) old new
    pub begins : Begins stop begin (log new)
    pub within : length (log new) ≤ fuel
    pub stops : (parks (parts new).outside ≡ true) ⊎ ((length (log new) ≡ fuel) ⊎ IsWhole stop begin (log new))

-- a client over registers, with what it was asked and answered
abbrev pub RegistersClient : (T X C I A R Z D P L : Type 0) → Type 0
RegistersClient T X C I A R Z D P L = RuntimeComponents T X (Registers L) C I A R Z D P L

module _ {T X C I A R Z D P L : Type 0} (bucket amount : P → ℕ) (limiters : Limiters L)
    (means : ClientMeaning T X (Registers L) C I A R Z D P L) where
  -- one stretch of its run
  abbrev pub DrivesClient : (X → Bool) → StopPoint → State → ℕ → RegistersClient T X C I A R Z D P L
      → RegistersClient T X C I A R Z D P L → Type 0
  DrivesClient parks stop begin fuel old new =
      Drives (over_registers bucket amount limiters means) (λ (c : RegistersClient T X C I A R Z D P L). c.parts)
      (λ (c : RegistersClient T X C I A R Z D P L). c.log) parks stop begin fuel old new

  -- from one place of a run, where it needn't wait, the same entries are made, and the parts that are left are alike
  abbrev pub DrivesAreDetermined : Type 0
  DrivesAreDetermined =
      ArePlain means → (parks : X → Bool) (stop : StopPoint) (begin : State) (fuel : ℕ)
      (old other new more : RegistersClient T X C I A R Z D P L)
      → PartsAlike bucket amount old.parts other.parts → old.log ≡ other.log → parks old.parts.outside ≡ false
      → DrivesClient parks stop begin fuel old new → DrivesClient parks stop begin fuel other more
      → (new.log ≡ more.log) × PartsAlike bucket amount new.parts more.parts
