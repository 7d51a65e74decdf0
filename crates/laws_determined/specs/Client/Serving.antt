-- What a client serves of an operation is determined.
use Rattle.std.specs.Prelude.{◌≡◌, ℕ, List}
use Rattle.client_components.specs.Meaning.{ClientMeaning}
use Rattle.client_components.specs.Serving.{Served}
use Rattle.client_components.specs.declared.parts.Parts.{Parts}
use Rattle.orchestrate.specs.SpelledRuns.{IsRunWithin}
use Rattle.retry_quota.specs.Calls.{Limiters}
use Rattle.retry_quota.specs.Registers.{Registers}
use Rattle.run_grammar.specs.Standing.{State}
use Rattle.run_grammar.specs.declared.answer.Entry.{Entry}
use Rattle.smithy_types.specs.declared.kinds.StopPoint.{StopPoint}
use Rattle.laws_determined.specs.Client.Alike.{PartsAlike}
use Rattle.laws_determined.specs.Client.Answering.{ArePlain, over_registers}

module _ {T X C I A R Z D P L : Type 0} (bucket amount : P → ℕ) (limiters : Limiters L)
    (means : ClientMeaning T X (Registers L) C I A R Z D P L) where
  -- from one beginning there is one run within some fuel, and the parts that are left are alike
  abbrev pub RunsAreDetermined : Type 0
  RunsAreDetermined =
      ArePlain means → (stop : StopPoint) (begin : State) (fuel : ℕ)
      (old other new more : Parts T X (Registers L) C I A R Z D P L) (l m : List Entry)
      → PartsAlike bucket amount old other → IsRunWithin stop begin fuel l → IsRunWithin stop begin fuel m
      → Served (over_registers bucket amount limiters means) old l new
      → Served (over_registers bucket amount limiters means) other m more → (l ≡ m) × PartsAlike bucket amount new more
