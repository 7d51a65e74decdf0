-- What a start answers where there are sleeps, and where there are none.
use Rattle.std.specs.Prelude.{◌≡◌, ℕ, ◌↔◌, Bool, true, IsSome, IsTrue, Ok, Option, Some}
use Rattle.std.proofs.Common.{refl, subst, sym}
use Rattle.smithy_types.specs.declared.timers.TimersCall.{TimersCall}
use Rattle.smithy_types.specs.declared.timers.TimersCall.TheVariants.{Start}

-- of a call: a start answers a sleep exactly where there are sleeps
abbrev pub StartsWhere : Bool → TimersCall → Type 0
StartsWhere sleeps (Start nanos (Ok sleep)) = IsSome sleep ↔ IsTrue sleeps
StartsWhere sleeps _ = Unit {0}

-- a sleep was answered, as there are sleeps
pub is_started : (due : ℕ) (sleep : Option ℕ) → sleep ≡ Some due → IsSome sleep ↔ IsTrue true
is_started due sleep is = subst (λ s. IsSome s ↔ IsTrue true) (sym is) (λ _. refl, λ _. refl)
