-- A text has a flaw exactly where it is no print.
use Rattle.std.proofs.Common.{◌≡◌, ◌↔◌, Option, None, Some, refl}
use Rattle.runcheck.specs.declared.flaw.Flaw.{Flaw}
use Rattle.runcheck.specs.declared.judge.Verdict.TheVariants as verdicts

yes_alone : verdicts.No ≡ verdicts.Yes → ⊥
yes_alone h = absurd (cc)

not_none : (f : Flaw) → Some f ≡ None → ⊥
not_none f h = absurd (cc)

pub without_flaw : (P : Type 0) (o : Option Flaw) → o ≡ None → ((verdicts.Yes ≡ verdicts.Yes) ↔ P) → (o ≡ None) ↔ P
without_flaw P o n (f, g) = (λ e. f refl, λ p. n)

pub with_flaw : (P : Type 0) (f : Flaw) → ((verdicts.No ≡ verdicts.Yes) ↔ P) → (Some f ≡ None) ↔ P
with_flaw P f (g, h) = (λ e. absurd (not_none f e), λ p. absurd (yes_alone (h p)))
