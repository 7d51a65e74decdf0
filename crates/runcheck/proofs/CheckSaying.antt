-- What is said by a verdict is said of the bytes.
use Rattle.std.proofs.Common.{ℕ, List, ◌≡◌, ◌↔◌, refl, sym, subst, codes}
use Rattle.runcheck.specs.Reach.{Reach}
use Rattle.runcheck.specs.declared.judge.Verdict.{Verdict}
use Rattle.runcheck.specs.declared.judge.Verdict.TheVariants as verdicts
use Rattle.cli_shell.specs.Said.{Said, prints}
use Rattle.cli_shell.specs.declared.status.PrintStatus.TheVariants as outcomes
use Rattle.runcheck.specs.Check.{check_says, line_of, verdict_says}

no_is_not_yes : verdicts.No ≡ verdicts.Yes → ⊥
no_is_not_yes h = absurd (cc)

pub verdict_said : (bytes : List ℕ) (v : Verdict) (x : Said) → (v ≡ verdicts.Yes) ↔ Reach bytes → verdict_says v x → check_says bytes x
verdict_said bytes verdicts.Yes x (f, g) h = subst (check_says bytes) (sym h) (f refl, refl)
verdict_said bytes verdicts.No x (f, g) h = subst (check_says bytes) (sym h) ((λ r. no_is_not_yes (g r)), refl)
