use Rattle.std.proofs.Common.{◌≡◌, ◌≤◌, ◌↔◌, ap, arith, length, subst}
use Rattle.run_grammar.specs.Standing.{starting}
use Rattle.runcheck.specs.Follow.{log_of}
use Rattle.runcheck.specs.Reach.{IsPrintOf}
use Rattle.runcheck.specs.declared.judge.Verdict.TheVariants as verdicts
use Rattle.runcheck.proofs.Reaching.{judged_run, no_is_not_yes, too_long}
use Rattle.runcheck.proofs.judge.judge_told.Goals as goal

pub returns-then-len-head : goal.returns-then-len-head
returns-then-len-head c = too_long (verdicts.No ≡ verdicts.Yes) c.args.told.head c.args.told.calls c.args.text.now (omega arith) no_is_not_yes

pub returns-in-Some : goal.returns-in-Some
returns-in-Some c =
    let n : length c.as_slice.result.now ≤ c.args.told.head.fuel = omega (arith, ap length c.as_slice.ensures) in
    subst (λ calls. (c.in_ok-said-in-Some.said ≡ verdicts.Yes) ↔ IsPrintOf c.args.told.head (log_of (starting c.args.told.head.input) calls) c.args.text.now) c.as_slice.ensures
    (judged_run (c.in_ok-said-in-Some.said ≡ verdicts.Yes) c.args.told.head c.in_ok-input.input c.as_slice.result.now c.in_ok-followed.field-0 c.in-Some.followed c.args.text.now
    c.in_ok-input.ensures.cases c.in-Some.is c.in_ok-followed.ensures.entries c.in_ok-followed.ensures.stands c.in_ok-followed.ensures.whole n c.in_ok-said-in-Some.ensures)
