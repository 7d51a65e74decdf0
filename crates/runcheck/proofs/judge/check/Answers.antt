use Rattle.std.proofs.Common.{◌≡◌}
use Rattle.runcheck.specs.declared.judge.Verdict.TheVariants as verdicts
use Rattle.runcheck.proofs.Reaching.{reached_by}
use Rattle.runcheck.proofs.judge.check.Goals as goal

pub returns-in_ok-said-in-Ok : goal.returns-in_ok-said-in-Ok
returns-in_ok-said-in-Ok c = reached_by (c.in_ok-said-in-Ok.said ≡ verdicts.Yes) c.args.text.now c.in-Ok.told c.in-Ok.ensures.found c.in_ok-said-in-Ok.ensures
