use Rattle.retry_policy.proofs.DecisionLemmas.{asks_skipped, asks_nobody}
use Rattle.retry_policy.proofs.standard.ask_limiter.Goals as goal

pub returns-then-skipped : goal.returns-then-skipped
returns-then-skipped g c = asks_skipped _ _ c.args.skipped c.args.paced c.args.reason c.if-skipped.true

pub returns-in_default : goal.returns-in_default
returns-in_default g c = asks_nobody _ _ c.args.skipped c.args.paced c.args.reason c.if-skipped.false c.in_default.is
