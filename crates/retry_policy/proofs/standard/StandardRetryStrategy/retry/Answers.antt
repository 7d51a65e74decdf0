use Rattle.std.proofs.Common.{◌∙◌, ap}
use Rattle.retry_policy.specs.Backoff.{backoff_of}
use Rattle.retry_policy.proofs.DecisionLemmas.{retries}
use Rattle.retry_policy.proofs.standard.StandardRetryStrategy.retry.Goals as goal

pub returns : goal.returns
returns g c =
    let a = c.args.attempt in
    let waits = c.backoff-wait.ensures ∙ ap (backoff_of a.retry c.ask_limiter-limited.result c.args.retry_after) c.own_backoff-own.ensures in
    let asks = rw (c.is_v2_1-version.ensures, c.reason_for-reason.ensures) at c.ask_limiter-limited.ensures in
    retries _ _ _ _ a.retry a.bucket a.number a.word _ a.failed c.args.kind a.now c.args.retry_after _ a.paced _ _ _ c.requires asks waits (c.pay.ensures c.args.retry_after)
