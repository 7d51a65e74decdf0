use Rattle.std.proofs.Common.{arith}
use Rattle.retry_policy.proofs.DecisionLemmas.{refused_by_attempts, refused_by_verdict}
use Rattle.retry_policy.proofs.standard.StandardRetryStrategy.decide_by_verdict.Goals as goal

pub returns-then-attempt-from : goal.returns-then-attempt-from
returns-then-attempt-from g c =
    let a = c.args.attempt in
    refused_by_attempts _ _ a.retry a.bucket a.number a.word a.failed c.args.verdict c.in-RetryIndicated.kind a.now c.in-RetryIndicated.retry_after a.paced _ _
    c.in-RetryIndicated.is (omega (arith, c.from.ensures, c.if-attempt-from.true)) c.refused.ensures.choice c.refused.ensures.reason c.refused.ensures.long_poll

pub returns-in-NoActionIndicated : goal.returns-in-NoActionIndicated
returns-in-NoActionIndicated g c =
    let a = c.args.attempt in
    let refused = c.refused-in-NoActionIndicated.ensures in
    refused_by_verdict _ _ a.retry a.bucket a.number a.word a.failed c.args.verdict a.now a.paced _ _
    c.in-NoActionIndicated.is refused.choice refused.reason refused.long_poll
