use Rattle.retry_policy.proofs.DecisionLemmas.{decides}
use Rattle.retry_policy.proofs.standard.StandardRetryStrategy.decide.Goals as goal

pub returns : goal.returns
returns g c =
    let a = c.args.attempt in
    decides _ _ _ _ _ a.retry a.bucket a.number a.word a.failed c.args.verdict a.now a.paced _ _ _ _ c.requires
    c.tell_limiter.ensures c.settle.ensures.held c.settle.ensures.made c.decide_by_verdict.ensures
