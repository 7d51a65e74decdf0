use Rattle.retry_policy.proofs.DecisionLemmas.{pays_nothing, pays}
use Rattle.retry_policy.proofs.standard.StandardRetryStrategy.pay.Goals as goal

pub returns-in-None : goal.returns-in-None
returns-in-None g c retry_after =
    let a = c.args.attempt in
    let step = rw (c.in-None.is, c.second_of.ensures) at c.acquire.ensures.step in
    pays_nothing _ _ _ a.retry a.bucket a.number a.word _ _ a.failed c.args.kind a.now retry_after _ a.paced _ c.cost-cost.ensures c.long_poll.ensures step

pub returns-in-Some : goal.returns-in-Some
returns-in-Some g c retry_after =
    let a = c.args.attempt in
    let step = rw (c.in-Some.is, c.second_of.ensures) at c.acquire.ensures.step in
    let permit = rw c.in-Some.is at c.acquire.ensures.permit in
    pays _ _ _ _ a.retry a.bucket a.number a.word _ _ _ _ a.failed c.args.kind a.now retry_after a.paced _ _ c.cost-cost.ensures
    c.keep.ensures.held permit.0 permit.1 step c.keep.ensures.made
