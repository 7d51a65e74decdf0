use Rattle.retry_quota.specs.History.{Reward}
use Rattle.retry_quota_locked.proofs.Kept.{still, stepped}
use Rattle.retry_quota_locked.proofs.locked.Locked.reward_success.Goals as goal

pub left-self-requires : goal.left-self-requires
left-self-requires g c = still c.args.terms.now Reward c.taken-bucket.result _ c.args.self.now.capacity c.taken-bucket.ensures.terms c.reward_success.ensures

pub returns-clause-book : goal.returns-clause-book
returns-clause-book g c = stepped Reward _ _ _ _ c.taken-bucket.ensures.book c.reward_success.ensures c.left-self.ensures.book
