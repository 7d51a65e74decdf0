use Rattle.retry_quota.specs.History.{Release}
use Rattle.retry_quota_locked.proofs.Kept.{still, stepped}
use Rattle.retry_quota_locked.proofs.locked.Locked.release.Goals as goal

pub left-requires : goal.left-requires
left-requires g c = still c.args.terms.now (Release c.args.permit.amount) c.taken-bucket.result _ c.args.self.now.capacity c.taken-bucket.ensures.terms c.release.ensures.book

pub returns-clause-book : goal.returns-clause-book
returns-clause-book g c = stepped (Release c.args.permit.amount) _ _ _ _ c.taken-bucket.ensures.book c.release.ensures.book c.left.ensures.book
