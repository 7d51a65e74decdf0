use Rattle.retry_quota.specs.History.{Forget}
use Rattle.retry_quota_locked.proofs.Kept.{still, stepped}
use Rattle.retry_quota_locked.proofs.locked.Locked.forget.Goals as goal

pub left-requires : goal.left-requires
left-requires g c = still c.args.terms.now (Forget c.args.permit.amount) c.taken-bucket.result _ c.args.self.now.capacity c.taken-bucket.ensures.terms c.forget.ensures.book

pub returns-clause-book : goal.returns-clause-book
returns-clause-book g c = stepped (Forget c.args.permit.amount) _ _ _ _ c.taken-bucket.ensures.book c.forget.ensures.book c.left.ensures.book
