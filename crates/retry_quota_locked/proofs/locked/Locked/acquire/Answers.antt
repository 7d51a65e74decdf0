use Rattle.retry_quota.specs.History.{Acquire}
use Rattle.retry_quota_locked.proofs.Kept.{still, stepped}
use Rattle.retry_quota_locked.proofs.locked.Locked.acquire.Goals as goal

pub left-requires : goal.left-requires
left-requires g c = still c.args.terms.now (Acquire c.args.kind c.args.now_secs) c.taken-bucket.result _ c.args.self.now.capacity c.taken-bucket.ensures.terms c.acquire-permit.ensures.book

pub returns-clause-book : goal.returns-clause-book
returns-clause-book g c = stepped (Acquire c.args.kind c.args.now_secs) _ _ _ _ c.taken-bucket.ensures.book c.acquire-permit.ensures.book c.left.ensures.book
