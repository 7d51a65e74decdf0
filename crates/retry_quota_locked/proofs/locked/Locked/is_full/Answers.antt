use Rattle.retry_quota.specs.History.{Convert}
use Rattle.retry_quota_locked.proofs.Kept.{still, stepped}
use Rattle.retry_quota_locked.proofs.locked.Locked.is_full.Goals as goal

pub left-self-requires : goal.left-self-requires
left-self-requires g c = still c.args.terms.now Convert c.taken-bucket.result _ c.args.self.now.capacity c.taken-bucket.ensures.terms c.is_full-full.ensures.book

pub returns-clause-book : goal.returns-clause-book
returns-clause-book g c = stepped Convert _ _ _ _ c.taken-bucket.ensures.book c.is_full-full.ensures.book c.left-self.ensures.book
