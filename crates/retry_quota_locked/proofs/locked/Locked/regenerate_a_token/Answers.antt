use Rattle.retry_quota.specs.History.{Regenerate}
use Rattle.retry_quota_locked.proofs.Kept.{still, stepped}
use Rattle.retry_quota_locked.proofs.locked.Locked.regenerate_a_token.Goals as goal

pub left-self-requires : goal.left-self-requires
left-self-requires g c = still c.args.terms.now Regenerate c.taken-bucket.result _ c.args.self.now.capacity c.taken-bucket.ensures.terms c.regenerate_a_token.ensures.book

pub returns-clause-book : goal.returns-clause-book
returns-clause-book g c = stepped Regenerate _ _ _ _ c.taken-bucket.ensures.book c.regenerate_a_token.ensures.book c.left-self.ensures.book
