use Rattle.std.proofs.Common.{◌∙◌, ap}
use Rattle.retry_quota_locked.specs.Stake.{locked_book}
use Rattle.retry_quota_locked.proofs.Kept.{put_back}
use Rattle.retry_quota_locked.proofs.locked.left.Goals as goal

pub returns-clause-book : goal.returns-clause-book
returns-clause-book c = ap (locked_book c.args.terms.now c.args.capacity) c.state.ensures.state ∙ put_back c.args.terms.now c.args.capacity c.args.bucket.now c.requires
