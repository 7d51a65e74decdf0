use Rattle.std.proofs.Common.{rules}
use Rattle.retry_quota_cell.proofs.Moves.{hands_over}
use Rattle.retry_quota_cell.proofs.steps.fresh_seat.Goals as goal

pub split_pass-requires : goal.split_pass-requires
split_pass-requires c = (search rules, (search rules, (c.requires.own, hands_over _ _ c.requires.live)))
