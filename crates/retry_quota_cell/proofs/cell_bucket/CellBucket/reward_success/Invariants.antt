use Rattle.retry_quota.specs.History.{Reward}
use Rattle.retry_quota_cell.proofs.cell_bucket.CellBucket.reward_success.Given as goal

abbrev pub ghosts-make : goal.ghosts-make
ghosts-make g a = record { step = Reward }
