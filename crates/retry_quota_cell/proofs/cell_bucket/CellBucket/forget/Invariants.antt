use Rattle.retry_quota.specs.History.{Forget}
use Rattle.retry_quota_cell.proofs.cell_bucket.CellBucket.forget.Given as goal

abbrev pub ghosts-make : goal.ghosts-make
ghosts-make g a = record { step = Forget a.call.now.amount }
