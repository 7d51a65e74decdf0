use Rattle.retry_quota.specs.History.{Convert}
use Rattle.retry_quota_cell.proofs.cell_bucket.CellBucket.is_full.Given as goal

abbrev pub ghosts-make : goal.ghosts-make
ghosts-make g a = record { step = Convert }
