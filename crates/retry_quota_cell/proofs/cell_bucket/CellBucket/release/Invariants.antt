use Rattle.retry_quota.specs.History.{Release}
use Rattle.retry_quota_cell.proofs.cell_bucket.CellBucket.release.Given as goal

abbrev pub ghosts-make : goal.ghosts-make
ghosts-make g a = record { step = Release a.call.now.amount }
