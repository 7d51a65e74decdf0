use Rattle.retry_quota.specs.History.{Acquire}
use Rattle.retry_quota_cell.proofs.cell_bucket.CellBucket.acquire.Given as goal

abbrev pub ghosts-make : goal.ghosts-make
ghosts-make g a = record { step = Acquire a.call.now.kind a.call.now.now_secs }
