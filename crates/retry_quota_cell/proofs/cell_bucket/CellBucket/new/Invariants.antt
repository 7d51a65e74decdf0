use Rattle.retry_quota_cell.specs.Known.{opening_of}
use Rattle.retry_quota_cell.proofs.cell_bucket.CellBucket.new.Given as goal

abbrev pub ghosts-open : goal.ghosts-open
ghosts-open g a = record { opening = opening_of a.bucket.now a._callers }
