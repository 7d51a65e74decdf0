use Rattle.retry_quota.specs.History.{Regenerate}
use Rattle.retry_quota_cell.proofs.cell_bucket.CellBucket.regenerate_a_token.Given as goal

abbrev pub ghosts-make : goal.ghosts-make
ghosts-make g a = record { step = Regenerate }
