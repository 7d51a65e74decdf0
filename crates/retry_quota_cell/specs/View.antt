-- What a pass on a shared bucket knows. It stands in proofs alone.
use Rattle.std.specs.Prelude.{ℕ, List}
use Rattle.retry_quota.specs.Book.{Book}
use Rattle.retry_quota.specs.History.{Entry}

-- the book that a bucket opened with, and the number of its callers
pub record Opening : Type 0 where
  pub book : Book
  pub callers : ℕ

-- whether a pass has not opened its cell yet, is in use, or has given all that it knew away
pub data Stage : Type 0 where
  Fresh : Stage
  Live : Stage
  Spent : Stage

-- what a pass knows of its bucket
pub record View : Type 0 where
  pub stage : Stage
  pub opening : Opening
  -- the history that was seen
  pub seen : List Entry
  -- what had been seen by the passes that joined
  pub olds : List (List Entry)
  -- the places of the pass's own calls in the history
  pub places : List ℕ
  pub parts : ℕ
