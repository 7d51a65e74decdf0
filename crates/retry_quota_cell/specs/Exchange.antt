-- What an exchange leaves in the cell.
use Rattle.std.specs.Prelude.{ℕ, ◌+◌, List, nat_eq, if◌then◌else◌, slice_index}
use lib.Pointwise.{pointwise}
use Rattle.retry_quota.specs.History.{Step, after}
use Rattle.retry_quota_cell.specs.View.{View}
use Rattle.retry_quota_cell.specs.Rule.{book_in, terms_at, words_of}

-- the new words where the cell still has those that were found, and else what it has
abbrev pub exchanged : List ℕ → List ℕ → List ℕ → List ℕ
exchanged found new words = if pointwise nat_eq words found then new else words

-- the words after a step of the book that was found
abbrev pub stepped : Step → View → List ℕ → List ℕ
stepped step v found =
    words_of (after step (book_in (terms_at v) found)) (slice_index found 6 + 1) (slice_index found 7)
