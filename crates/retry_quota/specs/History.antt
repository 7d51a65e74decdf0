-- The steps of a book, their replies, and the histories that are made of them.
use Rattle.std.specs.Prelude.{◌≡◌, ℕ, Bool, if◌then◌else◌, nat_le, List, [], ◌∷◌, Option, None, Some}
use Rattle.smithy_types.specs.declared.kinds.ErrorKind.{ErrorKind}
use Rattle.smithy_types.specs.declared.sums.Sums.{Sums}
use Rattle.retry_quota.specs.Book.{Book, cost_of, ready, spend, release, forget, credit, add, convert, is_full}
use Rattle.retry_quota.specs.Book.{is_empty, sums_of}

-- what is asked of a bucket
pub data Step : Type 0 where
  Acquire : ErrorKind → ℕ → Step
  Release : ℕ → Step
  Forget : ℕ → Step
  Reward : Step
  Regenerate : Step
  Convert : Step
  Look : Step

-- what a bucket replies
pub data Reply : Type 0 where
  Granted : ℕ → Reply
  Refused : Reply
  Done : Reply
  -- whether the book is full, and whether it is empty
  Level : Bool → Bool → Reply
  Seen : Sums → Reply

-- whether an acquire at this second is granted
abbrev pub is_granted : ErrorKind → ℕ → Book → Bool
is_granted kind second b = nat_le (cost_of kind b) (ready second b).available

-- the book that an acquire leaves
abbrev pub acquire : ErrorKind → ℕ → Book → Book
acquire kind second b = if is_granted kind second b then spend (cost_of kind b) (ready second b) else ready second b

-- the book that a step leaves
abbrev pub after : Step → Book → Book
after (Acquire kind second) b = acquire kind second b
after (Release amount) b = release amount b
after (Forget amount) b = forget amount b
after Reward b = credit b
after Regenerate b = add 1 b
after Convert b = convert b
after Look b = b

-- the reply that a step has
abbrev pub reply_to : Step → Book → Reply
reply_to (Acquire kind second) b = if is_granted kind second b then Granted (cost_of kind b) else Refused
reply_to (Release amount) b = Done
reply_to (Forget amount) b = Done
reply_to Reward b = Done
reply_to Regenerate b = Done
reply_to Convert b = Level (is_full (convert b)) (is_empty (convert b))
reply_to Look b = Seen (sums_of b)

-- what an acquire replies that granted this much, or nothing
abbrev pub acquire_reply : Option ℕ → Reply
acquire_reply None = Refused
acquire_reply (Some cost) = Granted cost

-- a step and its reply in a history
pub record Entry : Type 0 where
  pub step : Step
  pub reply : Reply

-- each reply is the one of the book that the earlier entries leave
abbrev pub IsLegal : Book → List Entry → Type 0
IsLegal b [] = Unit {0}
IsLegal b (e ∷ es) = (e.reply ≡ reply_to e.step b) × IsLegal (after e.step b) es

-- the book after all entries
abbrev pub end_of : Book → List Entry → Book
end_of b [] = b
end_of b (e ∷ es) = end_of (after e.step b) es
