-- What the registry keeps.
use Rattle.std.specs.Prelude.{◌≡◌, refl, ℕ, nat_lt, List, [], ◌∷◌, ◌++◌, MatchOption, Option, None, Some, IfSome}
use Rattle.std.specs.Prelude.{slice_get, length, ◌<◌}
use Rattle.std.specs.List.{All}
use Rattle.std.specs.Option.{option_map_or}
use Rattle.std.specs.Map.{lookup}
use Rattle.smithy_types.specs.Partition.{same_partition}
use Rattle.smithy_types.specs.declared.partition.CustomPartition.{CustomPartition}
use Rattle.smithy_types.specs.declared.partition.RetryPartition.{RetryPartition}
use Rattle.retry_quota.specs.Book.{Book, cost_of, plain_book}
use Rattle.retry_quota.specs.Meaning.{Meaning, AreTheBuckets}
use Rattle.smithy_types.specs.declared.kinds.ErrorKind.{ErrorKind}

-- buckets and limiters stand at their numbers, and the tables have the numbers of default partitions
pub record Registers (L : Type 0) : Type 0 where
  pub books : List Book
  pub limiters : List L
  pub bucket_names : List (RetryPartition × ℕ)
  pub limiter_names : List (RetryPartition × ℕ)

-- what a registry means: it tells the books of all its buckets, and no steps
abbrev pub meaning_of : {L : Type 0} → Registers L → Meaning L
meaning_of r = record {
  has = λ bucket. nat_lt bucket (length r.books);
  cost = λ bucket kind. option_map_or (cost_of kind) (slice_get r.books bucket) 0;
  reward = λ bucket. option_map_or (λ b. b.reward) (slice_get r.books bucket) 0;
  books = Some r.books;
  entries = None;
  limiters = r.limiters;
  bucket_of = λ partition. lookup (same_partition partition) r.bucket_names;
  limiter_of = λ partition. lookup (same_partition partition) r.limiter_names;
}

-- each number of the table is below the count, so it is that of an item that is there
abbrev pub AreBelow : ℕ → List (RetryPartition × ℕ) → Type 0
AreBelow count names = All (λ named. named.1 < count) names

-- the books that the registry tells are its buckets
pub told_books : {L : Type 0} → (r : Registers L) → AreTheBuckets (meaning_of r) r.books
told_books r = record {
  there = λ bucket. refl;
  costs = λ bucket. costs (slice_get r.books bucket);
  rewards = λ bucket. rewards (slice_get r.books bucket);
}
  where
    costs : (o : Option Book) → IfSome o (λ b. (kind : ErrorKind) → option_map_or (cost_of kind) o 0 ≡ cost_of kind b)
    costs None = tt
    costs (Some b) = λ kind. refl

    rewards : (o : Option Book) → IfSome o (λ b. option_map_or (λ c. c.reward) o 0 ≡ b.reward)
    rewards None = tt
    rewards (Some b) = refl

-- a custom partition has got its numbers: one that was asked for is taken as it is, and where none was, a default
-- bucket or a zero limiter is added
pub record GivesNumbers {L : Type 0} (zero : L) (old : Registers L) (asked_bucket asked_limiter : Option ℕ)
    (numbers : CustomPartition) (new : Registers L) : Type 0 where
  pub bucket : MatchOption asked_bucket
      ((numbers.bucket ≡ length old.books) × (new.books ≡ old.books ++ plain_book 500 ∷ []))
      (λ asked. (numbers.bucket ≡ asked) × (new.books ≡ old.books))
  pub limiter : MatchOption asked_limiter
      ((numbers.limiter ≡ length old.limiters) × (new.limiters ≡ old.limiters ++ zero ∷ []))
      (λ asked. (numbers.limiter ≡ asked) × (new.limiters ≡ old.limiters))
  pub bucket_names : new.bucket_names ≡ old.bucket_names
  pub limiter_names : new.limiter_names ≡ old.limiter_names
