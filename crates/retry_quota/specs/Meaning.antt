-- What a quota means to those that spend from it, and what a call does to that.
use Rattle.std.specs.Prelude.{◌≡◌, ℕ, Bool, false, true, nat_lt, IsTrue, List, [], ◌∷◌, ◌++◌, Option, None, Some}
use Rattle.std.specs.Prelude.{IfSome, slice_get, length, option_map, MatchOption, ◌≢◌, ◌<◌}
use Rattle.std.specs.Option.{IfNone}
use Rattle.smithy_types.specs.declared.kinds.ErrorKind.{ErrorKind}
use Rattle.smithy_types.specs.declared.config.RetrySpec.{RetrySpec}
use Rattle.smithy_types.specs.Partition.{same_partition}
use Rattle.smithy_types.specs.declared.partition.RetryPartition.{RetryPartition}
use Rattle.retry_quota.specs.Book.{Book, cost_of, default_book}
use Rattle.retry_quota.specs.History.{Step, Reply, Done, Entry, after, reply_to}
use Rattle.retry_quota.specs.Place.{change_at}

-- L is what a limiter is
pub record Meaning (L : Type 0) : Type 0 where
  -- whether the bucket of this number is there
  pub has : ℕ → Bool
  pub cost : ℕ → ErrorKind → ℕ
  pub reward : ℕ → ℕ
  -- the book of each bucket by its number, where they are told
  pub books : Option (List Book)
  -- the steps that were made so far with their replies, where they are told
  pub entries : Option (List Entry)
  -- each limiter by its number
  pub limiters : List L
  -- the numbers that are kept under a default partition
  pub bucket_of : RetryPartition → Option ℕ
  pub limiter_of : RetryPartition → Option ℕ

-- where the books are told, they are those of the buckets that are there, with their costs and rewards
pub record AreTheBuckets {L : Type 0} (m : Meaning L) (books : List Book) : Type 0 where
  pub there : (bucket : ℕ) → m.has bucket ≡ nat_lt bucket (length books)
  pub costs : (bucket : ℕ) →
      IfSome (slice_get books bucket) (λ b. (kind : ErrorKind) → m.cost bucket kind ≡ cost_of kind b)
  pub rewards : (bucket : ℕ) → IfSome (slice_get books bucket) (λ b. m.reward bucket ≡ b.reward)

-- the buckets, what they cost and which names they have are as before
pub record KeepsBuckets {L : Type 0} (m n : Meaning L) : Type 0 where
  pub has : (bucket : ℕ) → n.has bucket ≡ m.has bucket
  pub cost : (bucket : ℕ) (kind : ErrorKind) → n.cost bucket kind ≡ m.cost bucket kind
  pub reward : (bucket : ℕ) → n.reward bucket ≡ m.reward bucket
  pub bucket_of : (partition : RetryPartition) → n.bucket_of partition ≡ m.bucket_of partition
  pub limiter_of : (partition : RetryPartition) → n.limiter_of partition ≡ m.limiter_of partition

-- nothing that is told has changed
pub record IsKept {L : Type 0} (m n : Meaning L) : Type 0 where
  pub buckets : KeepsBuckets m n
  pub books : n.books ≡ m.books
  pub entries : n.entries ≡ m.entries
  pub limiters : n.limiters ≡ m.limiters

-- where the books are told, one of them makes the step and replies so; the others stay
abbrev pub BookSteps : Option (List Book) → ℕ → Step → Reply → Option (List Book) → Type 0
BookSteps None bucket step reply new = new ≡ None
BookSteps (Some books) bucket step reply new =
    IfSome (slice_get books bucket) (λ b. reply ≡ reply_to step b) × (new ≡ Some (change_at bucket (after step) books))

-- where the steps are told, this one is added
abbrev pub recorded : Option (List Entry) → Step → Reply → Option (List Entry)
recorded None step reply = None
recorded (Some entries) step reply = Some (entries ++ record { step = step; reply = reply } ∷ [])

-- a bucket makes one step, and nothing else changes
pub record Steps {L : Type 0} (m : Meaning L) (bucket : ℕ) (step : Step) (reply : Reply) (n : Meaning L) : Type 0 where
  pub book : BookSteps m.books bucket step reply n.books
  pub entries : n.entries ≡ recorded m.entries step reply
  pub buckets : KeepsBuckets m n
  pub limiters : n.limiters ≡ m.limiters

-- a permit's bucket makes the step; where it isn't there, nothing changes
pub record Settles {L : Type 0} (m : Meaning L) (bucket : ℕ) (step : Step) (n : Meaning L) : Type 0 where
  pub there : IsTrue (m.has bucket) → Steps m bucket step Done n
  pub foreign : m.has bucket ≡ false → IsKept m n

-- a limiter is changed, and nothing else; a number that isn't there changes nothing
pub record ChangesLimiter {L : Type 0} (m : Meaning L) (limiter : ℕ) (change : L → L) (n : Meaning L) : Type 0 where
  pub limiters : n.limiters ≡ change_at limiter change m.limiters
  pub books : n.books ≡ m.books
  pub entries : n.entries ≡ m.entries
  pub buckets : KeepsBuckets m n

-- the book of a bucket, where it is told
abbrev pub book_in : Option (List Book) → ℕ → Option Book
book_in None bucket = None
book_in (Some books) bucket = slice_get books bucket

-- the book of a bucket, where the quota tells its books
abbrev pub book_at : {L : Type 0} → Meaning L → ℕ → Option Book
book_at m bucket = book_in m.books bucket

-- a bucket with this book is added under the partition, and nothing else changes
pub record AddsBucket {L : Type 0} (m : Meaning L) (partition : RetryPartition) (book : Book) (number : ℕ)
    (n : Meaning L) : Type 0 where
  pub new : m.has number ≡ false
  pub there : n.has number ≡ true
  pub others_there : (bucket : ℕ) → bucket ≢ number → n.has bucket ≡ m.has bucket
  pub cost : (kind : ErrorKind) → n.cost number kind ≡ cost_of kind book
  pub other_costs : (bucket : ℕ) (kind : ErrorKind) → bucket ≢ number → n.cost bucket kind ≡ m.cost bucket kind
  pub reward : n.reward number ≡ book.reward
  pub other_rewards : (bucket : ℕ) → bucket ≢ number → n.reward bucket ≡ m.reward bucket
  pub books : n.books ≡ option_map (λ books. books ++ book ∷ []) m.books
  pub named : n.bucket_of partition ≡ Some number
  pub other_names : (other : RetryPartition) → same_partition other partition ≡ false →
      n.bucket_of other ≡ m.bucket_of other
  pub limiter_of : (other : RetryPartition) → n.limiter_of other ≡ m.limiter_of other
  pub entries : n.entries ≡ m.entries
  pub limiters : n.limiters ≡ m.limiters

-- a custom partition's bucket; for a default one the bucket that is kept under it, or a new one, which is that of the
-- specification
abbrev pub AnswersBucket : {L : Type 0} → Meaning L → RetryPartition → Option RetrySpec → ℕ → Meaning L → Type 0
AnswersBucket m partition spec number n = MatchOption partition.custom
    (MatchOption (m.bucket_of partition) (AddsBucket m partition (default_book spec) number n)
    (λ known. (number ≡ known) × IsKept m n))
    (λ numbers. (number ≡ numbers.bucket) × IsKept m n)

-- the bucket of a default partition is there; of the number that a custom one brings nothing is said
abbrev pub BucketIsThere : {L : Type 0} → Meaning L → RetryPartition → ℕ → Type 0
BucketIsThere m partition number = IfNone partition.custom (IsTrue (m.has number))

-- a limiter is added under the partition, and nothing else changes
pub record AddsLimiter {L : Type 0} (m : Meaning L) (partition : RetryPartition) (limiter : L) (number : ℕ)
    (n : Meaning L) : Type 0 where
  pub new : number ≡ length m.limiters
  pub limiters : n.limiters ≡ m.limiters ++ limiter ∷ []
  pub named : n.limiter_of partition ≡ Some number
  pub other_names : (other : RetryPartition) → same_partition other partition ≡ false →
      n.limiter_of other ≡ m.limiter_of other
  pub bucket_of : (other : RetryPartition) → n.bucket_of other ≡ m.bucket_of other
  pub has : (bucket : ℕ) → n.has bucket ≡ m.has bucket
  pub cost : (bucket : ℕ) (kind : ErrorKind) → n.cost bucket kind ≡ m.cost bucket kind
  pub reward : (bucket : ℕ) → n.reward bucket ≡ m.reward bucket
  pub books : n.books ≡ m.books
  pub entries : n.entries ≡ m.entries

-- a custom partition's limiter; for a default one the limiter that is kept under it, or this new one
abbrev pub AnswersLimiter : {L : Type 0} → Meaning L → RetryPartition → L → ℕ → Meaning L → Type 0
AnswersLimiter m partition limiter number n = MatchOption partition.custom
    (MatchOption (m.limiter_of partition) (AddsLimiter m partition limiter number n)
    (λ known. (number ≡ known) × IsKept m n))
    (λ numbers. (number ≡ numbers.limiter) × IsKept m n)

-- the limiter of a default partition is there; of the number that a custom one brings nothing is said
abbrev pub LimiterIsThere : {L : Type 0} → Meaning L → RetryPartition → ℕ → Type 0
LimiterIsThere m partition number = IfNone partition.custom (number < length m.limiters)
