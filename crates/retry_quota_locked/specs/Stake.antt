-- What a handle on a shared bucket stands for.
use Rattle.std.specs.Prelude.{◌≡◌, ℕ, ◌+◌, ◌^◌, ◌<◌, ◌≤◌, ◌-◌, nat_le, if◌then◌else◌, None}
use Rattle.retry_quota.specs.declared.TheConstants.{MAXIMUM_CAPACITY}
use Rattle.smithy_types.specs.declared.sums.Sums.{Sums}
use Rattle.retry_quota.specs.declared.state.BucketTerms.{BucketTerms}
use Rattle.retry_quota.specs.declared.state.BucketState.{BucketState}
use Rattle.retry_quota.specs.Book.{Book, book_from, cost_under}
use Rattle.retry_quota.specs.Caller.{CallerMeaning}

-- what one handle has of a shared bucket, and the terms that it charges by
pub record Stake : Type 0 where
  -- how many parts of the ledger, of which each handle has one at least
  pub parts : ℕ
  -- how many of the held tokens count for this handle
  pub amount : ℕ
  pub terms : BucketTerms

-- the bucket opened with this many tokens, whatever the terms say
abbrev pub with_capacity : BucketTerms → ℕ → BucketTerms
with_capacity t capacity = record t { capacity = capacity }

-- the book that lies under the lock, under a caller's terms
abbrev pub locked_book : BucketTerms → ℕ → BucketState → Book
locked_book t capacity s = book_from (with_capacity t capacity) s

-- the numbers balance, and none of them is too large
pub record AreSound (capacity : ℕ) (s : BucketState) : Type 0 where
  pub bounded : capacity ≤ MAXIMUM_CAPACITY
  pub balanced : s.available + s.held + s.forgotten ≡ capacity + s.granted
  pub counted : capacity + s.granted < 2 ^ 64

-- what a handle that knows all parts reads: what is held is its own amount, and where that is 0, all tokens are
-- available but those that are forgotten
pub record AreWhole (amount : ℕ) (s : Sums) : Type 0 where
  pub held : s.held ≡ amount
  pub spent : amount ≡ 0 → s.available + s.forgotten ≡ s.capacity + s.granted

-- what the quota of one caller means: what the terms say, and the caller's own limiter; no steps are told
abbrev pub caller_part : {L : Type 0} → BucketTerms → L → CallerMeaning L
caller_part t limiter = record {
  cost = λ kind. cost_under kind t;
  reward = t.success_reward;
  entries = None;
  limiter = limiter;
}

-- what is left of an amount once a permit is spent; a permit of more than the amount takes nothing from it
abbrev pub less : ℕ → ℕ → ℕ
less permit amount = if nat_le permit amount then amount - permit else amount
