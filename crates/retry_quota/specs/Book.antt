-- A token bucket as a book of plain sums: what it is, and what each step makes of it.
use Rattle.std.specs.Prelude.{◌≡◌, ℕ, ◌+◌, ◌-◌, ◌*◌, ◌/◌, ◌%◌, ◌^◌, ◌<◌, ◌≤◌, ◌==◌, ◌&&◌, Bool, not, if◌then◌else◌}
use Rattle.std.specs.Prelude.{nat_lt, nat_le, min, Option, None, Some}
use Rattle.smithy_types.specs.declared.kinds.ErrorKind.{ErrorKind}
use Rattle.smithy_types.specs.declared.kinds.ErrorKind.TheVariants.{TransientError, ThrottlingError, ServerError}
use Rattle.smithy_types.specs.declared.kinds.ErrorKind.TheVariants.{ClientError}
use Rattle.smithy_types.specs.declared.sums.Sums.{Sums}
use Rattle.smithy_types.specs.declared.config.RetrySpec.{RetrySpec}
use Rattle.smithy_types.specs.declared.config.RetrySpecVersion.{RetrySpecVersion}
use Rattle.smithy_types.specs.declared.config.RetrySpecVersion.TheVariants.{V2_0, V2_1}
use Rattle.retry_quota.specs.declared.TheConstants.{MAXIMUM_CAPACITY}
use Rattle.retry_quota.specs.declared.state.BucketTerms.{BucketTerms}
use Rattle.retry_quota.specs.declared.state.BucketState.{BucketState}

-- whole tokens, but for the reward, the rate and the fraction, which are thousandths of a token
pub record Book : Type 0 where
  pub capacity : ℕ
  pub retry_cost : ℕ
  pub throttling_cost : ℕ
  pub transient_cost : ℕ
  pub reward : ℕ
  pub rate : ℕ
  pub granted : ℕ
  pub available : ℕ
  pub held : ℕ
  pub forgotten : ℕ
  pub fraction : ℕ
  pub last_second : ℕ

-- the book of a bucket that has these terms, which no step changes, and these changing numbers
abbrev pub book_from : BucketTerms → BucketState → Book
book_from t s = record {
  capacity = t.capacity;
  retry_cost = t.retry_cost;
  throttling_cost = t.throttling_retry_cost;
  transient_cost = t.timeout_retry_cost;
  reward = t.success_reward;
  rate = t.refill_rate;
  granted = s.granted;
  available = s.available;
  held = s.held;
  forgotten = s.forgotten;
  fraction = s.fraction;
  last_second = s.last_refill_secs;
}

-- the terms of a book: its numbers that no step changes
abbrev pub terms_in : Book → BucketTerms
terms_in b = record {
  capacity = b.capacity;
  retry_cost = b.retry_cost;
  throttling_retry_cost = b.throttling_cost;
  timeout_retry_cost = b.transient_cost;
  success_reward = b.reward;
  refill_rate = b.rate;
}

-- the changing numbers of a book
abbrev pub state_in : Book → BucketState
state_in b = record {
  granted = b.granted;
  available = b.available;
  held = b.held;
  forgotten = b.forgotten;
  fraction = b.fraction;
  last_refill_secs = b.last_second;
}

-- nothing is lost and nothing is made: each token that was ever there is available, held or forgotten
abbrev pub IsBalanced : Book → Type 0
IsBalanced b = b.available + b.held + b.forgotten ≡ b.capacity + b.granted

-- what a bucket of the program keeps
pub record IsSound (b : Book) : Type 0 where
  pub bounded : b.capacity ≤ MAXIMUM_CAPACITY
  pub balanced : IsBalanced b
  pub counted : b.capacity + b.granted < 2 ^ 64

-- the book of these terms that nobody has used yet
abbrev pub opening : BucketTerms → Book
opening t = record {
  capacity = t.capacity;
  retry_cost = t.retry_cost;
  throttling_cost = t.throttling_retry_cost;
  transient_cost = t.timeout_retry_cost;
  reward = t.success_reward;
  rate = t.refill_rate;
  granted = 0;
  available = t.capacity;
  held = 0;
  forgotten = 0;
  fraction = 0;
  last_second = 0;
}

-- the book of these terms that nobody has used yet; a capacity above the maximum counts as the maximum
abbrev pub book_of : BucketTerms → Book
book_of t = opening (record t { capacity = min t.capacity MAXIMUM_CAPACITY })

-- the default costs with this capacity, without a reward and without a refill
abbrev pub plain_terms : ℕ → BucketTerms
plain_terms capacity = record {
  capacity = capacity;
  retry_cost = 5;
  throttling_retry_cost = 5;
  timeout_retry_cost = 10;
  success_reward = 0;
  refill_rate = 0;
}

-- the book of the plain terms with this capacity that nobody has used yet
abbrev pub plain_book : ℕ → Book
plain_book capacity = opening (plain_terms capacity)

-- the book of a default partition's bucket, by the specification under which the partition comes first
abbrev pub version_book : RetrySpecVersion → Book
version_book V2_0 = plain_book 500
version_book V2_1 = opening (record {
  capacity = 500;
  retry_cost = 14;
  throttling_retry_cost = 5;
  timeout_retry_cost = 14;
  success_reward = 0;
  refill_rate = 0;
})

-- the book of a new default partition; without a specification it is that of version 2.0
abbrev pub default_book : Option RetrySpec → Book
default_book None = plain_book 500
default_book (Some spec) = version_book spec.version

-- what a retry after an error of this kind costs under the terms
abbrev pub cost_under : ErrorKind → BucketTerms → ℕ
cost_under TransientError t = t.timeout_retry_cost
cost_under ThrottlingError t = t.throttling_retry_cost
cost_under ServerError t = t.retry_cost
cost_under ClientError t = t.retry_cost

-- what a retry after an error of this kind takes from the bucket
abbrev pub cost_of : ErrorKind → Book → ℕ
cost_of kind b = cost_under kind (terms_in b)

-- the most that a fraction may be
abbrev pub fraction_cap : Book → ℕ
fraction_cap b = b.capacity * 1000

-- a fraction rises up to its cap, and one that is there already stays
abbrev pub raised : ℕ → Book → ℕ
raised more b = if nat_lt b.fraction (fraction_cap b) then min (b.fraction + more) (fraction_cap b) else b.fraction

-- what the time since the last refill adds; a clock that went back adds nothing
abbrev pub refill : ℕ → Book → Book
refill second b =
    if nat_lt 0 b.rate && not (second == b.last_second)
    then record b { fraction = raised ((second - b.last_second) * b.rate) b; last_second = second }
    else b

-- how many of these tokens find room
abbrev pub fitting : ℕ → Book → ℕ
fitting tokens b = min tokens (b.capacity - b.available)

-- new tokens come up to the capacity; where the count of all tokens would pass 64 bits, none does
abbrev pub add : ℕ → Book → Book
add tokens b =
    if nat_lt (b.capacity + (b.granted + fitting tokens b)) (2 ^ 64)
    then record b { available = b.available + fitting tokens b; granted = b.granted + fitting tokens b }
    else b

-- the whole tokens leave the fraction and are added; what doesn't fit is lost
abbrev pub convert : Book → Book
convert b = add (b.fraction / 1000) (record b { fraction = b.fraction % 1000 })

-- what an acquire at this second finds
abbrev pub ready : ℕ → Book → Book
ready second b = convert (refill second b)

-- tokens of this cost are no longer available: a permit holds them
abbrev pub spend : ℕ → Book → Book
spend cost b = record b { available = b.available - cost; held = b.held + cost }

-- where this much is held, it is available again; nothing changes otherwise
abbrev pub release : ℕ → Book → Book
release amount b =
    if nat_le amount b.held
    then record b { held = b.held - amount; available = b.available + amount }
    else b

-- where this much is held, it is gone for good; nothing changes otherwise
abbrev pub forget : ℕ → Book → Book
forget amount b =
    if nat_le amount b.held
    then record b { held = b.held - amount; forgotten = b.forgotten + amount }
    else b

-- a success adds its reward to the fraction
abbrev pub credit : Book → Book
credit b = record b { fraction = raised b.reward b }

-- whether the bucket has no room for a further token
abbrev pub is_full : Book → Bool
is_full b = nat_le b.capacity b.available

-- whether no token is available
abbrev pub is_empty : Book → Bool
is_empty b = b.available == 0

-- the sums of tokens that a reader of the bucket sees
abbrev pub sums_of : Book → Sums
sums_of b = record {
  capacity = b.capacity;
  granted = b.granted;
  available = b.available;
  held = b.held;
  forgotten = b.forgotten;
}
