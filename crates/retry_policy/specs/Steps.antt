-- What calls add to the steps that a quota tells, and what they are granted.
use Rattle.std.specs.Prelude.{ℕ, ◌≤◌, Bool, if◌then◌else◌, List, [], ◌∷◌, ◌++◌, sum_by}
use Rattle.retry_quota.specs.Book.{Book, cost_of, ready}
use Rattle.retry_quota.specs.Calls.{QuotaCall, OnBucket, Settled, AskedLimiter, ToldLimiter, FoundBucket, FoundLimiter}
use Rattle.retry_quota.specs.History.{Reply, Granted, Refused, Done, Level, Seen, Entry}
use Rattle.retry_policy.specs.Decision.{Case, cost_for, second_of}

-- the steps of a call; a permit whose bucket isn't there makes none
abbrev pub steps_in : (ℕ → Bool) → QuotaCall → List Entry
steps_in has (OnBucket bucket step reply) = record { step = step; reply = reply } ∷ []
steps_in has (Settled bucket step) = if has bucket then record { step = step; reply = Done } ∷ [] else []
steps_in has (AskedLimiter limiter now reason reply) = []
steps_in has (ToldLimiter limiter now throttled) = []
steps_in has (FoundBucket partition spec number) = []
steps_in has (FoundLimiter partition now number) = []

-- the steps of calls, by the buckets that are there
abbrev pub steps_of : (ℕ → Bool) → List QuotaCall → List Entry
steps_of has [] = []
steps_of has (call ∷ calls) = steps_in has call ++ steps_of has calls

-- how many permits a reply grants
abbrev pub permits_in : Reply → ℕ
permits_in (Granted amount) = 1
permits_in Refused = 0
permits_in Done = 0
permits_in (Level full empty) = 0
permits_in (Seen sums) = 0

-- how many permits a call on the quota is granted
abbrev pub permits_by : QuotaCall → ℕ
permits_by (OnBucket bucket step reply) = permits_in reply
permits_by (Settled bucket step) = 0
permits_by (AskedLimiter limiter now reason reply) = 0
permits_by (ToldLimiter limiter now throttled) = 0
permits_by (FoundBucket partition spec number) = 0
permits_by (FoundLimiter partition now number) = 0

-- how many permits these calls are granted
abbrev pub permits_of : List QuotaCall → ℕ
permits_of calls = sum_by permits_by calls

-- the book has what a retry after the verdict's kind costs, once the tokens of the time since then are added
abbrev pub HasCost : Case → Book → Type 0
HasCost c b = cost_for (λ kind. cost_of kind b) c.verdict ≤ (ready (second_of c.now) b).available
