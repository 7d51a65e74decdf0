-- What each step makes of a limiter, and how it answers.
use Rattle.std.specs.Prelude.{ℕ, ◌+◌, ◌-◌, ◌*◌, ◌/◌, min, max, nat_lt, if◌then◌else◌, Bool, true, false, Option, None}
use Rattle.std.specs.Prelude.{Some, Result, Ok, Err, List, [], ◌∷◌}
use Rattle.retry_quota.specs.declared.limiter.RequestReason.{RequestReason}
use Rattle.rate_limit.specs.Curve.{capped, lateness, rate_at}
use Rattle.rate_limit.specs.Pace.{Pace, amount_of}

-- what the time since the last refill adds, up to the limit; a clock that went back adds nothing
abbrev pub refilled : ℕ → Option ℕ → Pace → ℕ
refilled now None p = p.capacity
refilled now (Some before) p = min p.limit (p.capacity + (now - before) * p.fill / 1000000000)

-- the limiter with what the time up to now adds
abbrev pub refill : ℕ → Pace → Pace
refill now p = record p { capacity = refilled now p.refilled_at p; refilled_at = Some now }

-- how many nanoseconds it takes to fill what is missing
abbrev pub wait_for : ℕ → Pace → ℕ
wait_for amount p = (amount - p.capacity) * 1000000000 / p.fill

-- a request takes its amount, or all that is there, where it needn't wait
abbrev pub take_amount : ℕ → Pace → Pace
take_amount amount p = if nat_lt 0 (wait_for amount p) then p else record p { capacity = p.capacity - amount }

-- a request may go, or is to wait so many nanoseconds
abbrev pub answer : ℕ → Result (Unit {0}) ℕ
answer wait = if nat_lt 0 wait then Err wait else Ok tt

-- the limiter after a request at this moment; before the first throttle a request takes nothing
abbrev pub after_acquire : Pace → ℕ → RequestReason → Pace
after_acquire p now reason = if p.enabled then take_amount (amount_of reason) (refill now p) else p

-- whether a request at this moment may go, or how long it is to wait; before the first throttle each may go
abbrev pub reply_to : Pace → ℕ → RequestReason → Result (Unit {0}) ℕ
reply_to p now reason = if p.enabled then answer (wait_for (amount_of reason) (refill now p)) else Ok tt

-- so many requests in so many half seconds, as a rate
abbrev pub current_rate : ℕ → ℕ → ℕ
current_rate count half_seconds = capped (count * 2000000 / half_seconds)

-- a request is counted, and where a half second has ended the rate is measured: the new rate counts for four fifths
abbrev pub measure : ℕ → Pace → Pace
measure now p =
    let count = capped (p.count + 1) in
    let half_second = now / 500000000 in
    if nat_lt p.half_second half_second
    then record p {
      measured = (current_rate count (half_second - p.half_second) * 8 + p.measured * 2) / 10;
      count = 0;
      half_second = half_second;
    }
    else record p { count = count }

-- the rate at which requests came when they were throttled
abbrev pub throttled_rate : Pace → ℕ
throttled_rate p = if p.enabled then min p.measured p.fill else p.measured

-- a throttle is noted with its rate and its moment, and requests are limited from then on
abbrev pub note : ℕ → Bool → Pace → Pace
note now true p = record p { last_max = throttled_rate p; throttled_at = now; enabled = true }
note now false p = p

-- seven tenths of the rate after a throttle, else the rate of the curve
abbrev pub calculated : ℕ → Bool → Pace → ℕ
calculated now true p = throttled_rate p * 7 / 10
calculated now false p = rate_at p.last_max (lateness p.last_max p.throttled_at now)

-- the capacity is refilled at the former rate, and then the new rate is in force
abbrev pub settle : ℕ → ℕ → Pace → Pace
settle now rate p =
    let filled = refill now p in
    record filled {
      fill = max rate 500000;
      limit = max rate 1000000;
      capacity = min filled.capacity (max rate 1000000);
    }

-- the new rate is at most twice the measured one
abbrev pub after_update : Pace → ℕ → Bool → Pace
after_update p now throttled =
    let measured = measure now p in
    settle now (min (calculated now throttled measured) (capped (2 * measured.measured))) (note now throttled measured)

-- a call on a limiter
pub data Step : Type 0 where
  Acquire : ℕ → RequestReason → Step
  Update : ℕ → Bool → Step

-- the limiter after a call
abbrev pub after : Step → Pace → Pace
after (Acquire now reason) p = after_acquire p now reason
after (Update now throttled) p = after_update p now throttled

-- the limiter after these calls, one after another
abbrev pub after_all : List Step → Pace → Pace
after_all [] p = p
after_all (step ∷ steps) p = after_all steps (after step p)
