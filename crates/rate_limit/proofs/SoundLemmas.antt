-- Each step keeps a limiter sound.
use Rattle.std.proofs.Common.{ℕ, ◌≤◌, Bool, true, false, List, [], ◌∷◌, Option, None, Some, if◌then◌else◌, arith}
use Rattle.retry_quota.specs.declared.limiter.RequestReason.{RequestReason}
use Rattle.rate_limit.specs.Pace.{Pace, IsSound, amount_of}
use Rattle.rate_limit.specs.Steps.{Step, Acquire, Update, refilled, refill, take_amount, after_acquire, measure, note, settle, after, after_all}

refilled_within : (now : ℕ) (before : Option ℕ) (p : Pace) → p.capacity ≤ p.limit → refilled now before p ≤ p.limit
refilled_within now None p h = h
refilled_within now (Some before) p h = omega arith

refill_sound : (now : ℕ) (p : Pace) → IsSound p → IsSound (refill now p)
refill_sound now p h = record { within = refilled_within now p.refilled_at p h.within; fills = h.fills }

take_sound : (amount : ℕ) (p : Pace) → IsSound p → IsSound (take_amount amount p)
take_sound amount p h = record { within = grind (arith, h.within); fills = grind (arith, h.fills) }

acquire_sound : (p : Pace) (now : ℕ) (reason : RequestReason) → IsSound p → IsSound (after_acquire p now reason)
acquire_sound p now reason h = by_test p.enabled
  where
    by_test : (b : Bool) → IsSound (if b then take_amount (amount_of reason) (refill now p) else p)
    by_test true = take_sound (amount_of reason) (refill now p) (refill_sound now p h)
    by_test false = h

settle_sound : (now rate : ℕ) (p : Pace) → IsSound (settle now rate p)
settle_sound now rate p = record { within = omega arith; fills = λ _. omega arith }

step_sound : (step : Step) (p : Pace) → IsSound p → IsSound (after step p)
step_sound (Acquire now reason) p h = acquire_sound p now reason h
step_sound (Update now throttled) p h = settle_sound now _ (note now throttled (measure now p))

pub all_sound : (p : Pace) (steps : List Step) → IsSound p → IsSound (after_all steps p)
all_sound p [] h = h
all_sound p (step ∷ steps) h = all_sound (after step p) steps (step_sound step p h)
