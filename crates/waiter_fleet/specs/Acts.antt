-- The events of a fleet with the calls that made them. The last act stands first.
use Rattle.std.specs.Prelude.{◌≡◌, ◌<◌, ℕ, ◌==◌, Bool, true, false, List, [], ◌∷◌, ◌++◌, Option, None, Some, Ok}
use Rattle.std.specs.Prelude.{if◌then◌else◌}
use Rattle.smithy_types.specs.declared.timers.TimersCall.TheVariants.{Now, Start}
use Rattle.waiter_fleet.specs.declared.event.FleetEvent.{FleetEvent}
use Rattle.waiter_fleet.specs.declared.event.FleetEvent.TheVariants.{Poll, Sleep, Charged, Refused, End}
use Rattle.waiter_fleet.specs.Events.{waiter_of}
use Rattle.waiter_fleet.specs.Calls.{FleetCall, asks, awaited, drew, polled, timed, unanswered}

-- an event of a fleet, with the asks before it and the sleep that it started
pub record Act : Type 0 where
  pub event : FleetEvent
  -- how often the poll had no answer before, or the sleep wasn't over
  pub times : ℕ
  -- the number of a sleep that was started
  pub sleep : ℕ

-- the events of these acts
abbrev pub events_of : List Act → List FleetEvent
events_of [] = []
events_of (act ∷ before) = act.event ∷ events_of before

-- what an act makes of the sleep that a waiter has open
abbrev pub sleep_behind : ℕ → FleetEvent → ℕ → Option ℕ → Option ℕ
sleep_behind waiter (Sleep one nanos elapsed word) sleep before =
    if one == waiter then (if nanos == 0 then None else Some sleep) else before
sleep_behind waiter (Poll one number moment seen state) sleep before = before
sleep_behind waiter (Charged one moment) sleep before = before
sleep_behind waiter (Refused one cost moment) sleep before = before
sleep_behind waiter (End one ending) sleep before = before

-- the number of the sleep that a waiter started after its last poll, if its delay wasn't 0
abbrev pub open_sleep : ℕ → List Act → Option ℕ
open_sleep waiter [] = None
open_sleep waiter (act ∷ before) = sleep_behind waiter act.event act.sleep (open_sleep waiter before)

-- The calls of an act, with the sleep that its waiter had open before. An ask of the bucket is
-- made at what the clock answers once the sleep is over.
abbrev pub calls_with : FleetEvent → ℕ → ℕ → Option ℕ → List FleetCall
calls_with (Poll waiter number moment seen state) times sleep before =
    unanswered waiter times ++ (polled waiter (Ok (Some (seen, state))) ∷ timed (Now moment) ∷ [])
calls_with (Sleep waiter nanos elapsed word) times sleep before =
    drew word ∷ (if nanos == 0 then [] else timed (Start nanos (Ok (Some sleep))) ∷ [])
calls_with (Charged waiter moment) times sleep before = awaited before times ++ timed (Now moment) ∷ []
calls_with (Refused waiter cost moment) times sleep before = awaited before times ++ timed (Now moment) ∷ []
calls_with (End waiter ending) times sleep before = []

-- the calls of all acts, in their order
abbrev pub calls_of : List Act → List FleetCall
calls_of [] = []
calls_of (act ∷ before) =
    calls_of before ++ calls_with act.event act.times act.sleep (open_sleep (waiter_of act.event) before)

-- whether the bucket was asked
abbrev pub is_ask : FleetEvent → Bool
is_ask (Poll waiter number moment seen state) = false
is_ask (Sleep waiter nanos elapsed word) = false
is_ask (Charged waiter moment) = true
is_ask (Refused waiter cost moment) = true
is_ask (End waiter ending) = false

-- The bucket was asked while there was fuel left, each time.
abbrev pub AreFunded : ℕ → List Act → Type 0
AreFunded fuel [] = Unit {0}
AreFunded fuel (act ∷ before) =
    (is_ask act.event ≡ true → asks (calls_of (act ∷ before)) < fuel) × AreFunded fuel before
