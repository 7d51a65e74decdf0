-- The calls that a fleet makes of its world.
use Rattle.std.specs.Prelude.{◌≡◌, ℕ, ◌+◌, ◌^◌, ◌≤◌, ◌<◌, Bool, true, false, List, [], ◌∷◌, ◌++◌, Option, None, Some}
use Rattle.std.specs.Prelude.{Result, Ok, Err, zero, suc}
use Rattle.smithy_types.specs.declared.acceptor.AcceptorState.{AcceptorState}
use Rattle.smithy_types.specs.declared.memory.OutOfMemory.{OutOfMemory}
use Rattle.smithy_types.specs.declared.timers.TimersCall.{TimersCall}
use Rattle.smithy_types.specs.declared.timers.TimersCall.TheVariants.{Now, Start, Ready, GiveUp}
use Rattle.waiters.specs.declared.timers.PollAnswer.{PollAnswer}
use Rattle.waiters.specs.declared.timers.PollAnswer.TheVariants as answer
use Rattle.waiters.specs.declared.timers.WaiterCall.{WaiterCall}
use Rattle.waiters.specs.declared.timers.WaiterCall.TheVariants as waiter
use Rattle.waiter_fleet.specs.declared.event.Seen.{Seen}

-- what a poll of a waiter's operation answers
abbrev pub Answer : Type 0
Answer = Result (Option (Seen × AcceptorState)) OutOfMemory

-- a call with what it answered
pub data FleetCall : Type 0 where
  -- the operation of this waiter was polled
  polled : ℕ → Answer → FleetCall
  -- the clock or a sleep was asked
  timed : TimersCall → FleetCall
  -- these 64 bits were drawn
  drew : ℕ → FleetCall
  parked : FleetCall

-- what the timers are told of a poll
abbrev pub poll_told : Answer → PollAnswer
poll_told (Ok None) = answer.Pending
poll_told (Ok (Some found)) = answer.Answered
poll_told (Err refused) = answer.OutOfMemory

-- the call as the timers have it: a poll counts there as one of the waiter's number
abbrev pub waiter_call : FleetCall → WaiterCall
waiter_call (polled number found) = waiter.Poll number (poll_told found)
waiter_call (timed call) = waiter.Timers call
waiter_call (drew word) = waiter.Word word
waiter_call parked = waiter.Park

-- whether an operation was polled
abbrev pub is_poll : FleetCall → Bool
is_poll (polled number found) = true
is_poll (timed call) = false
is_poll (drew word) = false
is_poll parked = false

-- The fuel that a call spends: a poll that was answered or is pending, or a sleep that was asked,
-- spends one unit.
abbrev pub cost_of : FleetCall → ℕ
cost_of (polled number (Ok found)) = 1
cost_of (polled number (Err refused)) = 0
cost_of (timed (Now moment)) = 0
cost_of (timed (Start nanos sleep)) = 0
cost_of (timed (Ready sleep over)) = 1
cost_of (timed (GiveUp sleep)) = 0
cost_of (drew word) = 0
cost_of parked = 0

-- the fuel that these calls spend
abbrev pub asks : List FleetCall → ℕ
asks [] = 0
asks (call ∷ calls) = cost_of call + asks calls

-- one where a poll had no answer yet, or a sleep wasn't over
abbrev pub wait_of : FleetCall → ℕ
wait_of (polled number (Ok None)) = 1
wait_of (polled number (Ok (Some found))) = 0
wait_of (polled number (Err refused)) = 0
wait_of (timed (Now moment)) = 0
wait_of (timed (Start nanos sleep)) = 0
wait_of (timed (Ready sleep true)) = 0
wait_of (timed (Ready sleep false)) = 1
wait_of (timed (GiveUp sleep)) = 0
wait_of (drew word) = 0
wait_of parked = 0

-- how many of these calls found no answer yet, or a sleep that wasn't over
abbrev pub waits : List FleetCall → ℕ
waits [] = 0
waits (call ∷ calls) = wait_of call + waits calls

-- what a call makes of a world's count of waits, as long as it has room
abbrev pub Counts : ℕ → FleetCall → ℕ → Type 0
Counts old call new = (old ≤ new) × (old + wait_of call < 2 ^ 64 → new ≡ old + wait_of call)

-- an answer that a world keeps
pub data FleetAnswer : Type 0 where
  -- the poll of this waiter was answered, at this moment where the world tells it
  answered : ℕ → Seen → AcceptorState → Option ℕ → FleetAnswer
  -- 64 random bits
  drawn : ℕ → FleetAnswer
  -- the clock's moment
  told : ℕ → FleetAnswer
  -- a sleep of so many nanoseconds was started, with this number
  started : ℕ → ℕ → FleetAnswer
  -- this sleep was over
  woken : ℕ → FleetAnswer

-- what a world keeps of a call that left it at this moment
abbrev pub noted : Option ℕ → FleetCall → List FleetAnswer
noted at (polled number (Ok None)) = []
noted at (polled number (Ok (Some found))) = answered number found.0 found.1 at ∷ []
noted at (polled number (Err refused)) = []
noted at (timed (Now moment)) = told moment ∷ []
noted at (timed (Start nanos (Ok (Some sleep)))) = started nanos sleep ∷ []
noted at (timed (Start nanos (Ok None))) = []
noted at (timed (Start nanos (Err refused))) = []
noted at (timed (Ready sleep true)) = woken sleep ∷ []
noted at (timed (Ready sleep false)) = []
noted at (timed (GiveUp sleep)) = []
noted at (drew word) = drawn word ∷ []
noted at parked = []

-- the operation is polled so often and has no answer yet, with a park right after each poll
abbrev pub unanswered : ℕ → ℕ → List FleetCall
unanswered number zero = []
unanswered number (suc times) = polled number (Ok None) ∷ parked ∷ unanswered number times

-- the sleep is asked so often and isn't over, with a park right after each ask
abbrev pub unready : ℕ → ℕ → List FleetCall
unready sleep zero = []
unready sleep (suc times) = timed (Ready sleep false) ∷ parked ∷ unready sleep times

-- a sleep that is still open is asked until it is over
abbrev pub awaited : Option ℕ → ℕ → List FleetCall
awaited None times = []
awaited (Some sleep) times = unready sleep times ++ timed (Ready sleep true) ∷ []
