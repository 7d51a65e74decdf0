-- A waiter's own events as the walk of one waiter. What happened last stands first.
use Rattle.std.specs.Prelude.{◌≡◌, ℕ, ◌-◌, ◌==◌, List, [], ◌∷◌, Result, Ok, Err, if◌then◌else◌, length}
use Rattle.std.specs.Borrow.{Bor}
use Rattle.smithy_types.specs.declared.acceptor.AcceptorState.{AcceptorState}
use Rattle.smithy_types.specs.declared.fault.Fault.{Fault}
use Rattle.smithy_types.specs.declared.fault.SdkError.{SdkError}
use Rattle.smithy_types.specs.declared.fault.SdkError.TheVariants.{ConstructionFailure, ServiceError}
use Rattle.smithy_types.specs.declared.http.HttpResponse.{HttpResponse}
use Rattle.smithy_types.specs.declared.payload.Payload.{Payload}
use Rattle.waiters.specs.declared.outcome.WaiterError.TheVariants as error
use Rattle.waiters.specs.Walk as walk
use Rattle.waiter_fleet.specs.declared.event.FleetEnd.{FleetEnd}
use Rattle.waiter_fleet.specs.declared.event.FleetEnd.TheVariants as end
use Rattle.waiter_fleet.specs.declared.event.FleetEvent.{FleetEvent}
use Rattle.waiter_fleet.specs.declared.event.FleetEvent.TheVariants.{Poll, Sleep, Charged, Refused, End}
use Rattle.waiter_fleet.specs.Fleet.{number_behind}
use Rattle.waiter_fleet.specs.declared.event.Seen.{Seen}
use Rattle.waiter_fleet.specs.declared.event.Seen.TheVariants.{Output, Service, Unmodeled}

-- a poll that doesn't end its waiter, with the delay after it
pub record FleetTurn : Type 0 where
  pub moment : ℕ
  pub seen : Seen
  pub state : AcceptorState
  pub word : ℕ
  pub nanos : ℕ

-- a sleep makes a turn of the poll that it stands behind
abbrev pub turned_by : (nanos word : ℕ) → List FleetEvent → List FleetTurn → List FleetTurn
turned_by nanos word [] turns = turns
turned_by nanos word (Poll waiter number moment seen state ∷ earlier) turns =
    record { moment = moment; seen = seen; state = state; word = word; nanos = nanos } ∷ turns
turned_by nanos word (Sleep waiter other elapsed drawn ∷ earlier) turns = turns
turned_by nanos word (Charged waiter moment ∷ earlier) turns = turns
turned_by nanos word (Refused waiter cost moment ∷ earlier) turns = turns
turned_by nanos word (End waiter ending ∷ earlier) turns = turns

-- the turns of a waiter with one more event: each of its sleeps makes a turn
abbrev pub turns_with : ℕ → FleetEvent → List FleetEvent → List FleetTurn → List FleetTurn
turns_with waiter (Sleep one nanos elapsed word) before turns =
    if one == waiter then turned_by nanos word before turns else turns
turns_with waiter (Poll one number moment seen state) before turns = turns
turns_with waiter (Charged one moment) before turns = turns
turns_with waiter (Refused one cost moment) before turns = turns
turns_with waiter (End one ending) before turns = turns

-- the turns of a waiter
abbrev pub turns_of : ℕ → List FleetEvent → List FleetTurn
turns_of waiter [] = []
turns_of waiter (event ∷ before) = turns_with waiter event before (turns_of waiter before)

-- what a poll answered as a waiter's operation answers it, with this fault and this response
module _ (fault : Fault) (response : HttpResponse) where
  -- a poll's answer as the operation of a waiter on its own gives it
  abbrev pub result_of : Seen → Result Payload (SdkError Payload)
  result_of (Output payload) = Ok payload
  result_of (Service payload) = Err (ServiceError payload response)
  result_of Unmodeled = Err (ConstructionFailure fault)

  -- the turns as those of one waiter
  abbrev pub walk_of : List FleetTurn → List (walk.Turn Payload Payload)
  walk_of [] = []
  walk_of (turn ∷ before) =
      record {
        poll = record { pending = 0; result = result_of turn.seen; state = turn.state; moment = turn.moment };
        word = turn.word;
        delay = turn.nanos;
        sleep = 0;
        unready = 0;
      }
      ∷ walk_of before

  -- the acceptor says so of each poll
  abbrev pub Accepted : (Result (Bor Payload) (Bor Payload) → AcceptorState → Type 0) → List FleetTurn → Type 0
  Accepted says [] = Unit {0}
  Accepted says (turn ∷ before) = walk.Accepts says (result_of turn.seen) turn.state × Accepted says before

-- what a waiter of a fleet ends with is what one waiter does
abbrev pub Names : FleetEnd → walk.End Payload Payload → Type 0
Names end.Ok (Ok final) = Unit {0}
Names end.Ok (Err failed) = ⊥
Names ending (Ok final) = ⊥
Names end.OperationFailed (Err (error.OperationFailed failed)) = Unit {0}
Names end.FailureState (Err (error.FailureState final)) = Unit {0}
Names (end.ExceededMaxWait max_wait elapsed poll_count) (Err (error.ExceededMaxWait longest passed count)) =
    (max_wait ≡ longest) × (elapsed ≡ passed) × (poll_count ≡ count)
Names ending (Err failed) = ⊥

-- a waiter's own events, without those of the bucket
abbrev pub own_with : ℕ → FleetEvent → List FleetEvent → List FleetEvent
own_with waiter (Poll one number moment seen state) before =
    if one == waiter then Poll one number moment seen state ∷ before else before
own_with waiter (Sleep one nanos elapsed word) before =
    if one == waiter then Sleep one nanos elapsed word ∷ before else before
own_with waiter (Charged one moment) before = before
own_with waiter (Refused one cost moment) before = before
own_with waiter (End one ending) before = if one == waiter then End one ending ∷ before else before

-- the polls, sleeps and end of the waiter
abbrev pub own_events : ℕ → List FleetEvent → List FleetEvent
own_events waiter [] = []
own_events waiter (event ∷ before) = own_with waiter event (own_events waiter before)

-- and those behind its last sleep
abbrev pub last_with : ℕ → FleetEvent → List FleetEvent → List FleetEvent
last_with waiter (Poll one number moment seen state) before =
    if one == waiter then Poll one number moment seen state ∷ before else before
last_with waiter (Sleep one nanos elapsed word) before = if one == waiter then [] else before
last_with waiter (Charged one moment) before = before
last_with waiter (Refused one cost moment) before = before
last_with waiter (End one ending) before = if one == waiter then End one ending ∷ before else before

-- the waiter's own events behind its last sleep
abbrev pub last_events : ℕ → List FleetEvent → List FleetEvent
last_events waiter [] = []
last_events waiter (event ∷ before) = last_with waiter event (last_events waiter before)

-- the events of a waiter's turns: each is a poll with its number and the sleep behind it
abbrev pub spelled : (start waiter : ℕ) → List FleetTurn → List FleetEvent
spelled start waiter [] = []
spelled start waiter (turn ∷ before) =
    Sleep waiter turn.nanos (turn.moment - start) turn.word
    ∷ Poll waiter (number_behind (length before)) turn.moment turn.seen turn.state
    ∷ spelled start waiter before

-- Behind its turns a waiter has nothing more, one poll, one poll that ended it, or was refused.
pub data IsLast (waiter : ℕ) : List FleetEvent → Type 0 where
  nothing : IsLast waiter []
  a_poll : (number moment : ℕ) (seen : Seen) (state : AcceptorState) →
      IsLast waiter (Poll waiter number moment seen state ∷ [])
  an_end : (number moment : ℕ) (seen : Seen) (state : AcceptorState) (ending : FleetEnd) →
      IsLast waiter (End waiter ending ∷ Poll waiter number moment seen state ∷ [])
  a_refusal : (cost : ℕ) → IsLast waiter (End waiter (end.NoQuota cost) ∷ [])
