-- The run of a fleet, by its events. The last event stands first. Moments and times are in nanoseconds.
use Rattle.std.specs.Prelude.{◌≡◌, ℕ, ◌+◌, ◌-◌, ◌/◌, ◌^◌, ◌≤◌, ◌<◌, ◌⊎◌, Bool, true, false, List, [], ◌∷◌, Some}
use Rattle.std.specs.Prelude.{slice_get, length, min, zero, suc, if◌then◌else◌}
use Rattle.smithy_types.specs.declared.acceptor.AcceptorState.{AcceptorState}
use Rattle.smithy_types.specs.declared.acceptor.AcceptorState.TheVariants.{NoAcceptorsMatched, Success, Failure, Retry}
use Rattle.smithy_types.specs.declared.kinds.ErrorKind.TheVariants.{ServerError}
use Rattle.waiters.specs.Delay.{IsDelay, second}
use Rattle.waiters.specs.Walk.{Verdict, fails, succeeds, is_failure, goes_on}
use Rattle.retry_quota.specs.Book.{Book, cost_of}
use Rattle.retry_quota.specs.History.{is_granted}
use Rattle.waiter_fleet.specs.declared.event.FleetEnd.{FleetEnd}
use Rattle.waiter_fleet.specs.declared.event.FleetEnd.TheVariants as end
use Rattle.waiter_fleet.specs.declared.event.FleetEvent.{FleetEvent}
use Rattle.waiter_fleet.specs.declared.event.FleetEvent.TheVariants.{Poll, Sleep, Charged, Refused, End}
use Rattle.waiter_fleet.specs.declared.event.Seen.{Seen}
use Rattle.waiter_fleet.specs.declared.event.Seen.TheVariants.{Output, Service, Unmodeled}
use Rattle.waiter_fleet.specs.declared.plan.Plan.{Plan}
use Rattle.waiter_fleet.specs.Events.{book_after, charges, due, ended, polls, zero_used}

-- what a poll means for the walk of its waiter, as in a waiter's own walk
abbrev pub verdict_of : Seen → AcceptorState → Verdict
-- an error that isn't of the operation's model, whatever its state
verdict_of Unmodeled state = fails
verdict_of (Output payload) Success = succeeds
verdict_of (Service payload) Success = succeeds
-- an error of the model that no acceptor matched
verdict_of (Service payload) NoAcceptorsMatched = fails
verdict_of (Output payload) Failure = is_failure
verdict_of (Service payload) Failure = is_failure
-- a retry state, and an output that no acceptor matched
verdict_of (Output payload) Retry = goes_on
verdict_of (Service payload) Retry = goes_on
verdict_of (Output payload) NoAcceptorsMatched = goes_on

-- A waiter's poll means this and came so long after the start, as the poll of this number; it ends
-- the waiter so. A poll that goes on ends it after a delay of 0, or where more than the longest wait
-- is over.
abbrev pub EndsBy : Plan → Bool → ℕ → ℕ → Verdict → FleetEnd → Type 0
EndsBy plan used number elapsed verdict end.Ok = verdict ≡ succeeds
EndsBy plan used number elapsed verdict end.OperationFailed = verdict ≡ fails
EndsBy plan used number elapsed verdict end.FailureState = verdict ≡ is_failure
EndsBy plan used number elapsed verdict (end.ExceededMaxWait max_wait passed poll_count) =
    (verdict ≡ goes_on) × ((used ≡ true) ⊎ (plan.max_wait < elapsed))
    × (max_wait ≡ plan.max_wait) × (passed ≡ elapsed) × (poll_count ≡ number)
EndsBy plan used number elapsed verdict (end.NoQuota cost) = ⊥
EndsBy plan used number elapsed verdict end.Unfinished = ⊥

-- it doesn't end the waiter, which sleeps so long by this word
pub record GoesOn (plan : Plan) (used : Bool) (number elapsed : ℕ) (verdict : Verdict) (word nanos : ℕ) : Type 0 where
  pub goes : verdict ≡ goes_on
  pub no_zero : used ≡ false
  pub in_time : elapsed ≤ plan.max_wait
  pub delays : IsDelay plan.min_delay plan.max_delay plan.max_wait number elapsed word nanos

-- Whether nothing has to follow at once: behind a poll comes its sleep or its waiter's end, behind
-- a refusal its waiter's end.
abbrev pub is_settled : List FleetEvent → Bool
is_settled [] = true
is_settled (Poll waiter number moment seen state ∷ before) = false
is_settled (Refused waiter cost moment ∷ before) = false
is_settled (Sleep waiter nanos elapsed word ∷ before) = true
is_settled (Charged waiter moment ∷ before) = true
is_settled (End waiter ending ∷ before) = true

-- the number of the poll behind so many, which stops at the greatest u32
abbrev pub number_behind : ℕ → ℕ
number_behind count = min (count + 1) (2 ^ 32 - 1)

-- A turn is that of the waiter with the least due moment, ties by number, among those not ended.
pub record IsTurnOf (count start : ℕ) (before : List FleetEvent) (waiter : ℕ) : Type 0 where
  pub within : waiter < count
  pub waits : ended waiter before ≡ false
  pub first : (other : ℕ) → other < count → ended other before ≡ false →
      (due start waiter before < due start other before)
      ⊎ ((due start waiter before ≡ due start other before) × (waiter ≤ other))

-- a poll of the waiter stands last
pub record IsBehindPoll (before : List FleetEvent) (waiter number moment : ℕ) (verdict : Verdict) : Type 0 where
  pub earlier : List FleetEvent
  pub seen : Seen
  pub state : AcceptorState
  pub is : before ≡ Poll waiter number moment seen state ∷ earlier
  pub means : verdict ≡ verdict_of seen state

module _ (plans : List Plan) (book : Book) (start : ℕ) where
  -- It is the waiter's turn, and its polls are paid for: the first is free, each other one has one
  -- charge of its own.
  pub record MayPoll (before : List FleetEvent) (waiter number : ℕ) : Type 0 where
    pub turn : IsTurnOf (length plans) start before waiter
    pub settled : is_settled before ≡ true
    pub paid : charges waiter before ≡ polls waiter before
    pub numbered : number ≡ number_behind (polls waiter before)

  -- It is the waiter's turn, and its next poll isn't paid for. At the second of the present moment
  -- the bucket grants its cost, or doesn't.
  pub record MayAsk (before : List FleetEvent) (waiter moment : ℕ) (granted : Bool) : Type 0 where
    pub turn : IsTurnOf (length plans) start before waiter
    pub settled : is_settled before ≡ true
    pub unpaid : charges waiter before + 1 ≡ polls waiter before
    pub answer : is_granted ServerError (moment / second) (book_after book before) ≡ granted

  -- the waiter's poll stands last, and what follows of it by its plan
  pub record Behind (before : List FleetEvent) (waiter : ℕ)
      (follows : Plan → Bool → ℕ → ℕ → Verdict → Type 0) : Type 0 where
    pub plan : Plan
    pub planned : slice_get plans waiter ≡ Some plan
    pub number : ℕ
    pub moment : ℕ
    pub verdict : Verdict
    pub poll : IsBehindPoll before waiter number moment verdict
    pub so : follows plan (zero_used waiter before) number (moment - start) verdict

  -- how a waiter may end by itself
  abbrev pub MayEnd : List FleetEvent → ℕ → FleetEnd → Type 0
  MayEnd before waiter (end.NoQuota cost) =
      (earlier : List FleetEvent) × (moment : ℕ) × (before ≡ Refused waiter cost moment ∷ earlier)
  MayEnd before waiter end.Ok =
      Behind before waiter (λ plan used number elapsed verdict. EndsBy plan used number elapsed verdict end.Ok)
  MayEnd before waiter end.OperationFailed =
      Behind before waiter
      (λ plan used number elapsed verdict. EndsBy plan used number elapsed verdict end.OperationFailed)
  MayEnd before waiter end.FailureState =
      Behind before waiter
      (λ plan used number elapsed verdict. EndsBy plan used number elapsed verdict end.FailureState)
  MayEnd before waiter (end.ExceededMaxWait max_wait passed poll_count) =
      Behind before waiter
      (λ plan used number elapsed verdict.
      EndsBy plan used number elapsed verdict (end.ExceededMaxWait max_wait passed poll_count))
  MayEnd before waiter end.Unfinished = ⊥

  -- which event may follow these
  abbrev pub Follows : List FleetEvent → FleetEvent → Type 0
  Follows before (Poll waiter number moment seen state) = MayPoll before waiter number
  Follows before (Charged waiter moment) = MayAsk before waiter moment true
  Follows before (Refused waiter cost moment) = MayAsk before waiter moment false × (cost ≡ cost_of ServerError book)
  Follows before (Sleep waiter nanos elapsed word) =
      Behind before waiter
      (λ plan used number passed verdict. (elapsed ≡ passed) × GoesOn plan used number passed verdict word nanos)
  Follows before (End waiter ending) = MayEnd before waiter ending

  -- each event may follow those before it
  abbrev pub IsFleet : List FleetEvent → Type 0
  IsFleet [] = Unit {0}
  IsFleet (event ∷ before) = Follows before event × IsFleet before

-- Of so many waiters, those that haven't ended end unfinished, in the order of their numbers.
abbrev pub left_over : ℕ → List FleetEvent → List FleetEvent
left_over zero events = []
left_over (suc waiter) events =
    if ended waiter events then left_over waiter events else End waiter end.Unfinished ∷ left_over waiter events
