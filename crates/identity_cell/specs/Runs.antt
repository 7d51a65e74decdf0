-- Whole runs of calls of one cell, and what stands in histories.
use Rattle.std.specs.Prelude.{◌≡◌, ℕ, ◌==◌, Bool, not, Option, Some, None, List, [], ◌∷◌, ◌++◌, filter}
use Rattle.identity_cell.specs.History.{begun_in, replay}
use Rattle.identity_cell.specs.History as history
use Rattle.identity_cell.specs.declared.event.Event.{Event}
use Rattle.identity_cell.specs.declared.event.Event.TheVariants as event
use Rattle.identity_cell.specs.declared.cell.CellState.TheVariants as state
use Rattle.identity_cell.specs.declared.cell.Begin.{Begin}
use Rattle.identity_cell.specs.declared.cell.Begin.TheVariants as begun
use Rattle.identity_cell.specs.declared.cell.Cleared.{Cleared}
use Rattle.identity_cell.specs.declared.cell.Cleared.TheVariants as cleared
use Rattle.identity_cell.specs.Cell.{Cell, after_begin, AnswersBegin, after_end, after_clear, reply_in, AnswersClear}

-- the loads that are open once the events came: each that was begun and not ended since
abbrev pub open_after : List ℕ → Event → List ℕ
open_after tickets (event.Begin t) = tickets ++ t ∷ []
open_after tickets (event.Done t expiry) = filter (λ u. not (u == t)) tickets
open_after tickets (event.Failed t) = filter (λ u. not (u == t)) tickets
open_after tickets (event.Dropped t) = filter (λ u. not (u == t)) tickets
open_after tickets _ = tickets

-- the loads that are open once these events came, after these tickets were open
abbrev pub open_loads_from : List ℕ → List Event → List ℕ
open_loads_from tickets [] = tickets
open_loads_from tickets (e ∷ es) = open_loads_from (open_after tickets e) es

-- the loads that are open at the end of a history
abbrev pub open_loads : List Event → List ℕ
open_loads events = open_loads_from [] events

-- a call with what it was handed and what it answered
pub data Call (T : Type 0) : Type 0 where
  Began : Begin T → Call T
  Done : ℕ → T → ℕ → Call T
  Failed : ℕ → Call T
  Abandoned : ℕ → Call T
  Asked : ℕ → Bool → Cleared T → Call T

-- the call takes the cell from old to new
abbrev pub Makes : {T : Type 0} → (T → T → Type 0) → Cell T → Call T → Cell T → Type 0
Makes copies old (Began answer) new =
    AnswersBegin copies old.state (begun_in old.events) answer × (new ≡ after_begin old)
Makes copies old (Done ticket value expiry) new =
    new ≡ after_end old ticket (state.Full ticket value expiry) (event.Done ticket expiry)
Makes copies old (Failed ticket) new = new ≡ after_end old ticket state.Empty (event.Failed ticket)
Makes copies old (Abandoned ticket) new = new ≡ after_end old ticket state.Empty (event.Dropped ticket)
Makes copies old (Asked now waited answer) new =
    AnswersClear copies old.state (reply_in old.buffer old.state now waited) answer × (new ≡ after_clear old now waited)

-- the calls take the cell from old to new, one after another
abbrev pub Run : {T : Type 0} → (T → T → Type 0) → Cell T → List (Call T) → Cell T → Type 0
Run copies old [] new = new ≡ old
Run {T} copies old (call ∷ calls) new = (mid : Cell T) × Makes copies old call mid × Run copies mid calls new

-- the value that a call answered, where it did
abbrev pub answered : {T : Type 0} → Call T → Option T
answered (Began (begun.Value value)) = Some value
answered (Asked now waited (cleared.Value value)) = Some value
answered _ = None

-- one of the calls ended the open load of the ticket with this value
pub record WasDone {T : Type 0} (copies : T → T → Type 0) (start : Cell T) (calls : List (Call T)) (ticket : ℕ)
    (value : T) (expiry : ℕ) : Type 0 where
  pub earlier : List (Call T)
  pub later : List (Call T)
  pub split : calls ≡ earlier ++ Done ticket value expiry ∷ later
  pub cell : Cell T
  pub reached : Run copies start earlier cell
  pub loading : cell.state ≡ state.Loading ticket

-- a value is a copy of the one that the Done of the ticket stored at which the cell stands
pub record WasStored {T : Type 0} (copies : T → T → Type 0) (start : Cell T) (calls : List (Call T)) (cell : Cell T)
    (copy : T) : Type 0 where
  pub ticket : ℕ
  pub value : T
  pub expiry : ℕ
  pub stored : WasDone copies start calls ticket value expiry
  pub copied : copies value copy
  pub stands : replay cell.buffer cell.events ≡ Some (history.Full ticket expiry)
