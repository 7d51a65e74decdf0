-- A cell as its callers see it, and what each call makes of it.
use Rattle.std.specs.Prelude.{◌≡◌, ℕ, ◌+◌, ◌<◌, ◌==◌, nat_lt, Bool, true, false, Some, if◌then◌else◌, List, [], ◌∷◌}
use Rattle.std.specs.Prelude.{◌++◌}
use Rattle.identity_cell.specs.History.{Standing, begun_in, replay}
use Rattle.identity_cell.specs.History as history
use Rattle.identity_cell.specs.Log.{Log}
use Rattle.identity_cell.specs.declared.event.Event.{Event}
use Rattle.identity_cell.specs.declared.event.Event.TheVariants as event
use Rattle.identity_cell.specs.declared.event.ClearReply.{ClearReply}
use Rattle.identity_cell.specs.declared.event.ClearReply.TheVariants as reply
use Rattle.identity_cell.specs.declared.cell.CellState.{CellState}
use Rattle.identity_cell.specs.declared.cell.CellState.TheVariants.{Empty, Loading, Full}
use Rattle.identity_cell.specs.declared.cell.Begin.{Begin}
use Rattle.identity_cell.specs.declared.cell.Begin.TheVariants as begun
use Rattle.identity_cell.specs.declared.cell.Cleared.{Cleared}
use Rattle.identity_cell.specs.declared.cell.Cleared.TheVariants as cleared

-- a cell for one value, with the whole history of its loads
pub record Cell (T : Type 0) : Type 0 where
  -- how long before its expiry a value counts as expired
  pub buffer : ℕ
  pub state : CellState T
  -- all that happened to the cell
  pub events : List Event

-- a new cell, to which nothing has happened
abbrev pub empty_cell : {T : Type 0} → ℕ → Cell T
empty_cell buffer = record { buffer = buffer; state = Empty; events = [] }

-- where a cell stands, whatever its value is
abbrev pub standing_of : {T : Type 0} → CellState T → Standing
standing_of Empty = history.Empty
standing_of (Loading t) = history.Loading t
standing_of (Full t value expiry) = history.Full t expiry

-- the history is legal, and the state is where it leads
abbrev pub IsReplayed : {T : Type 0} → Cell T → Type 0
IsReplayed cell = replay cell.buffer cell.events ≡ Some (standing_of cell.state)

-- the cell after one event more
abbrev pub moved : {T : Type 0} → Cell T → CellState T → Event → Cell T
moved cell state event = record { buffer = cell.buffer; state = state; events = cell.events ++ event ∷ [] }

-- the one event that begin makes
abbrev pub begin_event : {T : Type 0} → CellState T → ℕ → Event
begin_event Empty loads = event.Begin loads
begin_event (Loading t) loads = event.Wait
begin_event (Full t value expiry) loads = event.Hit t

-- the state that begin leaves: only an empty cell begins to load
abbrev pub state_after_begin : {T : Type 0} → CellState T → ℕ → CellState T
state_after_begin Empty loads = Loading loads
state_after_begin state loads = state

-- the cell after a begin: an empty one begins to load, any other keeps its state
abbrev pub after_begin : {T : Type 0} → Cell T → Cell T
after_begin cell =
    let loads = begun_in cell.events in moved cell (state_after_begin cell.state loads) (begin_event cell.state loads)

-- the answer of begin, with a copy of the value in the cell
abbrev pub AnswersBegin : {T : Type 0} → (T → T → Type 0) → CellState T → ℕ → Begin T → Type 0
AnswersBegin copies Empty loads (begun.Load t) = t ≡ loads
AnswersBegin copies (Loading t) loads begun.NotYet = Unit {0}
AnswersBegin copies (Full t value expiry) loads (begun.Value copy) = copies value copy
AnswersBegin copies _ loads _ = ⊥

-- the load of this ticket is open
abbrev pub is_open : {T : Type 0} → CellState T → ℕ → Bool
is_open (Loading t) ticket = ticket == t
is_open _ ticket = false

-- the end of the load of this ticket, where it is open; else nothing happens
abbrev pub after_end : {T : Type 0} → Cell T → ℕ → CellState T → Event → Cell T
after_end cell ticket state event = if is_open cell.state ticket then moved cell state event else cell

-- how a caller at this moment is answered: with the value only where it hasn't expired, and the
-- caller never waited for a load
abbrev pub reply_in : {T : Type 0} → ℕ → CellState T → ℕ → Bool → ClearReply
reply_in buffer Empty now waited = reply.None
reply_in buffer (Loading t) now waited = reply.NotYet
reply_in buffer (Full t value expiry) now waited =
    if nat_lt (now + buffer) expiry then (if waited then reply.None else reply.Kept) else reply.None

-- the state that such a caller leaves: an expired value goes
abbrev pub state_after_clear : {T : Type 0} → ℕ → CellState T → ℕ → CellState T
state_after_clear buffer (Full t value expiry) now = if nat_lt (now + buffer) expiry then Full t value expiry else Empty
state_after_clear buffer state now = state

-- the cell after a caller asked it at this moment: an expired value is gone
abbrev pub after_clear : {T : Type 0} → Cell T → ℕ → Bool → Cell T
after_clear cell now waited =
    moved cell (state_after_clear cell.buffer cell.state now)
    (event.Clear now waited (reply_in cell.buffer cell.state now waited))

-- the answer that goes with a reply, with a copy of the value in the cell
abbrev pub AnswersClear : {T : Type 0} → (T → T → Type 0) → CellState T → ClearReply → Cleared T → Type 0
AnswersClear copies (Full t value expiry) reply.Kept (cleared.Value copy) = copies value copy
AnswersClear copies state reply.None cleared.None = Unit {0}
AnswersClear copies state reply.NotYet cleared.NotYet = Unit {0}
AnswersClear copies _ _ _ = ⊥

-- whether the caller was told to wait
abbrev pub is_not_yet : ClearReply → Bool
is_not_yet reply.NotYet = true
is_not_yet _ = false

-- an open load has room for the event of its end
abbrev pub HasRoom : {T : Type 0} → CellState T → ℕ → Type 0
HasRoom (Loading t) room = 0 < room
HasRoom _ room = Unit {0}

-- a cell by its fields
abbrev pub cell_of : {T : Type 0} → ℕ → CellState T → Log → Cell T
cell_of buffer state log = record { buffer = buffer; state = state; events = log.events }

-- what every cell keeps
pub record HoldsOf {T : Type 0} (cell : Cell T) (reserved : ℕ) : Type 0 where
  pub replayed : IsReplayed cell
  pub room : HasRoom cell.state reserved
