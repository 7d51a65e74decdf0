-- The events that were kept, and the room for more.
use Rattle.std.specs.Prelude.{◌≡◌, ℕ, List, []}
use Rattle.smithy_types.specs.Reserved.{Reserved}
use Rattle.identity_cell.specs.declared.event.Event.{Event}
use Rattle.identity_cell.specs.History.{begun_in}

-- the events that a cell keeps
pub record Log : Type 0 where
  pub events : List Event
  -- how many more can come without memory being taken
  pub room : ℕ

-- no event was kept, and no memory was taken in advance
abbrev pub no_events : Log
no_events = record { events = []; room = 0 }

-- the events in a list that took memory in advance
abbrev pub log_of : Reserved Event → Log
log_of kept = record { events = kept.items; room = kept.room }

-- the count is that of the Begins
abbrev pub CountsBegins : Log → ℕ → Type 0
CountsBegins log begun = begun ≡ begun_in log.events
