-- A call that was taken.
use Rattle.std.specs.Prelude.{◌≡◌, true, List, [], ◌∷◌, ◌++◌}
use Rattle.run_grammar.specs.Fits.{fits}
use Rattle.run_grammar.specs.Machine.{Asks, next}
use Rattle.run_grammar.specs.declared.answer.Entry.{Entry}
use Rattle.run_grammar.specs.declared.standing.Standing.{Standing}
use Rattle.runcheck.specs.Reading.Places.{position_of}
use Rattle.runcheck.specs.declared.reading.walk.Walk.{Walk}
use Rattle.runcheck.specs.Follow.{after_call, entry_of}
use Rattle.runcheck.specs.declared.told.Call.{Call}

-- It was asked for, its answer fits, and its entry came last.
pub record Taken (v w : Walk) (s t : Standing) (l m : List Entry) (c : Call) : Type 0 where
  pub asked : Asks (position_of v) c.kind
  pub fitting : fits c.kind c.answer ≡ true
  pub position : position_of w ≡ next (position_of v) (after_call s c) (entry_of s c)
  pub stands : t ≡ (after_call s c).context
  pub entries : m ≡ l ++ entry_of s c ∷ []
