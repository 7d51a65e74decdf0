-- How a run of a seat ends, and what the host is told of it.
use Rattle.std.specs.Prelude.{ℕ, Bool, if◌then◌else◌, List, [], ◌∷◌, codes}
use Rattle.serde_json.specs.Data.{Data, string}
use Rattle.json_forms.specs.Prints.{num, row}
use Rattle.run_grammar.specs.declared.answer.Entry.{Entry}
use Rattle.json_print.specs.Endings.{Ends}
use Rattle.json_print.specs.Print.{entries_text}
use Rattle.json_print.specs.declared.ending.Ending.{Ending}
use Rattle.host_session.specs.Running.{IsGoing, calls_of}
use Rattle.host_session.specs.declared.seat.SeatRun.{SeatRun}

-- where the log is what the run has made, it is a run of as many calls, and this is its ending
abbrev pub EndsBy : SeatRun → Ending → Type 0
EndsBy run ending = (log : List Entry) → IsGoing run log → Ends (record run.head { fuel = calls_of run }) [] log ending

-- the entries, where they are asked for
abbrev pub log_text : Bool → List Entry → List ℕ
log_text is_logged log = if is_logged then entries_text 1 log else []

-- the seat, how many calls the run made, and how it ended
unfoldable pub done_data : ℕ → ℕ → Data → Data
done_data seat calls ending = row (string (codes "done") ∷ num seat ∷ num calls ∷ ending ∷ [])

-- its caller lost interest
unfoldable pub given_up_data : Data
given_up_data = row (string (codes "GivenUp") ∷ [])
