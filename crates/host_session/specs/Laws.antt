-- What holds of a session, and what a host is told of a run that is over.
use Rattle.std.specs.Prelude.{◌≡◌, ◌≢◌, ℕ, ◌≤◌, List, [], ◌++◌, slice_get, Option, Some}
use Rattle.run_grammar.specs.declared.answer.Entry.{Entry}
use Rattle.json_forms.specs.Lines.{line}
use Rattle.json_host.specs.Messages.{IsMessage}
use Rattle.json_host.specs.Replies.{poison_text}
use Rattle.json_host.specs.declared.message.HostMessage.TheVariants as message
use Rattle.json_host.specs.declared.message.SeatMessage.{SeatMessage}
use Rattle.json_print.specs.Endings.{Ends}
use Rattle.json_print.specs.Print.{ending_data}
use Rattle.json_print.specs.declared.ending.Ending.{Ending}
use Rattle.host_session.specs.Ending.{done_data, log_text}
use Rattle.host_session.specs.Running.{IsUnderWay}
use Rattle.host_session.specs.declared.seat.Seat.{Seat}
use Rattle.host_session.specs.declared.seat.SeatRun.{SeatRun}

-- each seat that has a run has the log that its run has made so far
abbrev pub AreUnderWay : {W : Type 0} → (W → List Entry) → List (Seat W) → Type 0
AreUnderWay {W} calls seats =
    (number : ℕ) (seat : Seat W) → slice_get seats number ≡ Some seat → IsUnderWay seat.run (calls seat.world)

-- the line isn't a message for this seat
abbrev pub IsNotFor : ℕ → List ℕ → Type 0
IsNotFor seat bytes = (number : ℕ) (m : SeatMessage) → IsMessage bytes (message.Seat number m) → number ≢ seat

-- The log is one run of so many calls, at most the run's fuel, and it is told with its ending, for this seat.
pub record TellsItsRun (number : ℕ) (run : SeatRun) (log : List Entry) (before text : List ℕ) : Type 0 where
  pub made : ℕ
  pub ending : Ending
  pub bound : made ≤ run.head.fuel
  pub ends : Ends (record run.head { fuel = made }) [] log ending
  pub poisoned : Option ℕ
  pub text_is : text ≡ ((before ++ poison_text number poisoned) ++ log_text run.is_logged log)
      ++ line (done_data number made (ending_data ending))
