-- The run of a seat.
use Rattle.std.specs.Prelude.{◌≡◌, ℕ, ◌-◌, List, [], Option, Some, None}
use Rattle.run_grammar.specs.declared.answer.Entry.{Entry}
use Rattle.run_driver.specs.Running.{Goes}
use Rattle.json_host.specs.declared.message.HostInvocation.{HostInvocation}
use Rattle.json_print.specs.declared.head.RunHead.{RunHead}
use Rattle.host_session.specs.declared.seat.SeatTerms.{SeatTerms}
use Rattle.host_session.specs.declared.seat.SeatRun.{SeatRun}

-- the log is what the run has made so far
pub record IsGoing (run : SeatRun) (log : List Entry) : Type 0 where
  pub fuel : run.driven.fuel ≡ run.head.fuel
  pub goes : Goes run.head.input run.head.stop run.driven [] log

-- the same where there may be none
abbrev pub IsUnderWay : Option SeatRun → List Entry → Type 0
IsUnderWay None log = Unit {0}
IsUnderWay (Some run) log = IsGoing run log

-- what a run is begun with, by the kinds of payload that are outputs and errors
abbrev pub head_of : HostInvocation → SeatTerms → RunHead
head_of i terms = record {
  input = i.input;
  fuel = i.fuel;
  stop = i.stop;
  output_kind = terms.output_kind;
  error_kind = terms.error_kind;
}

-- a run that made no call yet
pub record Starts (i : HostInvocation) (terms : SeatTerms) (run : SeatRun) : Type 0 where
  pub head : run.head ≡ head_of i terms
  pub is_logged : run.is_logged ≡ i.is_logged
  pub fuel : run.driven.fuel ≡ i.fuel
  pub goes : (log : List Entry) → Goes i.input i.stop run.driven log log

-- how many calls a run made
abbrev pub calls_of : SeatRun → ℕ
calls_of run = run.driven.fuel - run.driven.left
