-- What is open is ended, and what is pending is given up.
use Rattle.std.specs.Prelude.{◌≡◌, List, [], ◌∷◌, ◌++◌, None}
use Rattle.outside.specs.Calls.{OutsideCall, DropCall}
use Rattle.run_grammar.specs.declared.kind.Abandonable.{Abandonable}
use Rattle.run_grammar.specs.declared.kind.Abandonable.TheVariants as abandoned
use Rattle.run_grammar.specs.declared.kind.Role.TheVariants as roles
use Rattle.client_call.specs.declared.call.Call.{Call}
use Rattle.client_call.specs.declared.call.Call.TheVariants.{Idle, Reading}
use Rattle.client_call.specs.declared.sleeping.Sleeps.{Sleeps}
use Rattle.client_call.specs.Guarding.{stopped, stopping}
use Rattle.client_call.specs.Sleeping.{give_up_all, giving_up, no_sleeps, sleep_of, with_sleep}

-- the guards of a body that is open give their sleep up
abbrev pub quieting : Call → List OutsideCall
quieting (Reading reading) = stopping reading.guards
quieting _ = []

-- the call as that leaves it
abbrev pub quiet : Call → Call
quiet (Reading reading) = Reading (record reading { guards = stopped reading.guards })
quiet call = call

-- an open call is dropped, behind what its guards give up
abbrev pub ending_call : Call → List OutsideCall
ending_call Idle = []
ending_call call = quieting call ++ DropCall ∷ []

-- the open call and the open sleeps are ended
abbrev pub ending_calls : Sleeps → Call → List OutsideCall
ending_calls sleeps call = ending_call call ++ give_up_all sleeps

-- nothing is open
pub record AtRest (sleeps : Sleeps) (call : Call) : Type 0 where
  pub sleeps_are : sleeps ≡ no_sleeps
  pub call_is : call ≡ Idle

-- the calls by which what is pending is given up
abbrev pub abandoning : Abandonable → Sleeps → Call → List OutsideCall
abandoning abandoned.Load sleeps call = []
abandoning abandoned.Choose sleeps call = []
abandoning abandoned.Endpoint sleeps call = []
abandoning abandoned.Transmit sleeps call = ending_call call
abandoning abandoned.Body sleeps call = ending_call call
abandoning abandoned.WaitSend sleeps call = giving_up sleeps.send
abandoning abandoned.WaitRetry sleeps call = giving_up sleeps.retry
abandoning abandoned.WaitLongPoll sleeps call = giving_up sleeps.long_poll

-- the sleeps that stay open
abbrev pub sleeps_without : Abandonable → Sleeps → Sleeps
sleeps_without abandoned.WaitSend sleeps = with_sleep roles.Send None sleeps
sleeps_without abandoned.WaitRetry sleeps = with_sleep roles.Retry None sleeps
sleeps_without abandoned.WaitLongPoll sleeps = with_sleep roles.LongPoll None sleeps
sleeps_without _ sleeps = sleeps

-- the call as it stays
abbrev pub call_without : Abandonable → Call → Call
call_without abandoned.Transmit call = Idle
call_without abandoned.Body call = Idle
call_without _ call = call
