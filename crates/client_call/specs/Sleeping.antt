-- Start and Wait: which calls of the outside stand behind an answer, and which sleeps are open after it.
use Rattle.std.specs.Prelude.{◌≡◌, ℕ, Bool, true, false, List, [], ◌∷◌, ◌++◌, Option, None, Some, Ok, unwrap_or}
use Rattle.outside.specs.Calls.{OutsideCall, OfTimers}
use Rattle.run_grammar.specs.declared.answer.Answer.{Answer}
use Rattle.run_grammar.specs.declared.answer.Answer.TheVariants as answers
use Rattle.run_grammar.specs.declared.kind.Role.{Role}
use Rattle.run_grammar.specs.declared.kind.Role.TheVariants as roles
use Rattle.smithy_types.specs.declared.timers.TimersCall.TheVariants.{Start, Ready, GiveUp}
use Rattle.client_call.specs.declared.sleeping.Sleeps.{Sleeps}

-- the open sleep of a role
abbrev pub sleep_of : Role → Sleeps → Option ℕ
sleep_of roles.Operation s = s.operation
sleep_of roles.Attempt s = s.attempt
sleep_of roles.Send s = s.send
sleep_of roles.Retry s = s.retry
sleep_of roles.LongPoll s = s.long_poll

-- the sleeps with this one of a role
abbrev pub with_sleep : Role → Option ℕ → Sleeps → Sleeps
with_sleep roles.Operation sleep s = record s { operation = sleep }
with_sleep roles.Attempt sleep s = record s { attempt = sleep }
with_sleep roles.Send sleep s = record s { send = sleep }
with_sleep roles.Retry sleep s = record s { retry = sleep }
with_sleep roles.LongPoll sleep s = record s { long_poll = sleep }

-- no sleep is open
abbrev pub no_sleeps : Sleeps
no_sleeps = record { operation = None; attempt = None; send = None; retry = None; long_poll = None }

-- an open sleep is given up
abbrev pub giving_up : Option ℕ → List OutsideCall
giving_up None = []
giving_up (Some sleep) = OfTimers (GiveUp sleep) ∷ []

-- the open sleep of each role is given up
abbrev pub give_up_all : Sleeps → List OutsideCall
give_up_all s =
    giving_up s.operation ++ (giving_up s.attempt ++ (giving_up s.send ++ (giving_up s.retry ++ giving_up s.long_poll)))

-- Absent without sleeps; a length that was not handed is 0;
-- else the role's former sleep is given up and another started
abbrev pub Starts : Bool → Role → Option ℕ → Sleeps → Answer → Sleeps → List OutsideCall → Type 0
Starts has role nanos old answers.Absent new calls = (has ≡ false) × (new ≡ old) × (calls ≡ [])
Starts has role nanos old answers.Started new calls = (has ≡ true)
    × ((sleep : Option ℕ) × (new ≡ with_sleep role sleep old)
    × (calls ≡ giving_up (sleep_of role old) ++ OfTimers (Start (unwrap_or nanos 0) (Ok sleep)) ∷ []))
Starts has role nanos old _ new calls = ⊥

-- an open sleep is asked, and it is Ready exactly where it was over; where none is open there is nothing to ask
abbrev pub Waits : Option ℕ → Answer → List OutsideCall → Type 0
Waits None answers.Ready calls = calls ≡ []
Waits (Some sleep) answers.Ready calls = calls ≡ OfTimers (Ready sleep true) ∷ []
Waits (Some sleep) answers.Pending calls = calls ≡ OfTimers (Ready sleep false) ∷ []
Waits sleep _ calls = ⊥
