-- The sample runs are whole: the machine goes through each of them, call by call.
use Rattle.std.proofs.Common.{Bool, true, false, cond, ℕ, Option, List, [], ◌∷◌, ◌++◌, ◌≡◌, refl, length}
use Rattle.smithy_types.specs.declared.fault.Fault.{Fault}
use Rattle.smithy_types.specs.declared.fault.Outcome.{Outcome}
use Rattle.smithy_types.specs.declared.kinds.ConnectorKind.{ConnectorKind}
use Rattle.smithy_types.specs.declared.kinds.StopPoint.{StopPoint}
use Rattle.smithy_types.specs.declared.kinds.StopPoint.TheVariants as stops
use Rattle.smithy_types.specs.declared.payload.Payload.{Payload}
use Rattle.run_grammar.specs.declared.kind.ConfigureStage.TheVariants as stages
use Rattle.run_grammar.specs.declared.kind.Kind.TheVariants as kinds
use Rattle.run_grammar.specs.declared.answer.Answer.TheVariants as answers
use Rattle.run_grammar.specs.declared.kind.Role.TheVariants as roles
use Rattle.run_grammar.specs.Entry.{pending, ready, fails}
use Rattle.run_grammar.specs.Fits.{fits}
use Rattle.run_grammar.specs.Change.{changed}
use Rattle.run_grammar.specs.Standing.{State, WellHanded, asked, standing, start, step}
use Rattle.run_grammar.specs.Grammar.{run}
use Rattle.run_grammar.specs.Tests.{failed, delayed, went, went_on, started, not_streaming, body_read, decided_yes, decided_no_after, decided_delay, endpoint_stands, load_body, checkpoint_stands, failure_stands, timeout_stands, token_needed}
use Rattle.run_grammar.specs.Machine.{Accepts, begin}
use Rattle.run_grammar.specs.Laws.{EachFits}
use Rattle.run_grammar.specs.Samples.{Comes, Parts, Said, asking, said}
use Rattle.run_grammar.specs.SampleRuns as runs
use Rattle.run_grammar.proofs.Finishing.{made, made_fits, made_handed}
use Rattle.run_grammar.proofs.Rounds.{both_plain}
use Rattle.run_grammar.proofs.TheLaws.{accepted_run}

asking_handed : (l : List Said) (s : State) → WellHanded s (asking s l)
asking_handed [] s = tt
asking_handed (x ∷ l) s = (made_handed x.kind s, asking_handed l (step s (made x.kind s x.answer)))

abbrev all_fit : List Said → Bool
all_fit [] = true
all_fit (x ∷ l) = cond (fits x.kind x.answer) (all_fit l) false

asking_fits : (l : List Said) (s : State) → all_fit l ≡ true → EachFits (asking s l)
asking_fits [] s f = tt
asking_fits (x ∷ l) s f =
    let h = both_plain (fits x.kind x.answer) (all_fit l) f in
    (made_fits x.kind s x.answer h.0, asking_fits l (step s (made x.kind s x.answer)) h.1)

abbrev pub Accepted : StopPoint → Payload → List Said → Type 0
Accepted stop p l = Accepts (begin (run stop) (start p)) (start p) (asking (start p) l)

pub comes : (stop : StopPoint) (p : Payload) (l : List Said) (n : ℕ) (o : Option Outcome) → Accepted stop p l → all_fit l ≡ true → length l ≡ n →
    (standing (start p) (asking (start p) l)).context.context.view.outcome ≡ o → Comes stop p l n o
comes stop p l n o a f c e = record {
  whole = record { run = accepted_run stop (start p) (asking (start p) l) a; handed = asking_handed l (start p); fitting = asking_fits l (start p) f };
  counted = c;
  left = e;
}

-- 34 calls
one_attempt_succeeds_accepted : (p : Parts) → Accepted stops.None p.input (runs.succeeded p)
unfolding run failed delayed went went_on started not_streaming body_read decided_yes decided_no_after decided_delay endpoint_stands load_body checkpoint_stands failure_stands timeout_stands token_needed pending ready fails step asked changed
one_attempt_succeeds_accepted p =
    (refl, (refl, (refl, (refl, (refl, (refl, (refl, (refl, (refl, (refl, (refl, (refl, (refl, (refl, (refl, (refl, (refl, (refl, (refl, (refl, (refl, (refl, (refl, (refl, (refl, (refl, (refl, (refl, (refl, (refl, (refl, (refl, (refl, (refl, refl))))))))))))))))))))))))))))))))))

pub one_attempt_succeeds : runs.OneAttemptSucceeds
unfolding step asked changed fits
one_attempt_succeeds p = comes stops.None p.input (runs.succeeded p) 34 _ (one_attempt_succeeds_accepted p) refl refl refl

-- 1 calls
configuration_fails_accepted : (p : Parts) → Accepted stops.None p.input (said (kinds.Configure stages.Client) (answers.Failed p.text) ∷ [])
unfolding run failed delayed went went_on started not_streaming body_read decided_yes decided_no_after decided_delay endpoint_stands load_body checkpoint_stands failure_stands timeout_stands token_needed pending ready fails step asked changed
configuration_fails_accepted p =
    (refl, refl)

pub configuration_fails : runs.ConfigurationFails
unfolding step asked changed fits
configuration_fails p = comes stops.None p.input (said (kinds.Configure stages.Client) (answers.Failed p.text) ∷ []) 1 _ (configuration_fails_accepted p) refl refl refl

-- 7 calls
first_hook_fails_accepted : (p : Parts) → Accepted stops.None p.input (runs.hook_failed p)
unfolding run failed delayed went went_on started not_streaming body_read decided_yes decided_no_after decided_delay endpoint_stands load_body checkpoint_stands failure_stands timeout_stands token_needed pending ready fails step asked changed
first_hook_fails_accepted p =
    (refl, (refl, (refl, (refl, (refl, (refl, (refl, refl)))))))

pub first_hook_fails : runs.FirstHookFails
unfolding step asked changed fits
first_hook_fails p = comes stops.None p.input (runs.hook_failed p) 7 _ (first_hook_fails_accepted p) refl refl refl

-- 27 calls
transmit_fails_accepted : (p : Parts) (k : ConnectorKind) → Accepted stops.None p.input (runs.transmit_failed p k)
unfolding run failed delayed went went_on started not_streaming body_read decided_yes decided_no_after decided_delay endpoint_stands load_body checkpoint_stands failure_stands timeout_stands token_needed pending ready fails step asked changed
transmit_fails_accepted p k =
    (refl, (refl, (refl, (refl, (refl, (refl, (refl, (refl, (refl, (refl, (refl, (refl, (refl, (refl, (refl, (refl, (refl, (refl, (refl, (refl, (refl, (refl, (refl, (refl, (refl, (refl, (refl, refl)))))))))))))))))))))))))))

pub transmit_fails : runs.TransmitFails
unfolding step asked changed fits
transmit_fails p k = comes stops.None p.input (runs.transmit_failed p k) 27 _ (transmit_fails_accepted p k) refl refl refl

-- 33 calls
body_fails_accepted : (p : Parts) → Accepted stops.None p.input (runs.body_failed p)
unfolding run failed delayed went went_on started not_streaming body_read decided_yes decided_no_after decided_delay endpoint_stands load_body checkpoint_stands failure_stands timeout_stands token_needed pending ready fails step asked changed
body_fails_accepted p =
    (refl, (refl, (refl, (refl, (refl, (refl, (refl, (refl, (refl, (refl, (refl, (refl, (refl, (refl, (refl, (refl, (refl, (refl, (refl, (refl, (refl, (refl, (refl, (refl, (refl, (refl, (refl, (refl, (refl, (refl, (refl, (refl, (refl, refl)))))))))))))))))))))))))))))))))

pub body_fails : runs.BodyFails
unfolding step asked changed fits
body_fails p = comes stops.None p.input (runs.body_failed p) 33 _ (body_fails_accepted p) refl refl refl

-- 26 calls
stops_before_transmit_accepted : (p : Parts) → Accepted stops.BeforeTransmit p.input (runs.stopped p)
unfolding run failed delayed went went_on started not_streaming body_read decided_yes decided_no_after decided_delay endpoint_stands load_body checkpoint_stands failure_stands timeout_stands token_needed pending ready fails step asked changed
stops_before_transmit_accepted p =
    (refl, (refl, (refl, (refl, (refl, (refl, (refl, (refl, (refl, (refl, (refl, (refl, (refl, (refl, (refl, (refl, (refl, (refl, (refl, (refl, (refl, (refl, (refl, (refl, (refl, (refl, refl))))))))))))))))))))))))))

pub stops_before_transmit : runs.StopsBeforeTransmit
unfolding step asked changed fits
stops_before_transmit p = comes stops.BeforeTransmit p.input (runs.stopped p) 26 _ (stops_before_transmit_accepted p) refl refl refl

-- 29 calls
operation_cuts_accepted : (p : Parts) (n : ℕ) → Accepted stops.None p.input (runs.under_operation p n ++ runs.struck)
unfolding run failed delayed went went_on started not_streaming body_read decided_yes decided_no_after decided_delay endpoint_stands load_body checkpoint_stands failure_stands timeout_stands token_needed pending ready fails step asked changed
operation_cuts_accepted p n =
    (refl, (refl, (refl, (refl, (refl, (refl, (refl, (refl, (refl, (refl, (refl, (refl, (refl, (refl, (refl, (refl, (refl, (refl, (refl, (refl, (refl, (refl, (refl, (refl, (refl, (refl, (refl, (refl, (refl, refl)))))))))))))))))))))))))))))

pub operation_cuts : runs.OperationCuts
unfolding step asked changed fits
operation_cuts p n = comes stops.None p.input (runs.under_operation p n ++ runs.struck) 29 _ (operation_cuts_accepted p n) refl refl refl

-- 32 calls
operation_cuts_later_accepted : (p : Parts) (n : ℕ) → Accepted stops.None p.input (runs.under_operation p n ++ runs.transmit_pending ∷ runs.waiting roles.Operation ∷ said kinds.Park answers.Parked ∷ runs.struck)
unfolding run failed delayed went went_on started not_streaming body_read decided_yes decided_no_after decided_delay endpoint_stands load_body checkpoint_stands failure_stands timeout_stands token_needed pending ready fails step asked changed
operation_cuts_later_accepted p n =
    (refl, (refl, (refl, (refl, (refl, (refl, (refl, (refl, (refl, (refl, (refl, (refl, (refl, (refl, (refl, (refl, (refl, (refl, (refl, (refl, (refl, (refl, (refl, (refl, (refl, (refl, (refl, (refl, (refl, (refl, (refl, (refl, refl))))))))))))))))))))))))))))))))

pub operation_cuts_later : runs.OperationCutsLater
unfolding step asked changed fits
operation_cuts_later p n = comes stops.None p.input (runs.under_operation p n ++ runs.transmit_pending ∷ runs.waiting roles.Operation ∷ said kinds.Park answers.Parked ∷ runs.struck) 32 _ (operation_cuts_later_accepted p n) refl refl refl

-- 31 calls
operation_cuts_attempt_accepted : (p : Parts) (n : ℕ) (m : ℕ) → Accepted stops.None p.input (runs.cut_in_attempt p n m)
unfolding run failed delayed went went_on started not_streaming body_read decided_yes decided_no_after decided_delay endpoint_stands load_body checkpoint_stands failure_stands timeout_stands token_needed pending ready fails step asked changed
operation_cuts_attempt_accepted p n m =
    (refl, (refl, (refl, (refl, (refl, (refl, (refl, (refl, (refl, (refl, (refl, (refl, (refl, (refl, (refl, (refl, (refl, (refl, (refl, (refl, (refl, (refl, (refl, (refl, (refl, (refl, (refl, (refl, (refl, (refl, (refl, refl)))))))))))))))))))))))))))))))

pub operation_cuts_attempt : runs.OperationCutsAttempt
unfolding step asked changed fits
operation_cuts_attempt p n m = comes stops.None p.input (runs.cut_in_attempt p n m) 31 _ (operation_cuts_attempt_accepted p n m) refl refl refl

-- 30 calls
attempt_cut_accepted : (p : Parts) (m : ℕ) → Accepted stops.None p.input (runs.attempt_cut p m)
unfolding run failed delayed went went_on started not_streaming body_read decided_yes decided_no_after decided_delay endpoint_stands load_body checkpoint_stands failure_stands timeout_stands token_needed pending ready fails step asked changed
attempt_cut_accepted p m =
    (refl, (refl, (refl, (refl, (refl, (refl, (refl, (refl, (refl, (refl, (refl, (refl, (refl, (refl, (refl, (refl, (refl, (refl, (refl, (refl, (refl, (refl, (refl, (refl, (refl, (refl, (refl, (refl, (refl, (refl, refl))))))))))))))))))))))))))))))

pub attempt_cut : runs.AttemptCut
unfolding step asked changed fits
attempt_cut p m = comes stops.None p.input (runs.attempt_cut p m) 30 _ (attempt_cut_accepted p m) refl refl refl

-- 57 calls
retries_accepted : (p : Parts) (b : List ℕ) (f : Fault) (d : ℕ) → Accepted stops.None p.input (runs.retried p b f d)
unfolding run failed delayed went went_on started not_streaming body_read decided_yes decided_no_after decided_delay endpoint_stands load_body checkpoint_stands failure_stands timeout_stands token_needed pending ready fails step asked changed
retries_accepted p b f d =
    (refl, (refl, (refl, (refl, (refl, (refl, (refl, (refl, (refl, (refl, (refl, (refl, (refl, (refl, (refl, (refl, (refl, (refl, (refl, (refl, (refl, (refl, (refl, (refl, (refl, (refl, (refl, (refl, (refl, (refl, (refl, (refl, (refl, (refl, (refl, (refl, (refl, (refl, (refl, (refl, (refl, (refl, (refl, (refl, (refl, (refl, (refl, (refl, (refl, (refl, (refl, (refl, (refl, (refl, (refl, (refl, (refl, refl)))))))))))))))))))))))))))))))))))))))))))))))))))))))))

pub retries : runs.Retries
unfolding step asked changed fits
retries p b f d = comes stops.None p.input (runs.retried p b f d) 57 _ (retries_accepted p b f d) refl refl refl

-- 39 calls
operation_cuts_pause_accepted : (p : Parts) (b : List ℕ) (f : Fault) (d : ℕ) (n : ℕ) → Accepted stops.None p.input (runs.pause_cut p b f d n)
unfolding run failed delayed went went_on started not_streaming body_read decided_yes decided_no_after decided_delay endpoint_stands load_body checkpoint_stands failure_stands timeout_stands token_needed pending ready fails step asked changed
operation_cuts_pause_accepted p b f d n =
    (refl, (refl, (refl, (refl, (refl, (refl, (refl, (refl, (refl, (refl, (refl, (refl, (refl, (refl, (refl, (refl, (refl, (refl, (refl, (refl, (refl, (refl, (refl, (refl, (refl, (refl, (refl, (refl, (refl, (refl, (refl, (refl, (refl, (refl, (refl, (refl, (refl, (refl, (refl, refl)))))))))))))))))))))))))))))))))))))))

pub operation_cuts_pause : runs.OperationCutsPause
unfolding step asked changed fits
operation_cuts_pause p b f d n = comes stops.None p.input (runs.pause_cut p b f d n) 39 _ (operation_cuts_pause_accepted p b f d n) refl refl refl

-- 35 calls
sent_once_accepted : (p : Parts) (b : List ℕ) (f : Fault) (d : ℕ) → Accepted stops.None p.input (runs.not_retried p b f d)
unfolding run failed delayed went went_on started not_streaming body_read decided_yes decided_no_after decided_delay endpoint_stands load_body checkpoint_stands failure_stands timeout_stands token_needed pending ready fails step asked changed
sent_once_accepted p b f d =
    (refl, (refl, (refl, (refl, (refl, (refl, (refl, (refl, (refl, (refl, (refl, (refl, (refl, (refl, (refl, (refl, (refl, (refl, (refl, (refl, (refl, (refl, (refl, (refl, (refl, (refl, (refl, (refl, (refl, (refl, (refl, (refl, (refl, (refl, (refl, refl)))))))))))))))))))))))))))))))))))

pub sent_once : runs.SentOnce
unfolding step asked changed fits
sent_once p b f d = comes stops.None p.input (runs.not_retried p b f d) 35 _ (sent_once_accepted p b f d) refl refl refl

-- 37 calls
granted_later_accepted : (p : Parts) (d : ℕ) → Accepted stops.None p.input (runs.delayed p d)
unfolding run failed delayed went went_on started not_streaming body_read decided_yes decided_no_after decided_delay endpoint_stands load_body checkpoint_stands failure_stands timeout_stands token_needed pending ready fails step asked changed
granted_later_accepted p d =
    (refl, (refl, (refl, (refl, (refl, (refl, (refl, (refl, (refl, (refl, (refl, (refl, (refl, (refl, (refl, (refl, (refl, (refl, (refl, (refl, (refl, (refl, (refl, (refl, (refl, (refl, (refl, (refl, (refl, (refl, (refl, (refl, (refl, (refl, (refl, (refl, (refl, refl)))))))))))))))))))))))))))))))))))))

pub granted_later : runs.GrantedLater
unfolding step asked changed fits
granted_later p d = comes stops.None p.input (runs.delayed p d) 37 _ (granted_later_accepted p d) refl refl refl
