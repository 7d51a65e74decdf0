-- The sample runs: what each is, call by call, and what it comes to.
use Rattle.std.specs.Prelude.{ℕ, Option, None, Some, List, [], ◌∷◌, ◌++◌}
use Rattle.smithy_types.specs.declared.fault.Fault.{Fault}
use Rattle.smithy_types.specs.declared.fault.FaultKind.{FaultKind}
use Rattle.smithy_types.specs.declared.fault.FaultKind.TheVariants as faults
use Rattle.smithy_types.specs.declared.fault.Outcome.{Outcome}
use Rattle.smithy_types.specs.declared.fault.Outcome.TheVariants as outcomes
use Rattle.smithy_types.specs.declared.hook.Hook.TheVariants as hooks
use Rattle.smithy_types.specs.declared.http.Body.TheVariants as bodies
use Rattle.smithy_types.specs.declared.http.HttpRequest.{HttpRequest}
use Rattle.smithy_types.specs.declared.kinds.ConnectorKind.{ConnectorKind}
use Rattle.smithy_types.specs.declared.kinds.StopPoint.TheVariants as stops
use Rattle.smithy_types.specs.declared.notes.Choice.TheVariants as choices
use Rattle.run_grammar.specs.declared.kind.Abandonable.TheVariants as abandoned
use Rattle.run_grammar.specs.declared.kind.ConfigureStage.TheVariants as stages
use Rattle.run_grammar.specs.declared.kind.Kind.TheVariants as kinds
use Rattle.run_grammar.specs.declared.kind.Role.{Role}
use Rattle.run_grammar.specs.declared.kind.Role.TheVariants as roles
use Rattle.run_grammar.specs.declared.answer.Answer.TheVariants as answers
use Rattle.run_grammar.specs.Change.{attempt_timeout_text, operation_timeout_text}
use Rattle.run_grammar.specs.Samples.{Comes, Parts, Said, attempt_calls, config_calls, deadlines, decided, finish_calls}
use Rattle.run_grammar.specs.Samples.{front_calls, go, open_calls, quiet, said, send_calls, settle_calls}

-- the outcome that is a failure of this kind with this text
abbrev pub failure : FaultKind → List ℕ → Option Outcome
failure k t = Some (outcomes.Failed (record { kind = k; text = t }))

-- the calls of a configuration without deadlines
abbrev pub no_deadline : List Said
no_deadline = config_calls (deadlines None None)

-- the sleep of this role is started
abbrev pub started : Role → Said
started r = said (kinds.Start r) answers.Started

-- there is no response yet
abbrev pub transmit_pending : Said
transmit_pending = said kinds.Transmit answers.Pending

-- the sleep of this role isn't over
abbrev pub waiting : Role → Said
waiting r = said (kinds.Wait r) answers.Pending

-- the sleep of this role is over
abbrev pub over : Role → Said
over r = said (kinds.Wait r) answers.Ready

-- the transmission is given up
abbrev pub transmit_abandoned : Said
transmit_abandoned = said (kinds.Abandon abandoned.Transmit) answers.Abandoned

-- a request whose body can be sent again, and one whose body can't
abbrev pub in_memory : HttpRequest → List ℕ → HttpRequest
in_memory r b = record r { body = bodies.Bytes b }

-- a request whose body can't be sent again
abbrev pub sent_once : HttpRequest → List ℕ → HttpRequest
sent_once r b = record r { body = bodies.Once b }

-- one attempt, which succeeds
abbrev pub succeeded : Parts → List Said
succeeded p =
    no_deadline ++ front_calls p.request ++ go ∷ attempt_calls p (outcomes.Output p.output)
    ++ decided choices.No ∷ finish_calls

-- these are the 34 calls of a whole run, which comes to the output
abbrev pub OneAttemptSucceeds : Type 0
OneAttemptSucceeds = (p : Parts) → Comes stops.None p.input (succeeded p) 34 (Some (outcomes.Output p.output))

-- the client's configuration fails
abbrev pub ConfigurationFails : Type 0
ConfigurationFails =
    (p : Parts) →
    Comes stops.None p.input (said (kinds.Configure stages.Client) (answers.Failed p.text) ∷ []) 1
    (failure faults.Other p.text)

-- a hook of the configuration fails: it goes on, and then the finalizers alone are run
abbrev pub hook_failed : Parts → List Said
hook_failed p =
    said (kinds.Configure stages.Client) (answers.Layer (deadlines None None))
    ∷ said (kinds.Hook hooks.ReadBeforeExecutionClient)
    (answers.Hooked (record { change = None; settings = []; failure = Some p.text }))
    ∷ said (kinds.Configure stages.Operation) (answers.Layer [])
    ∷ quiet hooks.ReadBeforeExecutionOperation
    ∷ said (kinds.Configure stages.Final) (answers.Layer [])
    ∷ finish_calls

-- these are the 7 calls of a whole run, which comes to the hook's failure
abbrev pub FirstHookFails : Type 0
FirstHookFails =
    (p : Parts) →
    Comes stops.None p.input (hook_failed p) 7 (failure (faults.Interceptor hooks.ReadBeforeExecutionClient) p.text)

-- the connector fails
abbrev pub transmit_failed : Parts → ConnectorKind → List Said
transmit_failed p k =
    no_deadline ++ front_calls p.request ++ go ∷ open_calls p
    ++ said kinds.Transmit (answers.ConnectorFailed k p.text) ∷ settle_calls ++ decided choices.No ∷ finish_calls

-- these are the 27 calls of a whole run, which comes to the connector's failure
abbrev pub TransmitFails : Type 0
TransmitFails =
    (p : Parts) (k : ConnectorKind) →
    Comes stops.None p.input (transmit_failed p k) 27 (failure (faults.Connector k) p.text)

-- the response's body can't be read: nothing is deserialized, but the hook after it is run
abbrev pub body_failed : Parts → List Said
body_failed p =
    no_deadline ++ front_calls p.request ++ go ∷ open_calls p ++ send_calls p.response
    ++ said kinds.Stream answers.NotStreaming ∷ said kinds.Body (answers.Failed p.text)
    ∷ quiet hooks.ReadAfterDeserialization ∷ settle_calls ++ decided choices.No ∷ finish_calls

-- these are the 33 calls of a whole run, which comes to a failure of the response
abbrev pub BodyFails : Type 0
BodyFails = (p : Parts) → Comes stops.None p.input (body_failed p) 33 (failure faults.Response p.text)

-- the run is stopped before it transmits
abbrev pub stopped : Parts → List Said
stopped p =
    no_deadline ++ front_calls p.request ++ go ∷ open_calls p ++ settle_calls ++ decided choices.No ∷ finish_calls

-- these are the 26 calls of a whole run to this stop point, which has no outcome
abbrev pub StopsBeforeTransmit : Type 0
StopsBeforeTransmit = (p : Parts) → Comes stops.BeforeTransmit p.input (stopped p) 26 None

-- up to the transmission, with the operation's deadline of n nanoseconds armed and no attempt's
abbrev pub under_operation : Parts → ℕ → List Said
under_operation p n =
    config_calls (deadlines (Some n) None) ++ started roles.Operation ∷ front_calls p.request ++ go ∷ open_calls p

-- the operation's deadline cuts the transmission, the attempt is completed and the run ends
abbrev pub struck : List Said
struck = transmit_pending ∷ over roles.Operation ∷ transmit_abandoned ∷ settle_calls ++ finish_calls

-- the operation's deadline cuts the transmission, where the attempt has no deadline:
-- its completion hooks come all the same
abbrev pub OperationCuts : Type 0
OperationCuts =
    (p : Parts) (n : ℕ) →
    Comes stops.None p.input (under_operation p n ++ struck) 29 (failure faults.Timeout (operation_timeout_text n))

-- the same after a round that was parked
abbrev pub OperationCutsLater : Type 0
OperationCutsLater = (p : Parts) (n : ℕ) → Comes stops.None p.input
    (under_operation p n ++ transmit_pending ∷ waiting roles.Operation ∷ said kinds.Park answers.Parked ∷ struck)
    32 (failure faults.Timeout (operation_timeout_text n))

-- the same where the attempt has a deadline of m nanoseconds: that one is asked first
abbrev pub cut_in_attempt : Parts → ℕ → ℕ → List Said
cut_in_attempt p n m =
    config_calls (deadlines (Some n) (Some m)) ++ started roles.Operation ∷ front_calls p.request
    ++ go ∷ started roles.Attempt ∷ open_calls p
    ++ transmit_pending ∷ waiting roles.Attempt ∷ over roles.Operation ∷ transmit_abandoned ∷ settle_calls
    ++ finish_calls

-- these are the 31 calls of a whole run, which comes to the operation's timeout
abbrev pub OperationCutsAttempt : Type 0
OperationCutsAttempt =
    (p : Parts) (n m : ℕ) →
    Comes stops.None p.input (cut_in_attempt p n m) 31 (failure faults.Timeout (operation_timeout_text n))

-- the attempt's deadline cuts the transmission, and no further attempt is made
abbrev pub attempt_cut : Parts → ℕ → List Said
attempt_cut p m =
    config_calls (deadlines None (Some m)) ++ front_calls p.request ++ go ∷ started roles.Attempt ∷ open_calls p
    ++ transmit_pending ∷ over roles.Attempt ∷ transmit_abandoned ∷ settle_calls ++ decided choices.No ∷ finish_calls

-- these are the 30 calls of a whole run, which comes to the attempt's timeout
abbrev pub AttemptCut : Type 0
AttemptCut =
    (p : Parts) (m : ℕ) →
    Comes stops.None p.input (attempt_cut p m) 30 (failure faults.Timeout (attempt_timeout_text m))

-- a first attempt comes to this failure, and a further one after d nanoseconds succeeds
abbrev pub retried : Parts → List ℕ → Fault → ℕ → List Said
retried p b f d =
    no_deadline ++ front_calls (in_memory p.request b) ++ go ∷ attempt_calls p (outcomes.Failed f)
    ++ decided (choices.Delay d) ∷ started roles.Retry ∷ over roles.Retry ∷ attempt_calls p (outcomes.Output p.output)
    ++ decided choices.No ∷ finish_calls

-- these are the 57 calls of a whole run, which comes to the output
abbrev pub Retries : Type 0
Retries =
    (p : Parts) (b : List ℕ) (f : Fault) (d : ℕ) →
    Comes stops.None p.input (retried p b f d) 57 (Some (outcomes.Output p.output))

-- the operation's deadline cuts the pause before a further attempt: the finalizers alone follow
abbrev pub pause_cut : Parts → List ℕ → Fault → ℕ → ℕ → List Said
pause_cut p b f d n =
    config_calls (deadlines (Some n) None) ++ started roles.Operation ∷ front_calls (in_memory p.request b)
    ++ go ∷ attempt_calls p (outcomes.Failed f)
    ++ decided (choices.Delay d) ∷ started roles.Retry ∷ waiting roles.Retry ∷ over roles.Operation
    ∷ said (kinds.Abandon abandoned.WaitRetry) answers.Abandoned ∷ finish_calls

-- these are the 39 calls of a whole run, which comes to the operation's timeout
abbrev pub OperationCutsPause : Type 0
OperationCutsPause =
    (p : Parts) (b : List ℕ) (f : Fault) (d n : ℕ) →
    Comes stops.None p.input (pause_cut p b f d n) 39 (failure faults.Timeout (operation_timeout_text n))

-- a body that can be sent once makes no further attempt, and the first one's failure stays
abbrev pub not_retried : Parts → List ℕ → Fault → ℕ → List Said
not_retried p b f d =
    no_deadline ++ front_calls (sent_once p.request b) ++ go ∷ attempt_calls p (outcomes.Failed f)
    ++ decided (choices.Delay d) ∷ started roles.Retry ∷ finish_calls

-- these are the 35 calls of a whole run, which comes to the first attempt's failure
abbrev pub SentOnce : Type 0
SentOnce =
    (p : Parts) (b : List ℕ) (f : Fault) (d : ℕ) →
    Comes stops.None p.input (not_retried p b f d) 35 (Some (outcomes.Failed f))

-- the first attempt is made after d nanoseconds
abbrev pub delayed : Parts → ℕ → List Said
delayed p d =
    no_deadline ++ front_calls p.request
    ++ said kinds.Initial (answers.Delay d) ∷ started roles.Send ∷ over roles.Send ∷ go
    ∷ attempt_calls p (outcomes.Output p.output) ++ decided choices.No ∷ finish_calls

-- these are the 37 calls of a whole run, which comes to the output
abbrev pub GrantedLater : Type 0
GrantedLater = (p : Parts) (d : ℕ) → Comes stops.None p.input (delayed p d) 37 (Some (outcomes.Output p.output))
