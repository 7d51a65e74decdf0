-- What an operation's calls answer.
use Rattle.std.specs.Prelude.{ℕ, length, ◌≤◌, Bool, true, false, Result, Ok, Err, List, ◌++◌, ◌≡◌, ◌⊎◌}
use Rattle.smithy_context.specs.declared.context.InterceptorContext.{InterceptorContext}
use Rattle.smithy_types.specs.declared.fault.SdkError.{SdkError}
use Rattle.smithy_types.specs.declared.fault.SdkError.TheVariants.{ConstructionFailure, TimeoutError, DispatchFailure}
use Rattle.smithy_types.specs.declared.fault.SdkError.TheVariants.{ResponseError, ServiceError}
use Rattle.smithy_types.specs.declared.http.HttpResponse.{HttpResponse}
use Rattle.smithy_types.specs.declared.kinds.StopPoint.{StopPoint}
use Rattle.smithy_types.specs.declared.kinds.StopPoint.TheVariants as stops
use Rattle.smithy_types.specs.declared.payload.Payload.{Payload}
use Rattle.smithy_context.specs.Failures.{is_failure}
use Rattle.run_grammar.specs.declared.answer.Entry.{Entry}
use Rattle.run_grammar.specs.Standing.{standing, start}
use Rattle.run_grammar.specs.Laws.{IsWhole, Begins}
use Rattle.orchestrate.specs.declared.execution.InvokeError.{InvokeError}
use Rattle.orchestrate.specs.declared.execution.InvokeError.TheVariants.{Sdk, Unfinished, WrongType, OutOfMemory}
use Rattle.orchestrate.specs.Finish.{answer_of, failure_of}
use Rattle.orchestrate.specs.Stands.{RunLost}

-- what a context at a run's end answers:
-- its output or its error, or there is no memory for copies of its outcome and its response
abbrev pub Answers : InterceptorContext → Result Payload (InvokeError Payload) → Type 0
Answers c (Ok output) = answer_of c ≡ Ok output
Answers c (Err (Sdk error)) = answer_of c ≡ Err error
Answers c (Err OutOfMemory) = Unit {0}
Answers c (Err Unfinished) = ⊥
Answers c (Err (WrongType payload)) = ⊥

-- the same at a stop point, where the context itself is the answer
abbrev pub Stopped : InterceptorContext → Result InterceptorContext (InvokeError Payload) → Type 0
Stopped c (Ok context) = (context ≡ c) × (is_failure c.view.outcome ≡ false)
Stopped c (Err (Sdk error)) = (error ≡ failure_of c) × (is_failure c.view.outcome ≡ true)
Stopped c (Err OutOfMemory) = Unit {0}
Stopped c (Err Unfinished) = ⊥
Stopped c (Err (WrongType payload)) = ⊥

-- the log grew by a whole run of at most fuel calls, and so it is with the context at its end
abbrev pub WholeRun : Payload → StopPoint → ℕ → List Entry → List Entry → (InterceptorContext → Type 0) → Type 0
WholeRun p stop fuel before log ends =
    (l : List Entry) × (log ≡ before ++ l) × (length l ≤ fuel) × IsWhole stop (start p) l
    × ends (standing (start p) l).context.context

-- the log grew by fuel calls that begin a run and are no whole one
abbrev pub UnfinishedRun : Payload → StopPoint → ℕ → List Entry → List Entry → Type 0
UnfinishedRun p stop fuel before log =
    (l : List Entry) × (log ≡ before ++ l) × (length l ≡ fuel) × Begins stop (start p) l
    × (IsWhole stop (start p) l → ⊥)

-- what `invoke` answers: the output of a whole run, its error, Unfinished or OutOfMemory
abbrev pub PayloadAnswered : Payload → ℕ → Result Payload (InvokeError Payload) → List Entry → List Entry → Type 0
PayloadAnswered p fuel (Ok output) before log = WholeRun p stops.None fuel before log (λ c. answer_of c ≡ Ok output)
PayloadAnswered p fuel (Err (Sdk error)) before log =
    WholeRun p stops.None fuel before log (λ c. answer_of c ≡ Err error)
PayloadAnswered p fuel (Err Unfinished) before log = UnfinishedRun p stops.None fuel before log
PayloadAnswered p fuel (Err (WrongType payload)) before log = ⊥
PayloadAnswered p fuel (Err OutOfMemory) before log = RunLost p stops.None fuel before log

-- what `invoke_with_stop_point` answers: the context of a whole run, its failure, Unfinished or OutOfMemory
abbrev pub ContextAnswered : Payload → StopPoint → ℕ → Result InterceptorContext (InvokeError Payload) → List Entry →
    List Entry → Type 0
ContextAnswered p stop fuel (Ok context) before log =
    WholeRun p stop fuel before log (λ c. (context ≡ c) × (is_failure c.view.outcome ≡ false))
ContextAnswered p stop fuel (Err (Sdk error)) before log =
    WholeRun p stop fuel before log (λ c. (error ≡ failure_of c) × (is_failure c.view.outcome ≡ true))
ContextAnswered p stop fuel (Err Unfinished) before log = UnfinishedRun p stop fuel before log
ContextAnswered p stop fuel (Err (WrongType payload)) before log = ⊥
ContextAnswered p stop fuel (Err OutOfMemory) before log = RunLost p stop fuel before log

-- what an error of the service's payload is as the caller's type, which accepts it
abbrev pub ReadsError : {E : Type 0} → (Payload → Bool) → (Payload → E → Type 0) → SdkError Payload → SdkError E →
    Type 0
ReadsError takes reads (ConstructionFailure f) e = e ≡ ConstructionFailure f
ReadsError takes reads (TimeoutError f) e = e ≡ TimeoutError f
ReadsError takes reads (DispatchFailure f) e = e ≡ DispatchFailure f
ReadsError takes reads (ResponseError f r) e = e ≡ ResponseError f r
ReadsError {E} takes reads (ServiceError p r) e = (takes p ≡ true) × (x : E) × reads p x × (e ≡ ServiceError x r)

-- the payload is the output that stands and is none of the caller's, or the service's error and is none
abbrev pub Refused : (Payload → Bool) → (Payload → Bool) → Payload → Result Payload (SdkError Payload) → Type 0
Refused takes_output takes_error p answer =
    ((answer ≡ Ok p) × (takes_output p ≡ false))
    ⊎ ((r : HttpResponse) × (answer ≡ Err (ServiceError p r)) × (takes_error p ≡ false))

-- what an operation answers over an input that reads as the payload p
abbrev pub OperationAnswered : {O E : Type 0} → (Payload → Bool) → (Payload → O → Type 0) → (Payload → Bool) →
    (Payload → E → Type 0) → Payload → ℕ → Result O (InvokeError E) → List Entry → List Entry → Type 0
OperationAnswered takes_output reads_output takes_error reads_error p fuel (Ok output) before log =
    WholeRun p stops.None fuel before log
    (λ c. (o : Payload) × (answer_of c ≡ Ok o) × (takes_output o ≡ true) × reads_output o output)
OperationAnswered takes_output reads_output takes_error reads_error p fuel (Err (Sdk error)) before log =
    WholeRun p stops.None fuel before log
    (λ c. (e : SdkError Payload) × (answer_of c ≡ Err e) × ReadsError takes_error reads_error e error)
OperationAnswered takes_output reads_output takes_error reads_error p fuel (Err Unfinished) before log =
    UnfinishedRun p stops.None fuel before log
OperationAnswered takes_output reads_output takes_error reads_error p fuel (Err (WrongType payload)) before log =
    WholeRun p stops.None fuel before log (λ c. Refused takes_output takes_error payload (answer_of c))
OperationAnswered takes_output reads_output takes_error reads_error p fuel (Err OutOfMemory) before log =
    RunLost p stops.None fuel before log

-- what reading an output came to
abbrev pub OutputRead : {O E : Type 0} → (Payload → Bool) → (Payload → O → Type 0) → Payload →
    Result O (InvokeError E) → Type 0
OutputRead takes reads p (Ok output) = (takes p ≡ true) × reads p output
OutputRead takes reads p (Err (WrongType q)) = (q ≡ p) × (takes p ≡ false)
OutputRead takes reads p (Err OutOfMemory) = Unit {0}
OutputRead takes reads p (Err Unfinished) = ⊥
OutputRead takes reads p (Err (Sdk error)) = ⊥

-- what reading the error of a whole run came to
abbrev pub SdkErrorRead : {E : Type 0} → (Payload → Bool) → (Payload → E → Type 0) → SdkError Payload → InvokeError E →
    Type 0
SdkErrorRead takes reads s (Sdk error) = ReadsError takes reads s error
SdkErrorRead takes reads s (WrongType q) = (r : HttpResponse) × (s ≡ ServiceError q r) × (takes q ≡ false)
SdkErrorRead takes reads s OutOfMemory = Unit {0}
SdkErrorRead takes reads s Unfinished = ⊥

-- what reading an error came to: that of a whole run is read, and any other stays
abbrev pub ErrorRead : {E : Type 0} → (Payload → Bool) → (Payload → E → Type 0) → InvokeError Payload → InvokeError E →
    Type 0
ErrorRead takes reads (Sdk error) e = SdkErrorRead takes reads error e
ErrorRead takes reads Unfinished e = e ≡ Unfinished
ErrorRead takes reads (WrongType p) e = e ≡ WrongType p
ErrorRead takes reads OutOfMemory e = e ≡ OutOfMemory

-- an operation's answer over an input: the run of a payload that reads as the input;
-- or there was no memory for a payload, and nothing was asked
abbrev pub InputAnswered : {I O E : Type 0} → (Payload → Bool) → (Payload → I → Type 0) → (Payload → Bool) →
    (Payload → O → Type 0) → (Payload → Bool) → (Payload → E → Type 0) → I → ℕ → Result O (InvokeError E) → List Entry →
    List Entry → Type 0
InputAnswered takes_input reads_input takes_output reads_output takes_error reads_error input fuel result before log =
    ((p : Payload) × (takes_input p ≡ true) × reads_input p input
    × OperationAnswered takes_output reads_output takes_error reads_error p fuel result before log)
    ⊎ ((result ≡ Err OutOfMemory) × (log ≡ before))
