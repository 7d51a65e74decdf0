-- How a run ends.
use Rattle.std.specs.Prelude.{ℕ, ◌≡◌, ◌==◌, List, Option, Some, None, Result, Ok, Err, if◌then◌else◌}
use Rattle.smithy_context.specs.declared.context.InterceptorContext.{InterceptorContext}
use Rattle.smithy_types.specs.declared.fault.Outcome.{Outcome}
use Rattle.smithy_types.specs.declared.fault.Outcome.TheVariants as outcomes
use Rattle.smithy_types.specs.declared.fault.SdkError.{SdkError}
use Rattle.smithy_types.specs.declared.fault.SdkError.TheVariants as errors
use Rattle.smithy_types.specs.declared.http.HttpRequest.{HttpRequest}
use Rattle.smithy_types.specs.declared.kinds.StopPoint.{StopPoint}
use Rattle.smithy_types.specs.declared.kinds.StopPoint.TheVariants as stops
use Rattle.smithy_types.specs.declared.payload.Payload.{Payload}
use Rattle.run_grammar.specs.declared.answer.Entry.{Entry}
use Rattle.orchestrate.specs.Answered.{PayloadAnswered, ContextAnswered}
use Rattle.orchestrate.specs.declared.execution.InvokeError.{InvokeError}
use Rattle.orchestrate.specs.declared.execution.InvokeError.TheVariants as invoke_errors
use Rattle.json_print.specs.declared.ending.Ending.{Ending}
use Rattle.json_print.specs.declared.ending.Ending.TheVariants as endings
use Rattle.json_print.specs.declared.head.RunHead.{RunHead}

-- an output of the kind that is looked for
abbrev pub output_ending : ℕ → Payload → Ending
output_ending kind p = if p.kind == kind then endings.Output p else endings.WrongType p

-- an error of the service is of the kind that is looked for
abbrev pub error_ending : ℕ → SdkError Payload → Ending
error_ending kind (errors.ServiceError p r) = if p.kind == kind then endings.Error (errors.ServiceError p r)
    else endings.WrongType p
error_ending kind e = endings.Error e

-- the ending of a run that answered an error; there is none where memory ran out
abbrev pub failed_ending : ℕ → InvokeError Payload → Option Ending
failed_ending kind (invoke_errors.Sdk e) = Some (error_ending kind e)
failed_ending kind invoke_errors.Unfinished = Some endings.Unfinished
failed_ending kind (invoke_errors.WrongType p) = Some (endings.WrongType p)
failed_ending kind invoke_errors.OutOfMemory = None

-- of a run to its end
unfoldable pub ending_of : RunHead → Result Payload (InvokeError Payload) → Option Ending
ending_of s (Ok p) = Some (output_ending s.output_kind p)
ending_of s (Err e) = failed_ending s.error_kind e

-- An output that a hook wrote, or else the request that stands.
abbrev pub stopped_by : Option HttpRequest → Option Outcome → Ending
stopped_by request (Some (outcomes.Output p)) = endings.Output p
stopped_by request _ = endings.Stopped request

-- of a run to the stop point
unfoldable pub stopped_ending_of : RunHead → Result InterceptorContext (InvokeError Payload) → Option Ending
stopped_ending_of s (Ok c) = Some (stopped_by c.view.request c.view.outcome)
stopped_ending_of s (Err e) = failed_ending s.error_kind e

-- The log grew by a run of the operation, and this is its ending.
abbrev pub EndsBy : RunHead → StopPoint → List Entry → List Entry → Ending → Type 0
EndsBy s stops.None before log e =
    (r : Result Payload (InvokeError Payload)) × PayloadAnswered s.input s.fuel r before log × (ending_of s r ≡ Some e)
EndsBy s stops.BeforeTransmit before log e =
    (r : Result InterceptorContext (InvokeError Payload))
    × ContextAnswered s.input stops.BeforeTransmit s.fuel r before log × (stopped_ending_of s r ≡ Some e)

-- the log grew by a run to the stop point of its head, and this is its ending
abbrev pub Ends : RunHead → List Entry → List Entry → Ending → Type 0
Ends s before log e = EndsBy s s.stop before log e
