-- What a whole run comes to.
use Rattle.std.specs.Prelude.{Option, None, Some, Result, Ok, Err, codes}
use Rattle.smithy_context.specs.declared.context.InterceptorContext.{InterceptorContext}
use Rattle.smithy_types.specs.declared.fault.Fault.{Fault}
use Rattle.smithy_types.specs.declared.fault.FaultKind.TheVariants as faults
use Rattle.smithy_types.specs.declared.fault.Outcome.{Outcome}
use Rattle.smithy_types.specs.declared.fault.Outcome.TheVariants.{Output, Failed}
use Rattle.smithy_types.specs.declared.fault.SdkError.{SdkError}
use Rattle.smithy_types.specs.declared.payload.Payload.{Payload}
use Rattle.smithy_context.specs.Failures.{sdk_error_of}

-- the fault of a run at whose end no outcome stands
abbrev pub no_outcome : Fault
no_outcome = record { kind = faults.Other; text = codes "no outcome stands" }

-- the error of a fault in this context
abbrev pub error_in : InterceptorContext → Fault → SdkError Payload
error_in c f = sdk_error_of f c.phase c.view.response

-- an output is the answer; a failure is mapped by its kind, the held response and the phase
abbrev pub answer_by : InterceptorContext → Option Outcome → Result Payload (SdkError Payload)
answer_by c (Some (Output p)) = Ok p
answer_by c (Some (Failed f)) = Err (error_in c f)
answer_by c None = Err (error_in c no_outcome)

-- what a run answers with this context at its end
abbrev pub answer_of : InterceptorContext → Result Payload (SdkError Payload)
answer_of c = answer_by c c.view.outcome

-- the error of this outcome, if it is a failure; else that of a run without an outcome
abbrev pub failure_by : InterceptorContext → Option Outcome → SdkError Payload
failure_by c (Some (Failed f)) = error_in c f
failure_by c _ = error_in c no_outcome

-- the error of a run with this context at its end
abbrev pub failure_of : InterceptorContext → SdkError Payload
failure_of c = failure_by c c.view.outcome
