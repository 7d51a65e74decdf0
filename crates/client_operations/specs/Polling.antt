-- An invocation as the poll of a waiter.
use Rattle.std.specs.Prelude.{Result, Ok, Err, Some, codes}
use Rattle.orchestrate.specs.declared.execution.InvokeError.{InvokeError}
use Rattle.orchestrate.specs.declared.execution.InvokeError.TheVariants as invoked
use Rattle.smithy_types.specs.declared.fault.FaultKind.TheVariants.{Other}
use Rattle.smithy_types.specs.declared.fault.SdkError.TheVariants.{DispatchFailure}
use Rattle.waiters.specs.Calls.{Answer}

-- an invocation's answer as that of a poll: what is no SdkError is told as a failed dispatch
abbrev pub told : {O E : Type 0} → Result O (InvokeError E) → Answer O E
told (Ok output) = Ok (Some (Ok output))
told (Err (invoked.Sdk error)) = Ok (Some (Err error))
told (Err invoked.Unfinished) =
    Ok (Some (Err (DispatchFailure (record { kind = Other; text = codes "the fuel is used up" }))))
told (Err (invoked.WrongType payload)) =
    Ok (Some (Err (DispatchFailure (record { kind = Other; text = codes "an answer of another kind" }))))
told (Err invoked.OutOfMemory) = Err (record {})
