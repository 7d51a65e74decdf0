-- A run of a head is one within its fuel, and has one ending.
use Rattle.std.proofs.Common.{ℕ, List, [], Some, Result, Ok, Err, ◌≡◌, sym, ap, ◌∙◌, subst, inl, inr}
use Rattle.orchestrate.proofs.Completeness.{answers_determined, contexts_determined}
use Rattle.orchestrate.specs.Answered.{ContextAnswered, PayloadAnswered}
use Rattle.orchestrate.specs.Handing.{HadMemory}
use Rattle.orchestrate.specs.SpelledRuns.{IsRunWithin}
use Rattle.orchestrate.specs.declared.execution.InvokeError.{InvokeError}
use Rattle.orchestrate.specs.declared.execution.InvokeError.TheVariants as invoke_errors
use Rattle.run_grammar.specs.Standing.{start}
use Rattle.run_grammar.specs.declared.answer.Entry.{Entry}
use Rattle.json_print.specs.Endings.{EndsBy, ending_of, stopped_ending_of}
use Rattle.json_print.specs.declared.ending.Ending.{Ending}
use Rattle.json_print.specs.declared.head.RunHead.{RunHead}
use Rattle.smithy_context.specs.declared.context.InterceptorContext.{InterceptorContext}
use Rattle.smithy_types.specs.declared.kinds.StopPoint.{StopPoint}
use Rattle.smithy_types.specs.declared.kinds.StopPoint.TheVariants as stops
use Rattle.smithy_types.specs.declared.payload.Payload.{Payload}
use Rattle.json_print.proofs.world.HadMemories.{ended_had_memory, stopped_had_memory}

pub same_some : {X : Type 0} (x y : X) → Some x ≡ Some y → x ≡ y
same_some x y is = cc

whole_run : (p : Payload) (fuel : ℕ) (r : Result Payload (InvokeError Payload)) (log : List Entry) → HadMemory r → PayloadAnswered p fuel r [] log → IsRunWithin stops.None (start p) fuel log
whole_run p fuel (Ok output) log had (l, same, within, whole, tells) = subst (IsRunWithin stops.None (start p) fuel) (sym same) (inl (within, whole))
whole_run p fuel (Err (invoke_errors.Sdk error)) log had (l, same, within, whole, tells) = subst (IsRunWithin stops.None (start p) fuel) (sym same) (inl (within, whole))
whole_run p fuel (Err invoke_errors.Unfinished) log had (l, same, full, begins, not_whole) = subst (IsRunWithin stops.None (start p) fuel) (sym same) (inr (full, begins, not_whole))
whole_run p fuel (Err (invoke_errors.WrongType q)) log had answered = absurd answered
whole_run p fuel (Err invoke_errors.OutOfMemory) log had answered = absurd had

stopped_run : (p : Payload) (stop : StopPoint) (fuel : ℕ) (r : Result InterceptorContext (InvokeError Payload)) (log : List Entry) → HadMemory r → ContextAnswered p stop fuel r [] log → IsRunWithin stop (start p) fuel log
stopped_run p stop fuel (Ok context) log had (l, same, within, whole, tells) = subst (IsRunWithin stop (start p) fuel) (sym same) (inl (within, whole))
stopped_run p stop fuel (Err (invoke_errors.Sdk error)) log had (l, same, within, whole, tells) = subst (IsRunWithin stop (start p) fuel) (sym same) (inl (within, whole))
stopped_run p stop fuel (Err invoke_errors.Unfinished) log had (l, same, full, begins, not_whole) = subst (IsRunWithin stop (start p) fuel) (sym same) (inr (full, begins, not_whole))
stopped_run p stop fuel (Err (invoke_errors.WrongType q)) log had answered = absurd answered
stopped_run p stop fuel (Err invoke_errors.OutOfMemory) log had answered = absurd had

-- what ends is a run within its fuel
pub run_of : (head : RunHead) (stop : StopPoint) (log : List Entry) (ending : Ending) → EndsBy head stop [] log ending → IsRunWithin stop (start head.input) head.fuel log
run_of head stops.None log ending (r, answered, is) = whole_run head.input head.fuel r log (ended_had_memory head r ending is) answered
run_of head stops.BeforeTransmit log ending (r, answered, is) = stopped_run head.input stops.BeforeTransmit head.fuel r log (stopped_had_memory head r ending is) answered

-- a run has one ending
pub one_ending : (head : RunHead) (stop : StopPoint) (log : List Entry) (first second : Ending) → EndsBy head stop [] log first → EndsBy head stop [] log second → first ≡ second
one_ending head stops.None log first second (r, answered, is) (q, asked, too) =
    let same = answers_determined head.input head.fuel [] log r q (ended_had_memory head r first is) (ended_had_memory head q second too) answered asked in
    same_some first second (sym is ∙ (ap (ending_of head) same ∙ too))
one_ending head stops.BeforeTransmit log first second (r, answered, is) (q, asked, too) =
    let same = contexts_determined head.input stops.BeforeTransmit head.fuel [] log r q (stopped_had_memory head r first is) (stopped_had_memory head q second too) answered asked in
    same_some first second (sym is ∙ (ap (stopped_ending_of head) same ∙ too))
