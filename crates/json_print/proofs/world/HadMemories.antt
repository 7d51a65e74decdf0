-- What had memory.
use Rattle.std.proofs.Common.{List, Some, Result, Ok, Err, ◌≡◌}
use Rattle.smithy_context.specs.declared.context.InterceptorContext.{InterceptorContext}
use Rattle.std.specs.Prelude.{IfOk, OnOk}
use Rattle.smithy_types.specs.declared.memory.OutOfMemory.{OutOfMemory}
use Rattle.smithy_types.specs.declared.payload.Payload.{Payload}
use Rattle.run_grammar.specs.declared.answer.Entry.{Entry}
use Rattle.orchestrate.specs.declared.execution.InvokeError.{InvokeError}
use Rattle.orchestrate.specs.declared.execution.InvokeError.TheVariants as invoke_errors
use Rattle.orchestrate.specs.Handing.{HadMemory, HandedOn}
use Rattle.json_print.specs.Endings.{ending_of, stopped_ending_of}
use Rattle.json_print.specs.declared.ending.Ending.{Ending}
use Rattle.json_print.specs.declared.head.RunHead.{RunHead}

-- a run that has an ending didn't run out of memory
pub ended_had_memory : (s : RunHead) (r : Result Payload (InvokeError Payload)) (e : Ending) → ending_of s r ≡ Some e → HadMemory r
unfolding ending_of
ended_had_memory s (Ok p) e h = tt
ended_had_memory s (Err (invoke_errors.Sdk f)) e h = tt
ended_had_memory s (Err invoke_errors.Unfinished) e h = tt
ended_had_memory s (Err (invoke_errors.WrongType p)) e h = tt
ended_had_memory s (Err invoke_errors.OutOfMemory) e h = absurd (cc)

pub stopped_had_memory : (s : RunHead) (r : Result InterceptorContext (InvokeError Payload)) (e : Ending) → stopped_ending_of s r ≡ Some e → HadMemory r
unfolding stopped_ending_of
stopped_had_memory s (Ok c) e h = tt
stopped_had_memory s (Err (invoke_errors.Sdk f)) e h = tt
stopped_had_memory s (Err invoke_errors.Unfinished) e h = tt
stopped_had_memory s (Err (invoke_errors.WrongType p)) e h = tt
stopped_had_memory s (Err invoke_errors.OutOfMemory) e h = absurd (cc)

module _ {W : Type 0} (relates : W → List Entry → W → Type 0) where
  pub related_if_ended : (s : RunHead) (r : Result Payload (InvokeError Payload)) (x : Result Ending OutOfMemory) (v w : W) (before log : List Entry) → IfOk x (λ e. ending_of s r ≡ Some e) →
      (HadMemory r → HandedOn relates v w before log) → OnOk x (HandedOn relates v w before log)
  related_if_ended s r (Ok e) v w before log h f = f (ended_had_memory s r e h)
  related_if_ended s r (Err o) v w before log h f = tt

  pub related_if_stopped : (s : RunHead) (r : Result InterceptorContext (InvokeError Payload)) (x : Result Ending OutOfMemory) (v w : W) (before log : List Entry) → IfOk x (λ e. stopped_ending_of s r ≡ Some e) →
      (HadMemory r → HandedOn relates v w before log) → OnOk x (HandedOn relates v w before log)
  related_if_stopped s r (Ok e) v w before log h f = f (stopped_had_memory s r e h)
  related_if_stopped s r (Err o) v w before log h f = tt
