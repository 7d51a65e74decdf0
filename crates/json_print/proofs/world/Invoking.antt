-- What an operation over payloads answers.
use Rattle.std.proofs.Common.{Bool, true, ℕ, List, Some, Result, Ok, Err, ◌≡◌, sym, ap, ◌∙◌, subst, inl, inr}
use Rattle.std.specs.Prelude.{IfOk}
use Rattle.smithy_types.specs.declared.fault.SdkError.{SdkError}
use Rattle.smithy_types.specs.declared.fault.SdkError.TheVariants as errors
use Rattle.smithy_types.specs.declared.kinds.StopPoint.TheVariants as stops
use Rattle.smithy_types.specs.declared.memory.OutOfMemory.{OutOfMemory}
use Rattle.smithy_types.specs.declared.payload.Payload.{Payload}
use Rattle.run_grammar.specs.declared.answer.Entry.{Entry}
use Rattle.orchestrate.specs.declared.execution.InvokeError.{InvokeError}
use Rattle.orchestrate.specs.declared.execution.InvokeError.TheVariants as invoke_errors
use Rattle.orchestrate.specs.Answered.{InputAnswered, OperationAnswered, PayloadAnswered, ReadsError}
use Rattle.orchestrate.specs.Handing.{HadMemory}
use Rattle.json_print.specs.Endings.{ending_of, Ends, EndsBy}
use Rattle.json_print.specs.declared.ending.Ending.{Ending}
use Rattle.json_print.specs.declared.head.RunHead.{RunHead}
use Rattle.json_print.proofs.world.HadMemories.{ended_had_memory}

-- a payload is a value of its own, and each one is accepted
abbrev each : Payload → Bool
each p = true

abbrev itself : Payload → Payload → Type 0
itself p q = q ≡ p

reads_itself : (e f : SdkError Payload) → ReadsError each itself e f → e ≡ f
reads_itself (errors.ConstructionFailure x) f h = sym h
reads_itself (errors.TimeoutError x) f h = sym h
reads_itself (errors.DispatchFailure x) f h = sym h
reads_itself (errors.ResponseError x r) f h = sym h
reads_itself (errors.ServiceError p r) f (t, x, e, h) = sym (h ∙ ap (λ y. errors.ServiceError y r) e)

over_payloads : (p : Payload) (fuel : ℕ) (r : Result Payload (InvokeError Payload)) (before log : List Entry) → OperationAnswered each itself each itself p fuel r before log → PayloadAnswered p fuel r before log
over_payloads p fuel (Ok output) before log (l, g, b, w, (o, e, t, u)) = (l, g, b, w, e ∙ ap Ok (sym u))
over_payloads p fuel (Err (invoke_errors.Sdk error)) before log (l, g, b, w, (e, h, u)) = (l, g, b, w, h ∙ ap Err (reads_itself e error u))
over_payloads p fuel (Err invoke_errors.Unfinished) before log h = h
over_payloads p fuel (Err (invoke_errors.WrongType q)) before log (l, g, b, w, inl (e, t)) = absurd (cc)
over_payloads p fuel (Err (invoke_errors.WrongType q)) before log (l, g, b, w, inr (x, e, t)) = absurd (cc)
over_payloads p fuel (Err invoke_errors.OutOfMemory) before log h = h

of_input : (p : Payload) (fuel : ℕ) (r : Result Payload (InvokeError Payload)) (before log : List Entry) → HadMemory r → InputAnswered each itself each itself each itself p fuel r before log →
    PayloadAnswered p fuel r before log
of_input p fuel r before log h (inl (q, t, e, w)) = subst (λ x. PayloadAnswered x fuel r before log) (sym e) (over_payloads q fuel r before log w)
of_input p fuel r before log h (inr (e, g)) = absurd (subst HadMemory e h)

-- a run to its end has the ending of its answer
pub ends_if : (s : RunHead) (p : Payload) (r : Result Payload (InvokeError Payload)) (x : Result Ending OutOfMemory) (before log : List Entry) → s.stop ≡ stops.None → p ≡ s.input →
    IfOk x (λ e. ending_of s r ≡ Some e) → InputAnswered each itself each itself each itself p s.fuel r before log → IfOk x (λ e. Ends s before log e)
ends_if s p r (Ok e) before log st i h a =
    subst (λ t. EndsBy s t before log e) (sym st) (r, subst (λ y. PayloadAnswered y s.fuel r before log) i (of_input p s.fuel r before log (ended_had_memory s r e h) a), h)
ends_if s p r (Err o) before log st i h a = tt
