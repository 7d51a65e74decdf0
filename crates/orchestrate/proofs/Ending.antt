-- What the end of a run answers.
use Rattle.std.proofs.Common.{ℕ, true, false, Result, Ok, Err, Some, List, [], ◌≡◌, sym, subst, inl, append-nil}
use Rattle.smithy_context.specs.declared.context.InterceptorContext.{InterceptorContext}
use Rattle.smithy_context.specs.Failures.{is_failure}
use Rattle.smithy_types.specs.declared.kinds.StopPoint.{StopPoint}
use Rattle.smithy_types.specs.declared.kinds.StopPoint.TheVariants as stops
use Rattle.smithy_types.specs.declared.payload.Payload.{Payload}
use Rattle.run_grammar.specs.declared.answer.Entry.{Entry}
use Rattle.run_grammar.specs.declared.standing.Standing.{Standing}
use Rattle.run_grammar.specs.Standing.{start}
use Rattle.run_grammar.specs.Laws.{IsWhole}
use Rattle.orchestrate.specs.declared.execution.InvokeError.{InvokeError}
use Rattle.orchestrate.specs.declared.execution.InvokeError.TheVariants.{Sdk, Unfinished, WrongType, OutOfMemory}
use Rattle.orchestrate.specs.Finish.{answer_of, failure_of}
use Rattle.orchestrate.specs.Answered.{Answers, Stopped, ContextAnswered, PayloadAnswered}
use Rattle.orchestrate.specs.Stands.{Ran, RunLost}

-- a whole run begins one: where memory runs out at its end, that is what is left
pub lost_at_end : (p : Payload) (stop : StopPoint) (fuel : ℕ) (c : Standing) (before log : List Entry) → Ran p stop fuel (Some c) before log → RunLost p stop fuel before log
lost_at_end p stop fuel c before log (l, g, n, w, e) = (l, g, n, inl ([], subst (IsWhole stop (start p)) (sym (append-nil l)) w))

pub answered_at_end : (p : Payload) (fuel : ℕ) (c : Standing) (r : Result Payload (InvokeError Payload)) (before log : List Entry) →
    Ran p stops.None fuel (Some c) before log → Answers c.context r → PayloadAnswered p fuel r before log
answered_at_end p fuel c (Ok output) before log (l, g, n, w, e) h = (l, g, n, w, subst (λ x. answer_of x.context ≡ Ok output) e h)
answered_at_end p fuel c (Err (Sdk error)) before log (l, g, n, w, e) h = (l, g, n, w, subst (λ x. answer_of x.context ≡ Err error) e h)
answered_at_end p fuel c (Err Unfinished) before log r h = absurd h
answered_at_end p fuel c (Err (WrongType payload)) before log r h = absurd h
answered_at_end p fuel c (Err OutOfMemory) before log r h = lost_at_end p stops.None fuel c before log r

pub stopped_at_end : (p : Payload) (stop : StopPoint) (fuel : ℕ) (c : Standing) (r : Result InterceptorContext (InvokeError Payload)) (before log : List Entry) →
    Ran p stop fuel (Some c) before log → Stopped c.context r → ContextAnswered p stop fuel r before log
stopped_at_end p stop fuel c (Ok context) before log (l, g, n, w, e) h =
    (l, g, n, w, subst (λ x. (context ≡ x.context) × (is_failure x.context.view.outcome ≡ false)) e h)
stopped_at_end p stop fuel c (Err (Sdk error)) before log (l, g, n, w, e) h =
    (l, g, n, w, subst (λ x. (error ≡ failure_of x.context) × (is_failure x.context.view.outcome ≡ true)) e h)
stopped_at_end p stop fuel c (Err Unfinished) before log r h = absurd h
stopped_at_end p stop fuel c (Err (WrongType payload)) before log r h = absurd h
stopped_at_end p stop fuel c (Err OutOfMemory) before log r h = lost_at_end p stop fuel c before log r
