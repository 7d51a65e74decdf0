-- A run that stops at its stop point leaves its request.
use Rattle.std.proofs.Common.{Bool, true, false, ℕ, ◌==◌, List, [], Option, Some, None, is_some, Result, Ok, Err, ◌≡◌, ◌⊎◌, sym, subst, inl, inr, arith}
use Rattle.std.specs.Prelude.{if◌then◌else◌}
use Rattle.smithy_context.specs.declared.context.InterceptorContext.{InterceptorContext}
use Rattle.smithy_types.specs.declared.fault.Outcome.{Outcome}
use Rattle.smithy_types.specs.declared.fault.Outcome.TheVariants as outcomes
use Rattle.smithy_types.specs.declared.fault.SdkError.{SdkError}
use Rattle.smithy_types.specs.declared.fault.SdkError.TheVariants as errors
use Rattle.smithy_types.specs.declared.http.HttpRequest.{HttpRequest}
use Rattle.smithy_types.specs.declared.kinds.StopPoint.{StopPoint}
use Rattle.smithy_types.specs.declared.kinds.StopPoint.TheVariants as stops
use Rattle.smithy_types.specs.declared.payload.Payload.{Payload}
use Rattle.smithy_context.specs.Failures.{is_failure}
use Rattle.run_grammar.specs.declared.answer.Entry.{Entry}
use Rattle.run_grammar.proofs.RequestProofs.{request_or_outcome_stands}
use Rattle.orchestrate.specs.Answered.{ContextAnswered}
use Rattle.orchestrate.specs.declared.execution.InvokeError.{InvokeError}
use Rattle.orchestrate.specs.declared.execution.InvokeError.TheVariants as invoke_errors
use Rattle.json_print.specs.Laws.{StoppedWithRequest}
use Rattle.json_print.specs.Endings.{ending_of, error_ending, failed_ending, stopped_ending_of, stopped_by, EndsBy}
use Rattle.json_print.specs.declared.ending.Ending.TheVariants as endings
use Rattle.json_print.specs.declared.head.RunHead.{RunHead}

same_some : {X : Type 0} (x y : X) → Some x ≡ Some y → x ≡ y
same_some x y e = cc

-- ---- a run to its end doesn't stop

output_goes_on : (b : Bool) (p : Payload) (q : Option HttpRequest) → (if b then endings.Output p else endings.WrongType p) ≡ endings.Stopped q → ⊥
output_goes_on true p q e = cc
output_goes_on false p q e = cc

error_goes_on : (b : Bool) (s : SdkError Payload) (p : Payload) (q : Option HttpRequest) → (if b then endings.Error s else endings.WrongType p) ≡ endings.Stopped q → ⊥
error_goes_on true s p q e = cc
error_goes_on false s p q e = cc

sdk_goes_on : (kind : ℕ) (s : SdkError Payload) (q : Option HttpRequest) → error_ending kind s ≡ endings.Stopped q → ⊥
sdk_goes_on kind (errors.ConstructionFailure f) q e = cc
sdk_goes_on kind (errors.TimeoutError f) q e = cc
sdk_goes_on kind (errors.DispatchFailure f) q e = cc
sdk_goes_on kind (errors.ResponseError f r) q e = cc
sdk_goes_on kind (errors.ServiceError p r) q e = error_goes_on (p.kind == kind) (errors.ServiceError p r) p q e

failure_goes_on : (kind : ℕ) (f : InvokeError Payload) (q : Option HttpRequest) → failed_ending kind f ≡ Some (endings.Stopped q) → ⊥
failure_goes_on kind (invoke_errors.Sdk s) q e = sdk_goes_on kind s q (same_some _ _ e)
failure_goes_on kind invoke_errors.Unfinished q e = cc
failure_goes_on kind (invoke_errors.WrongType p) q e = cc
failure_goes_on kind invoke_errors.OutOfMemory q e = cc

run_goes_on : (h : RunHead) (r : Result Payload (InvokeError Payload)) (q : Option HttpRequest) → ending_of h r ≡ Some (endings.Stopped q) → ⊥
unfolding ending_of
run_goes_on h (Ok p) q e = output_goes_on (p.kind == h.output_kind) p q (same_some _ _ e)
run_goes_on h (Err f) q e = failure_goes_on h.error_kind f q e

-- ---- a run to its stop point

by_outcome : (request : Option HttpRequest) (o : Option Outcome) (q : Option HttpRequest) → stopped_by request o ≡ endings.Stopped q → is_failure o ≡ false →
    (is_some request ≡ true) ⊎ (is_some o ≡ true) → is_some q ≡ true
by_outcome request None q e f (inl h) = subst (λ x. is_some x ≡ true) (grind (arith, e)) h
by_outcome request None q e f (inr h) = absurd (cc)
by_outcome request (Some (outcomes.Output p)) q e f h = absurd (cc)
by_outcome request (Some (outcomes.Failed x)) q e f h = absurd (cc)

of_answer : (h : RunHead) (r : Result InterceptorContext (InvokeError Payload)) (log : List Entry) (q : Option HttpRequest) → stopped_ending_of h r ≡ Some (endings.Stopped q) →
    ContextAnswered h.input stops.BeforeTransmit h.fuel r [] log → is_some q ≡ true
unfolding stopped_ending_of
of_answer h (Ok c) log q e (l, g, b, w, (s, f)) =
    by_outcome c.view.request c.view.outcome q (same_some _ _ e) (subst (λ x. is_failure x.view.outcome ≡ false) (sym s) f)
    (subst (λ x. (is_some x.view.request ≡ true) ⊎ (is_some x.view.outcome ≡ true)) (sym s) (request_or_outcome_stands stops.BeforeTransmit h.input l w))
of_answer h (Err f) log q e a = absurd (failure_goes_on h.error_kind f q e)

of_ending : (h : RunHead) (stop : StopPoint) (log : List Entry) (q : Option HttpRequest) → EndsBy h stop [] log (endings.Stopped q) → is_some q ≡ true
of_ending h stops.None log q (r, a, e) = absurd (run_goes_on h r q e)
of_ending h stops.BeforeTransmit log q (r, a, e) = of_answer h r log q e a

pub stopped_with_request : StoppedWithRequest
stopped_with_request h log q e = of_ending h h.stop log q e
