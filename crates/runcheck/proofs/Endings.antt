-- The answer of a whole run, as its ending.
use Rattle.std.proofs.Common.{◌≡◌, ℕ, suc, List, [], ◌∷◌, length, true, false, cond, Option, Some, None, Result, Ok, Err, IfOk, refl, ap, sym, ◌∙◌}
use Rattle.orchestrate.specs.Answered.{Answers, Stopped}
use Rattle.orchestrate.specs.Finish.{answer_by, answer_of, failure_of}
use Rattle.orchestrate.specs.declared.execution.InvokeError.{InvokeError}
use Rattle.orchestrate.specs.declared.execution.InvokeError.TheVariants.{Sdk, Unfinished, WrongType, OutOfMemory}
use Rattle.run_grammar.specs.declared.standing.Standing.{Standing}
use Rattle.json_print.specs.Endings.{ending_of, error_ending, stopped_by, stopped_ending_of}
use Rattle.json_print.specs.declared.ending.Ending.{Ending}
use Rattle.json_print.specs.declared.head.RunHead.{RunHead}
use Rattle.smithy_context.specs.Failures.{is_failure}
use Rattle.smithy_context.specs.declared.context.InterceptorContext.{InterceptorContext}
use Rattle.smithy_types.specs.declared.fault.Outcome.TheVariants as outcomes
use Rattle.smithy_types.specs.declared.payload.Payload.{Payload}
use Rattle.runcheck.specs.Follow.{after_call, log_of}
use Rattle.runcheck.specs.Reach.{ending_by}
use Rattle.runcheck.specs.declared.told.Call.{Call}

inside : {X : Type 0} (x y : X) → Some x ≡ Some y → y ≡ x
inside x y h = cc

pub nothing_there : {X : Type 0} (P : Type 0) (y : X) → None ≡ Some y → P
nothing_there P y h = absurd (cc)

pub ending_answered : (h : RunHead) (c : InterceptorContext) (r : Result Payload (InvokeError Payload)) (e : Ending) → Answers c r → ending_of h r ≡ Some e → e ≡ ending_by h (answer_of c)
unfolding ending_of
ending_answered h c (Ok output) e a s = inside _ e s ∙ ap (ending_by h) (sym a)
ending_answered h c (Err (Sdk error)) e a s = inside _ e s ∙ ap (ending_by h) (sym a)
ending_answered h c (Err OutOfMemory) e a s = nothing_there _ e s
ending_answered h c (Err Unfinished) e a s = absurd a
ending_answered h c (Err (WrongType payload)) e a s = absurd a

abbrev pub stopped_ending : RunHead → InterceptorContext → Ending
stopped_ending h c = cond (is_failure c.view.outcome) (error_ending h.error_kind (failure_of c)) (stopped_by c.view.request c.view.outcome)

pub ending_stopped : (h : RunHead) (c : InterceptorContext) (r : Result InterceptorContext (InvokeError Payload)) (e : Ending) → Stopped c r → stopped_ending_of h r ≡ Some e → e ≡ stopped_ending h c
unfolding stopped_ending_of
ending_stopped h c (Ok context) e (same, none) s =
    inside _ e s ∙ ap (λ (x : InterceptorContext). stopped_by x.view.request x.view.outcome) same
    ∙ sym (ap (λ b. cond b (error_ending h.error_kind (failure_of c)) (stopped_by c.view.request c.view.outcome)) none)
ending_stopped h c (Err (Sdk error)) e (same, failed) s =
    inside _ e s ∙ ap (error_ending h.error_kind) same
    ∙ sym (ap (λ b. cond b (error_ending h.error_kind (failure_of c)) (stopped_by c.view.request c.view.outcome)) failed)
ending_stopped h c (Err OutOfMemory) e a s = nothing_there _ e s
ending_stopped h c (Err Unfinished) e a s = absurd a
ending_stopped h c (Err (WrongType payload)) e a s = absurd a

pub log_length : (cs : List Call) (s : Standing) → length (log_of s cs) ≡ length cs
log_length [] s = refl
log_length (c ∷ cs) s = ap (λ n. suc n) (log_length cs (after_call s c).context)

-- the endings that the code makes, by what `json_print` says of them
pub output_ended : {E : Type 0} (h : RunHead) (c : InterceptorContext) (p : Payload) (r : Result Ending E) → c.view.outcome ≡ Some (outcomes.Output p) → IfOk r (λ e. ending_of h (Ok p) ≡ Some e) →
    IfOk r (λ e. e ≡ ending_by h (answer_of c))
unfolding ending_of
output_ended h c p (Ok e) n f = inside _ e f ∙ ap (λ o. ending_by h (answer_by c o)) (sym n)
output_ended h c p (Err e) n f = tt

pub stopped_ended : {E : Type 0} (h : RunHead) (c : InterceptorContext) (r : Result Ending E) → is_failure c.view.outcome ≡ false → IfOk r (λ e. stopped_ending_of h (Ok c) ≡ Some e) →
    IfOk r (λ e. e ≡ stopped_ending h c)
unfolding stopped_ending_of
stopped_ended h c (Ok e) n f = inside _ e f ∙ sym (ap (λ b. cond b (error_ending h.error_kind (failure_of c)) (stopped_by c.view.request c.view.outcome)) n)
stopped_ended h c (Err e) n f = tt
