-- What an answer is determined by.
use Rattle.std.proofs.Common.{Bool, true, false, ℕ, List, ◌++◌, Result, Ok, Err, ◌≡◌, ◌⊎◌, refl, sym, ap, ◌∙◌, subst, inl, inr, arith}
use Rattle.std.proofs.lemmas.List.{append_cancel_left}
use Rattle.smithy_context.specs.declared.context.InterceptorContext.{InterceptorContext}
use Rattle.smithy_types.specs.declared.fault.SdkError.{SdkError}
use Rattle.smithy_types.specs.declared.kinds.StopPoint.{StopPoint}
use Rattle.smithy_types.specs.declared.kinds.StopPoint.TheVariants as stops
use Rattle.smithy_types.specs.declared.payload.Payload.{Payload}
use Rattle.run_grammar.specs.declared.answer.Entry.{Entry}
use Rattle.run_grammar.specs.Standing.{standing, start}
use Rattle.run_grammar.specs.Laws.{IsWhole}
use Rattle.orchestrate.specs.declared.execution.InvokeError.{InvokeError}
use Rattle.orchestrate.specs.declared.execution.InvokeError.TheVariants.{Sdk, Unfinished, WrongType, OutOfMemory}
use Rattle.orchestrate.specs.Finish.{answer_of, failure_of}
use Rattle.smithy_context.specs.Failures.{is_failure}
use Rattle.orchestrate.specs.Handing.{HadMemory}
use Rattle.orchestrate.specs.Answered.{Refused, UnfinishedRun, WholeRun, PayloadAnswered, ContextAnswered, OperationAnswered}

-- the answer over payloads of a whole run at whose end this stands
abbrev given : Result Payload (SdkError Payload) → Result Payload (InvokeError Payload)
given (Ok output) = Ok output
given (Err error) = Err (Sdk error)

-- an answer is that of the whole run that was made, or Unfinished where none was
abbrev Determined : Payload → ℕ → Result Payload (InvokeError Payload) → List Entry → List Entry → Type 0
Determined p fuel r before log =
    WholeRun p stops.None fuel before log (λ c. r ≡ given (answer_of c)) ⊎ (UnfinishedRun p stops.None fuel before log × (r ≡ Err Unfinished))

determined : (p : Payload) (fuel : ℕ) (before log : List Entry) (r : Result Payload (InvokeError Payload)) → HadMemory r → PayloadAnswered p fuel r before log → Determined p fuel r before log
determined p fuel before log (Ok output) h (l, g, b, w, e) = inl (l, g, b, w, ap given (sym e))
determined p fuel before log (Err (Sdk error)) h (l, g, b, w, e) = inl (l, g, b, w, ap given (sym e))
determined p fuel before log (Err Unfinished) h u = inr (u, refl)
determined p fuel before log (Err (WrongType q)) h u = absurd u
determined p fuel before log (Err OutOfMemory) h u = absurd h

not_both : (p : Payload) (stop : StopPoint) (before log l m : List Entry) → log ≡ before ++ l → IsWhole stop (start p) l → log ≡ before ++ m → (IsWhole stop (start p) m → ⊥) → ⊥
not_both p stop before log l m g w h n = n (subst (λ x. IsWhole stop (start p) x) (append_cancel_left before l m (sym g ∙ h)) w)

same_by : (p : Payload) (fuel : ℕ) (before log : List Entry) (a b : Result Payload (InvokeError Payload)) → Determined p fuel a before log → Determined p fuel b before log → a ≡ b
same_by p fuel before log a b (inl (l, g, x, w, e)) (inl (m, h, y, u, f)) =
    e ∙ ap (λ k. given (answer_of (standing (start p) k).context.context)) (append_cancel_left before l m (sym g ∙ h)) ∙ sym f
same_by p fuel before log a b (inl (l, g, x, w, e)) (inr ((m, h, y, i, n), f)) = absurd (not_both p stops.None before log l m g w h n)
same_by p fuel before log a b (inr ((m, h, y, i, n), f)) (inl (l, g, x, w, e)) = absurd (not_both p stops.None before log l m g w h n)
same_by p fuel before log a b (inr (u, e)) (inr (v, f)) = e ∙ sym f

pub answers_determined : (p : Payload) (fuel : ℕ) (before log : List Entry) (a b : Result Payload (InvokeError Payload)) → HadMemory a → HadMemory b →
    PayloadAnswered p fuel a before log → PayloadAnswered p fuel b before log → a ≡ b
answers_determined p fuel before log a b s t x y = same_by p fuel before log a b (determined p fuel before log a s x) (determined p fuel before log b t y)

-- ---- runs up to a stop point

-- what a run up to the stop point answers, at whose end this stands
abbrev handed_back : InterceptorContext → Bool → Result InterceptorContext (InvokeError Payload)
handed_back c true = Err (Sdk (failure_of c))
handed_back c false = Ok c

abbrev Handed : Payload → StopPoint → ℕ → Result InterceptorContext (InvokeError Payload) → List Entry → List Entry → Type 0
Handed p stop fuel r before log =
    WholeRun p stop fuel before log (λ c. r ≡ handed_back c (is_failure c.view.outcome)) ⊎ (UnfinishedRun p stop fuel before log × (r ≡ Err Unfinished))

handed : (p : Payload) (stop : StopPoint) (fuel : ℕ) (before log : List Entry) (r : Result InterceptorContext (InvokeError Payload)) → HadMemory r → ContextAnswered p stop fuel r before log →
    Handed p stop fuel r before log
handed p stop fuel before log (Ok c) h (l, g, b, w, (e, f)) =
    inl (l, g, b, w, ap Ok e ∙ ap (handed_back (standing (start p) l).context.context) (sym f))
handed p stop fuel before log (Err (Sdk error)) h (l, g, b, w, (e, f)) =
    inl (l, g, b, w, ap (λ x. Err (Sdk x)) e ∙ ap (handed_back (standing (start p) l).context.context) (sym f))
handed p stop fuel before log (Err Unfinished) h u = inr (u, refl)
handed p stop fuel before log (Err (WrongType q)) h u = absurd u
handed p stop fuel before log (Err OutOfMemory) h u = absurd h

same_by_end : (p : Payload) (stop : StopPoint) (fuel : ℕ) (before log : List Entry) (a b : Result InterceptorContext (InvokeError Payload)) → Handed p stop fuel a before log →
    Handed p stop fuel b before log → a ≡ b
same_by_end p stop fuel before log a b (inl (l, g, x, w, e)) (inl (m, h, y, u, f)) =
    e ∙ ap (λ k. let c = (standing (start p) k).context.context in handed_back c (is_failure c.view.outcome)) (append_cancel_left before l m (sym g ∙ h)) ∙ sym f
same_by_end p stop fuel before log a b (inl (l, g, x, w, e)) (inr ((m, h, y, i, n), f)) = absurd (not_both p stop before log l m g w h n)
same_by_end p stop fuel before log a b (inr ((m, h, y, i, n), f)) (inl (l, g, x, w, e)) = absurd (not_both p stop before log l m g w h n)
same_by_end p stop fuel before log a b (inr (u, e)) (inr (v, f)) = e ∙ sym f

pub contexts_determined : (p : Payload) (stop : StopPoint) (fuel : ℕ) (before log : List Entry) (a b : Result InterceptorContext (InvokeError Payload)) → HadMemory a → HadMemory b →
    ContextAnswered p stop fuel a before log → ContextAnswered p stop fuel b before log → a ≡ b
contexts_determined p stop fuel before log a b s t x y = same_by_end p stop fuel before log a b (handed p stop fuel before log a s x) (handed p stop fuel before log b t y)

abbrev output_or : Payload → Result Payload (SdkError Payload) → Payload
output_or d (Ok output) = output
output_or d (Err error) = d

abbrev IsFailed : Result Payload (SdkError Payload) → Type 0
IsFailed (Ok output) = ⊥
IsFailed (Err error) = Unit {0}

no_error : (s : SdkError Payload) (o : Payload) → (let r : Result Payload (SdkError Payload) = Err s in r) ≡ Ok o → ⊥
no_error s o e = subst IsFailed e tt

no_choice : (b : Bool) → b ≡ false → b ≡ true → ⊥
no_choice true e f = grind (arith, e)
no_choice false e f = grind (arith, f)

not_refused : (takes takes_error : Payload → Bool) (q o : Payload) (r : Result Payload (SdkError Payload)) → Refused takes takes_error q r → r ≡ Ok o → takes o ≡ true → ⊥
not_refused takes takes_error q o r (inl (e, t)) f a = no_choice (takes o) (subst (λ k. takes k ≡ false) (ap (output_or o) (sym e ∙ f)) t) a
not_refused takes takes_error q o r (inr (h, e, t)) f a = no_error _ o (sym e ∙ f)

module _ {O E : Type 0} (takes : Payload → Bool) (reads : Payload → O → Type 0) (takes_error : Payload → Bool) (reads_error : Payload → E → Type 0) where
  pub output_given : (p o : Payload) (fuel : ℕ) (before l : List Entry) (r : Result O (InvokeError E)) → HadMemory r →
      OperationAnswered takes reads takes_error reads_error p fuel r before (before ++ l) → IsWhole stops.None (start p) l →
      answer_of (standing (start p) l).context.context ≡ Ok o → takes o ≡ true → (x : O) × (r ≡ Ok x) × reads o x
  output_given p o fuel before l (Ok x) h (m, g, b, w, (q, e, t, u)) i f a =
      (x, refl, subst (λ k. reads k x) (ap (output_or o) (sym e ∙ ap (λ k. answer_of (standing (start p) k).context.context) (sym (append_cancel_left before l m g)) ∙ f)) u)
  output_given p o fuel before l (Err (Sdk s)) h (m, g, b, w, (q, e, u)) i f a =
      absurd (no_error q o (sym e ∙ ap (λ k. answer_of (standing (start p) k).context.context) (sym (append_cancel_left before l m g)) ∙ f))
  output_given p o fuel before l (Err Unfinished) h (m, g, b, k, n) i f a = absurd (n (subst (λ x. IsWhole stops.None (start p) x) (append_cancel_left before l m g) i))
  output_given p o fuel before l (Err (WrongType q)) h (m, g, b, w, u) i f a =
      absurd (not_refused takes takes_error q o _ u (ap (λ k. answer_of (standing (start p) k).context.context) (sym (append_cancel_left before l m g)) ∙ f) a)
  output_given p o fuel before l (Err OutOfMemory) h u i f a = absurd h
