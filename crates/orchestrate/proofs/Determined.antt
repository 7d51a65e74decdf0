-- An operation's answer is determined by its calls and its fuel.
use Rattle.std.proofs.Common.{Bool, true, false, cond, ℕ, Option, None, Some, List, [], ◌∷◌, ◌++◌, Result, Ok, Err, ◌≡◌, ◌⊎◌, refl, sym, ap, ◌∙◌, subst, inl, inr, arith}
use Rattle.std.proofs.lemmas.List.{append_cancel_left}
use Rattle.smithy_context.specs.declared.context.InterceptorContext.{InterceptorContext}
use Rattle.smithy_types.specs.declared.fault.SdkError.{SdkError}
use Rattle.smithy_types.specs.declared.fault.SdkError.TheVariants.{ConstructionFailure, TimeoutError, DispatchFailure, ResponseError, ServiceError}
use Rattle.smithy_types.specs.declared.http.HttpResponse.{HttpResponse}
use Rattle.smithy_types.specs.declared.hook.Hook.TheVariants as hooks
use Rattle.smithy_types.specs.declared.kinds.StopPoint.TheVariants as stops
use Rattle.smithy_types.specs.declared.payload.Payload.{Payload}
use Rattle.run_grammar.specs.declared.kind.ConfigureStage.TheVariants as stages
use Rattle.run_grammar.specs.declared.kind.Kind.TheVariants as kinds
use Rattle.run_grammar.specs.declared.answer.Answer.{Answer}
use Rattle.run_grammar.specs.declared.answer.Answer.TheVariants as answers
use Rattle.run_grammar.specs.declared.answer.Entry.{Entry}
use Rattle.run_grammar.specs.declared.question.Question.{Question}
use Rattle.run_grammar.specs.declared.question.Question.TheVariants as questions
use Rattle.run_grammar.specs.declared.standing.Standing.{Standing}
use Rattle.run_grammar.specs.declared.production.Test.TheVariants as tests
use Rattle.run_grammar.specs.Entry.{kind_of, fails, sets_failure}
use Rattle.run_grammar.specs.Question.{nanos_of}
use Rattle.run_grammar.specs.Change.{changed, on_configure}
use Rattle.run_grammar.specs.Standing.{WellHanded, asked, asks, standing, start, starting, step}
use Rattle.run_grammar.specs.Tests.{failed}
use Rattle.run_grammar.specs.Production.{Production, Nothing, Work, ◌⨟◌, Where, Ended}
use Rattle.run_grammar.specs.Words.{Word}
use Rattle.run_grammar.specs.Grammar.{run}
use Rattle.run_grammar.specs.Laws.{EachFits, IsRun, IsWhole}
use Rattle.run_grammar.proofs.Paths.{handed_of}
use Rattle.run_grammar.proofs.Watching.{answered_alone, not_pending}
use Rattle.orchestrate.specs.declared.execution.InvokeError.{InvokeError}
use Rattle.orchestrate.specs.declared.execution.InvokeError.TheVariants.{Sdk, Unfinished, WrongType, OutOfMemory}
use Rattle.orchestrate.specs.Finish.{answer_of}
use Rattle.orchestrate.specs.Points.{hooked_third}
use Rattle.orchestrate.specs.Handing.{HadMemory}
use Rattle.orchestrate.specs.Answered.{ReadsError, Refused, UnfinishedRun, WholeRun, OperationAnswered, InputAnswered}

-- the context at the end of a list
abbrev ended_at : Payload → List Entry → InterceptorContext
ended_at p l = (standing (start p) l).context.context

no_choice : (b : Bool) → b ≡ false → b ≡ true → ⊥
no_choice true e f = grind (arith, e)
no_choice false e f = grind (arith, f)

abbrev payload_or : Payload → Result Payload (SdkError Payload) → Payload
payload_or d (Ok o) = o
payload_or d (Err (ServiceError p r)) = p
payload_or d (Err e) = d

abbrev response_or : HttpResponse → Result Payload (SdkError Payload) → HttpResponse
response_or d (Err (ServiceError p r)) = r
response_or d _ = d

abbrev error_or : SdkError Payload → Result Payload (SdkError Payload) → SdkError Payload
error_or d (Err e) = e
error_or d (Ok o) = d

abbrev IsOutput : Result Payload (SdkError Payload) → Type 0
IsOutput (Ok o) = Unit {0}
IsOutput (Err e) = ⊥

-- ---- the input stands in the view that the second question hands on

-- a whole list is a configuration that failed, or goes on with the first hook
abbrev BeginsSo : Payload → List Entry → Type 0
BeginsSo p l =
    ((e : Entry) × (l ≡ e ∷ []) × (kind_of e ≡ kinds.Configure stages.Client) × (failed (step (start p) e) ≡ true))
    ⊎ ((e : Entry) × (d : Entry) × (rest : List Entry) × (l ≡ e ∷ d ∷ rest) × (kind_of e ≡ kinds.Configure stages.Client) × (kind_of d ≡ kinds.Hook hooks.ReadBeforeExecutionClient))

hooked : (p : Payload) (q : Production) (e : Entry) (l b : List Entry) → l ≡ e ∷ b → kind_of e ≡ kinds.Configure stages.Client →
    Word (Work (kinds.Hook hooks.ReadBeforeExecutionClient) ⨟ q) [] Ended (step (start p) e) b → BeginsSo p l
hooked p q e l b n k (inl (a, c, x, v, z)) =
    let r = answered_alone (kinds.Hook hooks.ReadBeforeExecutionClient) [] Ended (step (start p) e) a refl v in
    inr (e, r.0, c, n ∙ ap (λ m. e ∷ m) (x ∙ ap (λ m. m ++ c) r.1), k, r.2)
hooked p q e l b n k (inr (x, v)) = absurd (cc)

begins_so : (p : Payload) (q : Production) (l : List Entry) →
    Word (Work (kinds.Configure stages.Client) ⨟ Where tests.Failed Nothing (Work (kinds.Hook hooks.ReadBeforeExecutionClient) ⨟ q)) [] Ended (start p) l → BeginsSo p l
begins_so p q l (inl (a, b, x, v, z)) =
    let r = answered_alone (kinds.Configure stages.Client) [] Ended (start p) a refl v in
    let e = r.0 in
    let n : l ≡ e ∷ b = x ∙ ap (λ m. m ++ b) r.1 in
    (elim (failed (step (start p) e)) as (λ c. failed (step (start p) e) ≡ c →
    cond c (Word Nothing [] Ended (step (start p) e) b) (Word (Work (kinds.Hook hooks.ReadBeforeExecutionClient) ⨟ q) [] Ended (step (start p) e) b) → BeginsSo p l) [
      | true ↦ λ f u. inl (e, n ∙ ap (λ m. e ∷ m) u.1, r.2, f)
      | false ↦ λ f u. hooked p q e l b n r.2 u
    ]) refl (subst (λ m. Word (Where tests.Failed Nothing (Work (kinds.Hook hooks.ReadBeforeExecutionClient) ⨟ q)) [] Ended (standing (start p) m) b) r.1 z)
begins_so p q l (inr (x, v)) = absurd (cc)

-- what follows the first hook
abbrev configuring : Production
configuring = Work (kinds.Configure stages.Operation) ⨟ Where tests.Failed Nothing (hooked_third stops.None)

whole_begins_so : (p : Payload) (l : List Entry) → IsWhole stops.None (start p) l → BeginsSo p l
unfolding run
whole_begins_so p l w = begins_so p configuring l w.run

input_kept : (s : Standing) (a : Answer) → (on_configure stages.Client s a).context.view.input ≡ s.context.view.input
input_kept s (answers.Layer l) = refl
input_kept s (answers.Failed t) = refl
input_kept s answers.Absent = refl
input_kept s _ = refl

input_stands : (p : Payload) (e : Entry) → kind_of e ≡ kinds.Configure stages.Client → (step (start p) e).context.context.view.input ≡ Some p
unfolding step changed
input_stands p e k = subst (λ j. (changed j (nanos_of e.question) e.answer (starting p)).context.view.input ≡ Some p) (sym k) (input_kept (starting p) e.answer)

input_of : Question → Option Payload
input_of (questions.Hook h v) = v.input
input_of _ = None

handed_input : (p : Payload) (e d : Entry) → kind_of e ≡ kinds.Configure stages.Client → kind_of d ≡ kinds.Hook hooks.ReadBeforeExecutionClient → d.question ≡ asked (kind_of d) (step (start p) e) → input_of d.question ≡ Some p
unfolding asked input_of
handed_input p e d k j h =
    ap input_of h ∙ subst (λ i. input_of (asks i (step (start p) e).context) ≡ (step (start p) e).context.context.view.input) (sym j) refl ∙ input_stands p e k

one_payload : (p q : Payload) (o : Option Payload) → o ≡ Some p → o ≡ Some q → p ≡ q
one_payload p q o h g = ap (payload_in p) (sym h ∙ g)
  where
    payload_in : Payload → Option Payload → Payload
    payload_in d None = d
    payload_in d (Some x) = x

-- ---- a configuration that failed came to the same for every input

failed_alike : (p q : Payload) (a : Answer) →
    sets_failure (kinds.Configure stages.Client) (on_configure stages.Client (starting p) a).context.view.attempt a ≡ sets_failure (kinds.Configure stages.Client) (on_configure stages.Client (starting q) a).context.view.attempt a
failed_alike p q (answers.Layer l) = refl
failed_alike p q (answers.Failed t) = refl
failed_alike p q answers.Absent = refl
failed_alike p q answers.No = refl
failed_alike p q _ = refl

failed_too : (p q : Payload) (e : Entry) → kind_of e ≡ kinds.Configure stages.Client → failed (step (start p) e) ≡ failed (step (start q) e)
unfolding step changed failed fails
failed_too p q e k =
    subst (λ j. sets_failure j (changed j (nanos_of e.question) e.answer (starting p)).context.view.attempt e.answer ≡ sets_failure j (changed j (nanos_of e.question) e.answer (starting q)).context.view.attempt e.answer) (sym k)
    (failed_alike p q e.answer)

refused_alike : (p q : Payload) (a : Answer) → answer_of (on_configure stages.Client (starting p) a).context ≡ answer_of (on_configure stages.Client (starting q) a).context
refused_alike p q (answers.Layer l) = refl
refused_alike p q (answers.Failed t) = refl
refused_alike p q answers.Absent = refl
refused_alike p q _ = refl

refused_too : (p q : Payload) (e : Entry) → kind_of e ≡ kinds.Configure stages.Client → answer_of (ended_at p (e ∷ [])) ≡ answer_of (ended_at q (e ∷ []))
unfolding step changed
refused_too p q e k =
    subst (λ j. answer_of (changed j (nanos_of e.question) e.answer (starting p)).context ≡ answer_of (changed j (nanos_of e.question) e.answer (starting q)).context) (sym k) (refused_alike p q e.answer)

refused_word : (p : Payload) (q : Production) (e : Entry) → kind_of e ≡ kinds.Configure stages.Client → failed (step (start p) e) ≡ true →
    Word (Work (kinds.Configure stages.Client) ⨟ Where tests.Failed Nothing q) [] Ended (start p) (e ∷ [])
refused_word p q e k f =
    inl (e ∷ [], [], refl, inl (refl, (0, (e, refl, k, not_pending e (kinds.Configure stages.Client) k refl))), subst (λ c. cond c (Word Nothing [] Ended (step (start p) e) []) (Word q [] Ended (step (start p) e) [])) (sym f) (refl, refl))

refused_run : (p : Payload) (e : Entry) → kind_of e ≡ kinds.Configure stages.Client → failed (step (start p) e) ≡ true → IsRun stops.None (start p) (e ∷ [])
unfolding run
refused_run p e k f = refused_word p (Work (kinds.Hook hooks.ReadBeforeExecutionClient) ⨟ configuring) e k f

-- a list that is whole for one input, and hands on another, is whole for that too, and comes to the same
whole_alike : (p q : Payload) (l : List Entry) → IsWhole stops.None (start p) l → WellHanded (start q) l → IsWhole stops.None (start q) l × (answer_of (ended_at p l) ≡ answer_of (ended_at q l))
whole_alike p q l w h = elim (whole_begins_so p l w) [
  | inl (e, n, k, f) ↦
      subst (λ m. EachFits m → WellHanded (start q) m → IsWhole stops.None (start q) m × (answer_of (ended_at p m) ≡ answer_of (ended_at q m))) (sym n)
      (λ g i. (record { run = refused_run q e k (sym (failed_too p q e k) ∙ f); handed = i; fitting = g }, refused_too p q e k)) w.fitting h
  | inr (e, d, rest, n, k, j) ↦
      let a = (subst (λ m. WellHanded (start p) m) n w.handed).1.0 in
      let b = (subst (λ m. WellHanded (start q) m) n h).1.0 in
      let same = one_payload p q (input_of d.question) (handed_input p e d k j a) (handed_input q e d k j b) in
      subst (λ x. IsWhole stops.None (start x) l × (answer_of (ended_at p l) ≡ answer_of (ended_at x l))) same (w, refl)
]

module _ {O E : Type 0} (takes : Payload → Bool) (reads : Payload → O → Type 0) (takes_error : Payload → Bool) (reads_error : Payload → E → Type 0)
    (one : (p : Payload) (x y : O) → reads p x → reads p y → x ≡ y) (one_error : (p : Payload) (x y : E) → reads_error p x → reads_error p y → x ≡ y) where
  -- what is answered where this stands at the end of a whole run
  abbrev Given : Result Payload (SdkError Payload) → Result O (InvokeError E) → Type 0
  Given a (Ok x) = (o : Payload) × (a ≡ Ok o) × (takes o ≡ true) × reads o x
  Given a (Err (Sdk e)) = (d : SdkError Payload) × (a ≡ Err d) × ReadsError takes_error reads_error d e
  Given a (Err (WrongType q)) = Refused takes takes_error q a
  Given a (Err Unfinished) = ⊥
  Given a (Err OutOfMemory) = ⊥

  same_error : (d : SdkError Payload) (e f : SdkError E) → ReadsError takes_error reads_error d e → ReadsError takes_error reads_error d f → e ≡ f
  same_error (ConstructionFailure x) e f h g = h ∙ sym g
  same_error (TimeoutError x) e f h g = h ∙ sym g
  same_error (DispatchFailure x) e f h g = h ∙ sym g
  same_error (ResponseError x r) e f h g = h ∙ sym g
  same_error (ServiceError p r) e f (t, x, i, h) (u, y, j, g) = h ∙ ap (λ z. ServiceError z r) (one_error p x y i j) ∙ sym g

  not_service : (p : Payload) (r : HttpResponse) (d : SdkError Payload) (e : SdkError E) → d ≡ ServiceError p r → takes_error p ≡ false → ReadsError takes_error reads_error d e → ⊥
  not_service p r d e h t i = no_choice (takes_error p) t (subst (λ x. ReadsError takes_error reads_error x e) h i).0

  no_error : (o : Payload) (d : SdkError Payload) (a : Result Payload (SdkError Payload)) → a ≡ Ok o → a ≡ Err d → ⊥
  no_error o d a h g = subst IsOutput (sym h ∙ g) tt

  same_given : (a : Result Payload (SdkError Payload)) (r s : Result O (InvokeError E)) → Given a r → Given a s → r ≡ s
  same_given a (Ok x) (Ok y) (o, h, t, i) (q, g, u, j) = ap Ok (one q x y (subst (λ k. reads k x) (ap (payload_or o) (sym h ∙ g)) i) j)
  same_given a (Ok x) (Err (Sdk f)) (o, h, t, i) (d, g, j) = absurd (no_error o d a h g)
  same_given a (Ok x) (Err (WrongType q)) (o, h, t, i) (inl (g, u)) = absurd (no_choice (takes q) u (subst (λ k. takes k ≡ true) (ap (payload_or o) (sym h ∙ g)) t))
  same_given a (Ok x) (Err (WrongType q)) (o, h, t, i) (inr (r, g, u)) = absurd (no_error o (ServiceError q r) a h g)
  same_given a (Err (Sdk e)) (Ok y) (d, h, i) (o, g, u, j) = absurd (no_error o d a g h)
  same_given a (Err (Sdk e)) (Err (Sdk f)) (d, h, i) (k, g, j) = ap (λ z. Err (Sdk z)) (same_error k e f (subst (λ z. ReadsError takes_error reads_error z e) (ap (error_or d) (sym h ∙ g)) i) j)
  same_given a (Err (Sdk e)) (Err (WrongType q)) (d, h, i) (inl (g, u)) = absurd (no_error q d a g h)
  same_given a (Err (Sdk e)) (Err (WrongType q)) (d, h, i) (inr (r, g, u)) = absurd (not_service q r d e (ap (error_or d) (sym h ∙ g)) u i)
  same_given a (Err (WrongType q)) (Ok y) (inl (h, t)) (o, g, u, j) = absurd (no_choice (takes q) t (subst (λ k. takes k ≡ true) (ap (payload_or q) (sym g ∙ h)) u))
  same_given a (Err (WrongType q)) (Ok y) (inr (r, h, t)) (o, g, u, j) = absurd (no_error o (ServiceError q r) a g h)
  same_given a (Err (WrongType q)) (Err (Sdk f)) (inl (h, t)) (d, g, j) = absurd (no_error q d a h g)
  same_given a (Err (WrongType q)) (Err (Sdk f)) (inr (r, h, t)) (d, g, j) = absurd (not_service q r d f (ap (error_or d) (sym g ∙ h)) t j)
  same_given a (Err (WrongType q)) (Err (WrongType k)) (inl (h, t)) (inl (g, u)) = ap (λ z. Err (WrongType z)) (ap (payload_or q) (sym h ∙ g))
  same_given a (Err (WrongType q)) (Err (WrongType k)) (inl (h, t)) (inr (r, g, u)) = absurd (no_error q (ServiceError k r) a h g)
  same_given a (Err (WrongType q)) (Err (WrongType k)) (inr (r, h, t)) (inl (g, u)) = absurd (no_error k (ServiceError q r) a g h)
  same_given a (Err (WrongType q)) (Err (WrongType k)) (inr (r, h, t)) (inr (x, g, u)) = ap (λ z. Err (WrongType z)) (ap (payload_or q) (sym h ∙ g))
  same_given a (Err Unfinished) s h g = absurd h
  same_given a (Err OutOfMemory) s h g = absurd h
  same_given a r (Err Unfinished) h g = absurd g
  same_given a r (Err OutOfMemory) h g = absurd g

  -- an answer is that of the whole run that was made, or Unfinished where none was
  abbrev Determined : Payload → ℕ → Result O (InvokeError E) → List Entry → List Entry → Type 0
  Determined p fuel r before log = WholeRun p stops.None fuel before log (λ c. Given (answer_of c) r) ⊎ (UnfinishedRun p stops.None fuel before log × (r ≡ Err Unfinished))

  determined : (p : Payload) (fuel : ℕ) (before log : List Entry) (r : Result O (InvokeError E)) → HadMemory r → OperationAnswered takes reads takes_error reads_error p fuel r before log → Determined p fuel r before log
  determined p fuel before log (Ok x) h w = inl w
  determined p fuel before log (Err (Sdk e)) h w = inl w
  determined p fuel before log (Err (WrongType q)) h w = inl w
  determined p fuel before log (Err Unfinished) h u = inr (u, refl)
  determined p fuel before log (Err OutOfMemory) h u = absurd h

  same_answers : (p q : Payload) (fuel : ℕ) (before log : List Entry) (r s : Result O (InvokeError E)) → Determined p fuel r before log → Determined q fuel s before log → r ≡ s
  same_answers p q fuel before log r s (inl (l, x, b, w, e)) (inl (m, y, c, v, d)) =
      let same = append_cancel_left before l m (sym x ∙ y) in
      let t = whole_alike p q l w (subst (λ k. WellHanded (start q) k) (sym same) v.handed) in
      let moved : answer_of (ended_at p l) ≡ answer_of (ended_at q m) = t.1 ∙ ap (λ k. answer_of (ended_at q k)) same in
      same_given (answer_of (ended_at q m)) r s (subst (λ k. Given k r) moved e) d
  same_answers p q fuel before log r s (inl (l, x, b, w, e)) (inr ((m, y, c, (k, v), n), d)) =
      let same = append_cancel_left before l m (sym x ∙ y) in
      absurd (n (subst (λ o. IsWhole stops.None (start q) o) same (whole_alike p q l w (subst (λ o. WellHanded (start q) o) (sym same) (handed_of m k (start q) v.handed).0)).0))
  same_answers p q fuel before log r s (inr ((m, y, c, (k, v), n), d)) (inl (l, x, b, w, e)) =
      let same = append_cancel_left before l m (sym x ∙ y) in
      absurd (n (subst (λ o. IsWhole stops.None (start p) o) same (whole_alike q p l w (subst (λ o. WellHanded (start p) o) (sym same) (handed_of m k (start p) v.handed).0)).0))
  same_answers p q fuel before log r s (inr (u, e)) (inr (v, d)) = e ∙ sym d

  -- the same where both of the payloads are handed on as the list tells
  answers_alike : (p q : Payload) (fuel : ℕ) (before log : List Entry) (r s : Result O (InvokeError E)) → HadMemory r → HadMemory s →
      OperationAnswered takes reads takes_error reads_error p fuel r before log → OperationAnswered takes reads takes_error reads_error q fuel s before log → r ≡ s
  answers_alike p q fuel before log r s h i x y = same_answers p q fuel before log r s (determined p fuel before log r h x) (determined q fuel before log s i y)

  pub inputs_determined_of : {I : Type 0} (takes_input : Payload → Bool) (reads_input : Payload → I → Type 0) (i j : I) (fuel : ℕ) (before log : List Entry) (a b : Result O (InvokeError E)) → HadMemory a → HadMemory b →
      InputAnswered takes_input reads_input takes reads takes_error reads_error i fuel a before log → InputAnswered takes_input reads_input takes reads takes_error reads_error j fuel b before log → a ≡ b
  inputs_determined_of takes_input reads_input i j fuel before log a b h g (inl (p, t, e, x)) (inl (q, u, d, y)) = answers_alike p q fuel before log a b h g x y
  inputs_determined_of takes_input reads_input i j fuel before log a b h g (inr (e, x)) y = absurd (subst HadMemory e h)
  inputs_determined_of takes_input reads_input i j fuel before log a b h g x (inr (e, y)) = absurd (subst HadMemory e g)

pub inputs_determined : {I O E : Type 0} (takes_input : Payload → Bool) (reads_input : Payload → I → Type 0) (takes : Payload → Bool) (reads : Payload → O → Type 0) (takes_error : Payload → Bool) (reads_error : Payload → E → Type 0)
    (one : (p : Payload) (x y : O) → reads p x → reads p y → x ≡ y) (one_error : (p : Payload) (x y : E) → reads_error p x → reads_error p y → x ≡ y)
    (i j : I) (fuel : ℕ) (before log : List Entry) (a b : Result O (InvokeError E)) → HadMemory a → HadMemory b →
    InputAnswered takes_input reads_input takes reads takes_error reads_error i fuel a before log → InputAnswered takes_input reads_input takes reads takes_error reads_error j fuel b before log → a ≡ b
inputs_determined takes_input reads_input takes reads takes_error reads_error one one_error i j fuel before log a b h g x y =
    inputs_determined_of takes reads takes_error reads_error one one_error takes_input reads_input i j fuel before log a b h g x y
