-- A configuration that fails ends the run.
use Rattle.run_grammar.specs.declared.production.Test.TheVariants as tests
use Rattle.std.proofs.Common.{true, false, cond, ℕ, Option, None, Some, List, [], ◌∷◌, ◌++◌, ◌≡◌, refl, sym, ap, ◌∙◌, subst, inl, inr}
use Rattle.smithy_types.specs.declared.hook.Hook.{Hook}
use Rattle.smithy_types.specs.declared.hook.Hook.TheVariants as hooks
use Rattle.smithy_types.specs.declared.kinds.Phase.{Phase}
use Rattle.smithy_types.specs.declared.kinds.Phase.TheVariants as phases
use Rattle.smithy_types.specs.declared.kinds.StopPoint.{StopPoint}
use Rattle.smithy_types.specs.declared.kinds.StopPoint.TheVariants as stops
use Rattle.smithy_context.specs.declared.intercept.Change.{Change}
use Rattle.smithy_context.specs.declared.intercept.Change.TheVariants as changes
use Rattle.run_grammar.specs.declared.kind.ConfigureStage.{ConfigureStage}
use Rattle.run_grammar.specs.declared.kind.ConfigureStage.TheVariants as stages
use Rattle.run_grammar.specs.declared.kind.Kind.TheVariants as kinds
use Rattle.run_grammar.specs.declared.answer.Answer.{Answer}
use Rattle.run_grammar.specs.declared.answer.Answer.TheVariants as answers
use Rattle.run_grammar.specs.declared.answer.Entry.{Entry}
use Rattle.run_grammar.specs.declared.standing.Standing.{Standing}
use Rattle.smithy_context.specs.Hooks.{writes_input, writes_request, writes_response, writes_outcome}
use Rattle.run_grammar.specs.Entry.{kind_of, fails, sets_failure}
use Rattle.run_grammar.specs.Question.{nanos_of}
use Rattle.run_grammar.specs.Fits.{fits}
use Rattle.run_grammar.specs.Change.{changed, on_configure, on_hook, written_by, merged_into, hook_failed, with_outcome, with_input, with_request, with_response}
use Rattle.run_grammar.specs.Standing.{State, standing, start, step}
use Rattle.run_grammar.specs.Tests.{failed}
use Rattle.run_grammar.specs.Production.{Production, Nothing, Work, ◌⨟◌, Where, Ended}
use Rattle.run_grammar.specs.Words.{Word}
use Rattle.run_grammar.specs.Grammar.{configured, run}
use Rattle.run_grammar.specs.Laws.{EachFits}
use Rattle.run_grammar.specs.Finals.{is_configure, is_layer}
use Rattle.run_grammar.specs.Refusals.{FailedUnmade, ConfigurationsEnd}
use Rattle.run_grammar.proofs.CaseProofs.{Ends, body}
use Rattle.run_grammar.proofs.Outcomes.{either_way}
use Rattle.run_grammar.proofs.Avoiding.{Avoids, Aside, avoids, word_avoids}
use Rattle.run_grammar.proofs.Watching.{answered_alone}

abbrev phase : Standing → Phase
phase s = s.context.phase

abbrev Unmade : State → Type 0
Unmade s = phase s.context ≡ phases.BeforeSerialization

-- ---- the questions of the configuration leave the phase as it is

phase_configure : (w : ConfigureStage) (s : Standing) (a : Answer) → phase (on_configure w s a) ≡ phase s
phase_configure stages.Client s (answers.Layer l) = refl
phase_configure stages.Operation s (answers.Layer l) = refl
phase_configure stages.Final s (answers.Layer l) = refl
phase_configure w s (answers.Failed t) = refl
phase_configure w s answers.Absent = refl
phase_configure w s _ = refl

phase_written : (h : Hook) (s : Standing) (c : Option Change) → phase (written_by h s c) ≡ phase s
phase_written h s None = refl
phase_written h s (Some (changes.Input p)) = either_way (λ t. phase t ≡ phase s) (writes_input h) (with_input s p) s refl refl
phase_written h s (Some (changes.Request r)) = either_way (λ t. phase t ≡ phase s) (writes_request h) (with_request s r) s refl refl
phase_written h s (Some (changes.Response r)) = either_way (λ t. phase t ≡ phase s) (writes_response h) (with_response s r) s refl refl
phase_written h s (Some (changes.Outcome o)) = either_way (λ t. phase t ≡ phase s) (writes_outcome h) (with_outcome s o) s refl refl

phase_failed : (h : Hook) (s : Standing) (t : Option (List ℕ)) → phase (hook_failed h s t) ≡ phase s
phase_failed h s None = refl
phase_failed h s (Some t) = refl

phase_hook : (h : Hook) (s : Standing) (a : Answer) → phase (on_hook h s a) ≡ phase s
phase_hook h s (answers.Hooked a) = phase_failed h (merged_into (written_by h s a.change) a.settings) a.failure ∙ phase_written h s a.change
phase_hook h s _ = refl

after_configure : (s : State) (e : Entry) (w : ConfigureStage) → kind_of e ≡ kinds.Configure w → Unmade s → Unmade (step s e)
unfolding step changed
after_configure s e w k h = subst (λ j. phase (changed j (nanos_of e.question) e.answer s.context) ≡ phases.BeforeSerialization) (sym k) (phase_configure w s.context e.answer ∙ h)

after_hook : (s : State) (e : Entry) (h : Hook) → kind_of e ≡ kinds.Hook h → Unmade s → Unmade (step s e)
unfolding step changed
after_hook s e h k u = subst (λ j. phase (changed j (nanos_of e.question) e.answer s.context) ≡ phases.BeforeSerialization) (sym k) (phase_hook h s.context e.answer ∙ u)

-- ---- a Configure that isn't answered Layer fails

refuses : (w : ConfigureStage) (n : ℕ) (a : Answer) → fits (kinds.Configure w) a ≡ true → is_layer a ≡ false → sets_failure (kinds.Configure w) n a ≡ true
unfolding fits
refuses w n (answers.Layer l) f h = absurd (cc)
refuses w n (answers.Failed t) f h = refl
refuses w n answers.Absent f h = refl
refuses w n _ f h = absurd (cc)

refuses_entry : (s : State) (e : Entry) (w : ConfigureStage) → kind_of e ≡ kinds.Configure w → fits (kind_of e) e.answer ≡ true → is_layer e.answer ≡ false → failed (step s e) ≡ true
unfolding failed fails step
refuses_entry s e w k f h =
    subst (λ j. sets_failure j (changed (kind_of e) (nanos_of e.question) e.answer s.context).context.view.attempt e.answer ≡ true) (sym k)
    (refuses w (changed (kind_of e) (nanos_of e.question) e.answer s.context).context.view.attempt e.answer (subst (λ j. fits j e.answer ≡ true) k f) h)

abbrev Unmade_failure : Standing → Type 0
Unmade_failure s = FailedUnmade (record { context = s; last = None })

leaves_failure : (w : ConfigureStage) (s : Standing) (a : Answer) → fits (kinds.Configure w) a ≡ true → is_layer a ≡ false → phase s ≡ phases.BeforeSerialization → Unmade_failure (on_configure w s a)
unfolding fits
leaves_failure w s (answers.Layer l) f h u = absurd (cc)
leaves_failure w s (answers.Failed t) f h u = (t, refl, u)
leaves_failure w s answers.Absent f h u = (_, refl, u)
leaves_failure w s _ f h u = absurd (cc)

failed_unmade : (s : State) (e : Entry) (w : ConfigureStage) → kind_of e ≡ kinds.Configure w → fits (kind_of e) e.answer ≡ true → is_layer e.answer ≡ false → Unmade s → FailedUnmade (step s e)
unfolding step changed
failed_unmade s e w k f h u =
    subst (λ j. Unmade_failure (changed j (nanos_of e.question) e.answer s.context)) (sym k) (leaves_failure w s.context e.answer (subst (λ j. fits j e.answer ≡ true) k f) h u)

-- ---- along words

-- a Configure that isn't answered Layer is the last entry, and leaves such a failure
LastRefusal : State → List Entry → Type 0
LastRefusal s [] = Unit {0}
LastRefusal s (e ∷ l) = (is_configure (kind_of e) ≡ true → is_layer e.answer ≡ false → (l ≡ []) × FailedUnmade (step s e)) × LastRefusal (step s e) l

abbrev Bars : Production → Type 0
Bars p = (s : State) (l : List Entry) → EachFits l → Unmade s → Ends p s l → LastRefusal s l

beside : Aside is_configure
beside = record { waits = λ d. refl; parks = refl; gives_up = λ x. refl }

none_refused : (l : List Entry) (s : State) → Avoids is_configure l → LastRefusal s l
unfolding LastRefusal
none_refused [] s n = tt
none_refused (e ∷ l) s n = (λ h. absurd (let z = sym n.0 ∙ h in cc), none_refused l (step s e) n.1)

bars_avoiding : (p : Production) → avoids is_configure p ≡ true → Bars p
bars_avoiding p a s l f u w = none_refused l s (word_avoids is_configure beside p a [] Ended s l w)

after_answer : (s : State) (e : Entry) (b : List Entry) (q : Production) → Bars q → EachFits b → Unmade (step s e) → Word (Where tests.Failed Nothing q) [] Ended (step s e) b → LastRefusal (step s e) b
unfolding LastRefusal
after_answer s e b q g f u w =
    (elim (failed (step s e)) as (λ c. cond c (Word Nothing [] Ended (step s e) b) (Word q [] Ended (step s e) b) → LastRefusal (step s e) b) [
      | true ↦ λ v. subst (λ m. LastRefusal (step s e) m) (sym v.1) tt
      | false ↦ λ v. g (step s e) b f u v
    ]) w

bars_configure : (w : ConfigureStage) (q : Production) → Bars q → Bars (Work (kinds.Configure w) ⨟ Where tests.Failed Nothing q)
unfolding LastRefusal
bars_configure w q g s l f u (inl (a, b, x, v, z)) =
    let r = answered_alone (kinds.Configure w) [] Ended s a refl v in
    let e = r.0 in
    let n : l ≡ e ∷ b = x ∙ ap (λ m. m ++ b) r.1 in
    let h = subst EachFits n f in
    let y = subst (λ m. Word (Where tests.Failed Nothing q) [] Ended (standing s m) b) r.1 z in
    subst (LastRefusal s) (sym n) (
      λ c i. (
        (subst (λ t. cond t (Word Nothing [] Ended (step s e) b) (Word q [] Ended (step s e) b)) (refuses_entry s e w r.2 h.0 i) y).1,
        failed_unmade s e w r.2 h.0 i u,
      ),
      after_answer s e b q g h.1 (after_configure s e w r.2 u) y,
    )
bars_configure w q g s l f u (inr (x, v)) = absurd (cc)

bars_hook : (h : Hook) (q : Production) → Bars q → Bars (Work (kinds.Hook h) ⨟ q)
unfolding LastRefusal
bars_hook h q g s l f u (inl (a, b, x, v, z)) =
    let r = answered_alone (kinds.Hook h) [] Ended s a refl v in
    let e = r.0 in
    let n : l ≡ e ∷ b = x ∙ ap (λ m. m ++ b) r.1 in
    let i = subst EachFits n f in
    subst (LastRefusal s) (sym n) (
      λ c. absurd (let o = sym (ap is_configure r.2) ∙ c in cc),
      g (step s e) b i.1 (after_hook s e h r.2 u) (subst (λ m. Word q [] Ended (standing s m) b) r.1 z),
    )
bars_hook h q g s l f u (inr (x, v)) = absurd (cc)

body_avoids : (stop : StopPoint) → avoids is_configure (body stop) ≡ true
body_avoids stops.None = refl
body_avoids stops.BeforeTransmit = refl

bars_configured : (p : Production) → Bars p → Bars (configured p)
bars_configured p g =
    let last = bars_configure stages.Final p g in
    let third = bars_hook hooks.ReadBeforeExecutionOperation (Work (kinds.Configure stages.Final) ⨟ Where tests.Failed Nothing p) last in
    let second = bars_configure stages.Operation (Work (kinds.Hook hooks.ReadBeforeExecutionOperation) ⨟ Work (kinds.Configure stages.Final) ⨟ Where tests.Failed Nothing p) third in
    let first = bars_hook hooks.ReadBeforeExecutionClient (Work (kinds.Configure stages.Operation) ⨟ Where tests.Failed Nothing (Work (kinds.Hook hooks.ReadBeforeExecutionOperation) ⨟ Work (kinds.Configure stages.Final) ⨟ Where tests.Failed Nothing p)) second in
    bars_configure stages.Client (Work (kinds.Hook hooks.ReadBeforeExecutionClient) ⨟ Work (kinds.Configure stages.Operation) ⨟ Where tests.Failed Nothing (Work (kinds.Hook hooks.ReadBeforeExecutionOperation) ⨟ Work (kinds.Configure stages.Final) ⨟ Where tests.Failed Nothing p)) first

refusal_at : (before : List Entry) (e : Entry) (after : List Entry) (s : State) → LastRefusal s (before ++ e ∷ after) → is_configure (kind_of e) ≡ true → is_layer e.answer ≡ false →
    (after ≡ []) × FailedUnmade (standing s (before ++ e ∷ []))
unfolding LastRefusal
refusal_at [] e after s g c h = g.0 c h
refusal_at (x ∷ before) e after s g c h = refusal_at before e after (step s x) g.1 c h

pub configurations_end : ConfigurationsEnd
unfolding run
configurations_end stop p before e after w c h =
    refusal_at before e after (start p) (bars_configured (body stop) (bars_avoiding (body stop) (body_avoids stop)) (start p) (before ++ e ∷ after) w.fitting refl w.run) c h
