-- Up to the first grant no attempt is made, or an outcome stands.
use Rattle.run_grammar.specs.Tests.{holds}
use Rattle.std.proofs.Common.{Bool, true, false, cond, ℕ, nat_eq, Option, None, Some, List, ◌≡◌, refl, sym, ap, ◌∙◌, subst, inl, inr}
use Rattle.smithy_types.specs.declared.hook.Hook.{Hook}
use Rattle.smithy_context.specs.declared.intercept.Change.{Change}
use Rattle.smithy_context.specs.declared.intercept.Change.TheVariants as changes
use Rattle.smithy_types.specs.declared.kinds.Phase.TheVariants as phases
use Rattle.run_grammar.specs.declared.kind.ConfigureStage.{ConfigureStage}
use Rattle.run_grammar.specs.declared.kind.ConfigureStage.TheVariants as stages
use Rattle.run_grammar.specs.declared.kind.Role.{Role}
use Rattle.run_grammar.specs.declared.kind.Role.TheVariants as roles
use Rattle.run_grammar.specs.declared.kind.Kind.{Kind}
use Rattle.run_grammar.specs.declared.kind.Kind.TheVariants as kinds
use Rattle.run_grammar.specs.declared.answer.Answer.{Answer}
use Rattle.run_grammar.specs.declared.answer.Answer.TheVariants as answers
use Rattle.run_grammar.specs.declared.answer.Entry.{Entry}
use Rattle.run_grammar.specs.declared.standing.Standing.{Standing}
use Rattle.smithy_context.specs.Hooks.{writes_input, writes_request, writes_response, writes_outcome}
use Rattle.run_grammar.specs.Entry.{kind_of}
use Rattle.run_grammar.specs.Question.{nanos_of}
use Rattle.run_grammar.specs.Fits.{fits}
use Rattle.run_grammar.specs.Change.{changed, or_fails, on_configure, on_hook, on_serialize, on_load, on_start, on_wait, written_by, merged_into, hook_failed, with_outcome, with_input, with_request, with_response, with_phase, serializing, loads_body}
use Rattle.run_grammar.specs.Standing.{State, standing, step}
use Rattle.run_grammar.specs.Production.{Production, Nothing, Work, ◌⨟◌, Where, Rounds, Again, InAttempt, Under, End, Ended, Further, CutBy}
use Rattle.run_grammar.specs.Words.{Word}
use Rattle.run_grammar.specs.Laws.{EachFits}
use Rattle.run_grammar.proofs.Paths.{fits_of}
use Rattle.run_grammar.proofs.Outcomes.{Unbegun, either_way, is_calm, kept_stands}
use Rattle.run_grammar.proofs.OutcomeWords.{joined, worked_keeps}

-- the questions that may come before the first grant is answered
abbrev pub is_early : Kind → Bool
is_early (kinds.Configure w) = true
is_early (kinds.Hook h) = true
is_early kinds.Serialize = true
is_early kinds.Load = true
is_early (kinds.Start roles.Operation) = true
is_early (kinds.Start roles.Send) = true
is_early (kinds.Wait r) = true
is_early kinds.Park = true
is_early _ = false

-- ---- none of them changes the attempt's number

abbrev number : Standing → ℕ
number s = s.context.view.attempt

number_or_fails : (s : Standing) (a : Answer) → number (or_fails s a) ≡ number s
number_or_fails s (answers.Failed t) = refl
number_or_fails s answers.Absent = refl
number_or_fails s _ = refl

number_configure : (w : ConfigureStage) (s : Standing) (a : Answer) → number (on_configure w s a) ≡ number s
number_configure stages.Client s (answers.Layer l) = refl
number_configure stages.Operation s (answers.Layer l) = refl
number_configure stages.Final s (answers.Layer l) = refl
number_configure w s a = number_or_fails s a

number_written : (h : Hook) (s : Standing) (c : Option Change) → number (written_by h s c) ≡ number s
number_written h s None = refl
number_written h s (Some (changes.Input p)) = either_way (λ t. number t ≡ number s) (writes_input h) (with_input s p) s refl refl
number_written h s (Some (changes.Request r)) = either_way (λ t. number t ≡ number s) (writes_request h) (with_request s r) s refl refl
number_written h s (Some (changes.Response r)) = either_way (λ t. number t ≡ number s) (writes_response h) (with_response s r) s refl refl
number_written h s (Some (changes.Outcome o)) = either_way (λ t. number t ≡ number s) (writes_outcome h) (with_outcome s o) s refl refl

number_failed : (h : Hook) (s : Standing) (t : Option (List ℕ)) → number (hook_failed h s t) ≡ number s
number_failed h s None = refl
number_failed h s (Some t) = refl

number_hook : (h : Hook) (s : Standing) (a : Answer) → number (on_hook h s a) ≡ number s
number_hook h s (answers.Hooked a) = number_failed h (merged_into (written_by h s a.change) a.settings) a.failure ∙ number_written h s a.change
number_hook h s _ = refl

number_serialize : (s : Standing) (a : Answer) → number (on_serialize s a) ≡ number s
number_serialize s (answers.Request r) =
    let t = with_request (serializing s) r in
    either_way (λ u. number u ≡ number s) (loads_body t.context.view.settings) t (with_phase t phases.BeforeTransmit) refl refl
number_serialize s a = number_or_fails (serializing s) a

number_load : (s : Standing) (a : Answer) → number (on_load s a) ≡ number s
number_load s (answers.Loaded b) = refl
number_load s a = number_or_fails s a

number_start : (r : Role) (n : Option ℕ) (s : Standing) (a : Answer) → is_early (kinds.Start r) ≡ true → number (on_start r n s a) ≡ number s
number_start roles.Operation n s answers.Started c = refl
number_start roles.Send n s answers.Absent c = refl
number_start roles.Attempt n s a c = absurd (cc)
number_start roles.Retry n s a c = absurd (cc)
number_start roles.LongPoll n s a c = absurd (cc)
number_start _ n s _ c = refl

number_wait : (r : Role) (s : Standing) (a : Answer) → number (on_wait r s a) ≡ number s
number_wait roles.Operation s answers.Ready = refl
number_wait roles.Attempt s answers.Ready = refl
number_wait _ s _ = refl

number_kept : (k : Kind) (n : Option ℕ) (a : Answer) (s : Standing) → is_early k ≡ true → number (changed k n a s) ≡ number s
unfolding changed
number_kept (kinds.Configure w) n a s c = number_configure w s a
number_kept (kinds.Hook h) n a s c = number_hook h s a
number_kept kinds.Serialize n a s c = number_serialize s a
number_kept kinds.Load n a s c = number_load s a
number_kept (kinds.Start r) n a s c = number_start r n s a c
number_kept (kinds.Wait r) n a s c = number_wait r s a
number_kept kinds.Park n a s c = refl
number_kept _ n a s c = absurd (cc)

early_calm : (k : Kind) → is_early k ≡ true → is_calm k ≡ true
early_calm (kinds.Configure w) c = refl
early_calm (kinds.Hook h) c = refl
early_calm kinds.Serialize c = refl
early_calm kinds.Load c = refl
early_calm (kinds.Start roles.Operation) c = refl
early_calm (kinds.Start roles.Send) c = refl
early_calm (kinds.Wait r) c = refl
early_calm kinds.Park c = refl
early_calm _ c = absurd (cc)

-- ---- along words

abbrev pub Unbegins : State → Type 0
Unbegins s = Unbegun s.context

unbegun_kept : (k : Kind) (n : Option ℕ) (a : Answer) (s : Standing) → is_early k ≡ true → fits k a ≡ true → Unbegun s → Unbegun (changed k n a s)
unbegun_kept k n a s c f (inl e) = inl (ap (λ m. nat_eq m 0) (number_kept k n a s c) ∙ e)
unbegun_kept k n a s c f (inr h) = inr (kept_stands k n a s (early_calm k c) f h)

early_step : (s : State) (e : Entry) → is_early (kind_of e) ≡ true → fits (kind_of e) e.answer ≡ true → Unbegins s → Unbegins (step s e)
unfolding step
early_step s e c f h = unbegun_kept (kind_of e) (nanos_of e.question) e.answer s.context c f h

-- only such questions, and no scope of a deadline
abbrev pub early : Production → Bool
early Nothing = true
early Again = true
early (Work k) = is_early k
early (p ⨟ q) = cond (early p) (early q) false
early (Where t p q) = cond (early p) (early q) false
early (Rounds p q) = false
early (InAttempt p) = false
early (Under d p q) = false

abbrev pub uncut : End → Bool
uncut Ended = true
uncut Further = true
uncut (CutBy d i) = false

both_early : (a b : Bool) → cond a b false ≡ true → (a ≡ true) × (b ≡ true)
both_early true b h = (refl, h)
both_early false b h = absurd (cc)

pub unbegun_on : (p : Production) → early p ≡ true → (ds : List Role) (x : End) (s : State) (l : List Entry) → uncut x ≡ true → EachFits l → Word p ds x s l → Unbegins s → Unbegins (standing s l)
unbegun_on Nothing c ds x s l u f (e, n) h = subst (λ m. Unbegins (standing s m)) (sym n) h
unbegun_on Again c ds x s l u f (e, n) h = subst (λ m. Unbegins (standing s m)) (sym n) h
unbegun_on (Work k) c ds x s l u f (inl (e, (n, w))) h = worked_keeps Unbegins is_early refl (λ d. refl) early_step k ds n l s c f w h
unbegun_on (Work k) c ds x s l u f (inr (d, e, w)) h = absurd (let z = sym u ∙ ap uncut e in cc)
unbegun_on (p ⨟ q) c ds x s l u f (inl (a, b, e, v, w)) h =
    let g = both_early (early p) (early q) c in
    let y = fits_of a b (subst EachFits e f) in
    joined Unbegins a b l s e (unbegun_on q g.1 ds x (standing s a) b u y.1 w (unbegun_on p g.0 ds Ended s a refl y.0 v h))
unbegun_on (p ⨟ q) c ds x s l u f (inr (e, w)) h = unbegun_on p (both_early (early p) (early q) c).0 ds x s l u f w h
unbegun_on (Where t p q) c ds x s l u f w h =
    let g = both_early (early p) (early q) c in
    (elim (holds t s) as (λ b. cond b (Word p ds x s l) (Word q ds x s l) → Unbegins (standing s l)) [
      | true ↦ λ v. unbegun_on p g.0 ds x s l u f v h
      | false ↦ λ v. unbegun_on q g.1 ds x s l u f v h
    ]) w
unbegun_on (Rounds p q) c ds x s l u f w h = absurd (cc)
unbegun_on (InAttempt p) c ds x s l u f w h = absurd (cc)
unbegun_on (Under d p q) c ds x s l u f w h = absurd (cc)
