-- Both finalizers once.
use Rattle.run_grammar.specs.declared.production.Test.TheVariants as tests
use Rattle.std.proofs.Common.{Bool, true, false, cond, ℕ, List, [], ◌∷◌, ◌++◌, ◌≡◌, ◌⊎◌, refl, sym, ap, ◌∙◌, subst, inl, inr}
use Rattle.smithy_types.specs.declared.hook.Hook.{Hook}
use Rattle.smithy_types.specs.declared.hook.Hook.TheVariants as hooks
use Rattle.run_grammar.specs.declared.kind.Role.{Role}
use Rattle.run_grammar.specs.declared.kind.Role.TheVariants as roles
use Rattle.run_grammar.specs.declared.kind.ConfigureStage.{ConfigureStage}
use Rattle.run_grammar.specs.declared.kind.ConfigureStage.TheVariants as stages
use Rattle.run_grammar.specs.declared.kind.Kind.{Kind}
use Rattle.run_grammar.specs.declared.kind.Kind.TheVariants as kinds
use Rattle.run_grammar.specs.declared.answer.Answer.{Answer}
use Rattle.run_grammar.specs.declared.answer.Answer.TheVariants as answers
use Rattle.run_grammar.specs.declared.answer.Entry.{Entry}
use Rattle.run_grammar.specs.Entry.{kind_of, pending, ready, fails, sets_failure}
use Rattle.run_grammar.specs.Standing.{State, standing, step}
use Rattle.run_grammar.specs.Production.{Production, Nothing, Work, ◌⨟◌, Where, Ended}
use Rattle.run_grammar.specs.Words.{Answered}
use Rattle.run_grammar.specs.Grammar.{configured}
use Rattle.run_grammar.specs.Tests.{failed}
use Rattle.run_grammar.specs.Attempts.{asked_of}
use Rattle.run_grammar.specs.Finals.{is_finalizer, is_configure, is_layer, EachConfigured, Finalized, FinalizersOnce}
use Rattle.run_grammar.proofs.Spots.{standing-append}
use Rattle.run_grammar.proofs.CaseProofs.{Ends, second, third}
use Rattle.run_grammar.proofs.Watch.{Class, Begins, Within, Modifies, Reads, Finalizes, Concludes, Other, hook_class, class_of, Stage, Outside, Open, Closed, Settling, CutOpen, CutSettling, CutOutside, Finishing, Over, Wrong, moved, may_wait, cut_at, abandons, Watch, Resting, Waiting, Cutting, waited, at_wait, watch, watched, stage}
use Rattle.run_grammar.proofs.Watching.{answered_alone}
use Rattle.run_grammar.proofs.Stages.{Fine, asked_stage, hook_moves, is_of, next_is, not_wrong, over_is_last}
use Rattle.run_grammar.proofs.WatchedRun.{watched_run}

-- the finalizers are still to come
yet : Stage → Bool
yet Finishing = false
yet Over = false
yet Wrong = false
yet _ = true

abbrev finalizing : Class → Bool
finalizing Finalizes = true
finalizing Concludes = true
finalizing _ = false

hook_finalizing : (h : Hook) → is_finalizer (kinds.Hook h) ≡ finalizing (hook_class h)
hook_finalizing hooks.ModifyBeforeCompletion = refl
hook_finalizing hooks.ReadAfterExecution = refl
hook_finalizing hooks.ReadBeforeAttempt = refl
hook_finalizing _ = refl

kind_finalizing : (k : Kind) → is_finalizer k ≡ finalizing (class_of k)
kind_finalizing (kinds.Hook h) = hook_finalizing h
kind_finalizing (kinds.Wait roles.Operation) = refl
kind_finalizing (kinds.Wait roles.Attempt) = refl
kind_finalizing (kinds.Wait _) = refl
kind_finalizing _ = refl

-- what an entry at such a stage does: it is no finalizer, or it is the first one
abbrev Steps : Stage → Kind → Type 0
Steps h k = ((yet h ≡ true) × (is_finalizer k ≡ false)) ⊎ ((h ≡ Finishing) × (class_of k ≡ Finalizes))

yet_moved : (g : Stage) (c : Class) (k : Kind) → class_of k ≡ c → (moved g c ≡ Wrong → ⊥) → yet g ≡ true → Steps (moved g c) k
unfolding yet
yet_moved Outside Begins k h n y = inl (refl, kind_finalizing k ∙ ap finalizing h)
yet_moved Outside Other k h n y = inl (refl, kind_finalizing k ∙ ap finalizing h)
yet_moved Outside Finalizes k h n y = inr (refl, h)
yet_moved Open Within k h n y = inl (refl, kind_finalizing k ∙ ap finalizing h)
yet_moved Open Modifies k h n y = inl (refl, kind_finalizing k ∙ ap finalizing h)
yet_moved Closed Modifies k h n y = inl (refl, kind_finalizing k ∙ ap finalizing h)
yet_moved Settling Reads k h n y = inl (refl, kind_finalizing k ∙ ap finalizing h)
yet_moved CutOpen Modifies k h n y = inl (refl, kind_finalizing k ∙ ap finalizing h)
yet_moved CutSettling Reads k h n y = inl (refl, kind_finalizing k ∙ ap finalizing h)
yet_moved CutOutside Finalizes k h n y = inr (refl, h)
yet_moved Finishing Concludes k h n y = absurd (cc)
yet_moved _ _ k h n y = absurd (n refl)

yet_waited : (may b c : Bool) (p : Entry) (d : Role) (g : Stage) → (stage (waited may b c p d g) ≡ Wrong → ⊥) → yet g ≡ true → yet (stage (waited may b c p d g)) ≡ true
yet_waited true true c p d g n y = y
yet_waited true false true p d g n y = y
yet_waited true false false p d g n y = absurd (n refl)
yet_waited false b c p d g n y = absurd (n refl)

yet_wait : (k : Kind) (b c : Bool) (p : Entry) (g : Stage) → (stage (at_wait k b c p g) ≡ Wrong → ⊥) → yet g ≡ true → Steps (stage (at_wait k b c p g)) k
yet_wait (kinds.Wait d) b c p g n y = inl (yet_waited (may_wait g d) b c p d g n y, refl)
yet_wait kinds.Park b c p g n y = inl (y, refl)
yet_wait _ b c p g n y = absurd (n refl)

yet_cut_at : (b : Bool) (d : Role) (g : Stage) → (cond b (cut_at d g) Wrong ≡ Wrong → ⊥) → yet (cond b (cut_at d g) Wrong) ≡ true
unfolding yet
yet_cut_at true roles.Operation Outside n = refl
yet_cut_at true roles.Operation Open n = refl
yet_cut_at true roles.Attempt Open n = refl
yet_cut_at _ _ _ n = absurd (n refl)

yet_cut : (k j : Kind) (d : Role) (g : Stage) → (cond (abandons g j k) (cut_at d g) Wrong ≡ Wrong → ⊥) → Steps (cond (abandons g j k) (cut_at d g) Wrong) k
yet_cut (kinds.Abandon x) j d g n = inl (yet_cut_at (abandons g j (kinds.Abandon x)) d g n, refl)
yet_cut _ j d g n = absurd (n refl)

steps : (m : Watch) (e : Entry) → (stage (watch m e) ≡ Wrong → ⊥) → yet (stage m) ≡ true → Steps (stage (watch m e)) (kind_of e)
steps (Resting g) e n y =
    let s = asked_stage (pending e) e (moved g (class_of (kind_of e))) in
    subst (λ i. Steps i (kind_of e)) (sym s) (yet_moved g (class_of (kind_of e)) (kind_of e) refl (λ w. n (s ∙ w)) y)
steps (Waiting p g) e n y = yet_wait (kind_of e) (pending e) (ready e) p g n y
steps (Cutting p d g) e n y = yet_cut (kind_of e) (kind_of p) d g n

-- only a watch that rests is at the stage behind the first finalizer
rests_waited : (may b c : Bool) (p : Entry) (d : Role) (g : Stage) → yet g ≡ true → stage (waited may b c p d g) ≡ Finishing → ⊥
unfolding yet
rests_waited true true c p d g y h = let f = sym y ∙ ap yet h in cc
rests_waited true false true p d g y h = let f = sym y ∙ ap yet h in cc
rests_waited true false false p d g y h = cc
rests_waited false b c p d g y h = cc

rests_wait : (k : Kind) (b c : Bool) (p : Entry) (g : Stage) → yet g ≡ true → stage (at_wait k b c p g) ≡ Finishing → ⊥
unfolding yet
rests_wait (kinds.Wait d) b c p g y h = rests_waited (may_wait g d) b c p d g y h
rests_wait kinds.Park b c p g y h = let f = sym y ∙ ap yet h in cc
rests_wait _ b c p g y h = cc

rests : (m : Watch) (e : Entry) → yet (stage m) ≡ true → stage (watch m e) ≡ Finishing → class_of (kind_of e) ≡ Finalizes → watch m e ≡ Resting Finishing
rests (Resting g) e y h c =
    let w = hook_moves g e hooks.ModifyBeforeCompletion (is_of Finalizes (kind_of e) c) in w ∙ ap Resting (sym (ap stage w) ∙ h)
rests (Waiting p g) e y h c = absurd (rests_wait (kind_of e) (pending e) (ready e) p g y h)
rests (Cutting p d g) e y h c = ap Resting h

-- from the first finalizer on
concluded : (e : Entry) (l : List Entry) (n : Watch) → class_of (kind_of e) ≡ Finalizes → n ≡ Resting Finishing → Fine (watched n l) → Finalized (e ∷ l)
concluded e l n c h f =
    let (r, m, g, k, w) = next_is Finishing l refl (subst (λ o. Fine (watched o l)) h f) in
    ([], e, r, ap (λ o. e ∷ o) (g ∙ ap (λ o. r ∷ o) (over_is_last m w)), refl, is_of Finalizes (kind_of e) c, k)

one_more : (e : Entry) (l : List Entry) → is_finalizer (kind_of e) ≡ false → Finalized l → Finalized (e ∷ l)
one_more e l h (a, m, r, g, n, j, k) =
    (e ∷ a, m, r, ap (λ o. e ∷ o) g, ap (λ b. cond b (kind_of e ∷ asked_of is_finalizer a) (asked_of is_finalizer a)) h ∙ n, j, k)

finalized : (l : List Entry) (m : Watch) → watched m l ≡ Resting Over → yet (stage m) ≡ true → Finalized l
unfolding yet
finalized [] m h y = absurd (let f = sym y ∙ ap (λ o. yet (stage o)) h in cc)
finalized (e ∷ l) m h y =
    elim (steps m e (not_wrong l (watch m e) (inl h)) y) [
      | inl (z, k) ↦ one_more e l k (finalized l (watch m e) h z)
      | inr (g, c) ↦ concluded e l (watch m e) c (rests m e y g c) (inl h)
    ]

-- where each Configure answered Layer the configuration does not end early
layer_stands : (stage : ConfigureStage) (n : ℕ) (a : Answer) → is_layer a ≡ true → sets_failure (kinds.Configure stage) n a ≡ false
layer_stands stage n (answers.Layer l) h = refl
layer_stands stage n _ h = absurd (cc)

configure_stands : (n : ℕ) (e : Entry) (stage : ConfigureStage) → kind_of e ≡ kinds.Configure stage → cond (is_configure (kind_of e)) (is_layer e.answer) true ≡ true → fails n e ≡ false
unfolding fails
configure_stands n e stage k h =
    ap (λ j. sets_failure j n e.answer) k ∙ layer_stands stage n e.answer (sym (ap (λ j. cond (is_configure j) (is_layer e.answer) true) k) ∙ h)

-- no word of it, each of whose Configures answered Layer, ends with a failure; and the same where nothing failed before it
abbrev Stands : Production → Type 0
Stands p = (s : State) (l : List Entry) → EachConfigured l → Ends p s l → failed (standing s l) ≡ true → ⊥

abbrev StandsOn : Production → Type 0
StandsOn p = (s : State) (l : List Entry) → failed s ≡ false → EachConfigured l → Ends p s l → failed (standing s l) ≡ true → ⊥

configured_split : (a b : List Entry) → EachConfigured (a ++ b) → EachConfigured a × EachConfigured b
configured_split [] b h = (tt, h)
configured_split (e ∷ a) b (h, g) = let r = configured_split a b g in ((h, r.0), r.1)

failed_behind : (s : State) (l a b : List Entry) → l ≡ a ++ b → failed (standing s l) ≡ true → failed (standing (standing s a) b) ≡ true
failed_behind s l a b e h = subst (λ t. failed t ≡ true) (ap (λ o. standing s o) e ∙ standing-append a b s) h

-- a Configure, and then p where it did not fail
answer_stands : (stage : ConfigureStage) (s : State) (a : List Entry) → EachConfigured a → Answered (kinds.Configure stage) a → failed (standing s a) ≡ false
unfolding failed step
answer_stands stage s a c (x, n, k, q) = ap (λ o. failed (standing s o)) n ∙ configure_stands (standing s (x ∷ [])).context.context.view.attempt x stage k (subst EachConfigured n c).0

stands_then : (stage : ConfigureStage) (p : Production) → StandsOn p → Stands (Work (kinds.Configure stage) ⨟ Where tests.Failed Nothing p)
stands_then stage p f s l c (inl (a, b, e, v, w)) h =
    let d = configured_split a b (subst EachConfigured e c) in
    let g = answer_stands stage s a d.0 (answered_alone (kinds.Configure stage) [] Ended s a refl v) in
    f (standing s a) b g d.1 (subst (λ t. cond t (Ends Nothing (standing s a) b) (Ends p (standing s a) b)) g w) (failed_behind s l a b e h)
stands_then stage p f s l c (inr (n, w)) h = absurd (cc)

-- a hook, and then such
stands_behind : (h : Hook) (p : Production) → Stands p → Stands (Work (kinds.Hook h) ⨟ p)
stands_behind h p f s l c (inl (a, b, e, v, w)) g = f (standing s a) b (configured_split a b (subst EachConfigured e c)).1 w (failed_behind s l a b e g)
stands_behind h p f s l c (inr (n, w)) g = absurd (cc)

nothing_stands : StandsOn Nothing
nothing_stands s l f c w h = let g = sym f ∙ ap (λ o. failed (standing s o)) (sym w.1) ∙ h in cc

third_stands : Stands (third Nothing)
third_stands = stands_behind hooks.ReadBeforeExecutionOperation (Work (kinds.Configure stages.Final) ⨟ Where tests.Failed Nothing Nothing) (stands_then stages.Final Nothing nothing_stands)

second_stands : Stands (second Nothing)
second_stands =
    stands_behind hooks.ReadBeforeExecutionClient (Work (kinds.Configure stages.Operation) ⨟ Where tests.Failed Nothing (third Nothing))
    (stands_then stages.Operation (third Nothing) (λ s l f. third_stands s l))

configured_stands : Stands (configured Nothing)
configured_stands = stands_then stages.Client (second Nothing) (λ s l f. second_stands s l)

pub finalizers_once : FinalizersOnce
unfolding yet
finalizers_once stop s l w c =
    elim (watched_run stop s l w.run) [ inl h ↦ finalized l (Resting Outside) h refl | inr (h, r) ↦ absurd (configured_stands s l c r.0 r.1) ]
