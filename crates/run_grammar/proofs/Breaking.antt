-- Lists that break a law are not whole.
use Rattle.std.proofs.Common.{Bool, true, false, cond, List, [], ◌∷◌, ◌++◌, ◌≡◌, refl, sym, ap, ◌∙◌, subst}
use Rattle.run_grammar.specs.declared.kind.Role.TheVariants as roles
use Rattle.run_grammar.specs.declared.kind.Kind.{Kind}
use Rattle.run_grammar.specs.declared.kind.Kind.TheVariants as kinds
use Rattle.smithy_types.specs.declared.hook.Hook.TheVariants as hooks
use Rattle.run_grammar.specs.declared.answer.Entry.{Entry}
use Rattle.run_grammar.specs.Entry.{kind_of, is_wait_of_deadline}
use Rattle.run_grammar.specs.Attempts.{asked_of, attempts, begins_attempt, Completed, EachCompleted, is_completion, up_to_attempt}
use Rattle.run_grammar.specs.Finals.{is_finalizer}
use Rattle.run_grammar.specs.Scopes.{is_of_attempt, kinds_of, still_open, the_finalizers, with_completion}
use Rattle.run_grammar.specs.Breaks.{NoLateQuestion, NoMissingFinalizers, NoOpenAttempt}
use Rattle.run_grammar.proofs.AttemptLaw.{attempts_complete}
use Rattle.run_grammar.proofs.FinalLaw.{finalizers_once}
use Rattle.run_grammar.proofs.ScopeLaw.{attempt_scopes_end, operation_scopes_end}

-- an attempt of a list stands in it with all entries up to the next one
here_completed : (b : Bool) (e : Entry) (m : List Entry) → b ≡ true → EachCompleted (cond b ((e ∷ up_to_attempt m) ∷ attempts m) (attempts m)) → Completed (e ∷ up_to_attempt m)
here_completed true e m h c = c.0
here_completed false e m h c = absurd (cc)

later : (b : Bool) (x : Entry) (l : List Entry) → EachCompleted (cond b ((x ∷ up_to_attempt l) ∷ attempts l) (attempts l)) → EachCompleted (attempts l)
later true x l c = c.1
later false x l c = c

completed_there : (l : List Entry) (e : Entry) (m : List Entry) → begins_attempt (kind_of e) ≡ true → EachCompleted (attempts (l ++ e ∷ m)) → Completed (e ∷ up_to_attempt m)
completed_there [] e m h c = here_completed (begins_attempt (kind_of e)) e m h c
completed_there (x ∷ l) e m h c = completed_there l e m h (later (begins_attempt (kind_of x)) x (l ++ e ∷ m) c)

-- where the whole list asks none, its front asks none
none_first : (b : Bool) (k : Kind) (l : List Kind) → cond b (k ∷ l) l ≡ [] → (b ≡ false) × (l ≡ [])
none_first true k l h = absurd (cc)
none_first false k l h = (refl, h)

none_more : (b : Bool) (x : Entry) (m : List Entry) → is_completion (kind_of x) ≡ false → asked_of is_completion (up_to_attempt m) ≡ [] →
    asked_of is_completion (cond b [] (x ∷ up_to_attempt m)) ≡ []
none_more true x m h n = refl
none_more false x m h n = ap (λ c. cond c (kind_of x ∷ asked_of is_completion (up_to_attempt m)) (asked_of is_completion (up_to_attempt m))) h ∙ n

none_up_to : (m : List Entry) → asked_of is_completion m ≡ [] → asked_of is_completion (up_to_attempt m) ≡ []
none_up_to [] h = refl
none_up_to (x ∷ m) h =
    let f = none_first (is_completion (kind_of x)) (kind_of x) (asked_of is_completion m) h in none_more (begins_attempt (kind_of x)) x m f.0 (none_up_to m f.1)

begins_only : (k : Kind) → begins_attempt k ≡ true → is_completion k ≡ false
begins_only (kinds.Hook hooks.ReadBeforeAttempt) h = refl
begins_only (kinds.Hook hooks.ModifyBeforeAttemptCompletion) h = absurd (cc)
begins_only _ h = absurd (cc)

pub no_open_attempt : NoOpenAttempt
no_open_attempt stop s l e m h n w =
    let c = completed_there l e m h (attempts_complete stop s (l ++ e ∷ m) w).1 in
    let f = ap (λ b. cond b (kind_of e ∷ asked_of is_completion (up_to_attempt m)) (asked_of is_completion (up_to_attempt m))) (begins_only (kind_of e) h) ∙ none_up_to m n in
    let g = sym f ∙ c in cc

-- the entry asks a finalizer, wherever it stands
asked_behind : (a : List Entry) (e : Entry) (m : List Entry) → is_finalizer (kind_of e) ≡ true → asked_of is_finalizer (a ++ e ∷ m) ≡ [] → ⊥
asked_behind [] e m h n = let f = none_first (is_finalizer (kind_of e)) (kind_of e) (asked_of is_finalizer m) n in let g = sym h ∙ f.0 in cc
asked_behind (x ∷ a) e m h n = asked_behind a e m h (none_first (is_finalizer (kind_of x)) (kind_of x) (asked_of is_finalizer (a ++ e ∷ m)) n).1

pub no_missing_finalizers : NoMissingFinalizers
no_missing_finalizers stop s l c n w =
    let (a, m, r, e, x, k, j) = finalizers_once stop s l w c in asked_behind a m (r ∷ []) (ap is_finalizer k) (subst (λ o. asked_of is_finalizer o ≡ []) e n)

first_kind : (b : Bool) (k : Kind) (l : List Kind) → k ∷ l ≡ with_completion b the_finalizers → is_of_attempt k ≡ false
first_kind true k l h = let f : k ≡ kinds.Hook hooks.ModifyBeforeAttemptCompletion = cc in ap is_of_attempt f
first_kind false k l h = let f : k ≡ kinds.Hook hooks.ModifyBeforeCompletion = cc in ap is_of_attempt f

late_kind : (k : Kind) → is_of_attempt k ≡ true → is_of_attempt k ≡ false → ⊥
late_kind k h i = let f = sym h ∙ i in cc

pub no_late_question : NoLateQuestion
no_late_question stop s before e a late after d r h w = late_in (kind_of e) refl d
  where
    late_in : (k : Kind) → kind_of e ≡ k → is_wait_of_deadline k ≡ true → ⊥
    late_in (kinds.Wait roles.Operation) g i =
        let (x, rest, n, y, z) = operation_scopes_end stop s before e (a ∷ late ∷ after) w g r in
        let f : late ∷ after ≡ rest = cc in
        late_kind (kind_of late) h (first_kind (still_open false before) (kind_of late) (kinds_of after) (ap kinds_of f ∙ z))
    late_in (kinds.Wait roles.Attempt) g i =
        let (x, m, z, rest, n, y, k, o, p) = attempt_scopes_end stop s before e (a ∷ late ∷ after) w g r in
        let f : late ≡ m = cc in
        late_kind (kind_of late) h (ap is_of_attempt (ap kind_of f ∙ k))
    late_in _ g i = absurd (cc)
