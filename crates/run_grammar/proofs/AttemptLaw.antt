-- Each attempt has its two completion hooks once.
use Rattle.std.proofs.Common.{Bool, true, false, cond, List, [], ◌∷◌, ◌≡◌, refl, sym, ap, ◌∙◌, subst, inl, inr}
use Rattle.smithy_types.specs.declared.hook.Hook.{Hook}
use Rattle.smithy_types.specs.declared.hook.Hook.TheVariants as hooks
use Rattle.run_grammar.specs.declared.kind.Role.{Role}
use Rattle.run_grammar.specs.declared.kind.Role.TheVariants as roles
use Rattle.run_grammar.specs.declared.kind.Kind.{Kind}
use Rattle.run_grammar.specs.declared.kind.Kind.TheVariants as kinds
use Rattle.run_grammar.specs.declared.answer.Entry.{Entry}
use Rattle.run_grammar.specs.Entry.{kind_of, pending, ready}
use Rattle.run_grammar.specs.Attempts.{begins_attempt, is_completion, asked_of, up_to_attempt, attempts, EachCompleted, AttemptsComplete}
use Rattle.run_grammar.proofs.Watch.{Class, Begins, Within, Modifies, Reads, Finalizes, Concludes, Other, hook_class, class_of, Stage, Outside, Open, Closed, Settling, CutOpen, CutSettling, CutOutside, Finishing, Wrong, moved, may_wait, cut_at, abandons, Watch, Resting, Waiting, Cutting, waited, at_wait, watch, watched, stage}
use Rattle.run_grammar.proofs.Stages.{Fine, asked_stage, not_wrong, is_of}
use Rattle.run_grammar.proofs.WatchedRun.{run_fine}

-- the completion hooks that are due at a stage
due : Stage → List Kind
due Open = kinds.Hook hooks.ModifyBeforeAttemptCompletion ∷ kinds.Hook hooks.ReadAfterAttempt ∷ []
due Closed = kinds.Hook hooks.ModifyBeforeAttemptCompletion ∷ kinds.Hook hooks.ReadAfterAttempt ∷ []
due CutOpen = kinds.Hook hooks.ModifyBeforeAttemptCompletion ∷ kinds.Hook hooks.ReadAfterAttempt ∷ []
due Settling = kinds.Hook hooks.ReadAfterAttempt ∷ []
due CutSettling = kinds.Hook hooks.ReadAfterAttempt ∷ []
due _ = []

-- these come up to the next attempt, and all later attempts are completed
abbrev Due : List Kind → List Entry → Type 0
Due k l = (asked_of is_completion (up_to_attempt l) ≡ k) × EachCompleted (attempts l)

skip : (e : Entry) (l : List Entry) (k : List Kind) → begins_attempt (kind_of e) ≡ false → is_completion (kind_of e) ≡ false → Due k l → Due k (e ∷ l)
skip e l k h i (d, c) = (
  ap (λ b. asked_of is_completion (cond b [] (e ∷ up_to_attempt l))) h ∙ ap (λ b. cond b (kind_of e ∷ asked_of is_completion (up_to_attempt l)) (asked_of is_completion (up_to_attempt l))) i ∙ d,
  subst (λ b. EachCompleted (cond b ((e ∷ up_to_attempt l) ∷ attempts l) (attempts l))) (sym h) c,
)

completes : (e : Entry) (l : List Entry) (j : Kind) (k : List Kind) → kind_of e ≡ j → begins_attempt j ≡ false → is_completion j ≡ true → Due k l → Due (j ∷ k) (e ∷ l)
completes e l j k g h i (d, c) = (
  ap (λ b. asked_of is_completion (cond b [] (e ∷ up_to_attempt l))) (ap begins_attempt g ∙ h)
      ∙ ap (λ b. cond b (kind_of e ∷ asked_of is_completion (up_to_attempt l)) (asked_of is_completion (up_to_attempt l))) (ap is_completion g ∙ i)
      ∙ ap (λ a. a ∷ asked_of is_completion (up_to_attempt l)) g ∙ ap (λ m. j ∷ m) d,
  subst (λ b. EachCompleted (cond b ((e ∷ up_to_attempt l) ∷ attempts l) (attempts l))) (sym (ap begins_attempt g ∙ h)) c,
)

begins : (e : Entry) (l : List Entry) → kind_of e ≡ kinds.Hook hooks.ReadBeforeAttempt →
    Due (kinds.Hook hooks.ModifyBeforeAttemptCompletion ∷ kinds.Hook hooks.ReadAfterAttempt ∷ []) l → Due [] (e ∷ l)
begins e l g (d, c) = (
  ap (λ b. asked_of is_completion (cond b [] (e ∷ up_to_attempt l))) (ap begins_attempt g),
  subst (λ b. EachCompleted (cond b ((e ∷ up_to_attempt l) ∷ attempts l) (attempts l))) (sym (ap begins_attempt g))
      (ap (λ b. cond b (kind_of e ∷ asked_of is_completion (up_to_attempt l)) (asked_of is_completion (up_to_attempt l))) (ap is_completion g) ∙ d, c),
)

-- neither begins an attempt nor completes one
abbrev aside : Class → Bool
aside Begins = false
aside Modifies = false
aside Reads = false
aside _ = true

hook_aside : (h : Hook) → aside (hook_class h) ≡ true → (begins_attempt (kinds.Hook h) ≡ false) × (is_completion (kinds.Hook h) ≡ false)
hook_aside hooks.ReadBeforeAttempt i = absurd (cc)
hook_aside hooks.ModifyBeforeAttemptCompletion i = absurd (cc)
hook_aside hooks.ReadAfterAttempt i = absurd (cc)
hook_aside _ i = (refl, refl)

kind_aside : (k : Kind) → aside (class_of k) ≡ true → (begins_attempt k ≡ false) × (is_completion k ≡ false)
kind_aside (kinds.Hook h) i = hook_aside h i
kind_aside _ i = (refl, refl)

skip_class : (e : Entry) (l : List Entry) (c : Class) (k : List Kind) → class_of (kind_of e) ≡ c → aside c ≡ true → Due k l → Due k (e ∷ l)
skip_class e l c k h i d = let f = kind_aside (kind_of e) (ap aside h ∙ i) in skip e l k f.0 f.1 d

due_moved : (g : Stage) (c : Class) (e : Entry) (l : List Entry) → class_of (kind_of e) ≡ c → (moved g c ≡ Wrong → ⊥) → Due (due (moved g c)) l → Due (due g) (e ∷ l)
unfolding due
due_moved Outside Begins e l h n d = begins e l (is_of Begins (kind_of e) h) d
due_moved Outside Other e l h n d = skip_class e l Other [] h refl d
due_moved Outside Finalizes e l h n d = skip_class e l Finalizes [] h refl d
due_moved Open Within e l h n d = skip_class e l Within (due Open) h refl d
due_moved Open Modifies e l h n d = completes e l (kinds.Hook hooks.ModifyBeforeAttemptCompletion) (due Settling) (is_of Modifies (kind_of e) h) refl refl d
due_moved Closed Modifies e l h n d = completes e l (kinds.Hook hooks.ModifyBeforeAttemptCompletion) (due Settling) (is_of Modifies (kind_of e) h) refl refl d
due_moved Settling Reads e l h n d = completes e l (kinds.Hook hooks.ReadAfterAttempt) [] (is_of Reads (kind_of e) h) refl refl d
due_moved CutOpen Modifies e l h n d = completes e l (kinds.Hook hooks.ModifyBeforeAttemptCompletion) (due Settling) (is_of Modifies (kind_of e) h) refl refl d
due_moved CutSettling Reads e l h n d = completes e l (kinds.Hook hooks.ReadAfterAttempt) [] (is_of Reads (kind_of e) h) refl refl d
due_moved CutOutside Finalizes e l h n d = skip_class e l Finalizes [] h refl d
due_moved Finishing Concludes e l h n d = skip_class e l Concludes [] h refl d
due_moved _ _ e l h n d = absurd (n refl)

due_waited : (may b c : Bool) (p : Entry) (d : Role) (g : Stage) → (stage (waited may b c p d g) ≡ Wrong → ⊥) → stage (waited may b c p d g) ≡ g
due_waited true true c p d g n = refl
due_waited true false true p d g n = refl
due_waited true false false p d g n = absurd (n refl)
due_waited false b c p d g n = absurd (n refl)

-- a wait leaves the stage
due_wait : (k : Kind) (b c : Bool) (p e : Entry) (g : Stage) (l : List Entry) → kind_of e ≡ k → (stage (at_wait k b c p g) ≡ Wrong → ⊥) → Due (due (stage (at_wait k b c p g))) l →
    Due (due g) (e ∷ l)
due_wait (kinds.Wait d) b c p e g l h n t =
    skip e l (due g) (ap begins_attempt h) (ap is_completion h) (subst (λ i. Due (due i) l) (due_waited (may_wait g d) b c p d g n) t)
due_wait kinds.Park b c p e g l h n t = skip e l (due g) (ap begins_attempt h) (ap is_completion h) t
due_wait _ b c p e g l h n t = absurd (n refl)

due_cut_at : (d : Role) (g : Stage) → (cut_at d g ≡ Wrong → ⊥) → due (cut_at d g) ≡ due g
unfolding due
due_cut_at roles.Operation Outside n = refl
due_cut_at roles.Operation Open n = refl
due_cut_at roles.Attempt Open n = refl
due_cut_at _ _ n = absurd (n refl)

due_given_up : (b : Bool) (d : Role) (g : Stage) → (cond b (cut_at d g) Wrong ≡ Wrong → ⊥) → due (cond b (cut_at d g) Wrong) ≡ due g
due_given_up true d g n = due_cut_at d g n
due_given_up false d g n = absurd (n refl)

due_cut : (k j : Kind) (d : Role) (e : Entry) (g : Stage) (l : List Entry) → kind_of e ≡ k → (cond (abandons g j k) (cut_at d g) Wrong ≡ Wrong → ⊥) →
    Due (due (cond (abandons g j k) (cut_at d g) Wrong)) l → Due (due g) (e ∷ l)
due_cut (kinds.Abandon x) j d e g l h n t =
    skip e l (due g) (ap begins_attempt h) (ap is_completion h) (subst (λ k. Due k l) (due_given_up (abandons g j (kinds.Abandon x)) d g n) t)
due_cut _ j d e g l h n t = absurd (n refl)

due_back : (m : Watch) (e : Entry) (l : List Entry) → (stage (watch m e) ≡ Wrong → ⊥) → Due (due (stage (watch m e))) l → Due (due (stage m)) (e ∷ l)
due_back (Resting g) e l n t =
    let s = asked_stage (pending e) e (moved g (class_of (kind_of e))) in
    due_moved g (class_of (kind_of e)) e l refl (λ w. n (s ∙ w)) (subst (λ i. Due (due i) l) s t)
due_back (Waiting p g) e l n t = due_wait (kind_of e) (pending e) (ready e) p e g l refl n t
due_back (Cutting p d g) e l n t = due_cut (kind_of e) (kind_of p) d e g l refl n t

due_fine : (m : Watch) → Fine m → due (stage m) ≡ []
unfolding due
due_fine m (inl e) = ap (λ n. due (stage n)) e
due_fine m (inr e) = ap (λ n. due (stage n)) e

all_due : (l : List Entry) (m : Watch) → Fine (watched m l) → Due (due (stage m)) l
all_due [] m f = (sym (due_fine m f), tt)
all_due (e ∷ l) m f = due_back m e l (not_wrong l (watch m e) f) (all_due l (watch m e) f)

pub attempts_complete : AttemptsComplete
unfolding due
attempts_complete stop s l w = all_due l (Resting Outside) (run_fine stop s l w.run)
