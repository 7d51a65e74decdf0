-- What the watcher's stages say of the entries to come.
use Rattle.std.proofs.Common.{Bool, true, false, cond, List, [], ◌∷◌, ◌≡◌, ◌⊎◌, refl, sym, ap, ◌∙◌, subst, inl, inr}
use Rattle.smithy_types.specs.declared.hook.Hook.{Hook}
use Rattle.smithy_types.specs.declared.hook.Hook.TheVariants as hooks
use Rattle.run_grammar.specs.declared.kind.Role.{Role}
use Rattle.run_grammar.specs.declared.kind.Role.TheVariants as roles
use Rattle.run_grammar.specs.declared.kind.Kind.{Kind}
use Rattle.run_grammar.specs.declared.kind.Kind.TheVariants as kinds
use Rattle.run_grammar.specs.declared.answer.Entry.{Entry}
use Rattle.run_grammar.specs.Entry.{kind_of, pending, ready}
use Rattle.run_grammar.proofs.Watch.{Class, Begins, Modifies, Reads, Finalizes, Concludes, Parks, hook_class, class_of, Stage, Outside, Closed, Settling, CutOpen, CutSettling, CutOutside, Finishing, Over, Wrong, moved, cut_at, abandons, Watch, Resting, Waiting, Cutting, asked_at, at_wait, watch, watched, stage}
use Rattle.run_grammar.proofs.Watching.{not_pending}

-- a watch at which a whole list may end
abbrev pub Fine : Watch → Type 0
Fine m = (m ≡ Resting Over) ⊎ (m ≡ Resting Outside)

pub asked_stage : (b : Bool) (e : Entry) (g : Stage) → stage (asked_at b e g) ≡ g
asked_stage true e g = refl
asked_stage false e g = refl

-- a wrong stage stays wrong
wrong_wait : (k : Kind) (b c : Bool) (p : Entry) → stage (at_wait k b c p Wrong) ≡ Wrong
wrong_wait (kinds.Wait d) b c p = refl
wrong_wait kinds.Park b c p = refl
wrong_wait _ b c p = refl

wrong_cut : (d : Role) (b : Bool) → cond b (cut_at d Wrong) Wrong ≡ Wrong
wrong_cut d false = refl
wrong_cut roles.Operation true = refl
wrong_cut roles.Attempt true = refl
wrong_cut _ true = refl

wrong_stays : (m : Watch) (e : Entry) → stage m ≡ Wrong → stage (watch m e) ≡ Wrong
wrong_stays (Resting g) e h = asked_stage (pending e) e (moved g (class_of (kind_of e))) ∙ ap (λ i. moved i (class_of (kind_of e))) h
wrong_stays (Waiting p g) e h = ap (λ i. stage (at_wait (kind_of e) (pending e) (ready e) p i)) h ∙ wrong_wait (kind_of e) (pending e) (ready e) p
wrong_stays (Cutting p d g) e h = ap (λ i. cond (abandons i (kind_of p) (kind_of e)) (cut_at d i) Wrong) h ∙ wrong_cut d (abandons Wrong (kind_of p) (kind_of e))

fine_here : (m : Watch) → Fine m → stage m ≡ Wrong → ⊥
fine_here m (inl e) h = let f = sym (ap stage e) ∙ h in cc
fine_here m (inr e) h = let f = sym (ap stage e) ∙ h in cc

pub not_wrong : (l : List Entry) (m : Watch) → Fine (watched m l) → stage m ≡ Wrong → ⊥
not_wrong [] m f h = fine_here m f h
not_wrong (e ∷ l) m f h = not_wrong l (watch m e) f (wrong_stays m e h)

-- the hook that a class stands for
abbrev pub IsOf : Class → Kind → Type 0
IsOf Begins k = k ≡ kinds.Hook hooks.ReadBeforeAttempt
IsOf Modifies k = k ≡ kinds.Hook hooks.ModifyBeforeAttemptCompletion
IsOf Reads k = k ≡ kinds.Hook hooks.ReadAfterAttempt
IsOf Finalizes k = k ≡ kinds.Hook hooks.ModifyBeforeCompletion
IsOf Concludes k = k ≡ kinds.Hook hooks.ReadAfterExecution
IsOf _ k = Unit {0}

hook_is_of : (h : Hook) → IsOf (hook_class h) (kinds.Hook h)
hook_is_of hooks.ReadBeforeAttempt = refl
hook_is_of hooks.ModifyBeforeAttemptCompletion = refl
hook_is_of hooks.ReadAfterAttempt = refl
hook_is_of hooks.ModifyBeforeCompletion = refl
hook_is_of hooks.ReadAfterExecution = refl
hook_is_of _ = tt

is_of_class : (k : Kind) → IsOf (class_of k) k
is_of_class (kinds.Hook h) = hook_is_of h
is_of_class (kinds.Wait roles.Operation) = tt
is_of_class (kinds.Wait roles.Attempt) = tt
is_of_class (kinds.Wait _) = tt
is_of_class _ = tt

pub is_of : (c : Class) (k : Kind) → class_of k ≡ c → IsOf c k
is_of c k h = subst (λ d. IsOf d k) h (is_of_class k)

-- the stages from which one hook alone leads on
abbrev pub one_way : Stage → Bool
one_way Closed = true
one_way Settling = true
one_way CutOpen = true
one_way CutSettling = true
one_way CutOutside = true
one_way Finishing = true
one_way _ = false

abbrev pub way : Stage → Class
way Closed = Modifies
way Settling = Reads
way CutOpen = Modifies
way CutSettling = Reads
way CutOutside = Finalizes
way Finishing = Concludes
way _ = Parks

abbrev pub way_hook : Stage → Hook
way_hook Closed = hooks.ModifyBeforeAttemptCompletion
way_hook Settling = hooks.ReadAfterAttempt
way_hook CutOpen = hooks.ModifyBeforeAttemptCompletion
way_hook CutSettling = hooks.ReadAfterAttempt
way_hook CutOutside = hooks.ModifyBeforeCompletion
way_hook _ = hooks.ReadAfterExecution

only_way : (g : Stage) (c : Class) → one_way g ≡ true → (c ≡ way g) ⊎ (moved g c ≡ Wrong)
only_way Closed Modifies h = inl refl
only_way Closed _ h = inr refl
only_way Settling Reads h = inl refl
only_way Settling _ h = inr refl
only_way CutOpen Modifies h = inl refl
only_way CutOpen _ h = inr refl
only_way CutSettling Reads h = inl refl
only_way CutSettling _ h = inr refl
only_way CutOutside Finalizes h = inl refl
only_way CutOutside _ h = inr refl
only_way Finishing Concludes h = inl refl
only_way Finishing _ h = inr refl
only_way _ c h = absurd (cc)

way_is : (g : Stage) (k : Kind) → one_way g ≡ true → IsOf (way g) k → k ≡ kinds.Hook (way_hook g)
way_is Closed k h i = i
way_is Settling k h i = i
way_is CutOpen k h i = i
way_is CutSettling k h i = i
way_is CutOutside k h i = i
way_is Finishing k h i = i
way_is _ k h i = absurd (cc)

-- the first entry is the hook that leads on
abbrev pub Next : Stage → List Entry → Type 0
Next g l = (e : Entry) × (r : List Entry) × (l ≡ e ∷ r) × (kind_of e ≡ kinds.Hook (way_hook g)) × Fine (watched (Resting (moved g (way g))) r)

not_over : (g : Stage) → one_way g ≡ true → Fine (Resting g) → ⊥
not_over g h (inl e) = let f = sym h ∙ ap (λ m. one_way (stage m)) e in cc
not_over g h (inr e) = let f = sym h ∙ ap (λ m. one_way (stage m)) e in cc

pub hook_moves : (g : Stage) (e : Entry) (h : Hook) → kind_of e ≡ kinds.Hook h → watch (Resting g) e ≡ Resting (moved g (hook_class h))
hook_moves g e h i =
    ap (λ b. asked_at b e (moved g (class_of (kind_of e)))) (not_pending e (kinds.Hook h) i refl) ∙ ap (λ k. Resting (moved g (class_of k))) i

pub next_is : (g : Stage) (l : List Entry) → one_way g ≡ true → Fine (watched (Resting g) l) → Next g l
next_is g [] h f = absurd (not_over g h f)
next_is g (e ∷ r) h f =
    elim (only_way g (class_of (kind_of e)) h) [
      | inl c ↦
          let k = way_is g (kind_of e) h (is_of (way g) (kind_of e) c) in
          let s : watch (Resting g) e ≡ Resting (moved g (way g)) = hook_moves g e (way_hook g) k ∙ ap (λ i. Resting (moved g i)) (sym (ap class_of k) ∙ c) in
          (e, r, refl, k, subst (λ m. Fine (watched m r)) s f)
      | inr w ↦ absurd (not_wrong r (watch (Resting g) e) f (asked_stage (pending e) e (moved g (class_of (kind_of e))) ∙ w))
    ]

pub over_is_last : (l : List Entry) → Fine (watched (Resting Over) l) → l ≡ []
over_is_last [] f = refl
over_is_last (e ∷ l) f = absurd (not_wrong l (watch (Resting Over) e) f (asked_stage (pending e) e Wrong))
