-- Nothing of its scope follows a deadline that is over.
use Rattle.std.proofs.Common.{Bool, true, false, cond, Option, None, Some, List, [], ◌∷◌, ◌++◌, ◌≡◌, ◌⊎◌, refl, sym, ap, ◌∙◌, subst, inl, inr}
use Rattle.smithy_types.specs.declared.hook.Hook.{Hook}
use Rattle.smithy_types.specs.declared.hook.Hook.TheVariants as hooks
use Rattle.run_grammar.specs.declared.kind.Abandonable.{Abandonable}
use Rattle.run_grammar.specs.declared.kind.Abandonable.TheVariants as abandoned
use Rattle.run_grammar.specs.declared.kind.Role.{Role}
use Rattle.run_grammar.specs.declared.kind.Role.TheVariants as roles
use Rattle.run_grammar.specs.declared.kind.Kind.{Kind}
use Rattle.run_grammar.specs.declared.kind.Kind.TheVariants as kinds
use Rattle.run_grammar.specs.declared.answer.Answer.{Answer}
use Rattle.run_grammar.specs.declared.answer.Answer.TheVariants as answers
use Rattle.run_grammar.specs.declared.answer.Entry.{Entry}
use Rattle.run_grammar.specs.Entry.{kind_of, pending, ready, can_wait, is_pending, is_ready, abandon_of, is_wait_of_deadline}
use Rattle.run_grammar.specs.Attempts.{asked_of, begins_attempt, up_to_attempt}
use Rattle.run_grammar.specs.Scopes.{is_of_attempt, abandoned_of_attempt, completes_attempt, still_open, last_asked, kinds_of, the_finalizers, with_completion, AttemptOver, OperationOver, AttemptScopesEnd, OperationScopesEnd}
use Rattle.run_grammar.proofs.Watch.{Class, Begins, Within, Modifies, Reads, Finalizes, Concludes, Awaits, Other, hook_class, class_of, Stage, Outside, Open, Closed, Settling, CutOpen, CutSettling, CutOutside, Finishing, Over, Wrong, moved, may_wait, cut_at, lets, gives_up, abandons, both, is_abandon_of, Watch, Resting, Waiting, Cutting, asked_at, waited, at_wait, after_cutting, watch, watched, stage}
use Rattle.run_grammar.proofs.Stages.{Fine, Next, asked_stage, is_of, way, way_hook, next_is, not_wrong, over_is_last}
use Rattle.run_grammar.proofs.WatchedRun.{run_fine}

-- ---- before the deadline is over

is_open : Stage → Bool
is_open Open = true
is_open Closed = true
is_open CutOpen = true
is_open _ = false

-- whether an attempt is open, and what waits, are those of the watch
abbrev Holds : Watch → Option Entry → Bool → Type 0
Holds (Resting g) o b = b ≡ is_open g
Holds (Waiting p g) o b = (o ≡ Some p) × (pending p ≡ true) × (b ≡ is_open g)
Holds (Cutting p d g) o b = b ≡ is_open g

abbrev opened : Class → Bool → Bool
opened Begins b = true
opened Modifies b = false
opened _ b = b

abbrev open_by : Kind → Bool → Bool
open_by k b = cond (begins_attempt k) true (cond (completes_attempt k) false b)

abbrev last_by : Kind → Option Entry → Entry → Option Entry
last_by k o e = cond (is_wait_of_deadline k) o (Some e)

hook_opened : (h : Hook) (b : Bool) → open_by (kinds.Hook h) b ≡ opened (hook_class h) b
hook_opened hooks.ReadBeforeAttempt b = refl
hook_opened hooks.ModifyBeforeAttemptCompletion b = refl
hook_opened _ b = refl

kind_opened : (k : Kind) (b : Bool) → open_by k b ≡ opened (class_of k) b
kind_opened (kinds.Hook h) b = hook_opened h b
kind_opened (kinds.Wait roles.Operation) b = refl
kind_opened (kinds.Wait roles.Attempt) b = refl
kind_opened (kinds.Wait _) b = refl
kind_opened _ b = refl

open_moved : (g : Stage) (c : Class) (b : Bool) → (moved g c ≡ Wrong → ⊥) → b ≡ is_open g → opened c b ≡ is_open (moved g c)
unfolding is_open
open_moved Outside Begins b n h = refl
open_moved Outside Other b n h = h
open_moved Outside Finalizes b n h = h
open_moved Open Within b n h = h
open_moved Open Modifies b n h = refl
open_moved Closed Modifies b n h = refl
open_moved Settling Reads b n h = h
open_moved CutOpen Modifies b n h = refl
open_moved CutSettling Reads b n h = h
open_moved CutOutside Finalizes b n h = h
open_moved Finishing Concludes b n h = h
open_moved _ _ b n h = absurd (n refl)

-- no deadline's Wait moves a stage
wrong_await : (g : Stage) → moved g Awaits ≡ Wrong
wrong_await Outside = refl
wrong_await _ = refl

no_wait : (g : Stage) (k : Kind) → (moved g (class_of k) ≡ Wrong → ⊥) → is_wait_of_deadline k ≡ false
no_wait g (kinds.Wait roles.Operation) n = absurd (n (wrong_await g))
no_wait g (kinds.Wait roles.Attempt) n = absurd (n (wrong_await g))
no_wait g (kinds.Wait _) n = refl
no_wait g _ n = refl

holds_asked : (q : Bool) (e : Entry) (o : Option Entry) (b : Bool) (g : Stage) → pending e ≡ q → o ≡ Some e → b ≡ is_open g → Holds (asked_at q e g) o b
holds_asked true e o b g p h i = (h, p, i)
holds_asked false e o b g p h i = i

deadline_waits : (g : Stage) (d : Role) → may_wait g d ≡ true → is_wait_of_deadline (kinds.Wait d) ≡ true
deadline_waits Outside roles.Operation h = refl
deadline_waits Open roles.Operation h = refl
deadline_waits Open roles.Attempt h = refl
deadline_waits _ _ h = absurd (cc)

holds_waited : (may q r : Bool) (p : Entry) (d : Role) (g : Stage) (o : Option Entry) (b : Bool) → (stage (waited may q r p d g) ≡ Wrong → ⊥) →
    (may ≡ true → o ≡ Some p) → pending p ≡ true → b ≡ is_open g → Holds (waited may q r p d g) o b
holds_waited true true r p d g o b n f h i = (f refl, h, i)
holds_waited true false true p d g o b n f h i = i
holds_waited true false false p d g o b n f h i = absurd (n refl)
holds_waited false q r p d g o b n f h i = absurd (n refl)

holds_wait : (k : Kind) (q r : Bool) (p e : Entry) (g : Stage) (o : Option Entry) (b : Bool) → (stage (at_wait k q r p g) ≡ Wrong → ⊥) → o ≡ Some p → pending p ≡ true → b ≡ is_open g →
    Holds (at_wait k q r p g) (last_by k o e) (open_by k b)
holds_wait (kinds.Wait d) q r p e g o b n f h i =
    holds_waited (may_wait g d) q r p d g (last_by (kinds.Wait d) o e) b n (λ m. ap (λ t. cond t o (Some e)) (deadline_waits g d m) ∙ f) h i
holds_wait kinds.Park q r p e g o b n f h i = i
holds_wait _ q r p e g o b n f h i = absurd (n refl)

open_cut : (c : Bool) (d : Role) (g : Stage) → (cond c (cut_at d g) Wrong ≡ Wrong → ⊥) → is_open (cond c (cut_at d g) Wrong) ≡ is_open g
unfolding is_open
open_cut true roles.Operation Outside n = refl
open_cut true roles.Operation Open n = refl
open_cut true roles.Attempt Open n = refl
open_cut _ _ _ n = absurd (n refl)

holds_cut : (k j : Kind) (d : Role) (g : Stage) (b : Bool) → (cond (abandons g j k) (cut_at d g) Wrong ≡ Wrong → ⊥) → b ≡ is_open g →
    open_by k b ≡ is_open (cond (abandons g j k) (cut_at d g) Wrong)
holds_cut (kinds.Abandon x) j d g b n h = h ∙ sym (open_cut (abandons g j (kinds.Abandon x)) d g n)
holds_cut _ j d g b n h = absurd (n refl)

holds_on : (m : Watch) (e : Entry) (o : Option Entry) (b : Bool) → (stage (watch m e) ≡ Wrong → ⊥) → Holds m o b → Holds (watch m e) (last_by (kind_of e) o e) (open_by (kind_of e) b)
holds_on (Resting g) e o b n h =
    let s = asked_stage (pending e) e (moved g (class_of (kind_of e))) in
    let f : moved g (class_of (kind_of e)) ≡ Wrong → ⊥ = λ w. n (s ∙ w) in
    holds_asked (pending e) e (last_by (kind_of e) o e) (open_by (kind_of e) b) (moved g (class_of (kind_of e))) refl
    (ap (λ t. cond t o (Some e)) (no_wait g (kind_of e) f)) (kind_opened (kind_of e) b ∙ open_moved g (class_of (kind_of e)) b f h)
holds_on (Waiting p g) e o b n (f, h, i) = holds_wait (kind_of e) (pending e) (ready e) p e g o b n f h i
holds_on (Cutting p d g) e o b n h = holds_cut (kind_of e) (kind_of p) d g b n h

-- ---- the deadline is over

ready_tells : (a : Answer) → is_ready a ≡ true → is_pending a ≡ false
ready_tells answers.Ready h = refl
ready_tells _ h = absurd (cc)

not_both : (c : Bool) (a : Answer) → is_pending a ≡ false → cond c (is_pending a) false ≡ false
not_both true a h = h
not_both false a h = refl

ready_ends : (e : Entry) → ready e ≡ true → pending e ≡ false
unfolding ready pending
ready_ends e h = not_both (can_wait (kind_of e)) e.answer (ready_tells e.answer h)

-- a question waited, and the deadline may cut it
abbrev Cuts : Role → Option Entry → Bool → List Entry → Type 0
Cuts d o b after = (p : Entry) × (g : Stage) × (o ≡ Some p) × (pending p ≡ true) × (b ≡ is_open g) × (may_wait g d ≡ true) × Fine (watched (Cutting p d g) after)

cuts_waited : (may : Bool) (p : Entry) (d : Role) (g : Stage) (l : List Entry) → Fine (watched (waited may false true p d g) l) → (may ≡ true) × Fine (watched (Cutting p d g) l)
cuts_waited true p d g l f = (refl, f)
cuts_waited false p d g l f = absurd (not_wrong l (Resting Wrong) f refl)

cuts : (m : Watch) (d : Role) (e : Entry) (after : List Entry) (o : Option Entry) (b : Bool) → is_wait_of_deadline (kinds.Wait d) ≡ true → kind_of e ≡ kinds.Wait d → ready e ≡ true → Holds m o b →
    Fine (watched (watch m e) after) → Cuts d o b after
cuts (Resting g) d e after o b w k r h f =
    let s = asked_stage (pending e) e (moved g (class_of (kind_of e))) in
    let i = no_wait g (kind_of e) (λ z. not_wrong after (watch (Resting g) e) f (s ∙ z)) in
    absurd (let z = sym (ap is_wait_of_deadline k ∙ w) ∙ i in cc)
cuts (Waiting p g) d e after o b w k r (i, j, h) f =
    let s = ap (λ t. at_wait t (pending e) (ready e) p g) k ∙ ap (λ t. waited (may_wait g d) t (ready e) p d g) (ready_ends e r) ∙ ap (λ t. waited (may_wait g d) false t p d g) r in
    let c = cuts_waited (may_wait g d) p d g after (subst (λ n. Fine (watched n after)) s f) in
    (p, g, i, j, h, c.0, c.1)
cuts (Cutting p c g) d e after o b w k r h f =
    absurd (not_wrong after (watch (Cutting p c g) e) f (ap (λ t. cond (abandons g (kind_of p) t) (cut_at c g) Wrong) k))

cut_there : (before : List Entry) (m : Watch) (d : Role) (e : Entry) (after : List Entry) (o : Option Entry) (b : Bool) → is_wait_of_deadline (kinds.Wait d) ≡ true → kind_of e ≡ kinds.Wait d →
    ready e ≡ true → Holds m o b → Fine (watched m (before ++ e ∷ after)) → Cuts d (last_asked o before) (still_open b before) after
cut_there [] m d e after o b w k r h f = cuts m d e after o b w k r h f
cut_there (x ∷ before) m d e after o b w k r h f =
    cut_there before (watch m x) d e after (last_by (kind_of x) o x) (open_by (kind_of x) b) w k r
    (holds_on m x o b (not_wrong (before ++ e ∷ after) (watch m x) f) h) f

-- ---- after the deadline is over

-- the Abandon, and then such a list
abbrev Abandoned : Entry → Stage → List Entry → Type 0
Abandoned p h after = (a : Entry) × (rest : List Entry) × (after ≡ a ∷ rest) × (kind_of a ≡ abandon_of (kind_of p)) × Fine (watched (Resting h) rest)

abandons_by : (c : Bool) (d : Role) (g : Stage) (l : List Entry) → Fine (watched (after_cutting c d g) l) → (c ≡ true) × Fine (watched (Resting (cut_at d g)) l)
abandons_by true d g l f = (refl, f)
abandons_by false d g l f = absurd (not_wrong l (Resting Wrong) f refl)

abandoned_next : (p : Entry) (d : Role) (g : Stage) (after : List Entry) → Fine (watched (Cutting p d g) after) → Abandoned p (cut_at d g) after
abandoned_next p d g [] (inl e) = absurd (cc)
abandoned_next p d g [] (inr e) = absurd (cc)
abandoned_next p d g (a ∷ rest) f =
    let c = abandons_by (abandons g (kind_of p) (kind_of a)) d g rest f in (a, rest, refl, is_abandon_of g (kind_of p) (kind_of a) c.0, c.1)

kinds_next : (g : Stage) (l : List Entry) (k : List Kind) → Next g l → ((r : List Entry) → Fine (watched (Resting (moved g (way g))) r) → kinds_of r ≡ k) → kinds_of l ≡ kinds.Hook (way_hook g) ∷ k
kinds_next g l k (e, r, n, h, f) t = ap kinds_of n ∙ ap (λ j. j ∷ kinds_of r) h ∙ ap (λ o. kinds.Hook (way_hook g) ∷ o) (t r f)

finishing_kinds : (l : List Entry) → Fine (watched (Resting CutOutside) l) → kinds_of l ≡ the_finalizers
finishing_kinds l f =
    kinds_next CutOutside l _ (next_is CutOutside l refl f) (λ m g. kinds_next Finishing m [] (next_is Finishing m refl g) (λ r h. ap kinds_of (over_is_last r h)))

settling_kinds : (l : List Entry) → Fine (watched (Resting CutOpen) l) → kinds_of l ≡ with_completion true the_finalizers
settling_kinds l f =
    kinds_next CutOpen l _ (next_is CutOpen l refl f) (λ m g. kinds_next CutSettling m _ (next_is CutSettling m refl g) (λ r h. finishing_kinds r h))

rest_kinds : (g : Stage) (b : Bool) (l : List Entry) → may_wait g roles.Operation ≡ true → b ≡ is_open g → Fine (watched (Resting (cut_at roles.Operation g)) l) →
    kinds_of l ≡ with_completion b the_finalizers
unfolding is_open
rest_kinds Outside b l m h f = finishing_kinds l f ∙ ap (λ o. with_completion o the_finalizers) (sym h)
rest_kinds Open b l m h f = settling_kinds l f ∙ ap (λ o. with_completion o the_finalizers) (sym h)
rest_kinds _ b l m h f = absurd (cc)

operation_over : (before after : List Entry) → Cuts roles.Operation (last_asked None before) (still_open false before) after → OperationOver before after
operation_over before after (p, g, i, j, h, m, f) =
    let (a, rest, n, k, w) = abandoned_next p roles.Operation g after f in
    (a, rest, n, (p, i, j, k), rest_kinds g (still_open false before) rest m h w)

-- no question of an attempt comes up to the next attempt
outside : Stage → Bool
outside Outside = true
outside CutOutside = true
outside Finishing = true
outside Over = true
outside _ = false

abbrev aside : Class → Bool
aside Other = true
aside Finalizes = true
aside Concludes = true
aside _ = false

hook_aside : (h : Hook) → aside (hook_class h) ≡ true → is_of_attempt (kinds.Hook h) ≡ false
hook_aside hooks.ModifyBeforeCompletion i = refl
hook_aside hooks.ReadAfterExecution i = refl
hook_aside hooks.ReadBeforeExecutionClient i = refl
hook_aside hooks.ReadBeforeExecutionOperation i = refl
hook_aside hooks.ModifyBeforeSerialization i = refl
hook_aside hooks.ReadBeforeSerialization i = refl
hook_aside hooks.ReadAfterSerialization i = refl
hook_aside hooks.ModifyBeforeRetryLoop i = refl
hook_aside _ i = absurd (cc)

kind_aside : (k : Kind) → aside (class_of k) ≡ true → is_of_attempt k ≡ false
kind_aside (kinds.Hook h) i = hook_aside h i
kind_aside (kinds.Configure c) i = refl
kind_aside kinds.Serialize i = refl
kind_aside kinds.Load i = refl
kind_aside kinds.Initial i = refl
kind_aside (kinds.Start d) i = refl
kind_aside (kinds.Wait roles.Send) i = refl
kind_aside (kinds.Wait roles.Retry) i = refl
kind_aside (kinds.Wait roles.LongPoll) i = refl
kind_aside kinds.Decide i = refl
kind_aside _ i = absurd (cc)

-- an attempt begins, or the entry is none of an attempt and none begins by it
abbrev Stays : Stage → Kind → Type 0
Stays h k = (begins_attempt k ≡ true) ⊎ ((is_of_attempt k ≡ false) × (outside h ≡ true))

stays_moved : (g : Stage) (c : Class) (k : Kind) → class_of k ≡ c → (moved g c ≡ Wrong → ⊥) → outside g ≡ true → Stays (moved g c) k
unfolding outside
stays_moved Outside Begins k h n y = inl (ap begins_attempt (is_of Begins k h))
stays_moved Outside Other k h n y = inr (kind_aside k (ap aside h), refl)
stays_moved Outside Finalizes k h n y = inr (kind_aside k (ap aside h), refl)
stays_moved CutOutside Finalizes k h n y = inr (kind_aside k (ap aside h), refl)
stays_moved Finishing Concludes k h n y = inr (kind_aside k (ap aside h), refl)
stays_moved Open Within k h n y = absurd (cc)
stays_moved Open Modifies k h n y = absurd (cc)
stays_moved Closed Modifies k h n y = absurd (cc)
stays_moved Settling Reads k h n y = absurd (cc)
stays_moved CutOpen Modifies k h n y = absurd (cc)
stays_moved CutSettling Reads k h n y = absurd (cc)
stays_moved _ _ k h n y = absurd (n refl)

outside_waited : (may q r : Bool) (p : Entry) (d : Role) (g : Stage) → (stage (waited may q r p d g) ≡ Wrong → ⊥) → outside g ≡ true → (may ≡ true) × (outside (stage (waited may q r p d g)) ≡ true)
outside_waited true true r p d g n y = (refl, y)
outside_waited true false true p d g n y = (refl, y)
outside_waited true false false p d g n y = absurd (n refl)
outside_waited false q r p d g n y = absurd (n refl)

outside_awaits : (g : Stage) (d : Role) → outside g ≡ true → may_wait g d ≡ true → is_of_attempt (kinds.Wait d) ≡ false
unfolding outside
outside_awaits Outside roles.Operation y h = refl
outside_awaits _ _ y h = absurd (cc)

stays_wait : (k : Kind) (q r : Bool) (p : Entry) (g : Stage) → (stage (at_wait k q r p g) ≡ Wrong → ⊥) → outside g ≡ true → Stays (stage (at_wait k q r p g)) k
stays_wait (kinds.Wait d) q r p g n y = let w = outside_waited (may_wait g d) q r p d g n y in inr (outside_awaits g d y w.0, w.1)
stays_wait kinds.Park q r p g n y = inr (refl, y)
stays_wait _ q r p g n y = absurd (n refl)

outside_lets : (g : Stage) (x : Abandonable) → outside g ≡ true → lets g x ≡ true → abandoned_of_attempt x ≡ false
unfolding outside
outside_lets Outside abandoned.Load y h = refl
outside_lets Outside abandoned.WaitSend y h = refl
outside_lets Outside abandoned.WaitRetry y h = refl
outside_lets Outside abandoned.WaitLongPoll y h = refl
outside_lets _ _ y h = absurd (cc)

outside_cut : (c : Bool) (d : Role) (g : Stage) → (cond c (cut_at d g) Wrong ≡ Wrong → ⊥) → outside g ≡ true → (c ≡ true) × (outside (cond c (cut_at d g) Wrong) ≡ true)
unfolding outside
outside_cut true roles.Operation Outside n y = (refl, refl)
outside_cut true roles.Operation Open n y = absurd (cc)
outside_cut true roles.Attempt Open n y = absurd (cc)
outside_cut _ _ _ n y = absurd (n refl)

stays_cut : (k j : Kind) (d : Role) (g : Stage) → (cond (abandons g j k) (cut_at d g) Wrong ≡ Wrong → ⊥) → outside g ≡ true → Stays (cond (abandons g j k) (cut_at d g) Wrong) k
stays_cut (kinds.Abandon x) j d g n y =
    let c = outside_cut (abandons g j (kinds.Abandon x)) d g n y in inr (outside_lets g x y (both (lets g x) (gives_up x j) c.0).0, c.1)
stays_cut _ j d g n y = absurd (n refl)

stays : (m : Watch) (e : Entry) → (stage (watch m e) ≡ Wrong → ⊥) → outside (stage m) ≡ true → Stays (stage (watch m e)) (kind_of e)
stays (Resting g) e n y =
    let s = asked_stage (pending e) e (moved g (class_of (kind_of e))) in
    subst (λ i. Stays i (kind_of e)) (sym s) (stays_moved g (class_of (kind_of e)) (kind_of e) refl (λ w. n (s ∙ w)) y)
stays (Waiting p g) e n y = stays_wait (kind_of e) (pending e) (ready e) p g n y
stays (Cutting p d g) e n y = stays_cut (kind_of e) (kind_of p) d g n y

none_more : (e : Entry) (l : List Entry) (b : Bool) → is_of_attempt (kind_of e) ≡ false → asked_of is_of_attempt (up_to_attempt l) ≡ [] → asked_of is_of_attempt (cond b [] (e ∷ up_to_attempt l)) ≡ []
none_more e l true h n = refl
none_more e l false h n = ap (λ c. cond c (kind_of e ∷ asked_of is_of_attempt (up_to_attempt l)) (asked_of is_of_attempt (up_to_attempt l))) h ∙ n

none_of_attempt : (l : List Entry) (m : Watch) → Fine (watched m l) → outside (stage m) ≡ true → asked_of is_of_attempt (up_to_attempt l) ≡ []
none_of_attempt [] m f y = refl
none_of_attempt (e ∷ l) m f y =
    elim (stays m e (not_wrong l (watch m e) f) y) [
      | inl b ↦ ap (λ c. asked_of is_of_attempt (cond c [] (e ∷ up_to_attempt l))) b
      | inr (h, z) ↦ none_more e l (begins_attempt (kind_of e)) h (none_of_attempt l (watch m e) f z)
    ]

open_alone : (g : Stage) → may_wait g roles.Attempt ≡ true → cut_at roles.Attempt g ≡ Closed
open_alone Open m = refl
open_alone _ m = absurd (cc)

attempt_over : (before after : List Entry) → Cuts roles.Attempt (last_asked None before) (still_open false before) after → AttemptOver before after
unfolding outside
attempt_over before after (p, g, i, j, h, m, f) =
    let (a, rest, n, k, w) = abandoned_next p roles.Attempt g after f in
    let (x, r, o, q, u) = next_is Closed rest refl (subst (λ t. Fine (watched (Resting t) rest)) (open_alone g m) w) in
    let (y, z, c, v, t) = next_is Settling r refl u in
    (a, x, y, z, n ∙ ap (λ s. a ∷ s) (o ∙ ap (λ s. x ∷ s) c), (p, i, j, k), q, v, none_of_attempt z (Resting Outside) t refl)

pub attempt_scopes_end : AttemptScopesEnd
unfolding is_open
attempt_scopes_end stop s before e after w k r =
    attempt_over before after (cut_there before (Resting Outside) roles.Attempt e after None false refl k r refl (run_fine stop s (before ++ e ∷ after) w.run))

pub operation_scopes_end : OperationScopesEnd
unfolding is_open
operation_scopes_end stop s before e after w k r =
    operation_over before after (cut_there before (Resting Outside) roles.Operation e after None false refl k r refl (run_fine stop s (before ++ e ∷ after) w.run))
