-- What a whole run is to the watcher.
use Rattle.run_grammar.specs.declared.production.Test.{Test}
use Rattle.run_grammar.specs.Tests.{holds}
use Rattle.run_grammar.specs.declared.production.Test.TheVariants as tests
use Rattle.std.proofs.Common.{true, false, cond, ℕ, zero, suc, List, [], ◌∷◌, ◌++◌, ◌≡◌, ◌⊎◌, refl, sym, ap, ◌∙◌, subst, inl, inr}
use Rattle.smithy_types.specs.declared.hook.Hook.TheVariants as hooks
use Rattle.smithy_types.specs.declared.kinds.StopPoint.{StopPoint}
use Rattle.smithy_types.specs.declared.kinds.StopPoint.TheVariants as stops
use Rattle.run_grammar.specs.declared.kind.Role.{Role}
use Rattle.run_grammar.specs.declared.kind.Role.TheVariants as roles
use Rattle.run_grammar.specs.declared.kind.Kind.TheVariants as kinds
use Rattle.run_grammar.specs.declared.answer.Entry.{Entry}
use Rattle.run_grammar.specs.Standing.{State, standing}
use Rattle.run_grammar.specs.Production.{Production, Nothing, Work, ◌⨟◌, Where, InAttempt, Under, End, Ended, Further, CutBy}
use Rattle.run_grammar.specs.Words.{Word, ScopeEnds, RoundsOf, marked, is_ended}
use Rattle.run_grammar.specs.Grammar.{hook, halted, arm, armed, opening, sending, streaming, attempt, settle, turn, round, loop, front, grant, op, finish, configured, run}
use Rattle.run_grammar.specs.Tests.{timeout_stands, failed, failure_stands, started}
use Rattle.run_grammar.specs.Laws.{IsRun}
use Rattle.run_grammar.proofs.Spots.{not_ended}
use Rattle.run_grammar.proofs.CaseProofs.{Ends, body, config_halting}
use Rattle.run_grammar.proofs.Watch.{Stage, Outside, Open, Closed, CutOpen, CutOutside, Finishing, Over, Modifies, Reads, Finalizes, Concludes, moved, cut_at, Watch, Resting, watched, watched_on}
use Rattle.run_grammar.proofs.Stages.{Fine}
use Rattle.run_grammar.proofs.Watching.{EachWaits, Kept, Leads, once, twice, leads_once, leads_then, leads_steady, steady}

open_waits : (ds : List Role) → EachWaits Outside ds → EachWaits Open ds
open_waits [] m = tt
open_waits (roles.Operation ∷ ds) m = (refl, open_waits ds m.1)
open_waits (roles.Attempt ∷ ds) m = absurd (let e = m.0 in cc)
open_waits (roles.Send ∷ ds) m = absurd (let e = m.0 in cc)
open_waits (roles.Retry ∷ ds) m = absurd (let e = m.0 in cc)
open_waits (roles.LongPoll ∷ ds) m = absurd (let e = m.0 in cc)

-- an attempt opens, and stays open
begun : (q : Production) (ds : List Role) → steady Open q ≡ true → EachWaits Open ds → Leads Outside Open (hook hooks.ReadBeforeAttempt ⨟ q) ds
begun q ds h m = leads_then Outside Open Open (hook hooks.ReadBeforeAttempt) q ds (leads_once Outside (kinds.Hook hooks.ReadBeforeAttempt) ds refl) (leads_steady q Open ds h m) (λ x n e k. k)

abbrev behind : Production → Production
behind (p ⨟ q) = q
behind p = p

opening_leads : (ds : List Role) → EachWaits Open ds → Leads Outside Open opening ds
opening_leads ds m = begun (behind opening) ds refl m

attempt_leads : (stop : StopPoint) (ds : List Role) → EachWaits Open ds → Leads Outside Open (attempt stop) ds
attempt_leads stops.None ds m =
    leads_then Outside Open Open opening (Where tests.Failed Nothing (halted (sending ∷ streaming ∷ []))) ds (opening_leads ds m)
    (leads_steady (Where tests.Failed Nothing (halted (sending ∷ streaming ∷ []))) Open ds refl m) (λ x n e k. k)
attempt_leads stops.BeforeTransmit ds m = opening_leads ds m

-- where an attempt has led
abbrev Marked : End → Watch → Type 0
Marked Ended m = m ≡ Resting Open
Marked Further m = ⊥
Marked (CutBy d i) m = (i ≡ true) × (m ≡ Resting (cut_at d Open))

mark : (y : End) (m : Watch) → Kept Open y m → Marked (marked y) m
mark Ended m k = k
mark Further m k = absurd (let e = k.0 in cc)
mark (CutBy d i) m k = (refl, k.1)

marks : (stop : StopPoint) (ds : List Role) → EachWaits Open ds → (x : End) (s : State) (l : List Entry) → Word (InAttempt (attempt stop)) ds x s l → Marked x (watched (Resting Outside) l)
marks stop ds m x s l (y, e, w) = subst (λ o. Marked o (watched (Resting Outside) l)) (sym e) (mark y (watched (Resting Outside) l) (attempt_leads stop ds m y s l w))

-- where the scope of an attempt has led: to an attempt that is open, or closed by its own deadline
abbrev Tried : End → Watch → Type 0
Tried Ended m = (m ≡ Resting Open) ⊎ (m ≡ Resting Closed)
Tried Further m = ⊥
Tried (CutBy d i) m = (i ≡ true) × (m ≡ Resting (cut_at d Open))

tried : (x : End) (m : Watch) → Marked x m → Tried x m
tried Ended m k = inl k
tried Further m k = k
tried (CutBy d i) m k = k

tried_so : (x y : End) (m : Watch) (b : List Entry) → Tried y m → (x ≡ y) × (b ≡ []) → Tried x m × (b ≡ [])
tried_so x y m b k z = (subst (λ o. Tried o m) (sym z.0) k, z.1)

scope_of_attempt : (ds : List Role) (t : State) (y x : End) (m : Watch) (b : List Entry) → Marked y m → ScopeEnds roles.Attempt (λ z n. Word Nothing ds z t n) y x b → Tried x m × (b ≡ [])
scope_of_attempt ds t Ended x m b k z = tried_so x Ended m b (inl k) z
scope_of_attempt ds t Further x m b k z = absurd k
scope_of_attempt ds t (CutBy roles.Attempt true) x m b k z = tried_so x Ended m b (inr k.1) z
scope_of_attempt ds t (CutBy roles.Attempt false) x m b k z = absurd (let e = k.0 in cc)
scope_of_attempt ds t (CutBy roles.Operation i) x m b k z = tried_so x (CutBy roles.Operation i) m b k z
scope_of_attempt ds t (CutBy roles.Send i) x m b k z = tried_so x (CutBy roles.Send i) m b k z
scope_of_attempt ds t (CutBy roles.Retry i) x m b k z = tried_so x (CutBy roles.Retry i) m b k z
scope_of_attempt ds t (CutBy roles.LongPoll i) x m b k z = tried_so x (CutBy roles.LongPoll i) m b k z

tries_under : (stop : StopPoint) (ds : List Role) → EachWaits Outside ds → (x : End) (s : State) (l : List Entry) →
    Word (Under roles.Attempt (InAttempt (attempt stop)) Nothing) ds x s l → Tried x (watched (Resting Outside) l)
tries_under stop ds m x s l (a, b, y, e, v, z) =
    let r = scope_of_attempt ds (standing s a) y x (watched (Resting Outside) a) b (marks stop (roles.Attempt ∷ ds) (refl, open_waits ds m) y s a v) z in
    subst (λ o. Tried x o) (sym (watched_on l a b (Resting Outside) (watched (Resting Outside) a) e refl ∙ ap (λ k. watched (watched (Resting Outside) a) k) r.1)) r.0

-- a deadline's Start is asked at most once
arms : (d : Role) (ds : List Role) (x : End) (s : State) (l : List Entry) → Word (arm d) ds x s l → (x ≡ Ended) × (watched (Resting Outside) l ≡ Resting Outside)
arms d ds x s l w =
    (elim (timeout_stands d s) as (λ b. cond b (Word (Work (kinds.Start d)) ds x s l) (Word Nothing ds x s l) → (x ≡ Ended) × (watched (Resting Outside) l ≡ Resting Outside))
    [ true ↦ λ v. once Outside (kinds.Start d) ds x s l refl v | false ↦ λ v. (v.0, ap (λ k. watched (Resting Outside) k) v.1) ]) w

abbrev scope : StopPoint → Production
scope stop = Where (tests.HasStarted roles.Attempt) (Under roles.Attempt (InAttempt (attempt stop)) Nothing) (InAttempt (attempt stop))

tries_scope : (stop : StopPoint) (ds : List Role) → EachWaits Outside ds → (x : End) (s : State) (l : List Entry) → Word (scope stop) ds x s l → Tried x (watched (Resting Outside) l)
tries_scope stop ds m x s l w =
    (elim (started roles.Attempt s) as (λ b. cond b (Word (Under roles.Attempt (InAttempt (attempt stop)) Nothing) ds x s l) (Word (InAttempt (attempt stop)) ds x s l) → Tried x (watched (Resting Outside) l)) [
      | true ↦ λ v. tries_under stop ds m x s l v
      | false ↦ λ v. tried x (watched (Resting Outside) l) (marks stop ds (open_waits ds m) x s l v)
    ]) w

tries : (stop : StopPoint) (ds : List Role) → EachWaits Outside ds → (x : End) (s : State) (l : List Entry) →
    Word (armed roles.Attempt (InAttempt (attempt stop)) Nothing) ds x s l → Tried x (watched (Resting Outside) l)
tries stop ds m x s l (inl (a, b, e, v, w)) =
    subst (λ o. Tried x o) (sym (watched_on l a b (Resting Outside) (Resting Outside) e (arms roles.Attempt ds Ended s a v).1)) (tries_scope stop ds m x (standing s a) b w)
tries stop ds m x s l (inr (n, w)) = absurd (not_ended x n (arms roles.Attempt ds x s l w).0)

-- the completion of an attempt and the decision after it
settles : (g : Stage) (ds : List Role) (x : End) (s : State) (l : List Entry) → moved (moved g Modifies) Reads ≡ Outside → Word (settle ⨟ Work kinds.Decide) ds x s l →
    (x ≡ Ended) × (watched (Resting g) l ≡ Resting Outside)
settles g ds x s l h (inl (a, b, e, v, w)) =
    let r = once Outside kinds.Decide ds x (standing s a) b refl w in
    let q = twice g (kinds.Hook hooks.ModifyBeforeAttemptCompletion) (kinds.Hook hooks.ReadAfterAttempt) ds Ended s a refl refl v in
    (r.0, watched_on l a b (Resting g) (Resting Outside) e (q.1 ∙ ap Resting h) ∙ r.1)
settles g ds x s l h (inr (n, w)) =
    absurd (not_ended x n (twice g (kinds.Hook hooks.ModifyBeforeAttemptCompletion) (kinds.Hook hooks.ReadAfterAttempt) ds x s l refl refl w).0)

-- where a part of the operation has led that begins with no attempt open
abbrev Gone : End → Watch → Type 0
Gone Ended m = m ≡ Resting Outside
Gone Further m = m ≡ Resting Outside
Gone (CutBy d i) m = m ≡ Resting (cut_at d (cond i Open Outside))

abbrev Goes : Production → List Role → Type 0
Goes p ds = (x : End) (s : State) (l : List Entry) → Word p ds x s l → Gone x (watched (Resting Outside) l)

gone_kept : (x : End) (m : Watch) → Kept Outside x m → Gone x m
gone_kept Ended m k = k
gone_kept Further m k = k.1
gone_kept (CutBy d i) m k = subst (λ b. m ≡ Resting (cut_at d (cond b Open Outside))) (sym k.0) k.1

gone_tried : (x : End) (m : Watch) → is_ended x ≡ false → Tried x m → Gone x m
gone_tried Ended m n k = absurd (cc)
gone_tried Further m n k = absurd k
gone_tried (CutBy d i) m n k = subst (λ b. m ≡ Resting (cut_at d (cond b Open Outside))) (sym k.0) k.1

goes_steady : (p : Production) (ds : List Role) → steady Outside p ≡ true → EachWaits Outside ds → Goes p ds
goes_steady p ds h m x s l w = gone_kept x (watched (Resting Outside) l) (leads_steady p Outside ds h m x s l w)

gone_on : (x : End) (l a b : List Entry) (m n : Watch) → l ≡ a ++ b → watched m a ≡ n → Gone x (watched n b) → Gone x (watched m l)
gone_on x l a b m n e h k = subst (λ o. Gone x o) (sym (watched_on l a b m n e h)) k

goes_then : (p q : Production) (ds : List Role) → Goes p ds → Goes q ds → Goes (p ⨟ q) ds
goes_then p q ds f g x s l (inl (a, b, e, v, w)) = gone_on x l a b (Resting Outside) (Resting Outside) e (f Ended s a v) (g x (standing s a) b w)
goes_then p q ds f g x s l (inr (n, w)) = f x s l w

goes_where : (test : Test) (p q : Production) (ds : List Role) → Goes p ds → Goes q ds → Goes (Where test p q) ds
goes_where test p q ds f g x s l w =
    (elim (holds test s) as (λ b. cond b (Word p ds x s l) (Word q ds x s l) → Gone x (watched (Resting Outside) l)) [ true ↦ λ v. f x s l v | false ↦ λ v. g x s l v ]) w

rounds_go : (p : Production) (ds : List Role) → Goes p ds → (n : ℕ) (x : End) (s : State) (l : List Entry) → RoundsOf (Word p ds) (Word p ds) n x s l → Gone x (watched (Resting Outside) l)
rounds_go p ds f zero x s l (h, w) = f x s l w
rounds_go p ds f (suc n) x s l (a, b, e, v, w) = gone_on x l a b (Resting Outside) (Resting Outside) e (f Further s a v) (rounds_go p ds f n x (standing s a) b w)

turn_goes : (stop : StopPoint) (ds : List Role) → EachWaits Outside ds → Goes (turn stop) ds
turn_goes stop ds m x s l (inl (a, b, e, v, w)) =
    elim (tries stop ds m Ended s a v) [
      | inl h ↦ let r = settles Open ds x (standing s a) b refl w in gone_on x l a b (Resting Outside) (Resting Open) e h (subst (λ o. Gone o (watched (Resting Open) b)) (sym r.0) r.1)
      | inr h ↦ let r = settles Closed ds x (standing s a) b refl w in gone_on x l a b (Resting Outside) (Resting Closed) e h (subst (λ o. Gone o (watched (Resting Closed) b)) (sym r.0) r.1)
    ]
turn_goes stop ds m x s l (inr (n, w)) = gone_tried x (watched (Resting Outside) l) n (tries stop ds m x s l w)

round_goes : (stop : StopPoint) (ds : List Role) → EachWaits Outside ds → Goes (round stop) ds
round_goes stop ds m = goes_then (turn stop) (behind (round stop)) ds (turn_goes stop ds m) (goes_steady (behind (round stop)) ds refl m)

loop_goes : (stop : StopPoint) (ds : List Role) → EachWaits Outside ds → Goes (loop stop) ds
loop_goes stop ds m x s l (n, w) = rounds_go (round stop) ds (round_goes stop ds m) n x s l w

op_goes : (stop : StopPoint) (ds : List Role) → EachWaits Outside ds → Goes (op stop) ds
op_goes stop ds m =
    let f = goes_steady front ds refl m in
    let n = goes_steady Nothing ds refl m in
    let g = goes_steady grant ds refl m in
    goes_then front (Where tests.Failed Nothing (grant ⨟ Where tests.Went (loop stop) Nothing)) ds f
    (goes_where tests.Failed Nothing (grant ⨟ Where tests.Went (loop stop) Nothing) ds n
    (goes_then grant (Where tests.Went (loop stop) Nothing) ds g (goes_where tests.Went (loop stop) Nothing ds (loop_goes stop ds m) n)))

-- where the operation's scope has led
abbrev Worked : Watch → Type 0
Worked m = (m ≡ Resting Outside) ⊎ (m ≡ Resting CutOutside)

cut_settles : (s : State) (l : List Entry) → Word settle [] Ended s l → watched (Resting CutOpen) l ≡ Resting CutOutside
cut_settles s l w = (twice CutOpen (kinds.Hook hooks.ModifyBeforeAttemptCompletion) (kinds.Hook hooks.ReadAfterAttempt) [] Ended s l refl refl w).1

scope_of_operation : (y : End) (t : State) (m : Watch) (b : List Entry) → Gone y m → ScopeEnds roles.Operation (λ z n. Word settle [] z t n) y Ended b → Worked (watched m b)
scope_of_operation Ended t m b k z = inl (ap (λ o. watched m o) z.1 ∙ k)
scope_of_operation Further t m b k z = absurd (let e = z.0 in cc)
scope_of_operation (CutBy roles.Operation true) t m b k z = inr (ap (λ o. watched o b) k ∙ cut_settles t b z)
scope_of_operation (CutBy roles.Operation false) t m b k z = inr (ap (λ o. watched m o) z.1 ∙ k)
scope_of_operation (CutBy roles.Attempt i) t m b k z = absurd (let e = z.0 in cc)
scope_of_operation (CutBy roles.Send i) t m b k z = absurd (let e = z.0 in cc)
scope_of_operation (CutBy roles.Retry i) t m b k z = absurd (let e = z.0 in cc)
scope_of_operation (CutBy roles.LongPoll i) t m b k z = absurd (let e = z.0 in cc)

works_under : (stop : StopPoint) (s : State) (l : List Entry) → Ends (Under roles.Operation (op stop) settle) s l → Worked (watched (Resting Outside) l)
works_under stop s l (a, b, y, e, v, z) =
    subst Worked (sym (watched_on l a b (Resting Outside) (watched (Resting Outside) a) e refl))
    (scope_of_operation y (standing s a) (watched (Resting Outside) a) b (op_goes stop (roles.Operation ∷ []) (refl, tt) y s a v) z)

works : (stop : StopPoint) (s : State) (l : List Entry) → Ends (armed roles.Operation (op stop) settle) s l → Worked (watched (Resting Outside) l)
works stop s l (inl (a, b, e, v, w)) =
    subst Worked (sym (watched_on l a b (Resting Outside) (Resting Outside) e (arms roles.Operation [] Ended s a v).1))
    ((elim (started roles.Operation (standing s a)) as (λ c. cond c (Ends (Under roles.Operation (op stop) settle) (standing s a) b) (Ends (op stop) (standing s a) b) → Worked (watched (Resting Outside) b)) [
      | true ↦ λ u. works_under stop (standing s a) b u
      | false ↦ λ u. inl (op_goes stop [] tt Ended (standing s a) b u)
    ]) w)
works stop s l (inr (n, w)) = absurd (cc)

finishes : (g : Stage) (s : State) (l : List Entry) → moved g Finalizes ≡ Finishing → Ends finish s l → watched (Resting g) l ≡ Resting Over
finishes g s l h w =
    (twice g (kinds.Hook hooks.ModifyBeforeCompletion) (kinds.Hook hooks.ReadAfterExecution) [] Ended s l refl refl w).1 ∙ ap (λ i. Resting (moved i Concludes)) h

worked_finishes : (m : Watch) (s : State) (l : List Entry) → Worked m → Ends finish s l → watched m l ≡ Resting Over
worked_finishes m s l (inl h) w = ap (λ n. watched n l) h ∙ finishes Outside s l refl w
worked_finishes m s l (inr h) w = ap (λ n. watched n l) h ∙ finishes CutOutside s l refl w

-- an operation that is finished
ends_so : (p : Production) (s : State) (l : List Entry) → ((a : List Entry) → Ends p s a → Worked (watched (Resting Outside) a)) → Ends (p ⨟ finish) s l → watched (Resting Outside) l ≡ Resting Over
ends_so p s l f (inl (a, b, e, v, w)) =
    watched_on l a b (Resting Outside) (watched (Resting Outside) a) e refl ∙ worked_finishes (watched (Resting Outside) a) (standing s a) b (f a v) w
ends_so p s l f (inr (n, w)) = absurd (cc)

body_over : (stop : StopPoint) (s : State) (l : List Entry) → Ends (body stop) s l → watched (Resting Outside) l ≡ Resting Over
body_over stop s l w =
    (elim (failure_stands s) as (λ b. cond b (Ends (arm roles.Operation ⨟ finish) s l) (Ends (armed roles.Operation (op stop) settle ⨟ finish) s l) → watched (Resting Outside) l ≡ Resting Over) [
      | true ↦ λ v. ends_so (arm roles.Operation) s l (λ a u. inl (arms roles.Operation [] Ended s a u).1) v
      | false ↦ λ v. ends_so (armed roles.Operation (op stop) settle) s l (λ a u. works stop s a u) v
    ]) w

-- the configuration ended early
abbrev pub Refused : State → List Entry → Type 0
Refused s l = Ends (configured Nothing) s l × (failed (standing s l) ≡ true)

pub watched_run : (stop : StopPoint) (s : State) (l : List Entry) → IsRun stop s l → (watched (Resting Outside) l ≡ Resting Over) ⊎ ((watched (Resting Outside) l ≡ Resting Outside) × Refused s l)
unfolding run
watched_run stop s l w =
    elim (config_halting (body stop) s l w) [
      | inl x ↦ inr (leads_steady (configured Nothing) Outside [] refl tt Ended s l x.0, x)
      | inr (a, b, e, x, (h, y)) ↦ inl (watched_on l a b (Resting Outside) (Resting Outside) e (leads_steady (configured Nothing) Outside [] refl tt Ended s a x) ∙ body_over stop (standing s a) b y)
    ]

pub run_fine : (stop : StopPoint) (s : State) (l : List Entry) → IsRun stop s l → Fine (watched (Resting Outside) l)
run_fine stop s l w = elim (watched_run stop s l w) [ inl h ↦ inl h | inr (h, r) ↦ inr h ]
