-- What the words of a production are to the watcher.
use Rattle.run_grammar.specs.declared.production.Test.{Test}
use Rattle.run_grammar.specs.Tests.{holds}
use Rattle.std.proofs.Common.{Bool, true, false, cond, ℕ, zero, suc, List, [], ◌∷◌, ◌≡◌, refl, sym, ap, ◌∙◌, subst, inl, inr}
use Rattle.run_grammar.specs.declared.kind.Role.{Role}
use Rattle.run_grammar.specs.declared.kind.Kind.{Kind}
use Rattle.run_grammar.specs.declared.kind.Kind.TheVariants as kinds
use Rattle.run_grammar.specs.declared.answer.Entry.{Entry}
use Rattle.run_grammar.specs.Entry.{kind_of, pending, ready, can_wait, is_pending, abandon_of}
use Rattle.run_grammar.specs.Standing.{State, standing}
use Rattle.run_grammar.specs.Production.{Production, Nothing, Work, ◌⨟◌, Where, Rounds, Again, InAttempt, Under, End, Ended, Further, CutBy}
use Rattle.run_grammar.specs.Words.{Word, WaitsOf, Struck, Idle, AfterIdles, Answered, CutOnce, WorkOf, CutOf, RoundsOf, is_ended}
use Rattle.run_grammar.proofs.Spots.{not_ended}
use Rattle.run_grammar.proofs.Watch.{Stage, Outside, moved, calm, may_wait, cut_at, abandons, Watch, Resting, Waiting, Cutting, asked_at, waited, at_wait, after_cutting, watch, watched, class_of, watched_on, calm_moves, calm_abandons, both}

-- each of the deadlines may be asked at the stage
abbrev pub EachWaits : Stage → List Role → Type 0
EachWaits g [] = Unit {0}
EachWaits g (d ∷ ds) = (may_wait g d ≡ true) × EachWaits g ds

pub pending_waits : (e : Entry) (k : Kind) → kind_of e ≡ k → pending e ≡ true → can_wait k ≡ true
unfolding pending
pending_waits e k h p = subst (λ j. can_wait j ≡ true) h (both (can_wait (kind_of e)) (is_pending e.answer) p).0

pub not_pending : (e : Entry) (k : Kind) → kind_of e ≡ k → can_wait k ≡ false → pending e ≡ false
unfolding pending
not_pending e k h w = subst (λ b. cond b (is_pending e.answer) false ≡ false) (sym (ap can_wait h ∙ w)) refl

watch_parked : (p e : Entry) (g : Stage) → kind_of e ≡ kinds.Park → watch (Waiting p g) e ≡ Resting g
watch_parked p e g h = ap (λ k. at_wait k (pending e) (ready e) p g) h

watch_awaited : (p e : Entry) (g : Stage) (d : Role) → may_wait g d ≡ true → kind_of e ≡ kinds.Wait d → pending e ≡ true → watch (Waiting p g) e ≡ Waiting p g
watch_awaited p e g d m h b = ap (λ k. at_wait k (pending e) (ready e) p g) h ∙ ap (λ c. waited c (pending e) (ready e) p d g) m ∙ ap (λ c. waited true c (ready e) p d g) b

watch_over : (p e : Entry) (g : Stage) (d : Role) → may_wait g d ≡ true → kind_of e ≡ kinds.Wait d → pending e ≡ false → ready e ≡ true → watch (Waiting p g) e ≡ Cutting p d g
watch_over p e g d m h b r =
    ap (λ k. at_wait k (pending e) (ready e) p g) h ∙ ap (λ c. waited c (pending e) (ready e) p d g) m ∙ ap (λ c. waited true c (ready e) p d g) b ∙ ap (λ c. waited true false c p d g) r

watch_gives_up : (p e : Entry) (g : Stage) (d : Role) (k : Kind) → kind_of p ≡ k → abandons g k (abandon_of k) ≡ true → kind_of e ≡ abandon_of k → watch (Cutting p d g) e ≡ Resting (cut_at d g)
watch_gives_up p e g d k h a i = ap (λ b. after_cutting b d g) (ap (λ j. abandons g j (kind_of e)) h ∙ ap (λ j. abandons g k j) i ∙ a)

watch_asked : (e : Entry) (g : Stage) (k : Kind) → kind_of e ≡ k → pending e ≡ true → watch (Resting g) e ≡ Waiting e (moved g (class_of k))
watch_asked e g k h b = ap (λ c. asked_at c e (moved g (class_of (kind_of e)))) b ∙ ap (λ j. Waiting e (moved g (class_of j))) h

watch_answered : (e : Entry) (g : Stage) (k : Kind) → kind_of e ≡ k → pending e ≡ false → watch (Resting g) e ≡ Resting (moved g (class_of k))
watch_answered e g k h b = ap (λ c. asked_at c e (moved g (class_of (kind_of e)))) b ∙ ap (λ j. Resting (moved g (class_of j))) h

watched_waits : (ds : List Role) (l : List Entry) (p : Entry) (g : Stage) → EachWaits g ds → WaitsOf ds l → watched (Waiting p g) l ≡ Resting g
watched_waits ds [] p g m w = absurd w
watched_waits [] (e ∷ l) p g m (h, n) = ap (λ k. watched (watch (Waiting p g) e) k) n ∙ watch_parked p e g h
watched_waits (d ∷ ds) (e ∷ l) p g m (h, b, w) = ap (λ n. watched n l) (watch_awaited p e g d m.0 h b) ∙ watched_waits ds l p g m.1 w

watched_struck : (k : Kind) (d : Role) (ds : List Role) (l : List Entry) (p : Entry) (g : Stage) → kind_of p ≡ k → abandons g k (abandon_of k) ≡ true →
    EachWaits g ds → Struck k d ds l → watched (Waiting p g) l ≡ Resting (cut_at d g)
watched_struck k d [] l p g h a m w = absurd w
watched_struck k d (c ∷ ds) [] p g h a m w = absurd w
watched_struck k d (c ∷ ds) (e ∷ l) p g h a m (i, inl (b, w)) = ap (λ n. watched n l) (watch_awaited p e g c m.0 i b) ∙ watched_struck k d ds l p g h a m.1 w
watched_struck k d (c ∷ ds) (e ∷ l) p g h a m (i, inr (same, b, r, x, n, j)) =
    ap (λ o. watched (watch (Waiting p g) e) o) n ∙ ap (λ o. watch o x) (watch_over p e g c m.0 i b r) ∙ watch_gives_up p x g c k h a j ∙ ap (λ o. Resting (cut_at o g)) same

-- a question that leaves the stage
watched_idle : (k : Kind) (ds : List Role) (l : List Entry) (g : Stage) → calm g (class_of k) ≡ true → EachWaits g ds → Idle k ds l → watched (Resting g) l ≡ Resting g
watched_idle k ds [] g c m w = absurd w
watched_idle k ds (e ∷ l) g c m (h, b, w) =
    ap (λ n. watched n l) (watch_asked e g k h b ∙ ap (λ n. Waiting e n) (calm_moves g (class_of k) c)) ∙ watched_waits ds l e g m w

watched_cut_once : (k : Kind) (d : Role) (ds : List Role) (l : List Entry) (g : Stage) → calm g (class_of k) ≡ true → EachWaits g ds → CutOnce k d ds l → watched (Resting g) l ≡ Resting (cut_at d g)
watched_cut_once k d ds [] g c m w = absurd w
watched_cut_once k d ds (e ∷ l) g c m (h, b, w) =
    ap (λ n. watched n l) (watch_asked e g k h b ∙ ap (λ n. Waiting e n) (calm_moves g (class_of k) c))
    ∙ watched_struck k d ds l e g h (calm_abandons g k c (pending_waits e k h b)) m w

watched_idles : (k : Kind) (ds : List Role) (last : List Entry → Type 0) (g h : Stage) → calm g (class_of k) ≡ true → EachWaits g ds →
    ((a : List Entry) → last a → watched (Resting g) a ≡ Resting h) → (n : ℕ) (l : List Entry) → AfterIdles k ds last n l → watched (Resting g) l ≡ Resting h
watched_idles k ds last g h c m f zero l w = f l w
watched_idles k ds last g h c m f (suc n) l (a, b, e, i, w) = watched_on l a b (Resting g) (Resting g) e (watched_idle k ds a g c m i) ∙ watched_idles k ds last g h c m f n b w

watched_answer : (k : Kind) (l : List Entry) (g : Stage) → Answered k l → watched (Resting g) l ≡ Resting (moved g (class_of k))
watched_answer k l g (e, n, h, b) = ap (λ o. watched (Resting g) o) n ∙ watch_answered e g k h b

watched_work : (k : Kind) (ds : List Role) (l : List Entry) (g : Stage) → calm g (class_of k) ≡ true → EachWaits g ds → WorkOf k ds l → watched (Resting g) l ≡ Resting g
watched_work k ds l g c m (n, w) =
    watched_idles k ds (Answered k) g g c m (λ a v. watched_answer k a g v ∙ ap Resting (calm_moves g (class_of k) c)) n l w

watched_cut : (k : Kind) (d : Role) (ds : List Role) (l : List Entry) (g : Stage) → calm g (class_of k) ≡ true → EachWaits g ds → CutOf k d ds l → watched (Resting g) l ≡ Resting (cut_at d g)
watched_cut k d ds l g c m (n, w) = watched_idles k ds (CutOnce k d ds) g (cut_at d g) c m (λ a v. watched_cut_once k d ds a g c m v) n l w

-- a further round begins outside of an attempt
abbrev pub may_repeat : Stage → Bool
may_repeat Outside = true
may_repeat _ = false

-- where a word has led that ends so: to the stage, or to a cut at the stage
abbrev pub Kept : Stage → End → Watch → Type 0
Kept g Ended m = m ≡ Resting g
Kept g Further m = (may_repeat g ≡ true) × (m ≡ Resting g)
Kept g (CutBy d i) m = (i ≡ false) × (m ≡ Resting (cut_at d g))

-- every word of the production leads from the one stage to the other
abbrev pub Leads : Stage → Stage → Production → List Role → Type 0
Leads g h p ds = (x : End) (s : State) (l : List Entry) → Word p ds x s l → Kept h x (watched (Resting g) l)

kept_same : (g : Stage) (x : End) (m n : Watch) → m ≡ n → Kept g x n → Kept g x m
kept_same g x m n e k = subst (λ o. Kept g x o) (sym e) k

-- a question that can't wait
idles_none : (k : Kind) (ds : List Role) (last : List Entry → Type 0) → can_wait k ≡ false → (n : ℕ) (l : List Entry) → AfterIdles k ds last n l → last l
idles_none k ds last h zero l w = w
idles_none k ds last h (suc n) l ([], b, e, i, w) = absurd i
idles_none k ds last h (suc n) l (c ∷ a, b, e, (i, p, v), w) = absurd (let f = sym h ∙ pending_waits c k i p in cc)

no_cut : (k : Kind) (d : Role) (ds : List Role) (l : List Entry) → can_wait k ≡ false → CutOnce k d ds l → ⊥
no_cut k d ds [] h w = w
no_cut k d ds (e ∷ l) h (i, p, v) = let f = sym h ∙ pending_waits e k i p in cc

pub answered_alone : (k : Kind) (ds : List Role) (x : End) (s : State) (l : List Entry) → can_wait k ≡ false → Word (Work k) ds x s l → Answered k l
answered_alone k ds x s l h (inl (e, (n, w))) = idles_none k ds (Answered k) h n l w
answered_alone k ds x s l h (inr (d, e, (n, w))) = absurd (no_cut k d ds l h (idles_none k ds (CutOnce k d ds) h n l w))

ends_alone : (k : Kind) (ds : List Role) (x : End) (s : State) (l : List Entry) → can_wait k ≡ false → Word (Work k) ds x s l → x ≡ Ended
ends_alone k ds x s l h (inl (e, v)) = e
ends_alone k ds x s l h (inr (d, e, (n, w))) = absurd (no_cut k d ds l h (idles_none k ds (CutOnce k d ds) h n l w))

pub once : (g : Stage) (k : Kind) (ds : List Role) (x : End) (s : State) (l : List Entry) → can_wait k ≡ false → Word (Work k) ds x s l →
    (x ≡ Ended) × (watched (Resting g) l ≡ Resting (moved g (class_of k)))
once g k ds x s l h w = (ends_alone k ds x s l h w, watched_answer k l g (answered_alone k ds x s l h w))

pub twice : (g : Stage) (k j : Kind) (ds : List Role) (x : End) (s : State) (l : List Entry) → can_wait k ≡ false → can_wait j ≡ false → Word (Work k ⨟ Work j) ds x s l →
    (x ≡ Ended) × (watched (Resting g) l ≡ Resting (moved (moved g (class_of k)) (class_of j)))
twice g k j ds x s l h i (inl (a, b, e, v, w)) =
    let r = once (moved g (class_of k)) j ds x (standing s a) b i w in
    (r.0, watched_on l a b (Resting g) (Resting (moved g (class_of k))) e (once g k ds Ended s a h v).1 ∙ r.1)
twice g k j ds x s l h i (inr (n, w)) = absurd (not_ended x n (once g k ds x s l h w).0)

pub leads_once : (g : Stage) (k : Kind) (ds : List Role) → can_wait k ≡ false → Leads g (moved g (class_of k)) (Work k) ds
leads_once g k ds h x s l w = let r = once g k ds x s l h w in subst (λ y. Kept (moved g (class_of k)) y (watched (Resting g) l)) (sym r.0) r.1

leads_calm : (g : Stage) (k : Kind) (ds : List Role) → calm g (class_of k) ≡ true → EachWaits g ds → Leads g g (Work k) ds
leads_calm g k ds c m x s l (inl (e, w)) = subst (λ y. Kept g y (watched (Resting g) l)) (sym e) (watched_work k ds l g c m w)
leads_calm g k ds c m x s l (inr (d, e, w)) = subst (λ y. Kept g y (watched (Resting g) l)) (sym e) (refl, watched_cut k d ds l g c m w)

pub leads_then : (g h i : Stage) (p q : Production) (ds : List Role) → Leads g h p ds → Leads h i q ds → ((x : End) (m : Watch) → is_ended x ≡ false → Kept h x m → Kept i x m) →
    Leads g i (p ⨟ q) ds
leads_then g h i p q ds f k early x s l (inl (a, b, e, v, w)) =
    kept_same i x (watched (Resting g) l) (watched (Resting h) b) (watched_on l a b (Resting g) (Resting h) e (f Ended s a v)) (k x (standing s a) b w)
leads_then g h i p q ds f k early x s l (inr (e, w)) = early x (watched (Resting g) l) e (f x s l w)

pub leads_where : (g h : Stage) (test : Test) (p q : Production) (ds : List Role) → Leads g h p ds → Leads g h q ds → Leads g h (Where test p q) ds
leads_where g h test p q ds f k x s l w =
    (elim (holds test s) as (λ b. cond b (Word p ds x s l) (Word q ds x s l) → Kept h x (watched (Resting g) l)) [ true ↦ λ v. f x s l v | false ↦ λ v. k x s l v ]) w

leads_rounds : (g : Stage) (p q : Production) (ds : List Role) → Leads g g p ds → Leads g g q ds → (n : ℕ) (x : End) (s : State) (l : List Entry) →
    RoundsOf (Word p ds) (Word q ds) n x s l → Kept g x (watched (Resting g) l)
leads_rounds g p q ds f k zero x s l (h, w) = f x s l w
leads_rounds g p q ds f k (suc n) x s l (a, b, e, v, w) =
    kept_same g x (watched (Resting g) l) (watched (Resting g) b) (watched_on l a b (Resting g) (Resting g) e (f Further s a v).1) (leads_rounds g q q ds k k n x (standing s a) b w)

-- each question of the production leaves the stage
abbrev pub steady : Stage → Production → Bool
steady g Nothing = true
steady g Again = may_repeat g
steady g (Work k) = calm g (class_of k)
steady g (p ⨟ q) = cond (steady g p) (steady g q) false
steady g (Where test p q) = cond (steady g p) (steady g q) false
steady g (Rounds p q) = cond (steady g p) (steady g q) false
steady g (InAttempt p) = false
steady g (Under d p q) = false

pub leads_steady : (p : Production) (g : Stage) (ds : List Role) → steady g p ≡ true → EachWaits g ds → Leads g g p ds
leads_steady Nothing g ds h m x s l (e, n) = subst (λ y. Kept g y (watched (Resting g) l)) (sym e) (ap (λ k. watched (Resting g) k) n)
leads_steady Again g ds h m x s l (e, n) = subst (λ y. Kept g y (watched (Resting g) l)) (sym e) (h, ap (λ k. watched (Resting g) k) n)
leads_steady (Work k) g ds h m x s l w = leads_calm g k ds h m x s l w
leads_steady (p ⨟ q) g ds h m x s l w =
    let b = both (steady g p) (steady g q) h in leads_then g g g p q ds (leads_steady p g ds b.0 m) (leads_steady q g ds b.1 m) (λ y n e k. k) x s l w
leads_steady (Where test p q) g ds h m x s l w =
    let b = both (steady g p) (steady g q) h in leads_where g g test p q ds (leads_steady p g ds b.0 m) (leads_steady q g ds b.1 m) x s l w
leads_steady (Rounds p q) g ds h m x s l (n, w) =
    let b = both (steady g p) (steady g q) h in leads_rounds g p q ds (leads_steady p g ds b.0 m) (leads_steady q g ds b.1 m) n x s l w
leads_steady (InAttempt p) g ds h m x s l w = absurd (cc)
leads_steady (Under d p q) g ds h m x s l w = absurd (cc)
