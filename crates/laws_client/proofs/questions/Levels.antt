-- A fact that some kinds of questions need, some may take away and some bring: what is known of it along the words of a
-- production, and that it stands at each question that needs it.
use Rattle.std.proofs.Common.{Bool, true, false, cond, not, ℕ, zero, suc, List, [], ◌∷◌, ◌++◌, ◌≡◌, refl, sym, ap, ◌∙◌, subst, inl, inr}
use Rattle.run_grammar.specs.declared.production.Test.{Test}
use Rattle.run_grammar.specs.declared.production.Test.TheVariants as tests
use Rattle.run_grammar.specs.declared.kind.Role.{Role}
use Rattle.run_grammar.specs.declared.kind.Kind.{Kind}
use Rattle.run_grammar.specs.declared.answer.Entry.{Entry}
use Rattle.run_grammar.specs.Entry.{kind_of, pending, can_wait, same_role}
use Rattle.run_grammar.specs.Fits.{fits}
use Rattle.run_grammar.specs.Laws.{EachFits}
use Rattle.run_grammar.specs.Standing.{State, standing, step}
use Rattle.run_grammar.specs.Tests.{failed, holds}
use Rattle.run_grammar.specs.Production.{Production, Nothing, Work, ◌⨟◌, Where, Rounds, Again, InAttempt, Under, End, Ended, Further, CutBy}
use Rattle.run_grammar.specs.Words.{RoundsOf, ScopeEnds, Word}
use Rattle.run_grammar.proofs.Avoiding.{Aside, Avoids, avoids, word_avoids}
use Rattle.run_grammar.proofs.OutcomeWords.{answered_holds, joined}
use Rattle.run_grammar.proofs.Paths.{fits_of}
use Rattle.run_grammar.proofs.Watch.{both}
use Rattle.run_grammar.proofs.Watching.{answered_alone}

-- a fact on what stands: the kinds that need it, those that may take it away, those whose answer brings it unless it
-- fails, and the tests that tell it
pub record Fact : Type 1 where
  pub stands : State → Type 0
  pub needs : Kind → Bool
  pub drops : Kind → Bool
  pub brings : Kind → Bool
  pub tells : Test → Bool
  pub needs_aside : Aside needs
  pub drops_aside : Aside drops
  pub kept : (s : State) (e : Entry) → drops (kind_of e) ≡ false → stands s → stands (step s e)
  pub brought : (s : State) (e : Entry) → brings (kind_of e) ≡ true → pending e ≡ false → fits (kind_of e) e.answer ≡ true → failed (step s e) ≡ false → stands (step s e)
  pub told : (t : Test) (s : State) → tells t ≡ true → holds t s ≡ true → stands s

-- ---- what is known of a fact: nothing, that it stands where the last entry didn't fail, or that it stands

pub data Level : Type 0 where
  Unknown : Level
  UnlessFailed : Level
  Stands : Level

abbrev pub lower : Level → Level → Level
lower Unknown m = Unknown
lower UnlessFailed Unknown = Unknown
lower UnlessFailed UnlessFailed = UnlessFailed
lower UnlessFailed Stands = UnlessFailed
lower Stands m = m

-- where the last entry failed, and where it didn't
abbrev pub raised : Level → Level
raised Unknown = UnlessFailed
raised UnlessFailed = UnlessFailed
raised Stands = Stands

abbrev pub cleared : Level → Level
cleared Unknown = Unknown
cleared UnlessFailed = Stands
cleared Stands = Stands

abbrev pub is_failing : Test → Bool
is_failing tests.Failed = true
is_failing _ = false

-- behind a question that brings it or not
abbrev pub by_answer : Bool → Level
by_answer true = UnlessFailed
by_answer false = Unknown

-- behind a question that may take it away or not
abbrev pub by_question : Level → Bool → Bool → Level
by_question Stands false brings = Stands
by_question Stands true brings = by_answer brings
by_question UnlessFailed drops brings = by_answer brings
by_question Unknown drops brings = by_answer brings

-- behind a part, where it stands and each question keeps it
abbrev pub by_part : Level → Bool → Level
by_part Stands true = Stands
by_part Stands false = Unknown
by_part UnlessFailed keeps = Unknown
by_part Unknown keeps = Unknown

abbrev pub is_kept : Level → Bool → Bool
is_kept Stands keeps = keeps
is_kept UnlessFailed keeps = false
is_kept Unknown keeps = false

-- a question may be asked
abbrev pub may_ask : (needs drops waits : Bool) → Level → Bool
may_ask false drops waits g = true
may_ask true false waits Stands = true
may_ask true true waits Stands = not waits
may_ask true drops waits UnlessFailed = false
may_ask true drops waits Unknown = false

false_of : (b : Bool) → not b ≡ true → b ≡ false
false_of true h = absurd (cc)
false_of false h = refl

not_of : (b : Bool) → b ≡ false → not b ≡ true
not_of true h = absurd (cc)
not_of false h = refl

failing_test : (t : Test) (s : State) → is_failing t ≡ true → holds t s ≡ failed s
failing_test tests.Failed s h = refl
failing_test _ s h = absurd (cc)

module _ (f : Fact) where
  abbrev pub At : Level → State → Type 0
  At Unknown s = Unit {0}
  At UnlessFailed s = failed s ≡ false → f.stands s
  At Stands s = f.stands s

  abbrev pub keeps : Production → Bool
  keeps p = avoids f.drops p

  abbrev pub where_holds : Test → Level → Level
  where_holds t g = cond (f.tells t) Stands (cond (is_failing t) (raised g) g)

  abbrev pub where_not : Test → Level → Level
  where_not t g = cond (is_failing t) (cleared g) g

  -- what is known behind a word of the production that ends by itself
  abbrev pub behind : Production → Level → Level
  behind Nothing g = g
  behind Again g = g
  behind (Work k) g = by_question g (f.drops k) (f.brings k)
  behind (p ⨟ q) g = behind q (behind p g)
  behind (Where t p q) g = lower (behind p (where_holds t g)) (behind q (where_not t g))
  behind (Rounds p q) g = by_part g (keeps (Rounds p q))
  behind (InAttempt p) g = by_part g (keeps (InAttempt p))
  behind (Under d p q) g = by_part g (keeps (Under d p q))

  -- each question of the production that needs the fact is asked where it is known to stand
  abbrev pub fine : Production → Level → Bool
  fine Nothing g = true
  fine Again g = true
  fine (Work k) g = may_ask (f.needs k) (f.drops k) (can_wait k) g
  fine (p ⨟ q) g = cond (fine p g) (fine q (behind p g)) false
  fine (Where t p q) g = cond (fine p (where_holds t g)) (fine q (where_not t g)) false
  fine (Rounds p q) g = cond (is_kept g (keeps (Rounds p q))) true (cond (fine p Unknown) (fine q Unknown) false)
  fine (InAttempt p) g = fine p g
  fine (Under d p q) g = cond (is_kept g (keeps (Under d p q))) true (cond (fine p g) (fine q Unknown) false)

  -- the fact stands at each question that needs it
  abbrev pub Meets : State → List Entry → Type 0
  Meets s [] = Unit {0}
  Meets s (e ∷ l) = (f.needs (kind_of e) ≡ true → f.stands s) × Meets (step s e) l

  -- ---- levels

  lower_left : (g m : Level) (s : State) → At g s → At (lower g m) s
  lower_left Unknown m s h = tt
  lower_left UnlessFailed Unknown s h = tt
  lower_left UnlessFailed UnlessFailed s h = h
  lower_left UnlessFailed Stands s h = h
  lower_left Stands Unknown s h = tt
  lower_left Stands UnlessFailed s h = λ r. h
  lower_left Stands Stands s h = h

  lower_right : (g m : Level) (s : State) → At m s → At (lower g m) s
  lower_right Unknown m s h = tt
  lower_right UnlessFailed Unknown s h = tt
  lower_right UnlessFailed UnlessFailed s h = h
  lower_right UnlessFailed Stands s h = λ r. h
  lower_right Stands m s h = h

  raised_at : (g : Level) (s : State) → failed s ≡ true → At g s → At (raised g) s
  raised_at Unknown s e h = λ r. absurd (let clash = sym e ∙ r in cc clash)
  raised_at UnlessFailed s e h = h
  raised_at Stands s e h = h

  cleared_at : (g : Level) (s : State) → failed s ≡ false → At g s → At (cleared g) s
  cleared_at Unknown s e h = tt
  cleared_at UnlessFailed s e h = h e
  cleared_at Stands s e h = h

  failing_at : (t : Test) (g : Level) (s : State) → holds t s ≡ true → At g s → At (cond (is_failing t) (raised g) g) s
  failing_at t g s e h =
      (elim (is_failing t) as (λ b. is_failing t ≡ b → At (cond b (raised g) g) s) [
        | true ↦ λ b. raised_at g s (sym (failing_test t s b) ∙ e) h
        | false ↦ λ b. h
      ]) refl

  holds_at : (t : Test) (g : Level) (s : State) → holds t s ≡ true → At g s → At (where_holds t g) s
  holds_at t g s e h =
      (elim (f.tells t) as (λ b. f.tells t ≡ b → At (cond b Stands (cond (is_failing t) (raised g) g)) s) [
        | true ↦ λ b. f.told t s b e
        | false ↦ λ b. failing_at t g s e h
      ]) refl

  not_at : (t : Test) (g : Level) (s : State) → holds t s ≡ false → At g s → At (where_not t g) s
  not_at t g s e h =
      (elim (is_failing t) as (λ b. is_failing t ≡ b → At (cond b (cleared g) g) s) [
        | true ↦ λ b. cleared_at g s (sym (failing_test t s b) ∙ e) h
        | false ↦ λ b. h
      ]) refl

  -- ---- lists

  pub held : (l : List Entry) (s : State) → Avoids f.drops l → f.stands s → Meets s l × f.stands (standing s l)
  held [] s n h = (tt, h)
  held (e ∷ l) s n h = let r = held l (step s e) n.1 (f.kept s e n.0 h) in ((λ k. h, r.0), r.1)

  unneeded : (l : List Entry) (s : State) → Avoids f.needs l → Meets s l
  unneeded [] s n = tt
  unneeded (e ∷ l) s n = (λ k. absurd (let clash = sym k ∙ n.0 in cc clash), unneeded l (step s e) n.1)

  meets_joined : (a b : List Entry) (s : State) → Meets s a → Meets (standing s a) b → Meets s (a ++ b)
  meets_joined [] b s g h = h
  meets_joined (e ∷ a) b s g h = (g.0, meets_joined a b (step s e) g.1 h)

  meets_both : (a b l : List Entry) (s : State) → l ≡ a ++ b → Meets s a → Meets (standing s a) b → Meets s l
  meets_both a b l s e g h = subst (Meets s) (sym e) (meets_joined a b s g h)

  kept_word : (p : Production) → keeps p ≡ true → (ds : List Role) (x : End) (s : State) (l : List Entry) → Word p ds x s l → f.stands s → Meets s l × f.stands (standing s l)
  kept_word p n ds x s l w h = held l s (word_avoids f.drops f.drops_aside p n ds x s l w) h

  -- ---- one question

  brought_at : (k : Kind) (ds : List Role) (s : State) (l : List Entry) → EachFits l → Word (Work k) ds Ended s l → At (by_answer (f.brings k)) (standing s l)
  brought_at k ds s l fit (inr (d, e, w)) = absurd (cc)
  brought_at k ds s l fit (inl (x, (n, w))) =
      (elim (f.brings k) as (λ b. f.brings k ≡ b → At (by_answer b) (standing s l)) [
        | true ↦ λ b. answered_holds (At UnlessFailed) k (λ u e j p g r. f.brought u e (ap f.brings j ∙ b) p g r) ds n l s fit w
        | false ↦ λ b. tt
      ]) refl

  answered_at : (k : Kind) (g : Level) (ds : List Role) (s : State) (l : List Entry) → EachFits l → Word (Work k) ds Ended s l → At g s → At (behind (Work k) g) (standing s l)
  answered_at k Unknown ds s l fit w h = brought_at k ds s l fit w
  answered_at k UnlessFailed ds s l fit w h = brought_at k ds s l fit w
  answered_at k Stands ds s l fit w h =
      (elim (f.drops k) as (λ b. f.drops k ≡ b → At (by_question Stands b (f.brings k)) (standing s l)) [
        | true ↦ λ b. brought_at k ds s l fit w
        | false ↦ λ b. (kept_word (Work k) (not_of (f.drops k) b) ds Ended s l w h).1
      ]) refl

  needed_at : (k : Kind) (drops : Bool) → f.drops k ≡ drops → (ds : List Role) (x : End) (s : State) (l : List Entry) → may_ask true drops (can_wait k) Stands ≡ true → Word (Work k) ds x s l → f.stands s → Meets s l
  needed_at k false b ds x s l c w h = (kept_word (Work k) (not_of (f.drops k) b) ds x s l w h).0
  needed_at k true b ds x s l c w h =
      let alone = answered_alone k ds x s l (false_of (can_wait k) c) w in subst (Meets s) (sym alone.1) (λ j. h, tt)

  no_need : (drops waits : Bool) (g : Level) → may_ask true drops waits g ≡ true → g ≡ Stands
  no_need drops waits Unknown c = absurd (cc)
  no_need drops waits UnlessFailed c = absurd (cc)
  no_need drops waits Stands c = refl

  asked_at : (k : Kind) (g : Level) (ds : List Role) (x : End) (s : State) (l : List Entry) → may_ask (f.needs k) (f.drops k) (can_wait k) g ≡ true → Word (Work k) ds x s l → At g s → Meets s l
  asked_at k g ds x s l c w h =
      (elim (f.needs k) as (λ b. f.needs k ≡ b → may_ask b (f.drops k) (can_wait k) g ≡ true → Meets s l) [
        | true ↦ λ b i.
            let known = no_need (f.drops k) (can_wait k) g i in
            needed_at k (f.drops k) refl ds x s l (subst (λ m. may_ask true (f.drops k) (can_wait k) m ≡ true) known i) w (subst (λ m. At m s) known h)
        | false ↦ λ b i. unneeded l s (word_avoids f.needs f.needs_aside (Work k) (not_of (f.needs k) b) ds x s l w)
      ]) refl c

  -- ---- a part whose questions keep it

  part_at : (p : Production) (g : Level) (ds : List Role) (x : End) (s : State) (l : List Entry) → Word p ds x s l → At g s → At (by_part g (keeps p)) (standing s l)
  part_at p Unknown ds x s l w h = tt
  part_at p UnlessFailed ds x s l w h = tt
  part_at p Stands ds x s l w h =
      (elim (keeps p) as (λ b. keeps p ≡ b → At (by_part Stands b) (standing s l)) [ true ↦ λ b. (kept_word p b ds x s l w h).1 | false ↦ λ b. tt ]) refl

  part_meets : (p : Production) (g : Level) (rest : Bool) (ds : List Role) (x : End) (s : State) (l : List Entry) → cond (is_kept g (keeps p)) true rest ≡ true → Word p ds x s l → At g s → (rest ≡ true → Meets s l) → Meets s l
  part_meets p Unknown rest ds x s l c w h k = k c
  part_meets p UnlessFailed rest ds x s l c w h k = k c
  part_meets p Stands rest ds x s l c w h k =
      (elim (keeps p) as (λ b. keeps p ≡ b → cond b true rest ≡ true → Meets s l) [ true ↦ λ b i. (kept_word p b ds x s l w h).0 | false ↦ λ b i. k i ]) refl c

  -- ---- productions

  pub after : (p : Production) (g : Level) (ds : List Role) (s : State) (l : List Entry) → EachFits l → Word p ds Ended s l → At g s → At (behind p g) (standing s l)
  after Nothing g ds s l fit (e, n) h = subst (λ m. At g (standing s m)) (sym n) h
  after Again g ds s l fit (e, n) h = absurd (cc)
  after (Work k) g ds s l fit w h = answered_at k g ds s l fit w h
  after (p ⨟ q) g ds s l fit (inl (a, b, e, v, w)) h =
      let y = fits_of a b (subst EachFits e fit) in
      joined (At (behind q (behind p g))) a b l s e (after q (behind p g) ds (standing s a) b y.1 w (after p g ds s a y.0 v h))
  after (p ⨟ q) g ds s l fit (inr (e, w)) h = absurd (cc)
  after (Where t p q) g ds s l fit w h =
      (elim (holds t s) as (λ b. holds t s ≡ b → cond b (Word p ds Ended s l) (Word q ds Ended s l) → At (lower (behind p (where_holds t g)) (behind q (where_not t g))) (standing s l)) [
        | true ↦ λ e v. lower_left (behind p (where_holds t g)) (behind q (where_not t g)) (standing s l) (after p (where_holds t g) ds s l fit v (holds_at t g s e h))
        | false ↦ λ e v. lower_right (behind p (where_holds t g)) (behind q (where_not t g)) (standing s l) (after q (where_not t g) ds s l fit v (not_at t g s e h))
      ]) refl w
  after (Rounds p q) g ds s l fit w h = part_at (Rounds p q) g ds Ended s l w h
  after (InAttempt p) g ds s l fit w h = part_at (InAttempt p) g ds Ended s l w h
  after (Under d p q) g ds s l fit w h = part_at (Under d p q) g ds Ended s l w h

  meets_rounds : (V W : End → State → List Entry → Type 0) → ((x : End) (s : State) (l : List Entry) → EachFits l → V x s l → Meets s l) → ((x : End) (s : State) (l : List Entry) → EachFits l → W x s l → Meets s l) →
      (n : ℕ) (x : End) (s : State) (l : List Entry) → EachFits l → RoundsOf V W n x s l → Meets s l
  meets_rounds V W i j zero x s l fit (h, w) = i x s l fit w
  meets_rounds V W i j (suc n) x s l fit (a, b, e, v, w) =
      let y = fits_of a b (subst EachFits e fit) in
      meets_both a b l s e (i Further s a y.0 v) (meets_rounds W W j j n x (standing s a) b y.1 w)

  meets_scope : (d : Role) (inner : End → List Entry → Type 0) (s : State) → ((x : End) (l : List Entry) → EachFits l → inner x l → Meets s l) → (y x : End) (l : List Entry) → EachFits l → ScopeEnds d inner y x l → Meets s l
  meets_scope d inner s i Ended x l fit (e, n) = subst (Meets s) (sym n) tt
  meets_scope d inner s i Further x l fit (e, n) = subst (Meets s) (sym n) tt
  meets_scope d inner s i (CutBy c inside) x l fit w =
      (elim (same_role d c) as (λ t. cond t (cond inside (inner x l) ((x ≡ Ended) × (l ≡ []))) ((x ≡ CutBy c inside) × (l ≡ [])) → Meets s l) [
        | true ↦ elim inside as (λ t. cond t (inner x l) ((x ≡ Ended) × (l ≡ [])) → Meets s l) [ true ↦ λ u. i x l fit u | false ↦ λ u. subst (Meets s) (sym u.1) tt ]
        | false ↦ λ u. subst (Meets s) (sym u.1) tt
      ]) w

  pub meets : (p : Production) (g : Level) → fine p g ≡ true → (ds : List Role) (x : End) (s : State) (l : List Entry) → EachFits l → Word p ds x s l → At g s → Meets s l
  meets Nothing g c ds x s l fit (e, n) h = subst (Meets s) (sym n) tt
  meets Again g c ds x s l fit (e, n) h = subst (Meets s) (sym n) tt
  meets (Work k) g c ds x s l fit w h = asked_at k g ds x s l c w h
  meets (p ⨟ q) g c ds x s l fit (inl (a, b, e, v, w)) h =
      let y = fits_of a b (subst EachFits e fit) in
      let r = both (fine p g) (fine q (behind p g)) c in
      meets_both a b l s e (meets p g r.0 ds Ended s a y.0 v h) (meets q (behind p g) r.1 ds x (standing s a) b y.1 w (after p g ds s a y.0 v h))
  meets (p ⨟ q) g c ds x s l fit (inr (e, w)) h = meets p g (both (fine p g) (fine q (behind p g)) c).0 ds x s l fit w h
  meets (Where t p q) g c ds x s l fit w h =
      let r = both (fine p (where_holds t g)) (fine q (where_not t g)) c in
      (elim (holds t s) as (λ b. holds t s ≡ b → cond b (Word p ds x s l) (Word q ds x s l) → Meets s l) [
        | true ↦ λ e v. meets p (where_holds t g) r.0 ds x s l fit v (holds_at t g s e h)
        | false ↦ λ e v. meets q (where_not t g) r.1 ds x s l fit v (not_at t g s e h)
      ]) refl w
  meets (Rounds p q) g c ds x s l fit (n, w) h =
      part_meets (Rounds p q) g (cond (fine p Unknown) (fine q Unknown) false) ds x s l c (n, w) h (λ i.
      let r = both (fine p Unknown) (fine q Unknown) i in
      meets_rounds (Word p ds) (Word q ds) (λ y u m z v. meets p Unknown r.0 ds y u m z v tt) (λ y u m z v. meets q Unknown r.1 ds y u m z v tt) n x s l fit w)
  meets (InAttempt p) g c ds x s l fit (y, e, w) h = meets p g c ds y s l fit w h
  meets (Under d p q) g c ds x s l fit (a, b, y, e, v, w) h =
      part_meets (Under d p q) g (cond (fine p g) (fine q Unknown) false) ds x s l c (a, b, y, e, v, w) h (λ i.
      let r = both (fine p g) (fine q Unknown) i in
      let z = fits_of a b (subst EachFits e fit) in
      meets_both a b l s e (meets p g r.0 (d ∷ ds) y s a z.0 v h)
      (meets_scope d (λ o m. Word q ds o (standing s a) m) (standing s a) (λ o m k u. meets q Unknown r.1 ds o (standing s a) m k u tt) y x b z.1 w))
