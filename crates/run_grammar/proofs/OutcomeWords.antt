-- Words of the grammar, and what holds behind them: that an outcome stands, or what one covers.
use Rattle.run_grammar.specs.declared.production.Test.{Test}
use Rattle.run_grammar.specs.Tests.{holds}
use Rattle.run_grammar.specs.declared.production.Test.TheVariants as tests
use Rattle.std.proofs.Common.{Bool, true, false, cond, zero, suc, ℕ, List, [], ◌∷◌, ◌++◌, ◌≡◌, refl, sym, ap, ◌∙◌, subst, inl, inr, arith}
use Rattle.run_grammar.specs.declared.kind.Role.{Role}
use Rattle.run_grammar.specs.declared.kind.Role.TheVariants as roles
use Rattle.run_grammar.specs.declared.kind.Kind.{Kind}
use Rattle.run_grammar.specs.declared.kind.Kind.TheVariants as kinds
use Rattle.run_grammar.specs.declared.answer.Entry.{Entry}
use Rattle.run_grammar.specs.Entry.{kind_of, pending, ready, can_wait, fails, same_role, abandon_of}
use Rattle.run_grammar.specs.Question.{nanos_of}
use Rattle.run_grammar.specs.Fits.{fits}
use Rattle.run_grammar.specs.Change.{changed}
use Rattle.run_grammar.specs.Standing.{State, standing, step}
use Rattle.run_grammar.specs.Production.{Production, Nothing, Work, ◌⨟◌, Where, Rounds, Again, InAttempt, Under, End, Ended, Further, CutBy}
use Rattle.run_grammar.specs.Words.{Word, WaitsOf, Struck, Idle, AfterIdles, Answered, CutOnce, RoundsOf, marked}
use Rattle.run_grammar.specs.Tests.{failed}
use Rattle.run_grammar.specs.Laws.{EachFits}
use Rattle.run_grammar.proofs.Spots.{standing-append}
use Rattle.run_grammar.proofs.Paths.{fits_of}
use Rattle.run_grammar.proofs.Outcomes.{Has, is_calm, is_deadline, failed_stands, kept_stands, struck_stands}

abbrev pub Stood : State → Type 0
Stood s = Has s.context

-- where the last entry failed, an outcome stands
abbrev pub Sound : State → Type 0
Sound s = failed s ≡ true → Stood s

-- ---- entries

pub sound_step : (s : State) (e : Entry) → fits (kind_of e) e.answer ≡ true → Sound (step s e)
unfolding step failed fails
sound_step s e f h = failed_stands (kind_of e) (nanos_of e.question) e.answer s.context f h

pub sound_on : (l : List Entry) (s : State) → EachFits l → Sound s → Sound (standing s l)
sound_on [] s f h = h
sound_on (e ∷ l) s (f, g) h = sound_on l (step s e) g (sound_step s e f)

calm_step : (s : State) (e : Entry) → is_calm (kind_of e) ≡ true → fits (kind_of e) e.answer ≡ true → Stood s → Stood (step s e)
unfolding step
calm_step s e c f h = kept_stands (kind_of e) (nanos_of e.question) e.answer s.context c f h

of_kind_calm : (e : Entry) (k : Kind) → kind_of e ≡ k → is_calm k ≡ true → is_calm (kind_of e) ≡ true
of_kind_calm e k h c = subst (λ j. is_calm j ≡ true) (sym h) c

-- ---- a question that is asked again and again

-- what every entry of such a kind keeps; Park and the Waits are such
abbrev pub EachKeeps : (State → Type 0) → (Kind → Bool) → Type 0
EachKeeps P of_kind = (s : State) (e : Entry) → of_kind (kind_of e) ≡ true → fits (kind_of e) e.answer ≡ true → P s → P (step s e)

so_kind : (of_kind : Kind → Bool) (e : Entry) (k : Kind) → kind_of e ≡ k → of_kind k ≡ true → of_kind (kind_of e) ≡ true
so_kind of_kind e k h c = subst (λ j. of_kind j ≡ true) (sym h) c

waits_keep : (P : State → Type 0) (of_kind : Kind → Bool) → of_kind kinds.Park ≡ true → ((d : Role) → of_kind (kinds.Wait d) ≡ true) → EachKeeps P of_kind →
    (ds : List Role) (l : List Entry) (s : State) → EachFits l → WaitsOf ds l → P s → P (standing s l)
waits_keep P of_kind i j k [] [] s f w h = absurd w
waits_keep P of_kind i j k (d ∷ ds) [] s f w h = absurd w
waits_keep P of_kind i j k [] (e ∷ l) s (f, g) (o, n) h = subst (λ m. P (standing (step s e) m)) (sym n) (k s e (so_kind of_kind e kinds.Park o i) f h)
waits_keep P of_kind i j k (d ∷ ds) (e ∷ l) s (f, g) (o, p, w) h = waits_keep P of_kind i j k ds l (step s e) g w (k s e (so_kind of_kind e (kinds.Wait d) o (j d)) f h)

idle_keeps : (P : State → Type 0) (of_kind : Kind → Bool) → of_kind kinds.Park ≡ true → ((d : Role) → of_kind (kinds.Wait d) ≡ true) → EachKeeps P of_kind →
    (q : Kind) (ds : List Role) (l : List Entry) (s : State) → of_kind q ≡ true → EachFits l → Idle q ds l → P s → P (standing s l)
idle_keeps P of_kind i j k q ds [] s c f w h = absurd w
idle_keeps P of_kind i j k q ds (e ∷ l) s c (f, g) (o, p, w) h = waits_keep P of_kind i j k ds l (step s e) g w (k s e (so_kind of_kind e q o c) f h)

pub worked_keeps : (P : State → Type 0) (of_kind : Kind → Bool) → of_kind kinds.Park ≡ true → ((d : Role) → of_kind (kinds.Wait d) ≡ true) → EachKeeps P of_kind →
    (q : Kind) (ds : List Role) (n : ℕ) (l : List Entry) (s : State) → of_kind q ≡ true → EachFits l → AfterIdles q ds (Answered q) n l → P s → P (standing s l)
worked_keeps P of_kind i j k q ds zero l s c f (e, n, o, p) h =
    let g = subst EachFits n f in
    subst (λ m. P (standing s m)) (sym n) (k s e (so_kind of_kind e q o c) g.0 h)
worked_keeps P of_kind i j k q ds (suc n) l s c f (a, b, e, x, w) h =
    let g = fits_of a b (subst EachFits e f) in
    subst (λ m. P (standing s m)) (sym e)
    (subst P (sym (standing-append a b s)) (worked_keeps P of_kind i j k q ds n b (standing s a) c g.1 w (idle_keeps P of_kind i j k q ds a s c g.0 x h)))

worked_stands : (k : Kind) (ds : List Role) (n : ℕ) (l : List Entry) (s : State) → is_calm k ≡ true → EachFits l → AfterIdles k ds (Answered k) n l → Stood s → Stood (standing s l)
worked_stands k ds n l s c f w h = worked_keeps Stood is_calm refl (λ d. refl) calm_step k ds n l s c f w h

-- what holds after every answer of the kind holds after the question
pub answered_holds : (P : State → Type 0) (k : Kind) → ((s : State) (e : Entry) → kind_of e ≡ k → pending e ≡ false → fits (kind_of e) e.answer ≡ true → P (step s e)) →
    (ds : List Role) (n : ℕ) (l : List Entry) (s : State) → EachFits l → AfterIdles k ds (Answered k) n l → P (standing s l)
answered_holds P k q ds zero l s f (e, n, j, p) =
    let g = subst EachFits n f in
    subst (λ m. P (standing s m)) (sym n) (q s e j p g.0)
answered_holds P k q ds (suc n) l s f (a, b, e, i, w) =
    let g = fits_of a b (subst EachFits e f) in
    subst (λ m. P (standing s m)) (sym e)
    (subst P (sym (standing-append a b s)) (answered_holds P k q ds n b (standing s a) g.1 w))

never_idle : (k : Kind) (ds : List Role) (l : List Entry) → can_wait k ≡ false → Idle k ds l → ⊥
unfolding pending
never_idle k ds [] c w = w
never_idle k ds (e ∷ l) c (j, p, w) = grind (arith, c, j, p)

-- and where the kind is never pending, what held before is known too
pub answered_from : (Q P : State → Type 0) (k : Kind) → can_wait k ≡ false →
    ((s : State) (e : Entry) → Q s → kind_of e ≡ k → fits (kind_of e) e.answer ≡ true → P (step s e)) →
    (ds : List Role) (n : ℕ) (l : List Entry) (s : State) → EachFits l → AfterIdles k ds (Answered k) n l → Q s → P (standing s l)
answered_from Q P k c q ds zero l s f (e, n, j, p) h =
    let g = subst EachFits n f in
    subst (λ m. P (standing s m)) (sym n) (q s e h j g.0)
answered_from Q P k c q ds (suc n) l s f (a, b, e, i, w) h = absurd (never_idle k ds a c i)

-- ---- a cut leaves its timeout

struck_stood : (s : State) (e : Entry) (d : Role) → is_deadline d ≡ true → kind_of e ≡ kinds.Wait d → ready e ≡ true → Stood (step s e)
unfolding step ready
struck_stood s e d h k r = subst (λ j. Has (changed j (nanos_of e.question) e.answer s.context)) (sym k) (struck_stands d (nanos_of e.question) e.answer s.context h r)

calm_abandon : (k : Kind) → is_calm (abandon_of k) ≡ true
calm_abandon (kinds.Configure w) = refl
calm_abandon (kinds.Hook h) = refl
calm_abandon kinds.Serialize = refl
calm_abandon kinds.Load = refl
calm_abandon kinds.Initial = refl
calm_abandon (kinds.Start r) = refl
calm_abandon (kinds.Wait roles.Operation) = refl
calm_abandon (kinds.Wait roles.Attempt) = refl
calm_abandon (kinds.Wait roles.Send) = refl
calm_abandon (kinds.Wait roles.Retry) = refl
calm_abandon (kinds.Wait roles.LongPoll) = refl
calm_abandon kinds.Choose = refl
calm_abandon kinds.Endpoint = refl
calm_abandon kinds.Apply = refl
calm_abandon kinds.Sign = refl
calm_abandon kinds.Transmit = refl
calm_abandon kinds.Stream = refl
calm_abandon kinds.Body = refl
calm_abandon kinds.Deserialize = refl
calm_abandon kinds.Decide = refl
calm_abandon (kinds.Abandon p) = refl
calm_abandon kinds.Park = refl

struck_word : (k : Kind) (d : Role) (ds : List Role) (l : List Entry) (s : State) → is_deadline d ≡ true → EachFits l → Struck k d ds l → Stood (standing s l)
struck_word k d [] l s h f w = absurd w
struck_word k d (c ∷ ds) [] s h f w = absurd w
struck_word k d (c ∷ ds) (e ∷ l) s h (f, g) (j, inl (p, w)) = struck_word k d ds l (step s e) h g w
struck_word k d (c ∷ ds) (e ∷ l) s h (f, g) (j, inr (same, p, r, a, n, i)) =
    let m = subst EachFits n g in
    subst (λ y. Stood (standing (step s e) y)) (sym n)
    (calm_step (step s e) a (of_kind_calm a (abandon_of k) i (calm_abandon k)) m.0 (struck_stood s e d h (j ∙ ap kinds.Wait same) r))

cut_once : (k : Kind) (d : Role) (ds : List Role) (l : List Entry) (s : State) → is_deadline d ≡ true → EachFits l → CutOnce k d ds l → Stood (standing s l)
cut_once k d ds [] s h f w = absurd w
cut_once k d ds (e ∷ l) s h (f, g) (j, p, w) = struck_word k d ds l (step s e) h g w

cut_work : (k : Kind) (d : Role) (ds : List Role) (n : ℕ) (l : List Entry) (s : State) → is_deadline d ≡ true → EachFits l → AfterIdles k ds (CutOnce k d ds) n l → Stood (standing s l)
cut_work k d ds zero l s h f w = cut_once k d ds l s h f w
cut_work k d ds (suc n) l s h f (a, b, e, i, w) =
    let g = fits_of a b (subst EachFits e f) in
    subst (λ m. Stood (standing s m)) (sym e) (subst Stood (sym (standing-append a b s)) (cut_work k d ds n b (standing s a) h g.1 w))

-- words that a deadline cuts
abbrev pub CutStands : Production → Type 0
CutStands p = (ds : List Role) (d : Role) (i : Bool) (s : State) (l : List Entry) → is_deadline d ≡ true → EachFits l → Word p ds (CutBy d i) s l → Stood (standing s l)

pub joined : (P : State → Type 0) (a b l : List Entry) (s : State) → l ≡ a ++ b → P (standing (standing s a) b) → P (standing s l)
joined P a b l s e h = subst (λ m. P (standing s m)) (sym e) (subst P (sym (standing-append a b s)) h)

cut_rounds : (p q : Production) → CutStands p → CutStands q → (ds : List Role) (d : Role) (i : Bool) (n : ℕ) (s : State) (l : List Entry) → is_deadline d ≡ true → EachFits l →
    RoundsOf (Word p ds) (Word q ds) n (CutBy d i) s l → Stood (standing s l)
cut_rounds p q f g ds d i zero s l h fit (x, w) = f ds d i s l h fit w
cut_rounds p q f g ds d i (suc n) s l h fit (a, b, e, v, w) =
    joined Stood a b l s e (cut_rounds q q g g ds d i n (standing s a) b h (fits_of a b (subst EachFits e fit)).1 w)

marked_cut : (y : End) (d : Role) (i : Bool) → CutBy d i ≡ marked y → (j : Bool) × (y ≡ CutBy d j)
marked_cut Ended d i e = absurd (cc)
marked_cut Further d i e = absurd (cc)
marked_cut (CutBy c j) d i e = (j, grind (arith, e))

pub cut_stands : (p : Production) → CutStands p
cut_stands Nothing ds d i s l h f (e, n) = absurd (cc)
cut_stands Again ds d i s l h f (e, n) = absurd (cc)
cut_stands (Work k) ds d i s l h f (inl (e, w)) = absurd (cc)
cut_stands (Work k) ds d i s l h f (inr (c, e, (n, w))) = cut_work k d ds n l s h f (subst (λ x. AfterIdles k ds (CutOnce k x ds) n l) (grind (arith, e)) w)
cut_stands (p ⨟ q) ds d i s l h f (inl (a, b, e, v, w)) = joined Stood a b l s e (cut_stands q ds d i (standing s a) b h (fits_of a b (subst EachFits e f)).1 w)
cut_stands (p ⨟ q) ds d i s l h f (inr (x, w)) = cut_stands p ds d i s l h f w
cut_stands (Where test p q) ds d i s l h f w =
    (elim (holds test s) as (λ b. cond b (Word p ds (CutBy d i) s l) (Word q ds (CutBy d i) s l) → Stood (standing s l)) [
      | true ↦ λ v. cut_stands p ds d i s l h f v
      | false ↦ λ v. cut_stands q ds d i s l h f v
    ]) w
cut_stands (Rounds p q) ds d i s l h f (n, w) = cut_rounds p q (cut_stands p) (cut_stands q) ds d i n s l h f w
cut_stands (InAttempt p) ds d i s l h f (y, e, w) =
    let m = marked_cut y d i e in
    cut_stands p ds d m.0 s l h f (subst (λ x. Word p ds x s l) m.1 w)
cut_stands (Under c p q) ds d i s l h f (a, b, Ended, e, v, (x, n)) = absurd (cc)
cut_stands (Under c p q) ds d i s l h f (a, b, Further, e, v, (x, n)) = absurd (cc)
cut_stands (Under c p q) ds d i s l h f (a, b, CutBy g j, e, v, w) =
    let fit = fits_of a b (subst EachFits e f) in
    (elim (same_role c g) as (λ t. cond t (cond j (Word q ds (CutBy d i) (standing s a) b) ((CutBy d i ≡ Ended) × (b ≡ []))) ((CutBy d i ≡ CutBy g j) × (b ≡ [])) → Stood (standing s l)) [
      | true ↦
          elim j as (λ t. cond t (Word q ds (CutBy d i) (standing s a) b) ((CutBy d i ≡ Ended) × (b ≡ [])) → Stood (standing s l)) [
            | true ↦ λ u. joined Stood a b l s e (cut_stands q ds d i (standing s a) b h fit.1 u)
            | false ↦ λ u. absurd (let z = u.0 in cc)
          ]
      | false ↦ λ u.
          joined Stood a b l s e (subst (λ m. Stood (standing (standing s a) m)) (sym u.1) (cut_stands p (c ∷ ds) d i s a h fit.0 (subst (λ x. Word p (c ∷ ds) x s a) (sym u.0) v)))
    ]) w

-- ---- words that keep what holds, and words that leave it

-- what held before a word of the production, holds behind it
abbrev pub Carries : (State → Type 0) → Production → Type 0
Carries P p = (ds : List Role) (s : State) (l : List Entry) → EachFits l → Word p ds Ended s l → P s → P (standing s l)

-- it holds behind every word of the production that begins where S holds
abbrev pub LeavesFrom : (S P : State → Type 0) → Production → Type 0
LeavesFrom S P p = (ds : List Role) (s : State) (l : List Entry) → EachFits l → Word p ds Ended s l → S s → P (standing s l)

-- it holds behind every word of the production
abbrev pub Leaves : (State → Type 0) → Production → Type 0
Leaves P p = LeavesFrom Sound P p

pub carries_sound : (p : Production) → Carries Sound p
carries_sound p ds s l f w h = sound_on l s f h

-- an outcome that stands is enough
abbrev pub Covers : (State → Type 0) → Type 0
Covers P = (s : State) → Stood s → P s

carries_nothing : (P : State → Type 0) → Carries P Nothing
carries_nothing P ds s l f (e, n) h = subst (λ m. P (standing s m)) (sym n) h

pub carries_then : (P : State → Type 0) (p q : Production) → Carries P p → Carries P q → Carries P (p ⨟ q)
carries_then P p q f g ds s l fit (inl (a, b, e, v, w)) h =
    let x = fits_of a b (subst EachFits e fit) in
    joined P a b l s e (g ds (standing s a) b x.1 w (f ds s a x.0 v h))
carries_then P p q f g ds s l fit (inr (x, w)) h = absurd (cc)

pub leaves_work : (P : State → Type 0) (k : Kind) → ((s : State) (e : Entry) → kind_of e ≡ k → pending e ≡ false → fits (kind_of e) e.answer ≡ true → P (step s e)) → Leaves P (Work k)
leaves_work P k q ds s l fit (inl (x, (n, v))) h = answered_holds P k q ds n l s fit v
leaves_work P k q ds s l fit (inr (d, x, v)) h = absurd (cc)

pub from_then : (S P : State → Type 0) (p q : Production) → LeavesFrom S P p → Carries P q → LeavesFrom S P (p ⨟ q)
from_then S P p q f g ds s l fit (inl (a, b, e, v, w)) h =
    let x = fits_of a b (subst EachFits e fit) in
    joined P a b l s e (g ds (standing s a) b x.1 w (f ds s a x.0 v h))
from_then S P p q f g ds s l fit (inr (x, w)) h = absurd (cc)

-- what is behind a production leaves it, where the production carries S
pub from_after : (S P : State → Type 0) (p q : Production) → Carries S p → LeavesFrom S P q → LeavesFrom S P (p ⨟ q)
from_after S P p q c g ds s l fit (inl (a, b, e, v, w)) h =
    let x = fits_of a b (subst EachFits e fit) in
    joined P a b l s e (g ds (standing s a) b x.1 w (c ds s a x.0 v h))
from_after S P p q c g ds s l fit (inr (x, w)) h = absurd (cc)

pub from_where : (S P : State → Type 0) (t : Test) (p q : Production) → LeavesFrom S P p → LeavesFrom S P q → LeavesFrom S P (Where t p q)
from_where S P t p q f g ds s l fit w h =
    (elim (holds t s) as (λ b. cond b (Word p ds Ended s l) (Word q ds Ended s l) → P (standing s l)) [
      | true ↦ λ v. f ds s l fit v h
      | false ↦ λ v. g ds s l fit v h
    ]) w

-- where the test holds only if it holds already
pub from_unless : (S P : State → Type 0) (t : Test) (p q : Production) → ((s : State) → S s → holds t s ≡ true → P s) → Carries P p → LeavesFrom S P q → LeavesFrom S P (Where t p q)
from_unless S P t p q n f g ds s l fit w h =
    (elim (holds t s) as (λ b. holds t s ≡ b → cond b (Word p ds Ended s l) (Word q ds Ended s l) → P (standing s l)) [
      | true ↦ λ e v. f ds s l fit v (n s h e)
      | false ↦ λ e v. g ds s l fit v h
    ]) refl w

pub from_halt : (S P : State → Type 0) (q : Production) → Covers P → ((s : State) → S s → Sound s) → LeavesFrom S P q → LeavesFrom S P (Where tests.Failed Nothing q)
from_halt S P q c d g = from_unless S P tests.Failed Nothing q (λ s h e. c s (d s h e)) (carries_nothing P) g

pub leaves_then : (P : State → Type 0) (p q : Production) → Leaves P p → Carries P q → Leaves P (p ⨟ q)
leaves_then P p q f g = from_then Sound P p q f g

-- what is behind a production leaves it, whatever that does
pub leaves_after : (P : State → Type 0) (p q : Production) → Leaves P q → Leaves P (p ⨟ q)
leaves_after P p q g = from_after Sound P p q (carries_sound p) g

pub leaves_halt : (P : State → Type 0) (q : Production) → Covers P → Leaves P q → Leaves P (Where tests.Failed Nothing q)
leaves_halt P q c g = from_halt Sound P q c (λ s h. h) g

is_deadline_of : (c d : Role) → is_deadline c ≡ true → same_role c d ≡ true → is_deadline d ≡ true
is_deadline_of roles.Operation roles.Operation h e = refl
is_deadline_of roles.Attempt roles.Attempt h e = refl
is_deadline_of _ _ h e = absurd (cc)

pub from_under : (S P : State → Type 0) (c : Role) (p q : Production) → Covers P → is_deadline c ≡ true → LeavesFrom S P p → Carries P q → LeavesFrom S P (Under c p q)
from_under S P c p q o i f g ds s l fit (a, b, Ended, e, v, (x, n)) h =
    let y = fits_of a b (subst EachFits e fit) in
    joined P a b l s e (subst (λ m. P (standing (standing s a) m)) (sym n) (f (c ∷ ds) s a y.0 v h))
from_under S P c p q o i f g ds s l fit (a, b, Further, e, v, (x, n)) h = absurd (cc)
from_under S P c p q o i f g ds s l fit (a, b, CutBy d j, e, v, w) h =
    let y = fits_of a b (subst EachFits e fit) in
    (elim (same_role c d) as (λ t. same_role c d ≡ t → cond t (cond j (Word q ds Ended (standing s a) b) ((Ended ≡ Ended) × (b ≡ []))) ((Ended ≡ CutBy d j) × (b ≡ [])) → P (standing s l)) [
      | true ↦ λ t.
          let k = o (standing s a) (cut_stands p (c ∷ ds) d j s a (is_deadline_of c d i t) y.0 v) in
          elim j as (λ z. cond z (Word q ds Ended (standing s a) b) ((Ended ≡ Ended) × (b ≡ [])) → P (standing s l)) [
            | true ↦ λ u. joined P a b l s e (g ds (standing s a) b y.1 u k)
            | false ↦ λ u. joined P a b l s e (subst (λ m. P (standing (standing s a) m)) (sym u.1) k)
          ]
      | false ↦ λ t u. absurd (let z = u.0 in cc)
    ]) refl w

-- ---- words that keep an outcome, and words that leave one

abbrev pub Keeps : Production → Type 0
Keeps p = Carries Stood p

abbrev pub Gives : Production → Type 0
Gives p = Leaves Stood p

pub stood_covers : Covers Stood
stood_covers s h = h

pub keeps_nothing : Keeps Nothing
keeps_nothing = carries_nothing Stood

pub keeps_work : (k : Kind) → is_calm k ≡ true → Keeps (Work k)
keeps_work k c ds s l f (inl (e, (n, w))) h = worked_stands k ds n l s c f w h
keeps_work k c ds s l f (inr (d, e, w)) h = absurd (cc)

pub keeps_then : (p q : Production) → Keeps p → Keeps q → Keeps (p ⨟ q)
keeps_then p q f g = carries_then Stood p q f g

pub keeps_where : (t : Test) (p q : Production) → Keeps p → Keeps q → Keeps (Where t p q)
keeps_where t p q f g ds s l fit w h =
    (elim (holds t s) as (λ b. cond b (Word p ds Ended s l) (Word q ds Ended s l) → Stood (standing s l)) [
      | true ↦ λ v. f ds s l fit v h
      | false ↦ λ v. g ds s l fit v h
    ]) w

pub gives_halt : (q : Production) → Gives q → Gives (Where tests.Failed Nothing q)
gives_halt q g = leaves_halt Stood q stood_covers g

marked_ended : (y : End) → Ended ≡ marked y → y ≡ Ended
marked_ended Ended e = refl
marked_ended Further e = absurd (cc)
marked_ended (CutBy d i) e = absurd (cc)

pub gives_in_attempt : (p : Production) → Gives p → Gives (InAttempt p)
gives_in_attempt p g ds s l f (y, e, w) h = g ds s l f (subst (λ x. Word p ds x s l) (marked_ended y e) w) h

gives_rounds_of : (p q : Production) → Gives p → Gives q → (ds : List Role) (n : ℕ) (s : State) (l : List Entry) → EachFits l → RoundsOf (Word p ds) (Word q ds) n Ended s l → Sound s →
    Stood (standing s l)
gives_rounds_of p q f g ds zero s l fit (x, w) h = f ds s l fit w h
gives_rounds_of p q f g ds (suc n) s l fit (a, b, e, v, w) h =
    let x = fits_of a b (subst EachFits e fit) in
    joined Stood a b l s e (gives_rounds_of q q g g ds n (standing s a) b x.1 w (sound_on a s x.0 h))

pub gives_rounds : (p q : Production) → Gives p → Gives q → Gives (Rounds p q)
gives_rounds p q f g ds s l fit (n, w) h = gives_rounds_of p q f g ds n s l fit w h
