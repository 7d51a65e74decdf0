-- What a grant leaves: that of the first attempt, and the token of a further one.
use Rattle.run_grammar.specs.declared.production.Test.TheVariants as tests
use Rattle.std.proofs.Common.{Bool, true, false, cond, zero, suc, ℕ, List, ◌≡◌, ◌⊎◌, refl, sym, subst, inl, inr, arith}
use Rattle.smithy_types.specs.declared.payload.Payload.{Payload}
use Rattle.run_grammar.specs.declared.kind.Role.{Role}
use Rattle.run_grammar.specs.declared.kind.Role.TheVariants as roles
use Rattle.run_grammar.specs.declared.kind.Kind.{Kind}
use Rattle.run_grammar.specs.declared.kind.Kind.TheVariants as kinds
use Rattle.run_grammar.specs.declared.answer.Entry.{Entry}
use Rattle.run_grammar.specs.Entry.{kind_of, pending, can_wait}
use Rattle.run_grammar.specs.Question.{nanos_of}
use Rattle.run_grammar.specs.Fits.{fits}
use Rattle.run_grammar.specs.Change.{changed}
use Rattle.run_grammar.specs.Standing.{State, standing, start, step}
use Rattle.run_grammar.specs.Production.{Production, Nothing, Work, ◌⨟◌, Where, Again, End, Ended, Further}
use Rattle.run_grammar.specs.Words.{Word, RoundsOf}
use Rattle.run_grammar.specs.Grammar.{grant_round, grant, again}
use Rattle.run_grammar.specs.Tests.{answers_delay, answers_go, answers_go_or_no, answers_started, is_start_of, delayed, went, went_on, started, token_needed}
use Rattle.run_grammar.specs.Laws.{EachFits}
use Rattle.run_grammar.proofs.Spots.{standing-append}
use Rattle.run_grammar.proofs.Paths.{fits_of}
use Rattle.run_grammar.proofs.Outcomes.{Has, Unbegun, granted_stands, token_stands, sent_stands}
use Rattle.run_grammar.proofs.OutcomeWords.{Stood, Sound, Keeps, Gives, answered_holds, answered_from, sound_on, joined, keeps_nothing}
use Rattle.run_grammar.proofs.Beginnings.{Unbegins, early, uncut, unbegun_on}
use Rattle.run_grammar.proofs.RunLeaves.{Early, begins_sound}

-- ---- sequences of a question and what follows by its answer

-- what holds after the question decides what is behind it
pub by_answer : (P : State → Type 0) (k : Kind) (q : Production) → ((s : State) (e : Entry) → kind_of e ≡ k → pending e ≡ false → fits (kind_of e) e.answer ≡ true → P (step s e)) →
    ((ds : List Role) (s : State) (l : List Entry) → EachFits l → Word q ds Ended s l → Sound s → P s → Stood (standing s l)) → Gives (Work k ⨟ q)
by_answer P k q r g ds s l fit (inl (a, b, e, inl (x, (n, v)), w)) h =
    let y = fits_of a b (subst EachFits e fit) in
    subst (λ m. Stood (standing s m)) (sym e)
    (subst Stood (sym (standing-append a b s)) (g ds (standing s a) b y.1 w (sound_on a s y.0 h) (answered_holds P k r ds n a s y.0 v)))
by_answer P k q r g ds s l fit (inl (a, b, e, inr (d, x, v), w)) h = absurd (cc)
by_answer P k q r g ds s l fit (inr (x, w)) h = absurd (cc)

-- the same for a kind that is never pending, where an outcome stood before
pub by_one_answer : (P : State → Type 0) (k : Kind) (q : Production) → can_wait k ≡ false →
    ((s : State) (e : Entry) → Stood s → kind_of e ≡ k → fits (kind_of e) e.answer ≡ true → P (step s e)) →
    ((ds : List Role) (s : State) (l : List Entry) → EachFits l → Word q ds Ended s l → Sound s → P s → Stood (standing s l)) → Keeps (Work k ⨟ q)
by_one_answer P k q c r g ds s l fit (inl (a, b, e, inl (x, (n, v)), w)) h =
    let y = fits_of a b (subst EachFits e fit) in
    subst (λ m. Stood (standing s m)) (sym e)
    (subst Stood (sym (standing-append a b s)) (g ds (standing s a) b y.1 w (sound_on a s y.0 (λ z. h)) (answered_from Stood P k c r ds n a s y.0 v h)))
by_one_answer P k q c r g ds s l fit (inl (a, b, e, inr (d, x, v), w)) h = absurd (cc)
by_one_answer P k q c r g ds s l fit (inr (x, w)) h = absurd (cc)

pub otherwise : {A B : Type 0} → A ⊎ B → (A → ⊥) → B
otherwise (inl a) n = absurd (n a)
otherwise (inr b) n = b

pub no_choice : (b : Bool) → b ≡ true → b ≡ false → ⊥
no_choice true e f = grind (arith, f)
no_choice false e f = grind (arith, e)

pub unless : {A B : Type 0} → A ⊎ B → (B → ⊥) → A
unless (inl a) n = a
unless (inr b) n = absurd (n b)

pub never_again : (ds : List Role) (s : State) (l : List Entry) → Word Again ds Ended s l → ⊥
never_again ds s l (e, n) = cc

-- ---- what holds at a run's start, and up to its first grant

abbrev pub Fresh : State → Type 0
Fresh s = Sound s × Unbegins s

pub early_fresh : Early Fresh
early_fresh = record { carried = λ p c ds s l f w h. (sound_on l s f h.0, unbegun_on p c ds Ended s l refl f w h.1); sound = λ s h. h.0 }

pub begins_fresh : (p : Payload) → Fresh (start p)
begins_fresh p = (begins_sound (start p) refl, inl refl)

-- ---- a round of a grant: Q holds before it, and behind it G, or Q where it was delayed

abbrev Granted : (State → Type 0) → (State → Type 0) → State → Type 0
Granted Q G s = (delayed s ≡ true → Q s) × (delayed s ≡ false → G s)

abbrev Grants : (State → Type 0) → (State → Type 0) → Type 0
Grants Q G = (s : State) (e : Entry) → Q s → kind_of e ≡ kinds.Initial → fits (kind_of e) e.answer ≡ true → Granted Q G (step s e)

abbrev CarriesOn : (State → Type 0) → Type 0
CarriesOn Q = (p : Production) → early p ≡ true → (ds : List Role) (x : End) (s : State) (l : List Entry) → uncut x ≡ true → EachFits l → Word p ds x s l → Q s → Q (standing s l)

abbrev Sent : State → Type 0
Sent s = (started roles.Send s ≡ true) ⊎ Stood s

sent : (s : State) (e : Entry) → kind_of e ≡ kinds.Start roles.Send → pending e ≡ false → fits (kind_of e) e.answer ≡ true → Sent (step s e)
unfolding step started
sent s e k p f =
    subst (λ j. (cond (is_start_of roles.Send j) (answers_started e.answer) false ≡ true) ⊎ Has (changed j (nanos_of e.question) e.answer s.context)) (sym k)
    (sent_stands (nanos_of e.question) e.answer s.context (subst (λ j. fits j e.answer ≡ true) k f))

never_sends_again : (ds : List Role) (s : State) (l : List Entry) → Word (Work (kinds.Wait roles.Send) ⨟ Again) ds Ended s l → ⊥
never_sends_again ds s l (inl (a, b, e, v, w)) = never_again ds (standing s a) b w
never_sends_again ds s l (inr (x, w)) = cc

abbrev sending_later : Production
sending_later = Where (tests.HasStarted roles.Send) (Work (kinds.Wait roles.Send) ⨟ Again) Nothing

after_send : (ds : List Role) (s : State) (l : List Entry) → EachFits l → Word sending_later ds Ended s l → Sound s → Sent s → Stood (standing s l)
after_send ds s l fit w h p =
    (elim (started roles.Send s) as (λ b. started roles.Send s ≡ b → cond b (Word (Work (kinds.Wait roles.Send) ⨟ Again) ds Ended s l) (Word Nothing ds Ended s l) → Stood (standing s l)) [
      | true ↦ λ e v. absurd (never_sends_again ds s l v)
      | false ↦ λ e v. keeps_nothing ds s l fit v (otherwise p (λ x. no_choice (started roles.Send s) x e))
    ]) refl w

abbrev delaying : Production
delaying = Work (kinds.Start roles.Send) ⨟ sending_later

ends_granted : (Q G : State → Type 0) → ((s : State) → Stood s → G s) → (ds : List Role) (s : State) (l : List Entry) → EachFits l → Word (Where tests.Delayed delaying Nothing) ds Ended s l → Sound s →
    Granted Q G s → G (standing s l)
ends_granted Q G c ds s l fit w h p =
    (elim (delayed s) as (λ b. delayed s ≡ b → cond b (Word delaying ds Ended s l) (Word Nothing ds Ended s l) → G (standing s l)) [
      | true ↦ λ e v. c (standing s l) (by_answer Sent (kinds.Start roles.Send) sending_later sent after_send ds s l fit v h)
      | false ↦ λ e v. subst (λ m. G (standing s m)) (sym v.1) (p.1 e)
    ]) refl w

goes_on_delayed : (Q G : State → Type 0) → CarriesOn Q → (ds : List Role) (s : State) (l : List Entry) → EachFits l → Word (Where tests.Delayed delaying Nothing) ds Further s l →
    Granted Q G s → Q (standing s l)
goes_on_delayed Q G k ds s l fit w p =
    (elim (delayed s) as (λ b. delayed s ≡ b → cond b (Word delaying ds Further s l) (Word Nothing ds Further s l) → Q (standing s l)) [
      | true ↦ λ e v. k delaying refl ds Further s l refl fit v (p.0 e)
      | false ↦ λ e v. absurd (let z = v.0 in cc)
    ]) refl w

round_ended : (Q G : State → Type 0) → Grants Q G → ((s : State) → Stood s → G s) → (ds : List Role) (s : State) (l : List Entry) → EachFits l → Word grant_round ds Ended s l → Sound s → Q s → G (standing s l)
round_ended Q G i c ds s l fit (inl (a, b, e, inl (x, (n, v)), w)) h q =
    let y = fits_of a b (subst EachFits e fit) in
    joined G a b l s e (ends_granted Q G c ds (standing s a) b y.1 w (sound_on a s y.0 h) (answered_from Q (Granted Q G) kinds.Initial refl i ds n a s y.0 v q))
round_ended Q G i c ds s l fit (inl (a, b, e, inr (d, x, v), w)) h q = absurd (cc)
round_ended Q G i c ds s l fit (inr (x, w)) h q = absurd (cc)

round_further : (Q G : State → Type 0) → Grants Q G → CarriesOn Q → (ds : List Role) (s : State) (l : List Entry) → EachFits l → Word grant_round ds Further s l → Q s → Q (standing s l)
round_further Q G i k ds s l fit (inl (a, b, e, inl (x, (n, v)), w)) q =
    let y = fits_of a b (subst EachFits e fit) in
    joined Q a b l s e (goes_on_delayed Q G k ds (standing s a) b y.1 w (answered_from Q (Granted Q G) kinds.Initial refl i ds n a s y.0 v q))
round_further Q G i k ds s l fit (inl (a, b, e, inr (d, x, v), w)) q = absurd (cc)
round_further Q G i k ds s l fit (inr (x, inl (e, w))) q = absurd (cc)
round_further Q G i k ds s l fit (inr (x, inr (d, e, w))) q = absurd (cc)

rounds_granted : (Q G : State → Type 0) → Grants Q G → CarriesOn Q → ((s : State) → Stood s → G s) → (ds : List Role) (n : ℕ) (s : State) (l : List Entry) → EachFits l →
    RoundsOf (Word grant_round ds) (Word grant_round ds) n Ended s l → Sound s → Q s → G (standing s l)
rounds_granted Q G i k c ds zero s l fit (x, w) h q = round_ended Q G i c ds s l fit w h q
rounds_granted Q G i k c ds (suc n) s l fit (a, b, e, v, w) h q =
    let y = fits_of a b (subst EachFits e fit) in
    joined G a b l s e (rounds_granted Q G i k c ds n (standing s a) b y.1 w (sound_on a s y.0 h) (round_further Q G i k ds s a y.0 v q))

-- ---- the first attempt's grant

abbrev pub Gone : State → Type 0
Gone s = (went s ≡ true) ⊎ Stood s

grants_first : Grants Unbegins Gone
unfolding step delayed went
grants_first s e q k f =
    subst (λ j. (answers_delay e.answer ≡ true → Unbegun (changed j (nanos_of e.question) e.answer s.context)) × (answers_delay e.answer ≡ false → (answers_go e.answer ≡ true) ⊎ Has (changed j (nanos_of e.question) e.answer s.context))) (sym k)
    (granted_stands (nanos_of e.question) e.answer s.context (subst (λ j. fits j e.answer ≡ true) k f) q)

pub first_granted : (ds : List Role) (s : State) (l : List Entry) → EachFits l → Word grant ds Ended s l → Fresh s → Gone (standing s l)
first_granted ds s l fit (n, w) h = rounds_granted Unbegins Gone grants_first unbegun_on (λ t g. inr g) ds n s l fit w h.0 h.1

-- ---- the token of a further attempt

abbrev Anything : State → Type 0
Anything s = Unit {0}

abbrev GoneOn : State → Type 0
GoneOn s = (went_on s ≡ true) ⊎ Stood s

grants_token : Grants Anything GoneOn
unfolding step delayed went_on
grants_token s e q k f =
    subst (λ j. (answers_delay e.answer ≡ true → Unit {0}) × (answers_delay e.answer ≡ false → (answers_go_or_no e.answer ≡ true) ⊎ Has (changed j (nanos_of e.question) e.answer s.context))) (sym k)
    (token_stands (nanos_of e.question) e.answer s.context (subst (λ j. fits j e.answer ≡ true) k f))

after_token : (ds : List Role) (s : State) (l : List Entry) → EachFits l → Word (Where tests.WentOn Again Nothing) ds Ended s l → GoneOn s → Stood (standing s l)
after_token ds s l fit w p =
    (elim (went_on s) as (λ b. went_on s ≡ b → cond b (Word Again ds Ended s l) (Word Nothing ds Ended s l) → Stood (standing s l)) [
      | true ↦ λ e v. absurd (never_again ds s l v)
      | false ↦ λ e v. keeps_nothing ds s l fit v (otherwise p (λ x. no_choice (went_on s) x e))
    ]) refl w

gives_token : Gives (grant ⨟ Where tests.WentOn Again Nothing)
gives_token ds s l fit (inl (a, b, e, (n, v), w)) h =
    let y = fits_of a b (subst EachFits e fit) in
    joined Stood a b l s e
    (after_token ds (standing s a) b y.1 w (rounds_granted Anything GoneOn grants_token (λ p c es x t m u f o q. tt) (λ t g. inr g) ds n s a y.0 v h tt))
gives_token ds s l fit (inr (x, w)) h = absurd (cc)

-- where no further turn begins, an outcome stands
pub gives_again : Gives again
gives_again ds s l fit w h =
    (elim (token_needed s) as (λ b. cond b (Word (grant ⨟ Where tests.WentOn Again Nothing) ds Ended s l) (Word Again ds Ended s l) → Stood (standing s l)) [
      | true ↦ λ v. gives_token ds s l fit v h
      | false ↦ λ v. absurd (never_again ds s l v)
    ]) w
