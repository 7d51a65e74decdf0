-- Under Retry Behavior 2.1 each attempt stands behind the answer to a grant of its own.
use Rattle.run_grammar.specs.declared.production.Test.{Test}
use Rattle.run_grammar.specs.declared.production.Test.TheVariants as tests
use Rattle.std.proofs.Common.{Bool, true, false, cond, ℕ, zero, suc, Option, None, Some, List, [], ◌∷◌, ◌++◌, ◌≡◌, refl, sym, ap, ◌∙◌, subst, inl, inr}
use Rattle.smithy_types.specs.declared.hook.Hook.TheVariants as hooks
use Rattle.smithy_types.specs.declared.kinds.StopPoint.{StopPoint}
use Rattle.smithy_types.specs.declared.kinds.StopPoint.TheVariants as stops
use Rattle.run_grammar.specs.declared.kind.ConfigureStage.TheVariants as stages
use Rattle.run_grammar.specs.declared.kind.Role.{Role}
use Rattle.run_grammar.specs.declared.kind.Role.TheVariants as roles
use Rattle.run_grammar.specs.declared.kind.Kind.{Kind}
use Rattle.run_grammar.specs.declared.kind.Kind.TheVariants as kinds
use Rattle.run_grammar.specs.declared.answer.Answer.{Answer}
use Rattle.run_grammar.specs.declared.answer.Answer.TheVariants as answers
use Rattle.run_grammar.specs.declared.answer.Entry.{Entry}
use Rattle.run_grammar.specs.declared.standing.Standing.{Standing}
use Rattle.run_grammar.specs.Entry.{kind_of, same_role}
use Rattle.run_grammar.specs.Question.{nanos_of}
use Rattle.run_grammar.specs.Fits.{fits}
use Rattle.run_grammar.specs.Change.{changed, needs_token}
use Rattle.run_grammar.specs.Standing.{State, standing, start, step}
use Rattle.run_grammar.specs.Tests.{holds, of_last, answers_go, answers_go_or_no, started, timeout_stands, token_needed, went, went_on}
use Rattle.run_grammar.specs.Production.{Production, Nothing, Work, ◌⨟◌, Where, Rounds, Again, InAttempt, Under, End, Ended, Further, CutBy}
use Rattle.run_grammar.specs.Words.{Word, RoundsOf, ScopeEnds, marked}
use Rattle.run_grammar.specs.Grammar.{hook, halted, arm, armed, opening, sending, streaming, attempt, settle, turn, again, round, loop, front, grant, op, finish, configured, run}
use Rattle.run_grammar.specs.Laws.{EachFits}
use Rattle.run_grammar.specs.Attempts.{begins_attempt}
use Rattle.run_grammar.specs.Tokens.{arms_attempt, last_but_arming, TokensStand}
use Rattle.run_grammar.proofs.Spots.{standing-append}
use Rattle.run_grammar.proofs.Paths.{fits_of}
use Rattle.run_grammar.proofs.Finishing.{closed}
use Rattle.run_grammar.proofs.Watch.{both}
use Rattle.run_grammar.proofs.Avoiding.{Avoids, Aside, avoids, avoids_scope, word_avoids}
use Rattle.run_grammar.proofs.Watching.{answered_alone}

-- ---- words none of whose entries begins an attempt

abbrev Never : List Entry → Type 0
Never l = Avoids begins_attempt l

beside : Aside begins_attempt
beside = record { waits = λ d. refl; parks = refl; gives_up = λ x. refl }

abbrev never : Production → Bool
never p = avoids begins_attempt p

word_never : (p : Production) → never p ≡ true → (ds : List Role) (x : End) (s : State) (l : List Entry) → Word p ds x s l → Never l
word_never p h ds x s l w = word_avoids begins_attempt beside p h ds x s l w

never_scope : (d : Role) (inner : End → List Entry → Type 0) → ((x : End) (l : List Entry) → inner x l → Never l) → (y x : End) (l : List Entry) → ScopeEnds d inner y x l → Never l
never_scope d inner f y x l w = avoids_scope begins_attempt beside d inner f y x l w

-- ---- a production with no Again of its own never ends with one

marked_further : (y : End) → Further ≡ marked y → y ≡ Further
marked_further Ended e = absurd (cc)
marked_further Further e = refl
marked_further (CutBy d i) e = absurd (cc)

rounds_end : (V W : End → State → List Entry → Type 0) (n : ℕ) (s : State) (l : List Entry) → RoundsOf V W n Further s l → ⊥
rounds_end V W zero s l (h, w) = cc
rounds_end V W (suc n) s l (a, b, e, v, w) = rounds_end W W n (standing s a) b w

scope_ends : (d : Role) (inner : End → List Entry → Type 0) → ((l : List Entry) → inner Further l → ⊥) → (y : End) (l : List Entry) → (y ≡ Further → ⊥) → ScopeEnds d inner y Further l → ⊥
scope_ends d inner f Ended l n (e, m) = cc
scope_ends d inner f Further l n (e, m) = n refl
scope_ends d inner f (CutBy c i) l n w =
    (elim (same_role d c) as (λ t. cond t (cond i (inner Further l) ((Further ≡ Ended) × (l ≡ []))) ((Further ≡ CutBy c i) × (l ≡ [])) → ⊥) [
      | true ↦ elim i as (λ t. cond t (inner Further l) ((Further ≡ Ended) × (l ≡ [])) → ⊥) [ true ↦ λ u. f l u | false ↦ λ u. let z = u.0 in cc ]
      | false ↦ λ u. let z = u.0 in cc
    ]) w

closed_ends : (p : Production) → closed p ≡ true → (ds : List Role) (s : State) (l : List Entry) → Word p ds Further s l → ⊥
closed_ends Nothing h ds s l (e, n) = cc
closed_ends Again h ds s l w = cc
closed_ends (Work k) h ds s l (inl (e, w)) = cc
closed_ends (Work k) h ds s l (inr (d, e, w)) = cc
closed_ends (p ⨟ q) h ds s l (inl (a, b, e, v, w)) = closed_ends q (both (closed p) (closed q) h).1 ds (standing s a) b w
closed_ends (p ⨟ q) h ds s l (inr (e, w)) = closed_ends p (both (closed p) (closed q) h).0 ds s l w
closed_ends (Where t p q) h ds s l w =
    let g = both (closed p) (closed q) h in
    (elim (holds t s) as (λ b. cond b (Word p ds Further s l) (Word q ds Further s l) → ⊥) [ true ↦ λ v. closed_ends p g.0 ds s l v | false ↦ λ v. closed_ends q g.1 ds s l v ]) w
closed_ends (Rounds p q) h ds s l (n, w) = rounds_end (Word p ds) (Word q ds) n s l w
closed_ends (InAttempt p) h ds s l (y, e, w) = closed_ends p h ds s l (subst (λ x. Word p ds x s l) (marked_further y e) w)
closed_ends (Under d p q) h ds s l (a, b, y, e, v, w) =
    let g = both (closed p) (closed q) h in
    scope_ends d (λ z m. Word q ds z (standing s a) m) (λ m u. closed_ends q g.1 ds (standing s a) m u) y b (λ z. closed_ends p g.0 (d ∷ ds) s a (subst (λ x. Word p (d ∷ ds) x s a) z v)) w

-- ---- the last entry that starts no attempt's deadline, along a list

is_initial : Kind → Bool
is_initial kinds.Initial = true
is_initial _ = false

-- it is an Initial that was answered Go or No
grants : Option Entry → Bool
grants None = false
grants (Some i) = cond (is_initial (kind_of i)) (answers_go_or_no i.answer) false

abbrev next_last : Option Entry → Entry → Option Entry
next_last t e = cond (arms_attempt (kind_of e)) t (Some e)

-- each entry that begins an attempt has a token, where one is needed
abbrev Guarded : Option Entry → State → List Entry → Type 0
Guarded t s [] = Unit {0}
Guarded t s (e ∷ l) = (begins_attempt (kind_of e) ≡ true → token_needed s ≡ true → grants t ≡ true) × Guarded (next_last t e) (step s e) l

-- what the last entry tells is so of that one; and an attempt may begin
abbrev Tied : Option Entry → State → Type 0
Tied t s = went_on s ≡ true → grants t ≡ true

abbrev Ready : Option Entry → State → Type 0
Ready t s = token_needed s ≡ true → grants t ≡ true

only_initial : (k : Kind) (a : Answer) → fits k a ≡ true → answers_go_or_no a ≡ true → k ≡ kinds.Initial
unfolding fits
only_initial kinds.Initial a f h = refl
only_initial k answers.Go f h = absurd (cc)
only_initial k answers.No f h = absurd (cc)
only_initial k _ f h = absurd (cc)

tied_step : (t : Option Entry) (s : State) (e : Entry) → fits (kind_of e) e.answer ≡ true → Tied (next_last t e) (step s e)
unfolding went_on step grants is_initial
tied_step t s e f h =
    let k = only_initial (kind_of e) e.answer f h in
    subst (λ b. grants (cond b t (Some e)) ≡ true) (sym (ap arms_attempt k)) (subst (λ b. cond b (answers_go_or_no e.answer) false ≡ true) (sym (ap is_initial k)) h)

tied_on : (l : List Entry) (t : Option Entry) (s : State) → EachFits l → Tied t s → Tied (last_but_arming t l) (standing s l)
tied_on [] t s f h = h
tied_on (e ∷ l) t s (f, g) h = tied_on l (next_last t e) (step s e) g (tied_step t s e f)

guarded_never : (l : List Entry) (t : Option Entry) (s : State) → Never l → Guarded t s l
guarded_never [] t s n = tt
guarded_never (e ∷ l) t s n = (λ h. absurd (let z = sym n.0 ∙ h in cc), guarded_never l (next_last t e) (step s e) n.1)

guarded_append : (a b : List Entry) (t : Option Entry) (s : State) → Guarded t s a → Guarded (last_but_arming t a) (standing s a) b → Guarded t s (a ++ b)
guarded_append [] b t s g h = h
guarded_append (e ∷ a) b t s g h = (g.0, guarded_append a b (next_last t e) (step s e) g.1 h)

guarded_both : (a b l : List Entry) (t : Option Entry) (s : State) → l ≡ a ++ b → Guarded t s a → Guarded (last_but_arming t a) (standing s a) b → Guarded t s l
guarded_both a b l t s e g h = subst (Guarded t s) (sym e) (guarded_append a b t s g h)

last_append : (a b : List Entry) (t : Option Entry) → last_but_arming t (a ++ b) ≡ last_but_arming (last_but_arming t a) b
last_append [] b t = refl
last_append (e ∷ a) b t = last_append a b (next_last t e)

ready_both : (a b l : List Entry) (t : Option Entry) (s : State) → l ≡ a ++ b → Ready (last_but_arming (last_but_arming t a) b) (standing (standing s a) b) → Ready (last_but_arming t l) (standing s l)
ready_both a b l t s e h =
    subst (λ m. Ready (last_but_arming t m) (standing s m)) (sym e)
    (subst (λ o. Ready o (standing s (a ++ b))) (sym (last_append a b t)) (subst (λ u. Ready (last_but_arming (last_but_arming t a) b) u) (sym (standing-append a b s)) h))

-- ---- words of an attempt that may begin

abbrev Opens : Production → Type 0
Opens p = (ds : List Role) (x : End) (s : State) (l : List Entry) (t : Option Entry) → Word p ds x s l → Ready t s → Guarded t s l

opens_never : (p q : Production) → Opens p → never q ≡ true → Opens (p ⨟ q)
opens_never p q f n ds x s l t (inl (a, b, e, v, w)) h =
    guarded_both a b l t s e (f ds Ended s a t v h) (guarded_never b (last_but_arming t a) (standing s a) (word_never q n ds x (standing s a) b w))
opens_never p q f n ds x s l t (inr (e, w)) h = f ds x s l t w h

opens_hook : Opens (hook hooks.ReadBeforeAttempt)
opens_hook ds x s l t w h =
    let r = answered_alone (kinds.Hook hooks.ReadBeforeAttempt) ds x s l refl w in
    subst (Guarded t s) (sym r.1) (λ b n. h n, tt)

abbrev behind : Production → Production
behind (p ⨟ q) = q
behind p = p

opens_opening : Opens opening
opens_opening = opens_never (hook hooks.ReadBeforeAttempt) (behind opening) opens_hook refl

opens_attempt : (stop : StopPoint) → Opens (attempt stop)
opens_attempt stops.None = opens_never opening (Where tests.Failed Nothing (halted (sending ∷ streaming ∷ []))) opens_opening refl
opens_attempt stops.BeforeTransmit = opens_opening

opens_within : (stop : StopPoint) → Opens (InAttempt (attempt stop))
opens_within stop ds x s l t (y, e, w) h = opens_attempt stop ds y s l t w h

opens_under : (stop : StopPoint) → Opens (Under roles.Attempt (InAttempt (attempt stop)) Nothing)
opens_under stop ds x s l t (a, b, y, e, v, w) h =
    guarded_both a b l t s e (opens_within stop (roles.Attempt ∷ ds) y s a t v h)
    (guarded_never b (last_but_arming t a) (standing s a) (never_scope roles.Attempt (λ z m. Word Nothing ds z (standing s a) m) (λ z m u. subst Never (sym u.1) tt) y x b w))

abbrev scope : StopPoint → Production
scope stop = Where (tests.HasStarted roles.Attempt) (Under roles.Attempt (InAttempt (attempt stop)) Nothing) (InAttempt (attempt stop))

opens_scope : (stop : StopPoint) → Opens (scope stop)
opens_scope stop ds x s l t w h =
    (elim (started roles.Attempt s) as (λ b. cond b (Word (Under roles.Attempt (InAttempt (attempt stop)) Nothing) ds x s l) (Word (InAttempt (attempt stop)) ds x s l) → Guarded t s l) [
      | true ↦ λ v. opens_under stop ds x s l t v h
      | false ↦ λ v. opens_within stop ds x s l t v h
    ]) w

-- the Start of an attempt's deadline leaves all as it is
same_settings : (n : Option ℕ) (a : Answer) (s : Standing) → needs_token (changed (kinds.Start roles.Attempt) n a s).context.view.settings ≡ needs_token s.context.view.settings
unfolding changed
same_settings n answers.Started s = refl
same_settings n _ s = refl

armed_step : (s : State) (e : Entry) → kind_of e ≡ kinds.Start roles.Attempt → token_needed (step s e) ≡ token_needed s
unfolding token_needed step
armed_step s e k = subst (λ j. needs_token (changed j (nanos_of e.question) e.answer s.context).context.view.settings ≡ needs_token s.context.context.view.settings) (sym k) (same_settings (nanos_of e.question) e.answer s.context)

arms : (ds : List Role) (x : End) (s : State) (l : List Entry) (t : Option Entry) → Word (arm roles.Attempt) ds x s l → Ready t s → Guarded t s l × Ready (last_but_arming t l) (standing s l)
arms ds x s l t w h =
    (elim (timeout_stands roles.Attempt s) as (λ b. cond b (Word (Work (kinds.Start roles.Attempt)) ds x s l) (Word Nothing ds x s l) → Guarded t s l × Ready (last_but_arming t l) (standing s l)) [
      | true ↦ λ v.
          let r = answered_alone (kinds.Start roles.Attempt) ds x s l refl v in
          let e = r.0 in
          let k = r.2 in
          let left : Ready (next_last t e) (step s e) = λ n. subst (λ b. grants (cond b t (Some e)) ≡ true) (sym (ap arms_attempt k)) (h (sym (armed_step s e k) ∙ n)) in
          subst (λ m. Guarded t s m × Ready (last_but_arming t m) (standing s m)) (sym r.1) ((λ b n. h n, tt), left)
      | false ↦ λ v. subst (λ m. Guarded t s m × Ready (last_but_arming t m) (standing s m)) (sym v.1) (tt, h)
    ]) w

opens_turn : (stop : StopPoint) → Opens (turn stop)
opens_turn stop = opens_never (armed roles.Attempt (InAttempt (attempt stop)) Nothing) (settle ⨟ Work kinds.Decide) opens_armed refl
  where
    opens_armed : Opens (armed roles.Attempt (InAttempt (attempt stop)) Nothing)
    opens_armed ds x s l t (inl (a, b, e, v, w)) h =
        let r = arms ds Ended s a t v h in
        guarded_both a b l t s e r.0 (opens_scope stop ds x (standing s a) b (last_but_arming t a) w r.1)
    opens_armed ds x s l t (inr (e, w)) h = (arms ds x s l t w h).0

opens_round : (stop : StopPoint) → Opens (round stop)
opens_round stop = opens_never (turn stop) (behind (round stop)) (opens_turn stop) refl

-- ---- behind a round that goes on, a further attempt may begin

abbrev Readies : Production → Type 0
Readies p = (ds : List Role) (s : State) (l : List Entry) (t : Option Entry) → EachFits l → Word p ds Further s l → Tied t s → Ready (last_but_arming t l) (standing s l)

readies_closed : (p : Production) → closed p ≡ true → Readies p
readies_closed p c ds s l t f w h = absurd (closed_ends p c ds s l w)

readies_then : (p q : Production) → Readies p → Readies q → Readies (p ⨟ q)
readies_then p q g k ds s l t f (inl (a, b, e, v, w)) h =
    let y = fits_of a b (subst EachFits e f) in
    ready_both a b l t s e (k ds (standing s a) b (last_but_arming t a) y.1 w (tied_on a t s y.0 h))
readies_then p q g k ds s l t f (inr (e, w)) h = g ds s l t f w h

readies_where : (test : Test) (p q : Production) → Readies p → Readies q → Readies (Where test p q)
readies_where test p q g k ds s l t f w h =
    (elim (holds test s) as (λ b. cond b (Word p ds Further s l) (Word q ds Further s l) → Ready (last_but_arming t l) (standing s l)) [
      | true ↦ λ v. g ds s l t f v h
      | false ↦ λ v. k ds s l t f v h
    ]) w

readies_went : Readies (Where tests.WentOn Again Nothing)
readies_went ds s l t f w h =
    (elim (went_on s) as (λ b. went_on s ≡ b → cond b (Word Again ds Further s l) (Word Nothing ds Further s l) → Ready (last_but_arming t l) (standing s l)) [
      | true ↦ λ e v. subst (λ m. Ready (last_but_arming t m) (standing s m)) (sym v.1) (λ n. h e)
      | false ↦ λ e v. absurd (let z = v.0 in cc)
    ]) refl w

readies_again : Readies again
readies_again ds s l t f w h =
    (elim (token_needed s) as (λ b. token_needed s ≡ b → cond b (Word (grant ⨟ Where tests.WentOn Again Nothing) ds Further s l) (Word Again ds Further s l) → Ready (last_but_arming t l) (standing s l)) [
      | true ↦ λ e v. readies_then grant (Where tests.WentOn Again Nothing) (readies_closed grant refl) readies_went ds s l t f v h
      | false ↦ λ e v. subst (λ m. Ready (last_but_arming t m) (standing s m)) (sym v.1) (λ n. absurd (let z = sym e ∙ n in cc))
    ]) refl w

turn_closed : (stop : StopPoint) → closed (turn stop) ≡ true
turn_closed stops.None = refl
turn_closed stops.BeforeTransmit = refl

abbrev waiting_again : Production
waiting_again = Work (kinds.Wait roles.Retry) ⨟ again

abbrev pausing : Production
pausing = Work (kinds.Start roles.LongPoll) ⨟ Where (tests.HasStarted roles.LongPoll) (Work (kinds.Wait roles.LongPoll)) Nothing

abbrev checked : Production
checked = Where tests.CheckpointStands waiting_again Nothing

abbrev after_start : Production
after_start = Where (tests.HasStarted roles.Retry) checked Nothing

abbrev delayed_retry : Production
delayed_retry = Work (kinds.Start roles.Retry) ⨟ after_start

abbrev retrying : Production
retrying = Where tests.DecidedDelay delayed_retry Nothing

readies_waited : Readies waiting_again
readies_waited = readies_then (Work (kinds.Wait roles.Retry)) again (readies_closed (Work (kinds.Wait roles.Retry)) refl) readies_again

readies_retrying : Readies retrying
readies_retrying =
    let nothing = readies_closed Nothing refl in
    readies_where tests.DecidedDelay delayed_retry Nothing
    (readies_then (Work (kinds.Start roles.Retry)) after_start (readies_closed (Work (kinds.Start roles.Retry)) refl)
    (readies_where (tests.HasStarted roles.Retry) checked Nothing (readies_where tests.CheckpointStands waiting_again Nothing readies_waited nothing) nothing))
    nothing

readies_round : (stop : StopPoint) → Readies (round stop)
readies_round stop =
    readies_then (turn stop) (behind (round stop)) (readies_closed (turn stop) (turn_closed stop))
    (readies_where tests.DecidedYes (Where tests.CheckpointStands again Nothing) (Where tests.DecidedNoAfter pausing retrying)
    (readies_where tests.CheckpointStands again Nothing readies_again (readies_closed Nothing refl))
    (readies_where tests.DecidedNoAfter pausing retrying (readies_closed pausing refl) readies_retrying))

rounds_open : (stop : StopPoint) (ds : List Role) (n : ℕ) (x : End) (s : State) (l : List Entry) (t : Option Entry) → EachFits l → RoundsOf (Word (round stop) ds) (Word (round stop) ds) n x s l →
    Ready t s → Tied t s → Guarded t s l
rounds_open stop ds zero x s l t f (h, w) r i = opens_round stop ds x s l t w r
rounds_open stop ds (suc n) x s l t f (a, b, e, v, w) r i =
    let y = fits_of a b (subst EachFits e f) in
    guarded_both a b l t s e (opens_round stop ds Further s a t v r)
    (rounds_open stop ds n x (standing s a) b (last_but_arming t a) y.1 w (readies_round stop ds s a t y.0 v i) (tied_on a t s y.0 i))

-- ---- the operation and the run

abbrev Guards : Production → Type 0
Guards p = (ds : List Role) (x : End) (s : State) (l : List Entry) (t : Option Entry) → EachFits l → Word p ds x s l → Tied t s → Guarded t s l

guards_never : (p : Production) → never p ≡ true → Guards p
guards_never p n ds x s l t f w h = guarded_never l t s (word_never p n ds x s l w)

guards_then : (p q : Production) → Guards p → Guards q → Guards (p ⨟ q)
guards_then p q g k ds x s l t f (inl (a, b, e, v, w)) h =
    let y = fits_of a b (subst EachFits e f) in
    guarded_both a b l t s e (g ds Ended s a t y.0 v h) (k ds x (standing s a) b (last_but_arming t a) y.1 w (tied_on a t s y.0 h))
guards_then p q g k ds x s l t f (inr (e, w)) h = g ds x s l t f w h

guards_where : (test : Test) (p q : Production) → Guards p → Guards q → Guards (Where test p q)
guards_where test p q g k ds x s l t f w h =
    (elim (holds test s) as (λ b. cond b (Word p ds x s l) (Word q ds x s l) → Guarded t s l) [ true ↦ λ v. g ds x s l t f v h | false ↦ λ v. k ds x s l t f v h ]) w

guards_under : (d : Role) (p q : Production) → Guards p → never q ≡ true → Guards (Under d p q)
guards_under d p q g n ds x s l t f (a, b, y, e, v, w) h =
    let z = fits_of a b (subst EachFits e f) in
    guarded_both a b l t s e (g (d ∷ ds) y s a t z.0 v h)
    (guarded_never b (last_but_arming t a) (standing s a) (never_scope d (λ o m. Word q ds o (standing s a) m) (λ o m u. word_never q n ds o (standing s a) m u) y x b w))

went_goes_on : (s : State) → went s ≡ true → went_on s ≡ true
unfolding went went_on
went_goes_on s h = of s.last h
  where
    told : (a : Answer) → answers_go a ≡ true → answers_go_or_no a ≡ true
    told answers.Go g = refl
    told _ g = absurd (cc)

    of : (o : Option Entry) → of_last (λ e. answers_go e.answer) o ≡ true → of_last (λ e. answers_go_or_no e.answer) o ≡ true
    of None g = absurd (cc)
    of (Some e) g = told e.answer g

guards_loop : (stop : StopPoint) → Guards (Where tests.Went (loop stop) Nothing)
guards_loop stop ds x s l t f w h =
    (elim (went s) as (λ b. went s ≡ b → cond b (Word (loop stop) ds x s l) (Word Nothing ds x s l) → Guarded t s l) [
      | true ↦ λ e v. rounds_open stop ds v.0 x s l t f v.1 (λ n. h (went_goes_on s e)) h
      | false ↦ λ e v. guarded_never l t s (subst Never (sym v.1) tt)
    ]) refl w

guards_op : (stop : StopPoint) → Guards (op stop)
guards_op stop =
    let granted = guards_then grant (Where tests.Went (loop stop) Nothing) (guards_never grant refl) (guards_loop stop) in
    guards_then front (Where tests.Failed Nothing (grant ⨟ Where tests.Went (loop stop) Nothing)) (guards_never front refl)
    (guards_where tests.Failed Nothing (grant ⨟ Where tests.Went (loop stop) Nothing) (guards_never Nothing refl) granted)

guards_worked : (stop : StopPoint) → Guards (armed roles.Operation (op stop) settle ⨟ finish)
guards_worked stop =
    guards_then (armed roles.Operation (op stop) settle) finish
    (guards_then (arm roles.Operation) (Where (tests.HasStarted roles.Operation) (Under roles.Operation (op stop) settle) (op stop)) (guards_never (arm roles.Operation) refl)
    (guards_where (tests.HasStarted roles.Operation) (Under roles.Operation (op stop) settle) (op stop) (guards_under roles.Operation (op stop) settle (guards_op stop) refl) (guards_op stop)))
    (guards_never finish refl)

guards_configured : (p : Production) → Guards p → Guards (configured p)
guards_configured p g =
    let halt : (q : Production) → Guards q → Guards (Where tests.Failed Nothing q) = λ q k. guards_where tests.Failed Nothing q (guards_never Nothing refl) k in
    let third = hook hooks.ReadBeforeExecutionOperation ⨟ Work (kinds.Configure stages.Final) ⨟ Where tests.Failed Nothing p in
    let second = hook hooks.ReadBeforeExecutionClient ⨟ Work (kinds.Configure stages.Operation) ⨟ Where tests.Failed Nothing third in
    guards_then (Work (kinds.Configure stages.Client)) (Where tests.Failed Nothing second) (guards_never (Work (kinds.Configure stages.Client)) refl) (halt second
    (guards_then (hook hooks.ReadBeforeExecutionClient) (Work (kinds.Configure stages.Operation) ⨟ Where tests.Failed Nothing third) (guards_never (hook hooks.ReadBeforeExecutionClient) refl)
    (guards_then (Work (kinds.Configure stages.Operation)) (Where tests.Failed Nothing third) (guards_never (Work (kinds.Configure stages.Operation)) refl) (halt third
    (guards_then (hook hooks.ReadBeforeExecutionOperation) (Work (kinds.Configure stages.Final) ⨟ Where tests.Failed Nothing p) (guards_never (hook hooks.ReadBeforeExecutionOperation) refl)
    (guards_then (Work (kinds.Configure stages.Final)) (Where tests.Failed Nothing p) (guards_never (Work (kinds.Configure stages.Final)) refl) (halt p g)))))))

guards_run : (stop : StopPoint) → Guards (run stop)
unfolding run
guards_run stop =
    guards_configured (Where tests.FailureStands (arm roles.Operation ⨟ finish) (armed roles.Operation (op stop) settle ⨟ finish))
    (guards_where tests.FailureStands (arm roles.Operation ⨟ finish) (armed roles.Operation (op stop) settle ⨟ finish) (guards_never (arm roles.Operation ⨟ finish) refl) (guards_worked stop))

guarded_at : (before : List Entry) (e : Entry) (after : List Entry) (t : Option Entry) (s : State) → Guarded t s (before ++ e ∷ after) → begins_attempt (kind_of e) ≡ true → token_needed (standing s before) ≡ true →
    grants (last_but_arming t before) ≡ true
guarded_at [] e after t s g b n = g.0 b n
guarded_at (x ∷ before) e after t s g b n = guarded_at before e after (next_last t x) (step s x) g.1 b n

initial_kind : (k : Kind) (b : Bool) → cond (is_initial k) b false ≡ true → (k ≡ kinds.Initial) × (b ≡ true)
unfolding is_initial
initial_kind kinds.Initial b h = (refl, h)
initial_kind _ b h = absurd (cc)

has_token : (o : Option Entry) → grants o ≡ true → (i : Entry) × (o ≡ Some i) × (kind_of i ≡ kinds.Initial) × (answers_go_or_no i.answer ≡ true)
unfolding grants
has_token None h = absurd (cc)
has_token (Some i) h = let r = initial_kind (kind_of i) (answers_go_or_no i.answer) h in (i, refl, r.0, r.1)

pub tokens_stand : TokensStand
unfolding went_on
tokens_stand stop p before e after w b n =
    has_token (last_but_arming None before)
    (guarded_at before e after None (start p) (guards_run stop [] Ended (start p) (before ++ e ∷ after) None w.fitting w.run (λ h. absurd (cc))) b n)
