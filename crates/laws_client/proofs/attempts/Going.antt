-- A round that goes on has a decision for it, and behind it the attempt has the next number.
use Rattle.std.proofs.Common.{◌≡◌, ◌∙◌, ap, refl, sym, subst, ℕ, ◌+◌, ◌≤◌, Bool, true, false, cond, List, [], ◌∷◌, ◌++◌, append_assoc, Option, inl, inr, arith}
use Rattle.std.specs.Prelude.{◌||◌, is_some}
use Rattle.smithy_types.specs.declared.kinds.StopPoint.{StopPoint}
use Rattle.smithy_types.specs.declared.kinds.StopPoint.TheVariants as stops
use Rattle.smithy_types.specs.declared.notes.Choice.TheVariants as choices
use Rattle.run_grammar.specs.declared.production.Test.TheVariants as tests
use Rattle.run_grammar.specs.declared.kind.Role.{Role}
use Rattle.run_grammar.specs.declared.kind.Role.TheVariants as roles
use Rattle.run_grammar.specs.declared.kind.Kind.{Kind}
use Rattle.run_grammar.specs.declared.kind.Kind.TheVariants as kinds
use Rattle.run_grammar.specs.declared.answer.Answer.{Answer}
use Rattle.run_grammar.specs.declared.answer.Answer.TheVariants as answers
use Rattle.run_grammar.specs.declared.answer.Entry.{Entry}
use Rattle.run_grammar.specs.declared.standing.Standing.{Standing}
use Rattle.run_grammar.specs.Entry.{kind_of}
use Rattle.run_grammar.specs.Question.{nanos_of}
use Rattle.run_grammar.specs.Change.{changed}
use Rattle.run_grammar.specs.Standing.{State, standing, step}
use Rattle.run_grammar.specs.Tests.{answers_decided_delay, answers_decided_yes, answers_started, checkpoint_stands, decided_delay, decided_no_after, decided_yes, is_start_of, started}
use Rattle.run_grammar.specs.Production.{Production, Nothing, Work, ◌⨟◌, Where, Ended, Further}
use Rattle.run_grammar.specs.Words.{Word}
use Rattle.run_grammar.specs.Grammar.{again, round, settle, turn}
use Rattle.run_grammar.proofs.Finishing.{closed}
use Rattle.run_grammar.proofs.Spots.{standing-append}
use Rattle.run_grammar.proofs.Watching.{answered_alone}
use Rattle.laws_client.specs.Attempts.Deciding.{capped, goes_on}
use Rattle.laws_client.proofs.attempts.Ends.{closed_ends}
use Rattle.laws_client.proofs.attempts.Numbers.{attempt, grown, grown_step, next_number, number}

abbrev pub stands : State → ℕ
stands s = number s.context

-- ---- the last entry of a turn is its decision

record EndsWith (k : Kind) (l : List Entry) : Type 0 where
  before : List Entry
  last : Entry
  there : l ≡ before ++ last ∷ []
  kind : kind_of last ≡ k

ends_behind : (k : Kind) (a b l : List Entry) → l ≡ a ++ b → EndsWith k b → EndsWith k l
ends_behind k a b l e h =
    record { before = a ++ h.before; last = h.last; there = e ∙ ap (λ m. a ++ m) h.there ∙ sym (append_assoc a h.before (h.last ∷ [])); kind = h.kind }

settled_ends : (ds : List Role) (s : State) (l : List Entry) → Word (settle ⨟ Work kinds.Decide) ds Ended s l → EndsWith kinds.Decide l
settled_ends ds s l (inl (a, b, e, v, w)) =
    let r = answered_alone kinds.Decide ds Ended (standing s a) b refl w in
    ends_behind kinds.Decide a b l e (record { before = []; last = r.0; there = r.1; kind = r.2 })
settled_ends ds s l (inr (e, w)) = absurd (cc)

turn_ends : (stop : StopPoint) (ds : List Role) (s : State) (l : List Entry) → Word (turn stop) ds Ended s l → EndsWith kinds.Decide l
turn_ends stop ds s l (inl (a, b, e, v, w)) = ends_behind kinds.Decide a b l e (settled_ends ds (standing s a) b w)
turn_ends stop ds s l (inr (e, w)) = absurd (cc)

turn_closed : (stop : StopPoint) → closed (turn stop) ≡ true
turn_closed stops.None = refl
turn_closed stops.BeforeTransmit = refl

-- ---- what moves the number on

by_yes : (n : Option ℕ) (a : Answer) (s : Standing) → answers_decided_yes a ≡ true → is_some (changed kinds.Decide n a s).context.checkpoint ≡ true
    → capped (attempt s + 1) ≤ number (changed kinds.Decide n a s)
unfolding changed
by_yes n (answers.Decided choices.Yes m) s y h = next_number s.context.checkpoint s refl h
by_yes n (answers.Decided _ m) s y h = absurd (cc)
by_yes n _ s y h = absurd (cc)

by_start : (n : Option ℕ) (a : Answer) (s : Standing) → answers_started a ≡ true → is_some (changed (kinds.Start roles.Retry) n a s).context.checkpoint ≡ true
    → capped (attempt s + 1) ≤ number (changed (kinds.Start roles.Retry) n a s)
unfolding changed
by_start n answers.Started s y h = next_number s.context.checkpoint s refl h
by_start n _ s y h = absurd (cc)

yes_counts : (u : State) (e : Entry) → kind_of e ≡ kinds.Decide → decided_yes (step u e) ≡ true → checkpoint_stands (step u e) ≡ true
    → capped (attempt u.context + 1) ≤ stands (step u e)
unfolding step decided_yes checkpoint_stands
yes_counts u e k y c =
    (subst (λ j. is_some (changed j (nanos_of e.question) e.answer u.context).context.checkpoint ≡ true → capped (attempt u.context + 1) ≤ number (changed j (nanos_of e.question) e.answer u.context))
    (sym k) (λ h. by_yes (nanos_of e.question) e.answer u.context y h)) c

start_counts : (u : State) (e : Entry) → kind_of e ≡ kinds.Start roles.Retry → started roles.Retry (step u e) ≡ true → checkpoint_stands (step u e) ≡ true
    → capped (attempt u.context + 1) ≤ stands (step u e)
unfolding step started checkpoint_stands
start_counts u e k y c =
    let is : answers_started e.answer ≡ true = subst (λ j. cond (is_start_of roles.Retry j) (answers_started e.answer) false ≡ true) k y in
    (subst (λ j. is_some (changed j (nanos_of e.question) e.answer u.context).context.checkpoint ≡ true → capped (attempt u.context + 1) ≤ number (changed j (nanos_of e.question) e.answer u.context))
    (sym k) (λ h. by_start (nanos_of e.question) e.answer u.context is h)) c

decided_by_yes : (u : State) (e : Entry) → decided_yes (step u e) ≡ true → goes_on e.answer ≡ true
unfolding step decided_yes
decided_by_yes u e y = ap (λ b. b || answers_decided_delay e.answer) y

or_true : (b : Bool) → (b || true) ≡ true
or_true true = refl
or_true false = refl

decided_by_delay : (u : State) (e : Entry) → decided_delay (step u e) ≡ true → goes_on e.answer ≡ true
unfolding step decided_delay
decided_by_delay u e y = ap (λ b. answers_decided_yes e.answer || b) y ∙ or_true (answers_decided_yes e.answer)

-- ---- behind a decision

le_then : (x y z : ℕ) → x ≤ y → y ≤ z → x ≤ z
le_then x y z h g = omega (arith, h, g)

next_le : (x y : ℕ) → capped x ≤ capped y → capped (x + 1) ≤ capped (y + 1)
next_le x y h = omega (arith, h)

abbrev paused : Production
paused = Work (kinds.Start roles.LongPoll) ⨟ Where (tests.HasStarted roles.LongPoll) (Work (kinds.Wait roles.LongPoll)) Nothing

abbrev waited : Production
waited = Work (kinds.Wait roles.Retry) ⨟ again

abbrev checked : Production
checked = Where tests.CheckpointStands waited Nothing

abbrev after_start : Production
after_start = Where (tests.HasStarted roles.Retry) checked Nothing

abbrev delayed : Production
delayed = Work (kinds.Start roles.Retry) ⨟ after_start

abbrev retried : Production
retried = Where tests.DecidedDelay delayed Nothing

abbrev asked_again : Production
asked_again = Where tests.CheckpointStands again Nothing

abbrev answered : Production
answered = Where tests.DecidedYes asked_again (Where tests.DecidedNoAfter paused retried)

-- it goes on, and the number is the next one
abbrev Moves : State → Entry → State → Type 0
Moves u e t = (goes_on e.answer ≡ true) × (capped (attempt u.context + 1) ≤ stands t)

none_further : {R : Type 0} (ds : List Role) (s : State) (l : List Entry) → Word Nothing ds Further s l → R
none_further ds s l w = absurd (closed_ends Nothing refl ds s l w)

yes_moves : (ds : List Role) (u : State) (e : Entry) (b : List Entry) → kind_of e ≡ kinds.Decide → decided_yes (step u e) ≡ true → Word asked_again ds Further (step u e) b
    → Moves u e (standing (step u e) b)
yes_moves ds u e b k y w =
    (elim (checkpoint_stands (step u e)) as (λ c. checkpoint_stands (step u e) ≡ c → cond c (Word again ds Further (step u e) b) (Word Nothing ds Further (step u e) b) → Moves u e (standing (step u e) b)) [
      | true ↦ λ c v. (decided_by_yes u e y, le_then _ _ _ (yes_counts u e k y c) (grown (step u e) b))
      | false ↦ λ c v. none_further ds (step u e) b v
    ]) refl w

checked_moves : (ds : List Role) (t : State) (f : Entry) (b : List Entry) → kind_of f ≡ kinds.Start roles.Retry → started roles.Retry (step t f) ≡ true → Word checked ds Further (step t f) b
    → capped (attempt t.context + 1) ≤ stands (standing (step t f) b)
checked_moves ds t f b k y w =
    (elim (checkpoint_stands (step t f)) as (λ c. checkpoint_stands (step t f) ≡ c → cond c (Word waited ds Further (step t f) b) (Word Nothing ds Further (step t f) b) → capped (attempt t.context + 1) ≤ stands (standing (step t f) b)) [
      | true ↦ λ c v. le_then _ _ _ (start_counts t f k y c) (grown (step t f) b)
      | false ↦ λ c v. none_further ds (step t f) b v
    ]) refl w

started_moves : (ds : List Role) (t : State) (f : Entry) (b : List Entry) → kind_of f ≡ kinds.Start roles.Retry → Word after_start ds Further (step t f) b
    → capped (attempt t.context + 1) ≤ stands (standing (step t f) b)
started_moves ds t f b k w =
    (elim (started roles.Retry (step t f)) as (λ c. started roles.Retry (step t f) ≡ c → cond c (Word checked ds Further (step t f) b) (Word Nothing ds Further (step t f) b) → capped (attempt t.context + 1) ≤ stands (standing (step t f) b)) [
      | true ↦ λ c v. checked_moves ds t f b k c v
      | false ↦ λ c v. none_further ds (step t f) b v
    ]) refl w

delayed_moves : (ds : List Role) (t : State) (l : List Entry) → Word delayed ds Further t l → capped (attempt t.context + 1) ≤ stands (standing t l)
delayed_moves ds t l (inl (a, b, e, v, w)) =
    let r = answered_alone (kinds.Start roles.Retry) ds Ended t a refl v in
    let h = started_moves ds t r.0 b r.2 (subst (λ m. Word after_start ds Further (standing t m) b) r.1 w) in
    subst (λ m. capped (attempt t.context + 1) ≤ stands (standing t m)) (sym (e ∙ ap (λ m. m ++ b) r.1)) h
delayed_moves ds t l (inr (e, w)) = absurd (closed_ends (Work (kinds.Start roles.Retry)) refl ds t l w)

retried_moves : (ds : List Role) (u : State) (e : Entry) (b : List Entry) → Word retried ds Further (step u e) b → Moves u e (standing (step u e) b)
retried_moves ds u e b w =
    (elim (decided_delay (step u e)) as (λ c. decided_delay (step u e) ≡ c → cond c (Word delayed ds Further (step u e) b) (Word Nothing ds Further (step u e) b) → Moves u e (standing (step u e) b)) [
      | true ↦ λ c v. (decided_by_delay u e c, le_then _ _ _ (next_le (attempt u.context) (attempt (step u e).context) (grown_step u e)) (delayed_moves ds (step u e) b v))
      | false ↦ λ c v. none_further ds (step u e) b v
    ]) refl w

paused_moves : (ds : List Role) (u : State) (e : Entry) (b : List Entry) → Word (Where tests.DecidedNoAfter paused retried) ds Further (step u e) b → Moves u e (standing (step u e) b)
paused_moves ds u e b w =
    (elim (decided_no_after (step u e)) as (λ c. cond c (Word paused ds Further (step u e) b) (Word retried ds Further (step u e) b) → Moves u e (standing (step u e) b)) [
      | true ↦ λ v. absurd (closed_ends paused refl ds (step u e) b v)
      | false ↦ λ v. retried_moves ds u e b v
    ]) w

answered_moves : (ds : List Role) (u : State) (e : Entry) (b : List Entry) → kind_of e ≡ kinds.Decide → Word answered ds Further (step u e) b → Moves u e (standing (step u e) b)
answered_moves ds u e b k w =
    (elim (decided_yes (step u e)) as (λ c. decided_yes (step u e) ≡ c → cond c (Word asked_again ds Further (step u e) b) (Word (Where tests.DecidedNoAfter paused retried) ds Further (step u e) b) → Moves u e (standing (step u e) b)) [
      | true ↦ λ c v. yes_moves ds u e b k c v
      | false ↦ λ c v. paused_moves ds u e b v
    ]) refl w

-- ---- a round that goes on

pub record Goes (s : State) (l : List Entry) : Type 0 where
  pub before : List Entry
  pub decision : Entry
  pub after : List Entry
  pub there : l ≡ before ++ decision ∷ after
  pub kind : kind_of decision ≡ kinds.Decide
  pub further : goes_on decision.answer ≡ true
  pub next : capped (attempt (standing s before).context + 1) ≤ stands (standing s l)

turned : (s : State) (a b l : List Entry) → l ≡ a ++ b → (h : EndsWith kinds.Decide a) → Moves (standing s h.before) h.last (standing (step (standing s h.before) h.last) b) → Goes s l
turned s a b l e h m =
    let is : l ≡ h.before ++ h.last ∷ b = e ∙ ap (λ x. x ++ b) h.there ∙ append_assoc h.before (h.last ∷ []) b in
    record {
      before = h.before;
      decision = h.last;
      after = b;
      there = is;
      kind = h.kind;
      further = m.0;
      next = subst (λ x. capped (attempt (standing s h.before).context + 1) ≤ stands x) (sym (ap (standing s) is ∙ standing-append h.before (h.last ∷ b) s)) m.1;
    }

pub round_goes : (stop : StopPoint) (ds : List Role) (s : State) (l : List Entry) → Word (round stop) ds Further s l → Goes s l
round_goes stop ds s l (inl (a, b, e, v, w)) =
    let h = turn_ends stop ds s a v in
    let is : standing s a ≡ step (standing s h.before) h.last = ap (standing s) h.there ∙ standing-append h.before (h.last ∷ []) s in
    turned s a b l e h (answered_moves ds (standing s h.before) h.last b h.kind (subst (λ t. Word answered ds Further t b) is w))
round_goes stop ds s l (inr (e, w)) = absurd (closed_ends (turn stop) (turn_closed stop) ds s l w)
