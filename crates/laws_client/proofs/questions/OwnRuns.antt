-- Along a run's entries the load that is open is of the scheme that the choice under way picks.
use Rattle.std.proofs.Common.{◌≡◌, ◌∙◌, refl, sym, ap, subst, Bool, true, false, cond, List, [], ◌∷◌, ◌++◌, map, Option, None, Some}
use Rattle.client_auth.specs.Choosing.{endpoint_before}
use Rattle.client_auth.specs.Identities.{rested}
use Rattle.client_auth.specs.declared.identities.CachedIdentities.{CachedIdentities}
use Rattle.client_auth.specs.declared.sources.RegisteredSource.{RegisteredSource}
use Rattle.run_grammar.specs.declared.answer.Answer.{Answer}
use Rattle.run_grammar.specs.declared.answer.Answer.TheVariants as answers
use Rattle.run_grammar.specs.declared.answer.Entry.{Entry}
use Rattle.run_grammar.specs.declared.kind.Abandonable.TheVariants as abandoned
use Rattle.run_grammar.specs.declared.kind.ConfigureStage.TheVariants as stages
use Rattle.run_grammar.specs.declared.kind.Kind.{Kind}
use Rattle.run_grammar.specs.declared.kind.Kind.TheVariants as kinds
use Rattle.run_grammar.specs.declared.kind.Role.{Role}
use Rattle.run_grammar.specs.declared.kind.Role.TheVariants as roles
use Rattle.run_grammar.specs.declared.question.Question.{Question}
use Rattle.run_grammar.specs.declared.question.Question.TheVariants as questions
use Rattle.run_grammar.specs.declared.standing.Standing.{Standing}
use Rattle.run_grammar.specs.Change.{changed, on_choose, on_wait}
use Rattle.run_grammar.specs.Entry.{abandon_of, can_wait, entry, is_pending, kind_of, pending, ready}
use Rattle.run_grammar.specs.Grammar.{run}
use Rattle.run_grammar.specs.Machine.{Asks, Asking, Cutting, Dead, Path, Position, Waiting, Whole, after_cut, begin, cut, next}
use Rattle.run_grammar.specs.Production.{Production}
use Rattle.run_grammar.specs.Question.{kind_of_question, nanos_of}
use Rattle.run_grammar.specs.Standing.{State, WellHanded, asked, standing, start, step}
use Rattle.run_grammar.proofs.TheLaws.{begins_stands}
use Rattle.smithy_context.specs.StandingLayers.{StandingLayers}
use Rattle.smithy_types.specs.declared.kinds.StopPoint.{StopPoint}
use Rattle.client_components.specs.Meaning.{ClientMeaning}
use Rattle.client_components.specs.Serving.{Answers, Served, Serves}
use Rattle.client_components.specs.declared.parts.Parts.{Parts}
use Rattle.laws_client.specs.Questions.OwnLoads.{ChoicesGoOnWithOwn, PicksFrom, Stores, current_of}
use Rattle.laws_client.proofs.questions.Answered.{last_served}
use Rattle.laws_client.proofs.questions.Handed.{handed_at}
use Rattle.laws_client.proofs.questions.OwnChoices.{IsAmong, IsAwaited, IsAwaitedIn, choice_left, picked_once}

-- ---- the settings stay while a choice is under way

abbrev settings_of : State → StandingLayers
settings_of s = s.context.context.view.settings

pending_of : (e : Entry) (k : Kind) → kind_of e ≡ k → can_wait k ≡ true → pending e ≡ is_pending e.answer
unfolding pending
pending_of e k is c = ap (λ j. cond (can_wait j) (is_pending e.answer) false) is ∙ ap (λ b. cond b (is_pending e.answer) false) c

pending_answer : (a : Answer) → is_pending a ≡ true → a ≡ answers.Pending
pending_answer answers.Pending p = refl
pending_answer _ p = absurd (cc p)

wait_pending : (d : Role) (s : Standing) → on_wait d s answers.Pending ≡ s
wait_pending roles.Operation s = refl
wait_pending roles.Attempt s = refl
wait_pending _ s = refl

choose_settings : (s : State) (e : Entry) → kind_of e ≡ kinds.Choose → e.answer ≡ answers.Pending → settings_of (step s e) ≡ settings_of s
unfolding step changed
choose_settings s e k p =
    ap (λ j. (changed j (nanos_of e.question) e.answer s.context).context.view.settings) k ∙ ap (λ a. (on_choose s.context a).context.view.settings) p

park_settings : (s : State) (e : Entry) → kind_of e ≡ kinds.Park → settings_of (step s e) ≡ settings_of s
unfolding step changed
park_settings s e k = ap (λ j. (changed j (nanos_of e.question) e.answer s.context).context.view.settings) k

wait_settings : (d : Role) (s : State) (e : Entry) → kind_of e ≡ kinds.Wait d → e.answer ≡ answers.Pending → settings_of (step s e) ≡ settings_of s
unfolding step changed
wait_settings d s e k p =
    ap (λ j. (changed j (nanos_of e.question) e.answer s.context).context.view.settings) k
    ∙ (ap (λ a. (on_wait d s.context a).context.view.settings) p ∙ ap (λ (c : Standing). c.context.view.settings) (wait_pending d s.context))

abbrev settings_in : Question → StandingLayers → StandingLayers
settings_in (questions.Choose settings) other = settings
settings_in _ other = other

-- ---- kinds

abbrev chooses : Kind → Bool
chooses kinds.Choose = true
chooses _ = false

abandons_no_choice : (k : Kind) → chooses (abandon_of k) ≡ false
abandons_no_choice kinds.Load = refl
abandons_no_choice kinds.Choose = refl
abandons_no_choice kinds.Endpoint = refl
abandons_no_choice kinds.Transmit = refl
abandons_no_choice kinds.Body = refl
abandons_no_choice (kinds.Wait roles.Operation) = refl
abandons_no_choice (kinds.Wait roles.Attempt) = refl
abandons_no_choice (kinds.Wait roles.Send) = refl
abandons_no_choice (kinds.Wait roles.Retry) = refl
abandons_no_choice (kinds.Wait roles.LongPoll) = refl
abandons_no_choice _ = refl

rested_none : (cached : Option CachedIdentities) → current_of (rested cached) ≡ None
rested_none None = refl
rested_none (Some cached) = refl

awaited_none : (cached : Option CachedIdentities) → current_of cached ≡ None → IsAwaitedIn cached
awaited_none None n = tt
awaited_none (Some cached) n = subst (IsAwaited cached.cache) (sym n) tt

module _ {T X Q C I A R Z D P L : Type 0} (means : ClientMeaning T X Q C I A R Z D P L) where
  abbrev NoLoad : Parts T X Q C I A R Z D P L → Type 0
  NoLoad parts = current_of parts.identities.cached ≡ None

  -- a load that is open is of the scheme that is picked by these settings, and its cell waits for it
  abbrev OwnLoad : StandingLayers → Parts T X Q C I A R Z D P L → Type 0
  OwnLoad settings parts = IsAmong (PicksFrom means parts settings) (current_of parts.identities.cached) × IsAwaitedIn parts.identities.cached

  none_own : (settings : StandingLayers) (parts : Parts T X Q C I A R Z D P L) → NoLoad parts → OwnLoad settings parts
  none_own settings parts n = (subst (IsAmong (PicksFrom means parts settings)) (sym n) tt, awaited_none parts.identities.cached n)

  choose_step : (old new : Parts T X Q C I A R Z D P L) (settings : StandingLayers) (a : Answer) → OwnLoad settings old → Answers means old (questions.Choose settings) a new
      → OwnLoad settings new × (is_pending a ≡ false → NoLoad new) × Stores a new.identities.cached
  choose_step old new settings a own h =
      let left = choice_left means.names means.polls old.given.options old.given.schemes.items old.given.endpoint settings old.given.time_source old.identities.cached old.identities a new.identities h.calls refl own.0 own.1 h.chooses in
      (subst (OwnLoad settings) (sym h.others) (left.own, left.awaited), left.ended, left.stored)

  keeps_none : (old new : Parts T X Q C I A R Z D P L) (q : Question) (a : Answer) → chooses (kind_of_question q) ≡ false → NoLoad old → Answers means old q a new → NoLoad new
  keeps_none old new (questions.Configure stages.Client settings) a c s h = subst NoLoad (sym h.1.others) (rested_none old.identities.cached)
  keeps_none old new (questions.Configure stages.Operation settings) a c s h = subst NoLoad (sym h.1) s
  keeps_none old new (questions.Configure stages.Final settings) a c s h = subst NoLoad (sym h.1) s
  keeps_none old new (questions.Hook hook view) a c s h = subst NoLoad (sym h.others) s
  keeps_none old new (questions.Serialize input settings) a c s h = subst NoLoad (sym h.1) s
  keeps_none old new (questions.Load request) a c s h = subst NoLoad (sym h.1) s
  keeps_none old new (questions.Initial settings) a c s h = subst NoLoad (sym h.others) s
  keeps_none old new (questions.Start role nanos) a c s h = subst NoLoad (sym h.1) s
  keeps_none old new (questions.Wait role) a c s h = subst NoLoad (sym h.1) s
  keeps_none old new (questions.Choose settings) a c s h = absurd (cc c)
  keeps_none old new (questions.Endpoint settings identity) a c s h = subst NoLoad (sym h.1) s
  keeps_none old new (questions.Apply settings request endpoint) a c s h = subst NoLoad (sym h.1) s
  keeps_none old new (questions.Sign settings request scheme identity endpoint) a c s h = subst NoLoad (sym h.1) s
  keeps_none old new (questions.Transmit settings request) a c s h = subst NoLoad (sym h.1) s
  keeps_none old new (questions.Stream settings response) a c s h = subst NoLoad (sym h.1) s
  keeps_none old new (questions.Body settings response) a c s h = subst NoLoad (sym h.1) s
  keeps_none old new (questions.Deserialize settings response) a c s h = subst NoLoad (sym h.1) s
  keeps_none old new (questions.Decide settings request response outcome attempt) a c s h = subst NoLoad (sym h.others) s
  keeps_none old new (questions.Abandon abandoned.Choose) a c s h = subst NoLoad (sym h.2) (rested_none old.identities.cached)
  keeps_none old new (questions.Abandon _) a c s h = subst NoLoad (sym h.2) s
  keeps_none old new questions.Park a c s h = subst NoLoad (sym h.2) s

  -- ---- positions of a run

  -- at a question: what an earlier run left is ended by the first
  abbrev MindsAsk : Kind → StandingLayers → Parts T X Q C I A R Z D P L → Type 0
  MindsAsk kinds.Choose l parts = OwnLoad l parts
  MindsAsk (kinds.Configure stages.Client) l parts = Unit {0}
  MindsAsk _ l parts = NoLoad parts

  abbrev MindsWait : Kind → StandingLayers → Parts T X Q C I A R Z D P L → Type 0
  MindsWait kinds.Choose l parts = OwnLoad l parts
  MindsWait _ l parts = NoLoad parts

  abbrev MindsCut : Kind → Parts T X Q C I A R Z D P L → Type 0
  MindsCut kinds.Choose parts = Unit {0}
  MindsCut _ parts = NoLoad parts

  abbrev Minds : Position → StandingLayers → Parts T X Q C I A R Z D P L → Type 0
  Minds Whole l parts = Unit {0}
  Minds Dead l parts = Unit {0}
  Minds (Asking k es r) l parts = MindsAsk k l parts
  Minds (Waiting k es ds r) l parts = MindsWait k l parts
  Minds (Cutting k d r) l parts = MindsCut k parts

  none_asks : (k : Kind) (l : StandingLayers) (parts : Parts T X Q C I A R Z D P L) → NoLoad parts → MindsAsk k l parts
  none_asks kinds.Choose l parts n = none_own l parts n
  none_asks (kinds.Configure stages.Client) l parts n = tt
  none_asks _ l parts n = n

  none_waits : (k : Kind) (l : StandingLayers) (parts : Parts T X Q C I A R Z D P L) → NoLoad parts → MindsWait k l parts
  none_waits kinds.Choose l parts n = none_own l parts n
  none_waits _ l parts n = n

  none_cuts : (k : Kind) (parts : Parts T X Q C I A R Z D P L) → NoLoad parts → MindsCut k parts
  none_cuts kinds.Choose parts n = tt
  none_cuts _ parts n = n

  none_minds : (p : Position) (l : StandingLayers) (parts : Parts T X Q C I A R Z D P L) → NoLoad parts → Minds p l parts
  none_minds Whole l parts n = tt
  none_minds Dead l parts n = tt
  none_minds (Asking k es r) l parts n = none_asks k l parts n
  none_minds (Waiting k es ds r) l parts n = none_waits k l parts n
  none_minds (Cutting k d r) l parts n = none_cuts k parts n

  waits_ask : (k : Kind) (l : StandingLayers) (parts : Parts T X Q C I A R Z D P L) → MindsWait k l parts → MindsAsk k l parts
  waits_ask kinds.Choose l parts m = m
  waits_ask (kinds.Configure stages.Client) l parts m = tt
  waits_ask _ l parts m = m

  waits_cut : (k : Kind) (l : StandingLayers) (parts : Parts T X Q C I A R Z D P L) → MindsWait k l parts → MindsCut k parts
  waits_cut kinds.Choose l parts m = tt
  waits_cut _ l parts m = m

  waits_moved : (k : Kind) (l : StandingLayers) (parts : Parts T X Q C I A R Z D P L) (outside : X) → MindsWait k l parts → MindsWait k l (record parts { outside = outside })
  waits_moved kinds.Choose l parts outside m = m
  waits_moved _ l parts outside m = m

  -- ---- steps

  as_asked : (k : Kind) (s : State) (e : Entry) (old new : Parts T X Q C I A R Z D P L) → kind_of e ≡ k → e.question ≡ asked (kind_of e) s → Serves means old e new → Answers means old (asked k s) e.answer new
  as_asked k s e old new is handed serves = subst (λ q. Answers means old q e.answer new) (handed ∙ ap (λ j. asked j s) is) serves

  asking_choose : (es : List Role) (r : Production) (s : State) (e : Entry) (old new : Parts T X Q C I A R Z D P L) → kind_of e ≡ kinds.Choose → OwnLoad (settings_of s) old → Answers means old (questions.Choose (settings_of s)) e.answer new
      → Minds (cond (pending e) (Waiting kinds.Choose es es r) (begin r (step s e))) (settings_of (step s e)) new
  asking_choose es r s e old new is own h =
      let so = choose_step old new (settings_of s) e.answer own h in
      let same = pending_of e kinds.Choose is refl in
      (elim (pending e) as (λ t. pending e ≡ t → Minds (cond t (Waiting kinds.Choose es es r) (begin r (step s e))) (settings_of (step s e)) new) [
        | true ↦ λ p. subst (λ l. OwnLoad l new) (sym (choose_settings s e is (pending_answer e.answer (sym same ∙ p)))) so.0
        | false ↦ λ p. none_minds (begin r (step s e)) (settings_of (step s e)) new (so.1 (sym same ∙ p))
      ]) refl

  asking_step : (k : Kind) (es : List Role) (r : Production) (s : State) (e : Entry) (old new : Parts T X Q C I A R Z D P L) → kind_of e ≡ k → e.question ≡ asked (kind_of e) s → MindsAsk k (settings_of s) old → Serves means old e new
      → Minds (cond (pending e) (Waiting k es es r) (begin r (step s e))) (settings_of (step s e)) new
  unfolding asked
  asking_step kinds.Choose es r s e old new is handed m serves = asking_choose es r s e old new is m (as_asked kinds.Choose s e old new is handed serves)
  asking_step (kinds.Configure stages.Client) es r s e old new is handed m serves =
      let h = as_asked (kinds.Configure stages.Client) s e old new is handed serves in
      none_minds (cond (pending e) (Waiting (kinds.Configure stages.Client) es es r) (begin r (step s e))) (settings_of (step s e)) new (subst NoLoad (sym h.1.others) (rested_none old.identities.cached))
  asking_step k es r s e old new is handed m serves =
      none_minds (cond (pending e) (Waiting k es es r) (begin r (step s e))) (settings_of (step s e)) new (keeps_none old new e.question e.answer (ap chooses is) m serves)

  waiting_step : (k : Kind) (es ds : List Role) (r : Production) (s : State) (e : Entry) (old new : Parts T X Q C I A R Z D P L) → Asks (Waiting k es ds r) (kind_of e) → e.question ≡ asked (kind_of e) s → MindsWait k (settings_of s) old → Serves means old e new
      → Minds (next (Waiting k es ds r) (step s e) e) (settings_of (step s e)) new
  unfolding asked
  waiting_step k es [] r s e old new is handed m serves =
      let h = as_asked kinds.Park s e old new is handed serves in
      let moved = subst (MindsWait k (settings_of s)) (sym h.2) (waits_moved k (settings_of s) old new.outside m) in
      waits_ask k (settings_of (step s e)) new (subst (λ l. MindsWait k l new) (sym (park_settings s e is)) moved)
  waiting_step k es (d ∷ ds) r s e old new is handed m serves =
      let h = as_asked (kinds.Wait d) s e old new is handed serves in
      let moved = subst (MindsWait k (settings_of s)) (sym h.1) (waits_moved k (settings_of s) old new.outside m) in
      let same = pending_of e (kinds.Wait d) is refl in
      (elim (pending e) as (λ t. pending e ≡ t → Minds (cond t (Waiting k es ds r) (cond (ready e) (Cutting k d r) Dead)) (settings_of (step s e)) new) [
        | true ↦ λ p. subst (λ l. MindsWait k l new) (sym (wait_settings d s e is (pending_answer e.answer (sym same ∙ p)))) moved
        | false ↦ λ p. (elim (ready e) as (λ u. Minds (cond u (Cutting k d r) Dead) (settings_of (step s e)) new) [
          | true ↦ waits_cut k (settings_of s) new moved
          | false ↦ tt
        ])
      ]) refl

  cutting_step : (k : Kind) (d : Role) (r : Production) (s : State) (e : Entry) (old new : Parts T X Q C I A R Z D P L) → kind_of e ≡ abandon_of k → e.question ≡ asked (kind_of e) s → MindsCut k old → Serves means old e new
      → Minds (after_cut (cut r d) (step s e)) (settings_of (step s e)) new
  unfolding asked
  cutting_step kinds.Choose d r s e old new is handed m serves =
      let h = as_asked (kinds.Abandon abandoned.Choose) s e old new is handed serves in
      none_minds (after_cut (cut r d) (step s e)) (settings_of (step s e)) new (subst NoLoad (sym h.2) (rested_none old.identities.cached))
  cutting_step k d r s e old new is handed m serves =
      none_minds (after_cut (cut r d) (step s e)) (settings_of (step s e)) new (keeps_none old new e.question e.answer (ap chooses is ∙ abandons_no_choice k) m serves)

  minds_step : (p : Position) (s : State) (e : Entry) (old new : Parts T X Q C I A R Z D P L) → Asks p (kind_of e) → e.question ≡ asked (kind_of e) s → Minds p (settings_of s) old → Serves means old e new
      → Minds (next p (step s e) e) (settings_of (step s e)) new
  minds_step Whole s e old new is handed m serves = absurd is
  minds_step Dead s e old new is handed m serves = absurd is
  minds_step (Asking k es r) s e old new is handed m serves = asking_step k es r s e old new is handed m serves
  minds_step (Waiting k es ds r) s e old new is handed m serves = waiting_step k es ds r s e old new is handed m serves
  minds_step (Cutting k d r) s e old new is handed m serves = cutting_step k d r s e old new is handed m serves

  -- ---- runs

  asks_choice : (p : Position) (l : StandingLayers) (parts : Parts T X Q C I A R Z D P L) (k : Kind) → Asks p k → k ≡ kinds.Choose → Minds p l parts → OwnLoad l parts
  asks_choice Whole l parts k is choice m = absurd is
  asks_choice Dead l parts k is choice m = absurd is
  asks_choice (Asking j es r) l parts k is choice m = subst (λ i. MindsAsk i l parts) (sym is ∙ choice) m
  asks_choice (Waiting j es [] r) l parts k is choice m = absurd (let clash = sym choice ∙ is in cc clash)
  asks_choice (Waiting j es (d ∷ ds) r) l parts k is choice m = absurd (let clash = sym choice ∙ is in cc clash)
  asks_choice (Cutting j d r) l parts k is choice m = absurd (let clash = sym (ap chooses choice) ∙ (ap chooses is ∙ abandons_no_choice j) in cc clash)

  at_choice : (before : List Entry) (e : Entry) (p : Position) (s : State) (old mid : Parts T X Q C I A R Z D P L) → Path p s (before ++ e ∷ []) → WellHanded s (before ++ e ∷ []) → Minds p (settings_of s) old → Served means old before mid
      → kind_of e ≡ kinds.Choose → OwnLoad (settings_of (standing s before)) mid
  at_choice [] e p s old mid path handed m same choice = subst (OwnLoad (settings_of s)) (sym same) (asks_choice p (settings_of s) old (kind_of e) path.0 choice m)
  at_choice (x ∷ before) e p s old mid path handed m (parts, serves, rest) choice =
      at_choice before e (next p (step s x) x) (step s x) parts mid path.1 handed.1 (minds_step p s x old parts path.0 handed.0 m serves) rest choice

  begins_minded : (stop : StopPoint) (s : State) (parts : Parts T X Q C I A R Z D P L) → Minds (begin (run stop) s) (settings_of s) parts
  unfolding run
  begins_minded stop s parts = tt

  asked_settings : (settings : StandingLayers) (s : State) → questions.Choose settings ≡ asked kinds.Choose s → settings ≡ settings_of s
  unfolding asked
  asked_settings settings s is = ap (λ q. settings_in q settings) is

  pub own_loads : ChoicesGoOnWithOwn means
  own_loads stop p old new before settings a begun served =
      let e = entry (questions.Choose settings) a in
      let at = last_served means before e old new served in
      let w = begins_stands stop (start p) (before ++ e ∷ []) begun in
      let own = at_choice before e (begin (run stop) (start p)) (start p) old at.0 w.path w.handed (begins_minded stop (start p) old) at.1 refl in
      let same = asked_settings settings (standing (start p) before) (handed_at before e [] (start p) w.handed) in
      let mine = subst (λ l. OwnLoad l at.0) (sym same) own in
      let so = choose_step at.0 new settings a mine at.2 in
      record {
        parts = at.0;
        served = at.1;
        own = λ load picked is picks.
            picked_once (map means.names at.0.given.schemes.items) (map (λ (s : RegisteredSource R). s.id) at.0.identities.sources.items) at.0.given.options (endpoint_before at.0.given.endpoint settings) settings load.id picked
            (subst (IsAmong (PicksFrom means at.0 settings)) is mine.0) picks;
        ended = so.1;
        stored = so.2;
      }
