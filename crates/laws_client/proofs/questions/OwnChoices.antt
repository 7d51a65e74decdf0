-- The load that a choice leaves open is of the scheme that it picked, and what was loaded is stored in that scheme's cell.
use Rattle.std.proofs.Common.{◌≡◌, ◌∙◌, refl, sym, ap, subst, ℕ, ◌<◌, Bool, false, inl, inr, List, map, position, slice_get, Option, None, Some, unwrap_or}
use Rattle.std.proofs.Math.Seq.{map-set_same}
use Rattle.std.proofs.lemmas.Option.{get_or_from_slice_get}
use Rattle.auth_endpoint.specs.Choice.{is_id, lack_of, reprioritized, schemes_of}
use Rattle.auth_endpoint.proofs.Lawful.{not_both, one_place}
use Rattle.client_auth.specs.Caching.{Answered, Continues, GoesOnCached, LooksAt, OpensLoad}
use Rattle.client_auth.specs.Choosing.{Asks, GoesOn, Picks, answer_with, endpoint_before}
use Rattle.client_auth.specs.Identities.{ChoosesBy}
use Rattle.client_auth.specs.Reading.{standing_preference}
use Rattle.client_auth.specs.declared.cached.Opened.{Opened}
use Rattle.client_auth.specs.declared.cached.Opened.TheVariants as opened
use Rattle.client_auth.specs.declared.choose.OpenLoad.{OpenLoad}
use Rattle.client_auth.specs.declared.choose.Picked.{Picked}
use Rattle.client_auth.specs.declared.choose.Picked.TheVariants.{Scheme, Refused}
use Rattle.client_auth.specs.declared.identities.CachedIdentities.{CachedIdentities}
use Rattle.client_auth.specs.declared.identities.Identities.{Identities}
use Rattle.client_auth.specs.declared.sources.RegisteredSource.{RegisteredSource}
use Rattle.identity_cell.specs.LazyCache.{Cache, cell_at, done_at, expiry_by, looked_at}
use Rattle.identity_cell.specs.declared.cell.CellState.TheVariants.{Full, Loading}
use Rattle.identity_cell.specs.declared.identity_load.IdentityLoad.{IdentityLoad}
use Rattle.outside.specs.Calls.{OutsideCall}
use Rattle.outside.specs.declared.answers.IdentityPoll.{IdentityPoll}
use Rattle.outside.specs.declared.answers.IdentityPoll.TheVariants as polled
use Rattle.run_grammar.specs.Entry.{is_pending}
use Rattle.run_grammar.specs.declared.answer.Answer.{Answer}
use Rattle.run_grammar.specs.declared.answer.Answer.TheVariants as answers
use Rattle.smithy_context.specs.StandingLayers.{StandingLayers}
use Rattle.smithy_types.specs.declared.identity.Endpoint.{Endpoint}
use Rattle.laws_client.specs.Questions.OwnLoads.{Stores, current_of}
use Rattle.laws_client.proofs.questions.Choices.{asked, known, not_placed}
use Rattle.laws_client.proofs.questions.Loads.{begun_state, begun_waits, done_full}

-- ---- one scheme is picked

pub picked_once : (schemes sources options : List (List ℕ)) (endpoint : Option Endpoint) (settings : StandingLayers) (id : List ℕ) (other : Picked) → Picks schemes sources options endpoint settings (Scheme id)
    → Picks schemes sources options endpoint settings other → other ≡ Scheme id
picked_once schemes sources options endpoint settings id (Scheme jd) (place, chosen, there) (spot, first, here) =
    let ordered = reprioritized (standing_preference settings) options in
    let same = one_place (lack_of schemes sources (schemes_of endpoint)) ordered spot place first chosen in
    ap (λ o. Scheme (unwrap_or o id)) (sym here ∙ (ap (slice_get ordered) same ∙ there))
picked_once schemes sources options endpoint settings id (Refused text) (place, chosen, there) (explored, none, is) =
    absurd (not_both (lack_of schemes sources (schemes_of endpoint)) (reprioritized (standing_preference settings) options) place explored chosen none)

abbrev scheme_in : Picked → List ℕ → List ℕ
scheme_in (Scheme id) other = id
scheme_in (Refused text) other = other

-- ---- a load that is open

-- it is of this scheme
abbrev IsOf : List ℕ → Option IdentityLoad → Type 0
IsOf id None = Unit {0}
IsOf id (Some load) = load.id ≡ id

-- its cell waits for it, where the cache keeps any cell
abbrev pub IsAwaited : Cache → Option IdentityLoad → Type 0
IsAwaited cache None = Unit {0}
IsAwaited cache (Some load) = 0 < cache.terms.max_partitions → (cell_at cache load.id).state ≡ Loading load.ticket

abbrev pub IsAwaitedIn : Option CachedIdentities → Type 0
IsAwaitedIn None = Unit {0}
IsAwaitedIn (Some cached) = IsAwaited cached.cache cached.current

-- it is one of those
abbrev pub IsAmong : (Picked → Type 0) → Option IdentityLoad → Type 0
IsAmong P None = Unit {0}
IsAmong P (Some load) = P (Scheme load.id)

-- what a choice of this scheme leaves
record Leaves (id : List ℕ) (a : Answer) (after : CachedIdentities) : Type 0 where
  of_scheme : IsOf id after.current
  awaited : IsAwaited after.cache after.current
  ended : is_pending a ≡ false → after.current ≡ None
  stored : Stores a (Some after)

-- where no load is open
closed : (id : List ℕ) (a : Answer) (after : CachedIdentities) → after.current ≡ None → Stores a (Some after) → Leaves id a after
closed id a after none stored = record { of_scheme = subst (IsOf id) (sym none) tt; awaited = subst (IsAwaited after.cache) (sym none) tt; ended = λ _. none; stored = stored }

-- where all stays, and the choice is pending
waiting : (id : List ℕ) (a : Answer) (after : CachedIdentities) (cache : Cache) (current : Option IdentityLoad) → a ≡ answers.Pending → after.cache ≡ cache → after.current ≡ current → IsOf id current → IsAwaited cache current → Leaves id a after
waiting id a after cache current is same as_open of awaited = record {
  of_scheme = subst (IsOf id) (sym as_open) of;
  awaited = subst (λ c. IsAwaited c after.current) (sym same) (subst (IsAwaited cache) (sym as_open) awaited);
  ended = λ e. absurd (let clash = sym (ap is_pending is) ∙ e in cc clash);
  stored = subst (λ x. Stores x (Some after)) (sym is) tt;
}

abbrev failing : (text : List ℕ) (a : Answer) (after : CachedIdentities) → a ≡ answers.Failed text → Stores a (Some after)
failing text a after is = subst (λ x. Stores x (Some after)) (sym is) tt

-- ---- the steps of a choice

looked_open : (settings : StandingLayers) (id : List ℕ) (old : Cache) (now : ℕ) (found : Opened) (new : Cache) (open_load : Option IdentityLoad) (calls : List OutsideCall)
    → LooksAt settings id old now found new open_load calls → IsOf id open_load × IsAwaited new open_load
looked_open settings id old now (opened.Hit identity) new open_load calls h = (subst (IsOf id) (sym h.2) tt, subst (IsAwaited new) (sym h.2) tt)
looked_open settings id old now opened.NotYet new open_load calls h = (subst (IsOf id) (sym h.2) tt, subst (IsAwaited new) (sym h.2) tt)
looked_open settings id old now opened.Load new open_load calls (ticket, sleep, looks, written, opens, made) =
    let cell = looked_at (cell_at old id) now in
    let state = begun_state (cell_at old id) now ticket looks in
    (subst (IsOf id) (sym opens) refl, subst (IsAwaited new) (sym opens) (subst (λ (c : Cache). 0 < c.terms.max_partitions → (cell_at c id).state ≡ Loading ticket) (sym written) (begun_waits old id cell ticket state)))

opened_so : (time_source : Bool) (settings : StandingLayers) (id : List ℕ) (cache : Cache) (current : Option IdentityLoad) (found : Opened) (new : Cache) (open_load : Option IdentityLoad) (calls : List OutsideCall) → IsOf id current → IsAwaited cache current
    → OpensLoad time_source settings id cache current found new open_load calls → IsOf id open_load × IsAwaited new open_load
opened_so time_source settings id cache None found new open_load calls of awaited h = looked_open settings id cache (unwrap_or h.moment 0) found new open_load h.sleeping h.looks
opened_so time_source settings id cache (Some load) found new open_load calls of awaited h =
    (subst (IsOf id) (sym h.2) of, subst (λ c. IsAwaited c open_load) (sym h.1) (subst (IsAwaited cache) (sym h.2) awaited))

-- only a load that goes on leaves one open
opened_none : (time_source : Bool) (settings : StandingLayers) (id : List ℕ) (cache : Cache) (current : Option IdentityLoad) (found : Opened) (new : Cache) (open_load : Option IdentityLoad) (calls : List OutsideCall) → (found ≡ opened.Load → ⊥)
    → OpensLoad time_source settings id cache current found new open_load calls → open_load ≡ None
opened_none time_source settings id cache None (opened.Hit identity) new open_load calls n h = h.looks.2
opened_none time_source settings id cache None opened.NotYet new open_load calls n h = h.looks.2
opened_none time_source settings id cache None opened.Load new open_load calls n h = absurd (n refl)
opened_none time_source settings id cache (Some load) found new open_load calls n h = absurd (n h.0)

opened_some : (time_source : Bool) (settings : StandingLayers) (id : List ℕ) (cache : Cache) (current : Option IdentityLoad) (new : Cache) (open_load : Option IdentityLoad) (calls : List OutsideCall)
    → OpensLoad time_source settings id cache current opened.Load new open_load calls → (load : IdentityLoad) × (open_load ≡ Some load)
opened_some time_source settings id cache None new open_load calls h = (_, h.looks.4)
opened_some time_source settings id cache (Some load) new open_load calls h = (load, h.2)

continues_so : (id : List ℕ) (endpoint : Option Endpoint) (answer : Option IdentityPoll) (cache : Cache) (load : IdentityLoad) (asked_load : OpenLoad) (a : Answer) (after : CachedIdentities) (load_after : OpenLoad)
    (calls : List OutsideCall) → (one : IdentityPoll) × (answer ≡ Some one) → load.id ≡ id → IsAwaited cache (Some load)
    → Continues id endpoint answer cache (Some load) asked_load a after.cache after.current load_after calls → Leaves id a after
continues_so id endpoint None cache load asked_load a after load_after calls some of awaited h = absurd (let none = some.1 in cc none)
continues_so id endpoint (Some polled.Pending) cache load asked_load a after load_after calls some of awaited (inl h) = waiting id a after cache (Some load) h.0 h.1 h.2 of awaited
continues_so id endpoint (Some polled.Pending) cache load asked_load a after load_after calls some of awaited (inr h) = closed id a after h.none_open (failing _ a after h.answer_is)
continues_so id endpoint (Some (polled.Failed text)) cache load asked_load a after load_after calls some of awaited h = closed id a after h.2 (failing text a after h.0)
continues_so id endpoint (Some (polled.Ready identity)) cache load asked_load a after load_after calls some of awaited (word, answered, kept, none, same, made) =
    let expiry : ℕ = expiry_by cache.terms identity load.asked_at word in
    closed id a after none (subst (λ x. Stores x (Some after)) (sym answered) (λ _. record {
      after = after;
      keeps = refl;
      ticket = load.ticket;
      expiry = expiry;
      stored = subst (λ (c : Cache). 0 < c.terms.max_partitions → (cell_at c id).state ≡ Full load.ticket identity expiry) (sym kept)
          (λ k. subst (λ i. (cell_at (done_at cache load.id load.ticket identity expiry) i).state ≡ Full load.ticket identity expiry) of (done_full cache load.id load.ticket identity expiry (awaited k)));
    }))

module _ {A R : Type 0} (names : A → List ℕ) (polls : R → IdentityPoll → R → Type 0) (options : List (List ℕ)) (schemes : List A) (endpoint : Endpoint) (settings : StandingLayers) where
  abbrev PicksOf : List (RegisteredSource R) → Picked → Type 0
  PicksOf old picked = Picks (map names schemes) (map (λ (s : RegisteredSource R). s.id) old) options (endpoint_before endpoint settings) settings picked

  one_answer : (id : List ℕ) (old new : List (RegisteredSource R)) (load load_after : OpenLoad) (answer : Option IdentityPoll) (calls : List OutsideCall) → PicksOf old (Scheme id)
      → Asks polls id (position (λ (s : RegisteredSource R). is_id id s.id) old) old load answer new load_after calls → (one : IdentityPoll) × (answer ≡ Some one)
  one_answer id old new load load_after answer calls picks h =
      asked polls id (position (λ (s : RegisteredSource R). is_id id s.id) old) old load answer new load_after calls
      (not_placed (λ (s : RegisteredSource R). s.id) id old (known (map names schemes) (map (λ (s : RegisteredSource R). s.id) old) options (endpoint_before endpoint settings) settings (Scheme id) picks).1) h

  found_so : (time_source : Bool) (id : List ℕ) (old new : List (RegisteredSource R)) (cache : Cache) (current : Option IdentityLoad) (found : Opened) (cache_looked : Cache) (open_looked : Option IdentityLoad) (load : OpenLoad) (a : Answer)
      (after : CachedIdentities) (load_after : OpenLoad) (looking answering : List OutsideCall) → IsOf id current → IsAwaited cache current → PicksOf old (Scheme id)
      → OpensLoad time_source settings id cache current found cache_looked open_looked looking
      → Answered polls id (endpoint_before endpoint settings) found old cache_looked open_looked load a new after.cache after.current load_after answering → Leaves id a after
  found_so time_source id old new cache current (opened.Hit identity) cache_looked open_looked load a after load_after looking answering of awaited picks opens h =
      closed id a after (h.3 ∙ opened_none time_source settings id cache current (opened.Hit identity) cache_looked open_looked looking (λ e. cc e) opens)
      (subst (λ x. Stores x (Some after)) (sym h.0) (λ e. absurd (cc e)))
  found_so time_source id old new cache current opened.NotYet cache_looked open_looked load a after load_after looking answering of awaited picks opens h =
      closed id a after (h.3 ∙ opened_none time_source settings id cache current opened.NotYet cache_looked open_looked looking (λ e. cc e) opens)
      (subst (λ x. Stores x (Some after)) (sym h.0) tt)
  found_so time_source id old new cache current opened.Load cache_looked open_looked load a after load_after looking answering of awaited picks opens h =
      let some = opened_some time_source settings id cache current cache_looked open_looked looking opens in
      let so = opened_so time_source settings id cache current opened.Load cache_looked open_looked looking of awaited opens in
      continues_so id (endpoint_before endpoint settings) h.answer cache_looked some.0 h.load_asked a after load_after h.going_on
      (one_answer id old new load h.load_asked h.answer h.asking picks h.asks)
      (subst (IsOf id) some.1 so.0)
      (subst (IsAwaited cache_looked) some.1 so.1)
      (subst (λ o. Continues id (endpoint_before endpoint settings) h.answer cache_looked o h.load_asked a after.cache after.current load_after h.going_on) some.1 h.continues)

  -- ---- the sources' ids stay

  abbrev ids : List (RegisteredSource R) → List (List ℕ)
  ids sources = map (λ (s : RegisteredSource R). s.id) sources

  asks_ids : (id : List ℕ) (place : Option ℕ) (old : List (RegisteredSource R)) (load : OpenLoad) (answer : Option IdentityPoll) (new : List (RegisteredSource R)) (load_after : OpenLoad) (calls : List OutsideCall)
      → Asks polls id place old load answer new load_after calls → ids new ≡ ids old
  asks_ids id None old load None new load_after calls h = ap ids h.0
  asks_ids id None old load (Some answer) new load_after calls h = absurd h
  asks_ids id (Some place) old load None new load_after calls h = absurd h
  asks_ids id (Some place) old load (Some answer) new load_after calls h =
      ap ids h.others
      ∙ map-set_same (λ (s : RegisteredSource R). s.id) old place (record h.registered { source = h.after }) h.registered
      (sym (ap (λ (s : RegisteredSource R). s.id) (get_or_from_slice_get old place h.registered h.registered h.there)))

  answered_ids : (id : List ℕ) (found : Opened) (old new : List (RegisteredSource R)) (cache : Cache) (current : Option IdentityLoad) (load : OpenLoad) (a : Answer) (cache_after : Cache) (open_after : Option IdentityLoad) (load_after : OpenLoad)
      (calls : List OutsideCall) → Answered polls id (endpoint_before endpoint settings) found old cache current load a new cache_after open_after load_after calls → ids new ≡ ids old
  answered_ids id (opened.Hit identity) old new cache current load a cache_after open_after load_after calls h = ap ids h.1
  answered_ids id opened.NotYet old new cache current load a cache_after open_after load_after calls h = ap ids h.1
  answered_ids id opened.Load old new cache current load a cache_after open_after load_after calls h =
      asks_ids id (position (λ (s : RegisteredSource R). is_id id s.id) old) old load h.answer new h.load_asked h.asking h.asks

  -- ---- a choice

  of_current : (id : List ℕ) (old : List (RegisteredSource R)) (current : Option IdentityLoad) → IsAmong (PicksOf old) current → PicksOf old (Scheme id) → IsOf id current
  of_current id old None own picks = tt
  of_current id old (Some load) own picks =
      ap (λ p. scheme_in p id) (picked_once (map names schemes) (map (λ (s : RegisteredSource R). s.id) old) options (endpoint_before endpoint settings) settings id (Scheme load.id) picks own)

  none_refused : (text : List ℕ) (old : List (RegisteredSource R)) (current : Option IdentityLoad) → IsAmong (PicksOf old) current → PicksOf old (Refused text) → current ≡ None
  none_refused text old None own picks = refl
  none_refused text old (Some load) own picks =
      absurd (let clash = picked_once (map names schemes) (map (λ (s : RegisteredSource R). s.id) old) options (endpoint_before endpoint settings) settings load.id (Refused text) own picks in cc clash)

  among : (id : List ℕ) (old new : List (RegisteredSource R)) (current : Option IdentityLoad) → PicksOf old (Scheme id) → ids new ≡ ids old → IsOf id current → IsAmong (PicksOf new) current
  among id old new None picks same of = tt
  among id old new (Some load) picks same of =
      subst (λ l. Picks (map names schemes) l options (endpoint_before endpoint settings) settings (Scheme load.id)) (sym same) (subst (λ i. PicksOf old (Scheme i)) (sym of) picks)

  -- what a choice leaves of a client's identities
  pub record Left (sources : List (RegisteredSource R)) (a : Answer) (cached : Option CachedIdentities) : Type 0 where
    pub own : IsAmong (PicksOf sources) (current_of cached)
    pub awaited : IsAwaitedIn cached
    pub ended : is_pending a ≡ false → current_of cached ≡ None
    pub stored : Stores a cached

  uncached_stores : (picked : Picked) (old new : List (RegisteredSource R)) (load load_after : OpenLoad) (a : Answer) (calls : List OutsideCall) → GoesOn polls (endpoint_before endpoint settings) picked old load a new load_after calls → Stores a None
  uncached_stores (Refused text) old new load load_after a calls h = subst (λ x. Stores x None) (sym h.0) tt
  uncached_stores (Scheme id) old new load load_after a calls h = subst (λ x. Stores x None) (sym h.answer_is) (by h.polled)
    where
      by : (answer : Option IdentityPoll) → Stores (answer_with id (endpoint_before endpoint settings) answer) None
      by None = tt
      by (Some polled.Pending) = tt
      by (Some (polled.Failed text)) = tt
      by (Some (polled.Ready identity)) = λ e. absurd (cc e)

  cached_left : (time_source : Bool) (picked : Picked) (old new : List (RegisteredSource R)) (cached after : CachedIdentities) (load load_after : OpenLoad) (a : Answer) (calls : List OutsideCall) → IsAmong (PicksOf old) cached.current
      → IsAwaited cached.cache cached.current → PicksOf old picked → GoesOnCached polls time_source settings (endpoint_before endpoint settings) picked old cached.cache cached.current load a new after.cache after.current load_after calls
      → Left new a (Some after)
  cached_left time_source (Refused text) old new cached after load load_after a calls own awaited picks h =
      let none : after.current ≡ None = h.3 ∙ none_refused text old cached.current own picks in
      record { own = subst (IsAmong (PicksOf new)) (sym none) tt; awaited = subst (IsAwaited after.cache) (sym none) tt; ended = λ _. none; stored = failing text a after h.0 }
  cached_left time_source (Scheme id) old new cached after load load_after a calls own awaited picks h =
      let leaves = found_so time_source id old new cached.cache cached.current h.found h.cache_looked h.open_looked load a after load_after h.looking h.answering (of_current id old cached.current own picks) awaited picks h.opens h.answered in
      record {
        own = among id old new after.current picks (answered_ids id h.found old new h.cache_looked h.open_looked load a after.cache after.current load_after h.answering h.answered) leaves.of_scheme;
        awaited = leaves.awaited;
        ended = leaves.ended;
        stored = leaves.stored;
      }

  pub choice_left : (time_source : Bool) (cached : Option CachedIdentities) (old : Identities R) (a : Answer) (new : Identities R) (calls : List OutsideCall) → old.cached ≡ cached → IsAmong (PicksOf old.sources.items) (current_of cached) → IsAwaitedIn cached
      → ChoosesBy names polls options schemes endpoint time_source settings cached old a new calls → Left new.sources.items a new.cached
  choice_left time_source None old a new calls is own awaited (h, same) =
      subst (Left new.sources.items a) (sym (ap (λ (i : Identities R). i.cached) same ∙ is))
      (record { own = tt; awaited = tt; ended = λ _. refl; stored = uncached_stores h.picked old.sources.items new.sources.items old.load new.load a calls h.goes_on })
  choice_left time_source (Some cached) old a new calls is own awaited (after, h, same) =
      subst (Left new.sources.items a) (sym (ap (λ (i : Identities R). i.cached) same))
      (cached_left time_source h.picked old.sources.items new.sources.items cached after old.load new.load a calls own awaited h.picks h.goes_on)
