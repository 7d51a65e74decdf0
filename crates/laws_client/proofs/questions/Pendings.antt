-- A choice is pending with its source, where no cell is loading but that of the load that is open.
use Rattle.std.proofs.Common.{◌≡◌, ◌∙◌, refl, sym, ap, subst, ℕ, Bool, inl, inr, List, [], ◌++◌, map, position, Option, None, Some, unwrap_or}
use Rattle.std.proofs.lemmas.List.{append-nil}
use Rattle.auth_endpoint.specs.Choice.{is_id}
use Rattle.client_auth.specs.Caching.{Answered, Continues, GoesOnCached, GoesOnLoading, LooksAt, OpensLoad, dropped_open, failed_open, kept_open}
use Rattle.client_auth.specs.Choosing.{Asks, GoesOn, Picks, answer_with, endpoint_before}
use Rattle.client_auth.specs.Identities.{ChoosesBy, rested}
use Rattle.client_auth.specs.declared.cached.Opened.{Opened}
use Rattle.client_auth.specs.declared.cached.Opened.TheVariants as opened
use Rattle.client_auth.specs.declared.choose.OpenLoad.{OpenLoad}
use Rattle.client_auth.specs.declared.choose.Picked.{Picked}
use Rattle.client_auth.specs.declared.choose.Picked.TheVariants.{Scheme, Refused}
use Rattle.client_auth.specs.declared.identities.CachedIdentities.{CachedIdentities}
use Rattle.client_auth.specs.declared.identities.Identities.{Identities}
use Rattle.client_auth.specs.declared.sources.RegisteredSource.{RegisteredSource}
use Rattle.identity_cell.specs.LazyCache.{Cache, cell_at, dropped_at, expiry_by, looked_at, put}
use Rattle.identity_cell.specs.declared.cell.CellState.TheVariants.{Loading}
use Rattle.identity_cell.specs.declared.identity_load.IdentityLoad.{IdentityLoad}
use Rattle.outside.specs.Calls.{OutsideCall}
use Rattle.outside.specs.declared.answers.IdentityPoll.{IdentityPoll}
use Rattle.outside.specs.declared.answers.IdentityPoll.TheVariants as polled
use Rattle.run_grammar.specs.declared.answer.Answer.{Answer}
use Rattle.run_grammar.specs.declared.answer.Answer.TheVariants as answers
use Rattle.smithy_context.specs.StandingLayers.{StandingLayers}
use Rattle.smithy_types.specs.declared.identity.Endpoint.{Endpoint}
use Rattle.smithy_types.specs.declared.identity.Identity.{Identity}
use Rattle.laws_client.specs.Questions.Loading.{LoadsAlone, NoneLoading, NoneLoads, SourcePends, is_loading}
use Rattle.laws_client.proofs.questions.Loads.{at_idle, begun_idle, begun_state, done_idle, failed_idle, hit_idle, put_idle}

-- without the load that is open no cell of the cache is loading
abbrev pub Alone : Cache → Option IdentityLoad → Type 0
Alone cache current = NoneLoading (dropped_open cache current).cells

-- ---- each step leaves it so

alone_of : (cache cache_after : Cache) (current current_after : Option IdentityLoad) → cache_after ≡ cache → current_after ≡ current → Alone cache current → Alone cache_after current_after
alone_of cache cache_after current current_after same as_open h =
    subst (λ c. Alone c current_after) (sym same) (subst (Alone cache) (sym as_open) h)

never_waits : (cache : Cache) (id : List ℕ) (ticket : ℕ) → NoneLoading cache.cells → (cell_at cache id).state ≡ Loading ticket → ⊥
never_waits cache id ticket none is = let clash = sym (ap is_loading is) ∙ at_idle cache id none in cc clash

looked_alone : (settings : StandingLayers) (id : List ℕ) (old : Cache) (now : ℕ) (found : Opened) (new : Cache) (open_load : Option IdentityLoad) (calls : List OutsideCall) → NoneLoading old.cells
    → LooksAt settings id old now found new open_load calls → Alone new open_load
looked_alone settings id old now (opened.Hit identity) new open_load calls none h =
    let cell = looked_at (cell_at old id) now in
    alone_of (put old id cell) new None open_load h.1 h.2 (put_idle old id cell none (hit_idle (cell_at old id) now identity h.0))
looked_alone settings id old now opened.NotYet new open_load calls none h = absurd (never_waits old id h.0.0 none h.0.1)
looked_alone settings id old now opened.Load new open_load calls none (ticket, sleep, looks, written, opens, made) =
    let cell = looked_at (cell_at old id) now in
    subst (Alone new) (sym opens) (subst (λ (c : Cache). NoneLoading (dropped_at c id ticket).cells) (sym written) (begun_idle old id cell ticket none (begun_state (cell_at old id) now ticket looks)))

opens_alone : (time_source : Bool) (settings : StandingLayers) (id : List ℕ) (cache : Cache) (current : Option IdentityLoad) (found : Opened) (new : Cache) (open_load : Option IdentityLoad) (calls : List OutsideCall) → Alone cache current
    → OpensLoad time_source settings id cache current found new open_load calls → Alone new open_load
opens_alone time_source settings id cache None found new open_load calls alone h = looked_alone settings id cache (unwrap_or h.moment 0) found new open_load h.sleeping alone h.looks
opens_alone time_source settings id cache (Some load) found new open_load calls alone h = alone_of cache new (Some load) open_load h.1 h.2 alone

failed_alone : (cache new : Cache) (current open_after : Option IdentityLoad) → Alone cache current → new ≡ failed_open cache current → open_after ≡ None → Alone new open_after
failed_alone cache new None open_after alone is none = alone_of cache new None open_after is none alone
failed_alone cache new (Some load) open_after alone is none = alone_of (failed_open cache (Some load)) new None open_after is none (failed_idle cache load.id load.ticket alone)

kept_alone : (cache new : Cache) (current open_after : Option IdentityLoad) (identity : Identity) (word : ℕ) → Alone cache current → new ≡ kept_open cache current identity word → open_after ≡ None → Alone new open_after
kept_alone cache new None open_after identity word alone is none = alone_of cache new None open_after is none alone
kept_alone cache new (Some load) open_after identity word alone is none =
    alone_of (kept_open cache (Some load) identity word) new None open_after is none (done_idle cache load.id load.ticket identity (expiry_by cache.terms identity load.asked_at word) alone)

continues_alone : (id : List ℕ) (endpoint : Option Endpoint) (answer : Option IdentityPoll) (cache : Cache) (current : Option IdentityLoad) (load : OpenLoad) (a : Answer) (new : Cache) (open_after : Option IdentityLoad) (load_after : OpenLoad)
    (calls : List OutsideCall) → Alone cache current → Continues id endpoint answer cache current load a new open_after load_after calls → Alone new open_after
continues_alone id endpoint None cache current load a new open_after load_after calls alone h = alone_of cache new current open_after h.1 h.2 alone
continues_alone id endpoint (Some polled.Pending) cache current load a new open_after load_after calls alone (inl h) = alone_of cache new current open_after h.1 h.2 alone
continues_alone id endpoint (Some polled.Pending) cache current load a new open_after load_after calls alone (inr h) =
    failed_alone cache new (Some h.waiting) open_after (subst (Alone cache) h.is_open alone) h.cell h.none_open
continues_alone id endpoint (Some (polled.Failed text)) cache current load a new open_after load_after calls alone h = failed_alone cache new current open_after alone h.1 h.2
continues_alone id endpoint (Some (polled.Ready identity)) cache current load a new open_after load_after calls alone h = kept_alone cache new current open_after identity h.0 alone h.2 h.3

-- ---- what a source answered

-- only a source that is pending leaves a choice pending
with_pending : (id : List ℕ) (endpoint : Option Endpoint) (answer : Option IdentityPoll) → answer_with id endpoint answer ≡ answers.Pending → answer ≡ Some polled.Pending
with_pending id endpoint None e = absurd (cc e)
with_pending id endpoint (Some polled.Pending) e = refl
with_pending id endpoint (Some (polled.Failed text)) e = absurd (cc e)
with_pending id endpoint (Some (polled.Ready identity)) e = absurd (cc e)

continues_pending : (id : List ℕ) (endpoint : Option Endpoint) (answer : Option IdentityPoll) (cache : Cache) (current : Option IdentityLoad) (load : OpenLoad) (a : Answer) (new : Cache) (open_after : Option IdentityLoad) (load_after : OpenLoad)
    (calls : List OutsideCall) → Continues id endpoint answer cache current load a new open_after load_after calls → a ≡ answers.Pending → answer ≡ Some polled.Pending
continues_pending id endpoint None cache current load a new open_after load_after calls h e = absurd (let clash = sym e ∙ h.0 in cc clash)
continues_pending id endpoint (Some polled.Pending) cache current load a new open_after load_after calls h e = refl
continues_pending id endpoint (Some (polled.Failed text)) cache current load a new open_after load_after calls h e = absurd (let clash = sym e ∙ h.0 in cc clash)
continues_pending id endpoint (Some (polled.Ready identity)) cache current load a new open_after load_after calls h e = absurd (let clash = sym e ∙ h.1 in cc clash)

module _ {A R : Type 0} (names : A → List ℕ) (polls : R → IdentityPoll → R → Type 0) (options : List (List ℕ)) (schemes : List A) (endpoint : Endpoint) (settings : StandingLayers) where
  abbrev Pends : List (RegisteredSource R) → List (RegisteredSource R) → List OutsideCall → Type 0
  Pends old new calls = SourcePends names polls options schemes endpoint settings old new calls

  abbrev PicksOf : List (RegisteredSource R) → Picked → Type 0
  PicksOf old picked = Picks (map names schemes) (map (λ (s : RegisteredSource R). s.id) old) options (endpoint_before endpoint settings) settings picked

  asked_pends : (id : List ℕ) (old new : List (RegisteredSource R)) (load load_asked : OpenLoad) (earlier asking later calls : List OutsideCall) → PicksOf old (Scheme id)
      → Asks polls id (position (λ (s : RegisteredSource R). is_id id s.id) old) old load (Some polled.Pending) new load_asked asking → calls ≡ earlier ++ (asking ++ later) → Pends old new calls
  asked_pends id old new load load_asked earlier asking later calls picks asks made = by (position (λ (s : RegisteredSource R). is_id id s.id) old) refl asks
    where
      by : (o : Option ℕ) → position (λ (s : RegisteredSource R). is_id id s.id) old ≡ o → Asks polls id o old load (Some polled.Pending) new load_asked asking → Pends old new calls
      by None there h = absurd h
      by (Some place) there h =
          record { id = id; picks = picks; place = place; placed = there; earlier = earlier; asking = asking; later = later; open_load = load_asked; asked = h; calls_are = made }

  uncached_pends : (picked : Picked) (old new : List (RegisteredSource R)) (load load_after : OpenLoad) (a : Answer) (calls : List OutsideCall) → PicksOf old picked
      → GoesOn polls (endpoint_before endpoint settings) picked old load a new load_after calls → a ≡ answers.Pending → Pends old new calls
  uncached_pends (Refused text) old new load load_after a calls picks h e = absurd (let clash = sym e ∙ h.0 in cc clash)
  uncached_pends (Scheme id) old new load load_after a calls picks h e =
      let is = with_pending id (endpoint_before endpoint settings) h.polled (sym h.answer_is ∙ e) in
      asked_pends id old new load load_after [] calls [] calls picks
      (subst (λ p. Asks polls id (position (λ (s : RegisteredSource R). is_id id s.id) old) old load p new load_after calls) is h.asks)
      (sym (append-nil calls))

  loading_pends : (id : List ℕ) (old new : List (RegisteredSource R)) (cache : Cache) (current : Option IdentityLoad) (load : OpenLoad) (a : Answer) (cache_after : Cache) (open_after : Option IdentityLoad) (load_after : OpenLoad)
      (looking answering calls : List OutsideCall) → PicksOf old (Scheme id) → GoesOnLoading polls id (endpoint_before endpoint settings) old cache current load a new cache_after open_after load_after answering
      → calls ≡ looking ++ answering → a ≡ answers.Pending → Pends old new calls
  loading_pends id old new cache current load a cache_after open_after load_after looking answering calls picks h made e =
      let is = continues_pending id (endpoint_before endpoint settings) h.answer cache current h.load_asked a cache_after open_after load_after h.going_on h.continues e in
      asked_pends id old new load h.load_asked looking h.asking h.going_on calls picks
      (subst (λ p. Asks polls id (position (λ (s : RegisteredSource R). is_id id s.id) old) old load p new h.load_asked h.asking) is h.asks)
      (made ∙ ap (λ l. looking ++ l) h.calls_are)

  found_pends : (time_source : Bool) (id : List ℕ) (old new : List (RegisteredSource R)) (cache : Cache) (current : Option IdentityLoad) (found : Opened) (cache_looked : Cache) (open_looked : Option IdentityLoad) (load : OpenLoad) (a : Answer)
      (cache_after : Cache) (open_after : Option IdentityLoad) (load_after : OpenLoad) (looking answering calls : List OutsideCall) → Alone cache current → PicksOf old (Scheme id)
      → OpensLoad time_source settings id cache current found cache_looked open_looked looking
      → Answered polls id (endpoint_before endpoint settings) found old cache_looked open_looked load a new cache_after open_after load_after answering
      → calls ≡ looking ++ answering → a ≡ answers.Pending → Pends old new calls
  found_pends time_source id old new cache current (opened.Hit identity) cache_looked open_looked load a cache_after open_after load_after looking answering calls alone picks opens h made e =
      absurd (let clash = sym e ∙ h.0 in cc clash)
  found_pends time_source id old new cache None opened.NotYet cache_looked open_looked load a cache_after open_after load_after looking answering calls alone picks opens h made e =
      absurd (never_waits cache id opens.looks.0.0 alone opens.looks.0.1)
  found_pends time_source id old new cache (Some current) opened.NotYet cache_looked open_looked load a cache_after open_after load_after looking answering calls alone picks opens h made e =
      absurd (let clash = opens.0 in cc clash)
  found_pends time_source id old new cache current opened.Load cache_looked open_looked load a cache_after open_after load_after looking answering calls alone picks opens h made e =
      loading_pends id old new cache_looked open_looked load a cache_after open_after load_after looking answering calls picks h made e

  cached_pends : (time_source : Bool) (picked : Picked) (old new : List (RegisteredSource R)) (cache : Cache) (current : Option IdentityLoad) (load : OpenLoad) (a : Answer) (cache_after : Cache) (open_after : Option IdentityLoad) (load_after : OpenLoad)
      (calls : List OutsideCall) → Alone cache current → PicksOf old picked → GoesOnCached polls time_source settings (endpoint_before endpoint settings) picked old cache current load a new cache_after open_after load_after calls
      → a ≡ answers.Pending → Pends old new calls
  cached_pends time_source (Refused text) old new cache current load a cache_after open_after load_after calls alone picks h e = absurd (let clash = sym e ∙ h.0 in cc clash)
  cached_pends time_source (Scheme id) old new cache current load a cache_after open_after load_after calls alone picks h e =
      found_pends time_source id old new cache current h.found h.cache_looked h.open_looked load a cache_after open_after load_after h.looking h.answering calls alone picks h.opens h.answered h.calls_are e

  pub choice_pends : (time_source : Bool) (cached : Option CachedIdentities) (old : Identities R) (a : Answer) (new : Identities R) (calls : List OutsideCall) → old.cached ≡ cached → LoadsAlone old
      → ChoosesBy names polls options schemes endpoint time_source settings cached old a new calls → a ≡ answers.Pending → Pends old.sources.items new.sources.items calls
  choice_pends time_source None old a new calls is alone (h, same) e = uncached_pends h.picked old.sources.items new.sources.items old.load new.load a calls h.picks h.goes_on e
  choice_pends time_source (Some cached) old a new calls is alone (after, h, same) e =
      cached_pends time_source h.picked old.sources.items new.sources.items cached.cache cached.current old.load a after.cache after.current new.load calls
      (subst (λ c. NoneLoads (rested c)) is alone) h.picks h.goes_on e

  -- ---- a choice leaves it so

  answered_alone : (id : List ℕ) (found : Opened) (old new : List (RegisteredSource R)) (cache : Cache) (current : Option IdentityLoad) (load : OpenLoad) (a : Answer) (cache_after : Cache) (open_after : Option IdentityLoad) (load_after : OpenLoad)
      (calls : List OutsideCall) → Alone cache current → Answered polls id (endpoint_before endpoint settings) found old cache current load a new cache_after open_after load_after calls → Alone cache_after open_after
  answered_alone id (opened.Hit identity) old new cache current load a cache_after open_after load_after calls alone h = alone_of cache cache_after current open_after h.2 h.3 alone
  answered_alone id opened.NotYet old new cache current load a cache_after open_after load_after calls alone h = alone_of cache cache_after current open_after h.2 h.3 alone
  answered_alone id opened.Load old new cache current load a cache_after open_after load_after calls alone h =
      continues_alone id (endpoint_before endpoint settings) h.answer cache current h.load_asked a cache_after open_after load_after h.going_on alone h.continues

  cached_alone : (time_source : Bool) (picked : Picked) (old new : List (RegisteredSource R)) (cache : Cache) (current : Option IdentityLoad) (load : OpenLoad) (a : Answer) (cache_after : Cache) (open_after : Option IdentityLoad) (load_after : OpenLoad)
      (calls : List OutsideCall) → Alone cache current → GoesOnCached polls time_source settings (endpoint_before endpoint settings) picked old cache current load a new cache_after open_after load_after calls → Alone cache_after open_after
  cached_alone time_source (Refused text) old new cache current load a cache_after open_after load_after calls alone h = alone_of cache cache_after current open_after h.2 h.3 alone
  cached_alone time_source (Scheme id) old new cache current load a cache_after open_after load_after calls alone h =
      answered_alone id h.found old new h.cache_looked h.open_looked load a cache_after open_after load_after h.answering
      (opens_alone time_source settings id cache current h.found h.cache_looked h.open_looked h.looking alone h.opens) h.answered

  pub choice_alone : (time_source : Bool) (cached : Option CachedIdentities) (old : Identities R) (a : Answer) (new : Identities R) (calls : List OutsideCall) → old.cached ≡ cached → LoadsAlone old
      → ChoosesBy names polls options schemes endpoint time_source settings cached old a new calls → LoadsAlone new
  choice_alone time_source None old a new calls is alone (h, same) = subst LoadsAlone (sym same) alone
  choice_alone time_source (Some cached) old a new calls is alone (after, h, same) =
      subst LoadsAlone (sym same)
      (cached_alone time_source h.picked old.sources.items new.sources.items cached.cache cached.current old.load a after.cache after.current new.load calls (subst (λ c. NoneLoads (rested c)) is alone) h.goes_on)
