-- The note of each choice tells where its identity is from.
use Rattle.std.proofs.Common.{◌≡◌, refl, sym, ap, subst, ◌∙◌, inl, inr, ℕ, Bool, true, false, cond, List, [], ◌∷◌, ◌++◌, append_assoc, Option, None, Some, unwrap_or}
use Rattle.std.proofs.lemmas.List.{append-nil}
use Rattle.std.specs.Map.{lookup, set_value}
use Rattle.identity_cell.proofs.CellLemmas.{same_ticket}
use Rattle.identity_cell.specs.Cell.{Cell, after_end, empty_cell, is_open, moved}
use Rattle.identity_cell.specs.LazyCache.{Cache, cell_at, done_at, expiry_by, is_id, timeout_by}
use Rattle.identity_cell.specs.declared.cell.CellState.{CellState}
use Rattle.identity_cell.specs.declared.cell.CellState.TheVariants.{Loading, Full}
use Rattle.identity_cell.specs.declared.event.Event.{Event}
use Rattle.identity_cell.specs.declared.event.Event.TheVariants as event
use Rattle.identity_cell.specs.declared.identity_load.IdentityLoad.{IdentityLoad}
use Rattle.outside.specs.Calls.{OutsideCall, Word}
use Rattle.outside.specs.Clock.{clock_calls}
use Rattle.outside.specs.declared.answers.IdentityPoll.{IdentityPoll}
use Rattle.outside.specs.declared.answers.IdentityPoll.TheVariants as polled
use Rattle.run_grammar.specs.declared.answer.Answer.{Answer}
use Rattle.run_grammar.specs.declared.answer.Answer.TheVariants as answers
use Rattle.run_grammar.specs.declared.answer.Chosen.{Chosen}
use Rattle.smithy_context.specs.StandingLayers.{StandingLayers}
use Rattle.smithy_types.specs.declared.identity.Endpoint.{Endpoint}
use Rattle.smithy_types.specs.declared.identity.Identity.{Identity}
use Rattle.smithy_types.specs.declared.notes.ChooseNote.TheVariants.{Hit, Load, Uncached}
use Rattle.client_auth.specs.Caching.{Answered, Continues, GoesOnCached, GoesOnLoading, OpensLoad, giving_up_open}
use Rattle.client_auth.specs.Choosing.{GoesOn, answer_with, endpoint_before}
use Rattle.client_auth.specs.Identities.{ChoosesBy}
use Rattle.laws_client.specs.Choices.Noting.{BeginsLoad, HasOpen, NotesTell, Tells, WasKept, WasLoaded}
use Rattle.client_auth.specs.declared.cached.Opened.{Opened}
use Rattle.client_auth.specs.declared.cached.Opened.TheVariants as opened
use Rattle.client_auth.specs.declared.choose.OpenLoad.{OpenLoad}
use Rattle.client_auth.specs.declared.choose.Picked.{Picked}
use Rattle.client_auth.specs.declared.choose.Picked.TheVariants.{Scheme, Refused}
use Rattle.client_auth.specs.declared.identities.CachedIdentities.{CachedIdentities}
use Rattle.client_auth.specs.declared.identities.Identities.{Identities}
use Rattle.client_auth.specs.declared.sources.RegisteredSource.{RegisteredSource}

-- of an answer: only a choice has a note
abbrev AnswerTells : Bool → Option CachedIdentities → Answer → Option CachedIdentities → List OutsideCall → Type 0
AnswerTells time_source old (answers.Chosen chosen) new calls = Tells time_source old chosen new calls
AnswerTells time_source old _ new calls = Unit {0}

-- ---- what a cell keeps

-- what was written is found, where something was found before
written : {K X : Type 0} (test : K → Bool) (es : List (K × X)) (v w : X) → lookup test es ≡ Some v → lookup test (set_value test es w) ≡ Some w
written test [] v w found = cc
written {K} {X} test (e ∷ es) v w found = by (test e.0) refl found (written test es v w)
  where
    by : (t : Bool) → test e.0 ≡ t → cond t (Some e.1) (lookup test es) ≡ Some v → (lookup test es ≡ Some v → lookup test (set_value test es w) ≡ Some w)
        → lookup test (cond t ((e.0, w) ∷ es) (e ∷ set_value test es w)) ≡ Some w
    by true is found later = rw is refl
    by false is found later = rw is (later found)

ended : (cell : Cell Identity) (ticket : ℕ) (next : CellState Identity) (e : Event) → cell.state ≡ Loading ticket → (after_end cell ticket next e).state ≡ next
ended cell ticket next e waits =
    subst (λ s. (cond (is_open s ticket) (moved cell next e) cell).state ≡ next) (sym waits) (ap (λ (c : Cell Identity). c.state) (same_ticket ticket (moved cell next e) cell))

keeps_full : (cache : Cache) (id : List ℕ) (ticket : ℕ) (identity : Identity) (expiry : ℕ) → (cell_at cache id).state ≡ Loading ticket
    → (cell_at (done_at cache id ticket identity expiry) id).state ≡ Full ticket identity expiry
keeps_full cache id ticket identity expiry waits =
    by (lookup (is_id id) cache.cells) refl waits (after_end (cell_at cache id) ticket (Full ticket identity expiry) (event.Done ticket expiry))
    (ended (cell_at cache id) ticket (Full ticket identity expiry) (event.Done ticket expiry) waits)
  where
    by : (found : Option (Cell Identity)) → lookup (is_id id) cache.cells ≡ found → (unwrap_or found (empty_cell cache.terms.buffer)).state ≡ Loading ticket
        → (new : Cell Identity) → new.state ≡ Full ticket identity expiry
        → (unwrap_or (lookup (is_id id) (set_value (is_id id) cache.cells new)) (empty_cell cache.terms.buffer)).state ≡ Full ticket identity expiry
    by None is h new full = absurd (cc h)
    by (Some cell) is h new full = ap (λ o. (unwrap_or o (empty_cell cache.terms.buffer)).state) (written (is_id id) cache.cells cell new is) ∙ full

-- ---- each note

uncached_tells : (time_source : Bool) (id : List ℕ) (endpoint : Option Endpoint) (answer : Option IdentityPoll) (new : Option CachedIdentities) (calls : List OutsideCall)
    → AnswerTells time_source None (answer_with id endpoint answer) new calls
uncached_tells time_source id endpoint None new calls = tt
uncached_tells time_source id endpoint (Some polled.Pending) new calls = tt
uncached_tells time_source id endpoint (Some (polled.Failed text)) new calls = tt
uncached_tells time_source id endpoint (Some (polled.Ready identity)) new calls =
    record { note = Uncached; noted = refl; uncached = (λ _. refl, λ _. refl); hit = λ e. absurd (cc e); load = λ e. absurd (cc e) }

hit_tells : (time_source : Bool) (cached : CachedIdentities) (chosen : Chosen) (new : Option CachedIdentities) (calls : List OutsideCall)
    → chosen.note ≡ Some Hit → WasKept time_source (Some cached) chosen calls → Tells time_source (Some cached) chosen new calls
hit_tells time_source cached chosen new calls noted kept =
    record { note = Hit; noted = noted; uncached = (λ e. absurd (cc e), λ e. absurd (cc e)); hit = λ _. kept; load = λ e. absurd (cc e) }

load_tells : (time_source : Bool) (cached : CachedIdentities) (chosen : Chosen) (new : Option CachedIdentities) (calls : List OutsideCall)
    → chosen.note ≡ Some Load → WasLoaded (Some cached) chosen new calls → Tells time_source (Some cached) chosen new calls
load_tells time_source cached chosen new calls noted loaded =
    record { note = Load; noted = noted; uncached = (λ e. absurd (cc e), λ e. absurd (cc e)); hit = λ e. absurd (cc e); load = λ _. loaded }

-- ---- a load that goes on

module _ (time_source : Bool) (cached after : CachedIdentities) (id : List ℕ) (endpoint : Option Endpoint) (cache : Cache) (current : Option IdentityLoad) (a : Answer) where
  loaded : (load : IdentityLoad) (earlier calls : List OutsideCall) → HasOpen id cached load cache → current ≡ Some load
      → (answer : Option IdentityPoll) (asked load_after : OpenLoad) → Continues id endpoint answer cache current asked a after.cache after.current load_after calls
      → AnswerTells time_source (Some cached) a (Some after) (earlier ++ calls)
  loaded load earlier calls was is None asked load_after h = rw h.0 tt
  loaded load earlier calls was is (Some polled.Pending) asked load_after (inl h) = rw h.0 tt
  loaded load earlier calls was is (Some polled.Pending) asked load_after (inr h) = rw h.answer_is tt
  loaded load earlier calls was is (Some (polled.Failed text)) asked load_after h = rw h.0 tt
  loaded load earlier calls was is (Some (polled.Ready identity)) asked load_after (word, answered, kept, closed, same, made) =
      let expiry : ℕ = expiry_by cache.terms identity load.asked_at word in
      let done : after.cache ≡ done_at cache load.id load.ticket identity expiry = rw is at kept in
      rw answered (load_tells time_source cached (record { scheme = id; identity = identity; endpoint = endpoint; settings = []; note = Some Load }) (Some after) (earlier ++ calls) refl (record {
        cached = cached;
        keeps = refl;
        load = load;
        cache = cache;
        was_open = was;
        word = word;
        earlier = earlier;
        drawn = ap (λ l. earlier ++ l) (made ∙ ap (λ o. Word word ∷ giving_up_open o) is);
        after = after;
        keeps_on = refl;
        expiry = expiry;
        expires = refl;
        done = done;
        kept = λ waits. rw done (keeps_full cache load.id load.ticket identity expiry waits);
        none_open = closed;
      }))

-- ---- what was found

module _ {R : Type 0} (polls : R → IdentityPoll → R → Type 0) (time_source : Bool) (settings : StandingLayers) (id : List ℕ) (endpoint : Option Endpoint) (cache : Cache) (after : CachedIdentities)
    (old new : List (RegisteredSource R)) (load load_after : OpenLoad) (a : Answer) (cache_looked : Cache) (open_looked : Option IdentityLoad) (looking answering : List OutsideCall) where
  goes_on : (cached : CachedIdentities) (open_load : IdentityLoad) → HasOpen id cached open_load cache_looked → open_looked ≡ Some open_load
      → GoesOnLoading polls id endpoint old cache_looked open_looked load a new after.cache after.current load_after answering
      → AnswerTells time_source (Some cached) a (Some after) (looking ++ answering)
  goes_on cached open_load was is h =
      subst (λ l. AnswerTells time_source (Some cached) a (Some after) l) (append_assoc looking h.asking h.going_on ∙ ap (λ l. looking ++ l) (sym h.calls_are))
      (loaded time_source cached after id endpoint cache_looked open_looked a open_load (looking ++ h.asking) h.going_on was is h.answer h.load_asked load_after h.continues)

  found : (current : Option IdentityLoad) (found : Opened) → OpensLoad time_source settings id cache current found cache_looked open_looked looking
      → Answered polls id endpoint found old cache_looked open_looked load a new after.cache after.current load_after answering
      → AnswerTells time_source (Some (record { cache = cache; current = current })) a (Some after) (looking ++ answering)
  found (Some open_load) (opened.Hit identity) h answered = absurd (cc h.0)
  found (Some open_load) opened.NotYet h answered = rw answered.0 tt
  found (Some open_load) opened.Load h answered = goes_on (record { cache = cache; current = Some open_load }) open_load (inl (refl, h.1)) h.2 answered
  found None (opened.Hit identity) h answered =
      rw answered.0 (hit_tells time_source (record { cache = cache; current = None }) (record { scheme = id; identity = identity; endpoint = endpoint; settings = []; note = Some Hit }) (Some after) (looking ++ answering) refl (record {
        cached = record { cache = cache; current = None };
        keeps = refl;
        moment = h.moment;
        known = h.known;
        told = rw (answered.5, h.calls_are, h.looks.3) (append-nil (clock_calls h.moment ++ []) ∙ append-nil (clock_calls h.moment));
        ticket = h.looks.0.0;
        expiry = h.looks.0.1;
        had = h.looks.0.2;
        unexpired = h.looks.0.3;
      }))
  found None opened.NotYet h answered = rw answered.0 tt
  found None opened.Load h answered =
      let begun : BeginsLoad id cache (record { id = id; ticket = h.looks.0; asked_at = unwrap_or h.moment 0; timeout = timeout_by cache_looked.terms settings; sleep = h.looks.1 }) cache_looked = record { of_scheme = refl; had_none = h.looks.2; begun = h.looks.3 } in
      goes_on (record { cache = cache; current = None }) _ (inr (refl, begun)) h.looks.4 answered

-- ---- what was picked

module _ {R : Type 0} (polls : R → IdentityPoll → R → Type 0) (time_source : Bool) (settings : StandingLayers) (endpoint : Option Endpoint) (old new : List (RegisteredSource R)) (load load_after : OpenLoad) (a : Answer) (calls : List OutsideCall) where
  picked_uncached : (picked : Picked) (after : Option CachedIdentities) → GoesOn polls endpoint picked old load a new load_after calls → AnswerTells time_source None a after calls
  picked_uncached (Scheme id) after h = rw h.answer_is (uncached_tells time_source id endpoint h.polled after calls)
  picked_uncached (Refused text) after h = rw h.0 tt

  picked_cached : (picked : Picked) (cached after : CachedIdentities)
      → GoesOnCached polls time_source settings endpoint picked old cached.cache cached.current load a new after.cache after.current load_after calls
      → AnswerTells time_source (Some cached) a (Some after) calls
  picked_cached (Scheme id) cached after h =
      subst (λ l. AnswerTells time_source (Some cached) a (Some after) l) (sym h.calls_are)
      (found polls time_source settings id endpoint cached.cache after old new load load_after a h.cache_looked h.open_looked h.looking h.answering cached.current h.found h.opens h.answered)
  picked_cached (Refused text) cached after h = rw h.0 tt

module _ {A R : Type 0} (names : A → List ℕ) (polls : R → IdentityPoll → R → Type 0) where
  noted_by : (options : List (List ℕ)) (schemes : List A) (endpoint : Endpoint) (time_source : Bool) (settings : StandingLayers) (old : Identities R) (chosen : Chosen) (new : Identities R) (calls : List OutsideCall) (kept : Option CachedIdentities)
      → ChoosesBy names polls options schemes endpoint time_source settings kept old (answers.Chosen chosen) new calls → Tells time_source kept chosen new.cached calls
  noted_by options schemes endpoint time_source settings old chosen new calls None h =
      picked_uncached polls time_source settings (endpoint_before endpoint settings) old.sources.items new.sources.items old.load new.load (answers.Chosen chosen) calls h.0.picked new.cached h.0.goes_on
  noted_by options schemes endpoint time_source settings old chosen new calls (Some cached) (after, chooses, is) =
      subst (λ c. Tells time_source (Some cached) chosen c calls) (sym (ap (λ (n : Identities R). n.cached) is))
      (picked_cached polls time_source settings (endpoint_before endpoint settings) old.sources.items new.sources.items old.load new.load (answers.Chosen chosen) calls chooses.picked cached after chooses.goes_on)

  pub noted : NotesTell names polls
  noted options schemes endpoint time_source settings old chosen new calls h = noted_by options schemes endpoint time_source settings old chosen new calls old.cached h
