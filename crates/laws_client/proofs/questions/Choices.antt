-- A choice is of a scheme that the client has, and isn't Absent.
use Rattle.std.proofs.Common.{◌≡◌, ◌∙◌, refl, sym, ap, subst, ℕ, ◌+◌, Bool, true, false, not, ◌||◌, cond, if◌then◌else◌, inl, inr, List, [], ◌∷◌, ◌++◌, length, map, Option, None, Some, position, slice_get}
use Rattle.std.specs.List.{position_from}
use Rattle.std.proofs.Math.Seq.{get_or-append_seam}
use Rattle.std.proofs.lemmas.Iterator.Adapters.{position_from-zero}
use Rattle.std.proofs.lemmas.Option.{get_or_from_slice_get}
use Rattle.auth_endpoint.specs.Choice.{IsChosen, is_id, is_named, is_unlisted, lack_of, reprioritized, schemes_of}
use Rattle.auth_endpoint.specs.declared.explored.ExploreResult.{ExploreResult}
use Rattle.auth_endpoint.specs.declared.explored.ExploreResult.TheVariants.{NoAuthScheme, NoIdentityResolver, MissingEndpointConfig}
use Rattle.client_auth.specs.Caching.{Answered, Continues, GoesOnCached}
use Rattle.client_auth.specs.Choosing.{Asks, GoesOn, Picks, Resolves, answer_with, endpoint_before}
use Rattle.client_auth.specs.Identities.{ChoosesBy}
use Rattle.client_auth.specs.Reading.{standing_preference}
use Rattle.client_auth.specs.declared.cached.Opened.{Opened}
use Rattle.client_auth.specs.declared.cached.Opened.TheVariants as opened
use Rattle.client_auth.specs.declared.choose.OpenLoad.{OpenLoad}
use Rattle.client_auth.specs.declared.choose.Picked.{Picked}
use Rattle.client_auth.specs.declared.choose.Picked.TheVariants.{Scheme, Refused}
use Rattle.client_auth.specs.declared.identities.CachedIdentities.{CachedIdentities}
use Rattle.client_auth.specs.declared.identities.Identities.{Identities}
use Rattle.client_auth.specs.declared.sources.RegisteredSource.{RegisteredSource}
use Rattle.identity_cell.specs.LazyCache.{Cache}
use Rattle.identity_cell.specs.declared.identity_load.IdentityLoad.{IdentityLoad}
use Rattle.outside.specs.Calls.{OutsideCall}
use Rattle.outside.specs.declared.answers.IdentityPoll.{IdentityPoll}
use Rattle.outside.specs.declared.answers.IdentityPoll.TheVariants as polled
use Rattle.run_grammar.specs.declared.answer.Answer.{Answer}
use Rattle.run_grammar.specs.declared.answer.Answer.TheVariants as answers
use Rattle.smithy_context.specs.StandingLayers.{StandingLayers}
use Rattle.smithy_types.specs.declared.identity.Endpoint.{Endpoint}

-- not Absent, and of one of these schemes
abbrev pub ChoosesWell : List (List ℕ) → Answer → Type 0
ChoosesWell names (answers.Chosen c) = is_named names c.scheme ≡ true
ChoosesWell names answers.Absent = ⊥
ChoosesWell names _ = Unit {0}

-- ---- what is picked has a scheme and a source

by_names : (a b c : Bool) → (if not a then Some NoAuthScheme else (if not b then Some NoIdentityResolver else (if c then Some MissingEndpointConfig else None))) ≡ None → (a ≡ true) × (b ≡ true)
by_names false b c h = absurd (cc)
by_names true false c h = absurd (cc)
by_names true true c h = (refl, refl)

lacks_nothing : (schemes resolvers : List (List ℕ)) (listed : Option (List (List ℕ))) (id : List ℕ) → lack_of schemes resolvers listed id ≡ None → (is_named schemes id ≡ true) × (is_named resolvers id ≡ true)
lacks_nothing schemes resolvers listed id h = by_names (is_named schemes id) (is_named resolvers id) (is_unlisted listed id) h

the_option : (lack : List ℕ → Option ExploreResult) (ordered : List (List ℕ)) (place : ℕ) (id : List ℕ) (c : IsChosen lack ordered place) → slice_get ordered place ≡ Some id → c.option ≡ id
the_option lack ordered place id c there =
    let split = subst (λ xs. slice_get xs place ≡ Some id) c.split there in
    let placed = subst (λ n. slice_get (c.earlier ++ c.option ∷ c.later) n ≡ Some id) c.place_is split in
    sym (get_or-append_seam c.earlier c.option c.later id) ∙ get_or_from_slice_get (c.earlier ++ c.option ∷ c.later) (length c.earlier) id id placed

abbrev pub IsKnown : List (List ℕ) → List (List ℕ) → Picked → Type 0
IsKnown schemes sources (Scheme id) = (is_named schemes id ≡ true) × (is_named sources id ≡ true)
IsKnown schemes sources (Refused text) = Unit {0}

pub known : (schemes sources options : List (List ℕ)) (endpoint : Option Endpoint) (settings : StandingLayers) (picked : Picked) → Picks schemes sources options endpoint settings picked → IsKnown schemes sources picked
known schemes sources options endpoint settings (Refused text) h = tt
known schemes sources options endpoint settings (Scheme id) (place, chosen, there) =
    subst (λ o. (is_named schemes o ≡ true) × (is_named sources o ≡ true))
    (the_option (lack_of schemes sources (schemes_of endpoint)) (reprioritized (standing_preference settings) options) place id chosen there)
    (lacks_nothing schemes sources (schemes_of endpoint) chosen.option chosen.qualifies)

-- ---- what is named is found

nowhere : {K : Type 0} (f : K → List ℕ) (id : List ℕ) (i : ℕ) (xs : List K) → position_from (λ s. is_id id (f s)) i xs ≡ None → is_named (map f xs) id ≡ false
nowhere f id i [] h = refl
nowhere f id i (x ∷ xs) h =
    (elim (is_id id (f x)) as (λ b. cond b (Some i) (position_from (λ s. is_id id (f s)) (i + 1) xs) ≡ None → (b || is_named (map f xs) id) ≡ false) [
      | true ↦ λ k. absurd (cc k)
      | false ↦ λ k. nowhere f id (i + 1) xs k
    ]) h

pub not_placed : {K : Type 0} (f : K → List ℕ) (id : List ℕ) (xs : List K) → is_named (map f xs) id ≡ true → position (λ s. is_id id (f s)) xs ≡ None → ⊥
not_placed f id xs named h =
    let none = nowhere f id 0 xs (sym (position_from-zero (λ s. is_id id (f s)) xs) ∙ h) in
    let clash = sym named ∙ none in cc clash

-- ---- a choice

well_with : (names : List (List ℕ)) (id : List ℕ) (endpoint : Option Endpoint) (answer : IdentityPoll) → is_named names id ≡ true → ChoosesWell names (answer_with id endpoint (Some answer))
well_with names id endpoint polled.Pending named = tt
well_with names id endpoint (polled.Failed text) named = tt
well_with names id endpoint (polled.Ready identity) named = named

module _ {R : Type 0} (polls : R → IdentityPoll → R → Type 0) where
  abbrev ids : List (RegisteredSource R) → List (List ℕ)
  ids sources = map (λ (s : RegisteredSource R). s.id) sources

  pub asked : (id : List ℕ) (place : Option ℕ) (old : List (RegisteredSource R)) (load : OpenLoad) (answer : Option IdentityPoll) (new : List (RegisteredSource R)) (load_after : OpenLoad) (calls : List OutsideCall)
      → (place ≡ None → ⊥) → Asks polls id place old load answer new load_after calls → (one : IdentityPoll) × (answer ≡ Some one)
  asked id None old load answer new load_after calls n h = absurd (n refl)
  asked id (Some place) old load None new load_after calls n h = absurd h
  asked id (Some place) old load (Some answer) new load_after calls n h = (answer, refl)

  resolved : (names : List (List ℕ)) (id : List ℕ) (endpoint : Option Endpoint) (old : List (RegisteredSource R)) (load : OpenLoad) (a : Answer) (new : List (RegisteredSource R)) (load_after : OpenLoad) (calls : List OutsideCall)
      → is_named names id ≡ true → is_named (ids old) id ≡ true → Resolves polls id endpoint old load a new load_after calls → ChoosesWell names a
  resolved names id endpoint old load a new load_after calls named sourced h =
      let one = asked id (position (λ (s : RegisteredSource R). is_id id s.id) old) old load h.polled new load_after calls (not_placed (λ (s : RegisteredSource R). s.id) id old sourced) h.asks in
      subst (ChoosesWell names) (sym (h.answer_is ∙ ap (λ p. answer_with id endpoint p) one.1)) (well_with names id endpoint one.0 named)

  goes : (names : List (List ℕ)) (endpoint : Option Endpoint) (picked : Picked) (old : List (RegisteredSource R)) (load : OpenLoad) (a : Answer) (new : List (RegisteredSource R)) (load_after : OpenLoad) (calls : List OutsideCall)
      → IsKnown names (ids old) picked → GoesOn polls endpoint picked old load a new load_after calls → ChoosesWell names a
  goes names endpoint (Scheme id) old load a new load_after calls k h = resolved names id endpoint old load a new load_after calls k.0 k.1 h
  goes names endpoint (Refused text) old load a new load_after calls k h = subst (ChoosesWell names) (sym h.0) tt

  -- ---- with a cache

  continued : (names : List (List ℕ)) (id : List ℕ) (endpoint : Option Endpoint) (answer : Option IdentityPoll) (cache : Cache) (open_load : Option IdentityLoad) (load : OpenLoad) (a : Answer) (new : Cache) (open_after : Option IdentityLoad)
      (load_after : OpenLoad) (calls : List OutsideCall) → is_named names id ≡ true → (one : IdentityPoll) × (answer ≡ Some one) → Continues id endpoint answer cache open_load load a new open_after load_after calls → ChoosesWell names a
  continued names id endpoint None cache open_load load a new open_after load_after calls named some h = absurd (let none = some.1 in cc none)
  continued names id endpoint (Some polled.Pending) cache open_load load a new open_after load_after calls named some (inl h) = subst (ChoosesWell names) (sym h.0) tt
  continued names id endpoint (Some polled.Pending) cache open_load load a new open_after load_after calls named some (inr h) = subst (ChoosesWell names) (sym h.answer_is) tt
  continued names id endpoint (Some (polled.Failed text)) cache open_load load a new open_after load_after calls named some h = subst (ChoosesWell names) (sym h.0) tt
  continued names id endpoint (Some (polled.Ready identity)) cache open_load load a new open_after load_after calls named some h = subst (ChoosesWell names) (sym h.1) named

  answered : (names : List (List ℕ)) (id : List ℕ) (endpoint : Option Endpoint) (found : Opened) (old : List (RegisteredSource R)) (cache : Cache) (open_load : Option IdentityLoad) (load : OpenLoad) (a : Answer)
      (new : List (RegisteredSource R)) (cache_after : Cache) (open_after : Option IdentityLoad) (load_after : OpenLoad) (calls : List OutsideCall) → is_named names id ≡ true → is_named (ids old) id ≡ true
      → Answered polls id endpoint found old cache open_load load a new cache_after open_after load_after calls → ChoosesWell names a
  answered names id endpoint (opened.Hit identity) old cache open_load load a new cache_after open_after load_after calls named sourced h = subst (ChoosesWell names) (sym h.0) named
  answered names id endpoint opened.NotYet old cache open_load load a new cache_after open_after load_after calls named sourced h = subst (ChoosesWell names) (sym h.0) tt
  answered names id endpoint opened.Load old cache open_load load a new cache_after open_after load_after calls named sourced h =
      continued names id endpoint h.answer cache open_load h.load_asked a cache_after open_after load_after h.going_on named
      (asked id (position (λ (s : RegisteredSource R). is_id id s.id) old) old load h.answer new h.load_asked h.asking (not_placed (λ (s : RegisteredSource R). s.id) id old sourced) h.asks) h.continues

  goes_cached : (names : List (List ℕ)) (time_source : Bool) (settings : StandingLayers) (endpoint : Option Endpoint) (picked : Picked) (old : List (RegisteredSource R)) (cache : Cache) (open_load : Option IdentityLoad) (load : OpenLoad) (a : Answer)
      (new : List (RegisteredSource R)) (cache_after : Cache) (open_after : Option IdentityLoad) (load_after : OpenLoad) (calls : List OutsideCall) → IsKnown names (ids old) picked
      → GoesOnCached polls time_source settings endpoint picked old cache open_load load a new cache_after open_after load_after calls → ChoosesWell names a
  goes_cached names time_source settings endpoint (Scheme id) old cache open_load load a new cache_after open_after load_after calls k h =
      answered names id endpoint h.found old h.cache_looked h.open_looked load a new cache_after open_after load_after h.answering k.0 k.1 h.answered
  goes_cached names time_source settings endpoint (Refused text) old cache open_load load a new cache_after open_after load_after calls k h = subst (ChoosesWell names) (sym h.0) tt

  pub chooses_well : {A : Type 0} (names : A → List ℕ) (options : List (List ℕ)) (schemes : List A) (endpoint : Endpoint) (time_source : Bool) (settings : StandingLayers) (cached : Option CachedIdentities) (old : Identities R) (a : Answer)
      (new : Identities R) (calls : List OutsideCall) → ChoosesBy names polls options schemes endpoint time_source settings cached old a new calls → ChoosesWell (map names schemes) a
  chooses_well names options schemes endpoint time_source settings None old a new calls (h, same) =
      goes (map names schemes) (endpoint_before endpoint settings) h.picked old.sources.items old.load a new.sources.items new.load calls
      (known (map names schemes) (ids old.sources.items) options (endpoint_before endpoint settings) settings h.picked h.picks) h.goes_on
  chooses_well names options schemes endpoint time_source settings (Some cached) old a new calls (after, h, same) =
      goes_cached (map names schemes) time_source settings (endpoint_before endpoint settings) h.picked old.sources.items cached.cache cached.current old.load a new.sources.items after.cache after.current new.load calls
      (known (map names schemes) (ids old.sources.items) options (endpoint_before endpoint settings) settings h.picked h.picks) h.goes_on
