-- Choose is determined.
use Rattle.std.proofs.Common.{◌≡◌, ◌∙◌, refl, sym, ap, subst, ℕ, Bool, true, false, inl, inr, List, [], ◌++◌, Option, None, Some, Ok, map, position}
use Rattle.std.specs.Prelude.{◌&&◌, slice_set, is_some}
use Rattle.std.proofs.lemmas.Bool.{false≢true}
use Rattle.std.proofs.lemmas.List.{append-nil}
use Rattle.auth_endpoint.specs.declared.explored.ExploreResult.{ExploreResult}
use Rattle.auth_endpoint.specs.Choice.{is_id, lack_of, reprioritized, schemes_of}
use Rattle.client_auth.specs.Caching.{Answered, ChoosesCached, Continues, GoesOnCached, GoesOnLoading, ResolvesCached, StaysPending, TimesOut, asking_open, asking_sleep, giving_up, giving_up_open, kept_open, timed_out}
use Rattle.client_auth.specs.Choosing.{Asks, AsksAt, Chooses, GoesOn, answer_with, ending_load, endpoint_before, is_outside, is_pending}
use Rattle.client_auth.specs.Identities.{ChoosesBy}
use Rattle.client_auth.specs.Reading.{standing_preference}
use Rattle.client_auth.specs.Sourcing.{AsksSource}
use Rattle.client_auth.specs.declared.cached.Opened.{Opened}
use Rattle.client_auth.specs.declared.cached.Opened.TheVariants as opened
use Rattle.client_auth.specs.declared.choose.OpenLoad.{OpenLoad}
use Rattle.client_auth.specs.declared.choose.Picked.{Picked}
use Rattle.client_auth.specs.declared.choose.Picked.TheVariants.{Scheme, Refused}
use Rattle.client_auth.specs.declared.identities.CachedIdentities.{CachedIdentities}
use Rattle.client_auth.specs.declared.identities.Identities.{Identities}
use Rattle.client_auth.specs.declared.sources.IdentitySource.{IdentitySource}
use Rattle.client_auth.specs.declared.sources.IdentitySource.TheVariants.{Outside, Resolver}
use Rattle.client_auth.specs.declared.sources.RegisteredSource.{RegisteredSource}
use Rattle.identity_cell.specs.LazyCache.{Cache, failed_at}
use Rattle.identity_cell.specs.declared.identity_load.IdentityLoad.{IdentityLoad}
use Rattle.outside.specs.Calls.{OutsideCall, OfTimers, Resolve, Word}
use Rattle.outside.specs.declared.answers.IdentityPoll.{IdentityPoll}
use Rattle.outside.specs.declared.answers.IdentityPoll.TheVariants as polled
use Rattle.run_grammar.specs.declared.answer.Answer.{Answer}
use Rattle.run_grammar.specs.declared.answer.Answer.TheVariants as answers
use Rattle.smithy_context.specs.StandingLayers.{StandingLayers}
use Rattle.smithy_types.specs.Chain.{Chained}
use Rattle.smithy_types.specs.declared.identity.Endpoint.{Endpoint}
use Rattle.smithy_types.specs.declared.timers.TimersCall.TheVariants.{Ready}
use Rattle.laws_determined.specs.Steady.Steady.{IsSteady}
use Rattle.laws_determined.proofs.steady.Calls.{Onward, onward, past, same_calls}
use Rattle.laws_determined.specs.Auth.Alike.{IdentitiesAlike, IsTimed, LoadIsTimed}
use Rattle.laws_determined.specs.Auth.Choosing as choosing
use Rattle.laws_determined.specs.Auth.Choosing.{HasSleeps, PollsAlike}
use Rattle.laws_determined.proofs.auth.Looked.{opens_alike}
use Rattle.laws_determined.proofs.auth.Picked.{picked_once, same_some}

module _ {X R : Type 0} (makes : X → OutsideCall → X → Type 0) (steady : IsSteady makes) (polls : R → IdentityPoll → R → Type 0) (alike : PollsAlike polls) where
  nothing : (front other calls later : List OutsideCall) (from made too : X) → front ≡ [] → other ≡ [] → Chained makes from (front ++ calls) made → Chained makes from (other ++ later) too → Onward makes calls later made too
  nothing front other calls later from made too p q did again =
      record { state = from; first = subst (λ l. Chained makes from (l ++ calls) made) p did; second = subst (λ l. Chained makes from (l ++ later) too) q again }

  same_past : (front other same calls later : List OutsideCall) (from made too : X) → front ≡ same → other ≡ same → Chained makes from (front ++ calls) made → Chained makes from (other ++ later) too → Onward makes calls later made too
  same_past front other same calls later from made too p q did again =
      past makes steady same calls later from made too (subst (λ l. Chained makes from (l ++ calls) made) p did) (subst (λ l. Chained makes from (l ++ later) too) q again)

  -- ---- a source

  source_alike : (id : List ℕ) (old new other : IdentitySource R) (a b : IdentityPoll) (asking asked calls later : List OutsideCall) (from made too : X)
      → AsksSource polls id old a new asking → AsksSource polls id old b other asked → Chained makes from (asking ++ calls) made → Chained makes from (asked ++ later) too
      → (a ≡ b) × (new ≡ other) × Onward makes calls later made too
  source_alike id Outside new other a b asking asked calls later from made too s t did again =
      let met = onward makes steady (λ answer. Resolve id (Ok answer)) (steady.resolve id) a b calls later from made too
      (subst (λ l. Chained makes from (l ++ calls) made) s.1 did) (subst (λ l. Chained makes from (l ++ later) too) t.1 again) in
      (met.0, s.0 ∙ sym t.0, met.1)
  source_alike id (Resolver resolver) new other a b asking asked calls later from made too (after, s, ran, none) (left, t, also, nothing_too) did again =
      let met = alike resolver after left a b ran also in
      (met.0, s ∙ (ap Resolver met.1 ∙ sym t), nothing asking asked calls later from made too none nothing_too did again)

  asks_at : (id : List ℕ) (place : ℕ) (old new other : List (RegisteredSource R)) (a b : IdentityPoll) (load also : OpenLoad) (asking asked calls later : List OutsideCall) (from made too : X)
      → AsksAt polls id place old a new load asking → AsksAt polls id place old b other also asked → Chained makes from (asking ++ calls) made → Chained makes from (asked ++ later) too
      → (a ≡ b) × (new ≡ other) × (load ≡ also) × Onward makes calls later made too
  asks_at id place old new other a b load also asking asked calls later from made too s t did again =
      let one : s.registered ≡ t.registered = same_some s.registered t.registered (sym s.there ∙ t.there) in
      let met = source_alike id t.registered.source s.after t.after a b asking asked calls later from made too
      (subst (λ r. AsksSource polls id r.source a s.after asking) one s.asked) t.asked did again in
      let by : load.by_outside ≡ also.by_outside = s.open_load ∙ ((λ i. is_outside (met.1 i) && is_pending (met.0 i)) ∙ sym t.open_load) in
      (met.0, s.others ∙ ((λ i. slice_set old place (record (one i) { source = met.1 i })) ∙ sym t.others), (λ i. record { by_outside = by i }), met.2)

  asks_alike : (id : List ℕ) (place : Option ℕ) (old new other : List (RegisteredSource R)) (load after also : OpenLoad) (a b : Option IdentityPoll) (asking asked calls later : List OutsideCall) (from made too : X)
      → Asks polls id place old load a new after asking → Asks polls id place old load b other also asked → Chained makes from (asking ++ calls) made → Chained makes from (asked ++ later) too
      → (a ≡ b) × (new ≡ other) × (after ≡ also) × Onward makes calls later made too
  asks_alike id None old new other load after also None None asking asked calls later from made too s t did again =
      (refl, s.0 ∙ sym t.0, s.1 ∙ sym t.1, nothing asking asked calls later from made too s.2 t.2 did again)
  asks_alike id None old new other load after also None (Some b) asking asked calls later from made too s t did again = absurd t
  asks_alike id None old new other load after also (Some a) b asking asked calls later from made too s t did again = absurd s
  asks_alike id (Some place) old new other load after also (Some a) (Some b) asking asked calls later from made too s t did again =
      let met = asks_at id place old new other a b after also asking asked calls later from made too s t did again in
      (ap Some met.0, met.1, met.2, met.3)
  asks_alike id (Some place) old new other load after also None b asking asked calls later from made too s t did again = absurd s
  asks_alike id (Some place) old new other load after also (Some a) None asking asked calls later from made too s t did again = absurd t

  -- ---- without a cache

  ends : (calls : List OutsideCall) (from made : X) → Chained makes from calls made → Chained makes from (calls ++ []) made
  ends calls from made did = subst (λ l. Chained makes from l made) (sym (append-nil calls)) did

  goes_on : (endpoint : Option Endpoint) (picked : Picked) (old new other : List (RegisteredSource R)) (load after also : OpenLoad) (a b : Answer) (calls later : List OutsideCall) (from made too : X)
      → GoesOn polls endpoint picked old load a new after calls → GoesOn polls endpoint picked old load b other also later → Chained makes from calls made → Chained makes from later too
      → (a ≡ b) × (new ≡ other) × (after ≡ also) × (made ≡ too)
  goes_on endpoint (Scheme id) old new other load after also a b calls later from made too s t did again =
      let met = asks_alike id (position (λ x. is_id id x.id) old) old new other load after also s.polled t.polled calls later [] [] from made too s.asks t.asks (ends calls from made did) (ends later from too again) in
      (s.answer_is ∙ (ap (answer_with id endpoint) met.0 ∙ sym t.answer_is), met.1, met.2, met.3.first ∙ sym met.3.second)
  goes_on endpoint (Refused text) old new other load after also a b calls later from made too s t did again =
      (s.0 ∙ sym t.0, s.1 ∙ sym t.1, s.2 ∙ sym t.2, same_calls makes steady [] from made too (subst (λ l. Chained makes from l made) s.3 did) (subst (λ l. Chained makes from l too) t.3 again))

  -- ---- a load

  -- what is left of a choice with a cache
  record LeftAlike (a b : Answer) (new other : List (RegisteredSource R)) (cache more : Cache) (open_load also : Option IdentityLoad) (load left : OpenLoad) (made too : X) : Type 0 where
    answer : a ≡ b
    sources : new ≡ other
    cache_is : cache ≡ more
    open_is : open_load ≡ also
    load_is : load ≡ left
    timed : IsTimed open_load
    outside : made ≡ too

  done : (calls later : List OutsideCall) (from made too : X) (same : List OutsideCall) → calls ≡ same → later ≡ same → Chained makes from calls made → Chained makes from later too → made ≡ too
  done calls later from made too same p q did again = same_calls makes steady same from made too (subst (λ l. Chained makes from l made) p did) (subst (λ l. Chained makes from l too) q again)

  asks_sleep : (sleep : Option ℕ) (one two : Bool) (calls later rest more : List OutsideCall) (from made too : X) → is_some sleep ≡ true → calls ≡ asking_sleep sleep one ++ rest → later ≡ asking_sleep sleep two ++ more
      → Chained makes from calls made → Chained makes from later too → one ≡ two
  asks_sleep None one two calls later rest more from made too timed p q did again = absurd (false≢true timed)
  asks_sleep (Some sleep) one two calls later rest more from made too timed p q did again =
      (onward makes steady (λ is_over. OfTimers (Ready sleep is_over)) (steady.ready sleep) one two rest more from made too (subst (λ l. Chained makes from l made) p did) (subst (λ l. Chained makes from l too) q again)).0

  -- while its sleep runs a load is waited for, and once that is over it has failed: never both
  not_both : (cache : Cache) (open_load : Option IdentityLoad) (load : OpenLoad) (a b : Answer) (new more : Cache) (open_after also : Option IdentityLoad) (after left : OpenLoad) (calls later : List OutsideCall) (from made too : X)
      → IsTimed open_load → StaysPending cache open_load load a new open_after after calls → TimesOut cache open_load load b more also left later → Chained makes from calls made → Chained makes from later too → ⊥
  not_both cache None load a b new more open_after also after left calls later from made too timed s t did again = let clash = t.is_open in cc clash
  not_both cache (Some waiting) load a b new more open_after also after left calls later from made too timed s t did again =
      let one : waiting ≡ t.waiting = same_some waiting t.waiting t.is_open in
      false≢true (asks_sleep waiting.sleep false true calls later [] (giving_up waiting.sleep ++ ending_load load) from made too timed
      (s.4 ∙ sym (append-nil (asking_sleep waiting.sleep false)))
      (t.calls_are ∙ ap (λ w. asking_sleep w.sleep true ++ (giving_up w.sleep ++ ending_load load)) (sym one)) did again)

  times_out : (cache : Cache) (open_load : Option IdentityLoad) (load : OpenLoad) (a b : Answer) (sources : List (RegisteredSource R)) (new more : Cache) (open_after also : Option IdentityLoad) (after left : OpenLoad) (calls later : List OutsideCall) (from made too : X)
      → TimesOut cache open_load load a new open_after after calls → TimesOut cache open_load load b more also left later → Chained makes from calls made → Chained makes from later too
      → LeftAlike a b sources sources new more open_after also after left made too
  times_out cache open_load load a b sources new more open_after also after left calls later from made too s t did again =
      let one : s.waiting ≡ t.waiting = same_some s.waiting t.waiting (sym s.is_open ∙ t.is_open) in
      record {
        answer = s.answer_is ∙ (ap (λ w. answers.Failed (timed_out w.timeout)) one ∙ sym t.answer_is);
        sources = refl;
        cache_is = s.cell ∙ (ap (λ w. failed_at cache w.id w.ticket) one ∙ sym t.cell);
        open_is = s.none_open ∙ sym t.none_open;
        load_is = s.dropped ∙ sym t.dropped;
        timed = subst IsTimed (sym s.none_open) tt;
        outside = done calls later from made too (asking_sleep t.waiting.sleep true ++ (giving_up t.waiting.sleep ++ ending_load load))
            (s.calls_are ∙ ap (λ w. asking_sleep w.sleep true ++ (giving_up w.sleep ++ ending_load load)) one) t.calls_are did again;
      }

  continues : (id : List ℕ) (endpoint : Option Endpoint) (answer : Option IdentityPoll) (cache : Cache) (open_load : Option IdentityLoad) (load : OpenLoad) (a b : Answer) (sources : List (RegisteredSource R)) (new more : Cache) (open_after also : Option IdentityLoad) (after left : OpenLoad) (calls later : List OutsideCall) (from made too : X)
      → IsTimed open_load → Continues id endpoint answer cache open_load load a new open_after after calls → Continues id endpoint answer cache open_load load b more also left later
      → Chained makes from calls made → Chained makes from later too → LeftAlike a b sources sources new more open_after also after left made too
  continues id endpoint None cache open_load load a b sources new more open_after also after left calls later from made too timed s t did again = record {
    answer = s.0 ∙ sym t.0;
    sources = refl;
    cache_is = s.1 ∙ sym t.1;
    open_is = s.2 ∙ sym t.2;
    load_is = s.3 ∙ sym t.3;
    timed = subst IsTimed (sym s.2) timed;
    outside = done calls later from made too [] s.4 t.4 did again;
  }
  continues id endpoint (Some polled.Pending) cache open_load load a b sources new more open_after also after left calls later from made too timed (inl s) (inl t) did again = record {
    answer = s.0 ∙ sym t.0;
    sources = refl;
    cache_is = s.1 ∙ sym t.1;
    open_is = s.2 ∙ sym t.2;
    load_is = s.3 ∙ sym t.3;
    timed = subst IsTimed (sym s.2) timed;
    outside = done calls later from made too (asking_open open_load) s.4 t.4 did again;
  }
  continues id endpoint (Some polled.Pending) cache open_load load a b sources new more open_after also after left calls later from made too timed (inl s) (inr t) did again =
      absurd (not_both cache open_load load a b new more open_after also after left calls later from made too timed s t did again)
  continues id endpoint (Some polled.Pending) cache open_load load a b sources new more open_after also after left calls later from made too timed (inr s) (inl t) did again =
      absurd (not_both cache open_load load b a more new also open_after left after later calls from too made timed t s again did)
  continues id endpoint (Some polled.Pending) cache open_load load a b sources new more open_after also after left calls later from made too timed (inr s) (inr t) did again =
      times_out cache open_load load a b sources new more open_after also after left calls later from made too s t did again
  continues id endpoint (Some (polled.Failed text)) cache open_load load a b sources new more open_after also after left calls later from made too timed s t did again = record {
    answer = s.0 ∙ sym t.0;
    sources = refl;
    cache_is = s.1 ∙ sym t.1;
    open_is = s.2 ∙ sym t.2;
    load_is = s.3 ∙ sym t.3;
    timed = subst IsTimed (sym s.2) tt;
    outside = done calls later from made too (giving_up_open open_load) s.4 t.4 did again;
  }
  continues id endpoint (Some (polled.Ready identity)) cache open_load load a b sources new more open_after also after left calls later from made too timed s t did again =
      let drawn = onward makes steady Word steady.word s.0 t.0 (giving_up_open open_load) (giving_up_open open_load) from made too
      (subst (λ l. Chained makes from l made) s.5 did) (subst (λ l. Chained makes from l too) t.5 again) in
      record {
        answer = s.1 ∙ sym t.1;
        sources = refl;
        cache_is = s.2 ∙ (ap (kept_open cache open_load identity) drawn.0 ∙ sym t.2);
        open_is = s.3 ∙ sym t.3;
        load_is = s.4 ∙ sym t.4;
        timed = subst IsTimed (sym s.3) tt;
        outside = same_calls makes steady (giving_up_open open_load) drawn.1.state made too drawn.1.first drawn.1.second;
      }

  loading : (id : List ℕ) (endpoint : Option Endpoint) (old new other : List (RegisteredSource R)) (cache after more : Cache) (open_load open_after also : Option IdentityLoad) (load load_after left : OpenLoad) (a b : Answer) (calls later : List OutsideCall) (from made too : X)
      → IsTimed open_load → GoesOnLoading polls id endpoint old cache open_load load a new after open_after load_after calls → GoesOnLoading polls id endpoint old cache open_load load b other more also left later
      → Chained makes from calls made → Chained makes from later too → LeftAlike a b new other after more open_after also load_after left made too
  loading id endpoint old new other cache after more open_load open_after also load load_after left a b calls later from made too timed s t did again =
      let asked = asks_alike id (position (λ x. is_id id x.id) old) old new other load s.load_asked t.load_asked s.answer t.answer s.asking t.asking s.going_on t.going_on from made too s.asks t.asks
      (subst (λ l. Chained makes from l made) s.calls_are did) (subst (λ l. Chained makes from l too) t.calls_are again) in
      let later_on = subst (λ x. Continues id endpoint x cache open_load s.load_asked b more also left t.going_on) (sym asked.0)
      (subst (λ x. Continues id endpoint t.answer cache open_load x b more also left t.going_on) (sym asked.2) t.continues) in
      let met = continues id endpoint s.answer cache open_load s.load_asked a b new after more open_after also load_after left s.going_on t.going_on asked.3.state made too timed s.continues later_on asked.3.first asked.3.second in
      record { answer = met.answer; sources = asked.1; cache_is = met.cache_is; open_is = met.open_is; load_is = met.load_is; timed = met.timed; outside = met.outside }

  kept : (old new other : List (RegisteredSource R)) (cache after more : Cache) (open_load open_after also : Option IdentityLoad) (load load_after left : OpenLoad) (a b : Answer) (calls later : List OutsideCall) (from made too : X)
      → IsTimed open_load → a ≡ b → (new ≡ old) × (after ≡ cache) × (open_after ≡ open_load) × (load_after ≡ load) × (calls ≡ []) → (other ≡ old) × (more ≡ cache) × (also ≡ open_load) × (left ≡ load) × (later ≡ [])
      → Chained makes from calls made → Chained makes from later too → LeftAlike a b new other after more open_after also load_after left made too
  kept old new other cache after more open_load open_after also load load_after left a b calls later from made too timed same s t did again = record {
    answer = same;
    sources = s.0 ∙ sym t.0;
    cache_is = s.1 ∙ sym t.1;
    open_is = s.2 ∙ sym t.2;
    load_is = s.3 ∙ sym t.3;
    timed = subst IsTimed (sym s.2) timed;
    outside = done calls later from made too [] s.4 t.4 did again;
  }

  answered : (id : List ℕ) (endpoint : Option Endpoint) (found : Opened) (old new other : List (RegisteredSource R)) (cache after more : Cache) (open_load open_after also : Option IdentityLoad) (load load_after left : OpenLoad) (a b : Answer) (calls later : List OutsideCall) (from made too : X)
      → IsTimed open_load → Answered polls id endpoint found old cache open_load load a new after open_after load_after calls → Answered polls id endpoint found old cache open_load load b other more also left later
      → Chained makes from calls made → Chained makes from later too → LeftAlike a b new other after more open_after also load_after left made too
  answered id endpoint (opened.Hit identity) old new other cache after more open_load open_after also load load_after left a b calls later from made too timed s t did again =
      kept old new other cache after more open_load open_after also load load_after left a b calls later from made too timed (s.0 ∙ sym t.0) (s.1, s.2, s.3, s.4, s.5) (t.1, t.2, t.3, t.4, t.5) did again
  answered id endpoint opened.NotYet old new other cache after more open_load open_after also load load_after left a b calls later from made too timed s t did again =
      kept old new other cache after more open_load open_after also load load_after left a b calls later from made too timed (s.0 ∙ sym t.0) (s.1, s.2, s.3, s.4, s.5) (t.1, t.2, t.3, t.4, t.5) did again
  answered id endpoint opened.Load old new other cache after more open_load open_after also load load_after left a b calls later from made too timed s t did again =
      loading id endpoint old new other cache after more open_load open_after also load load_after left a b calls later from made too timed s t did again

  module _ (sleeps : HasSleeps makes) where
    resolves : (time_source : Bool) (settings : StandingLayers) (id : List ℕ) (endpoint : Option Endpoint) (old new other : List (RegisteredSource R)) (cache after more : Cache) (open_load open_after also : Option IdentityLoad) (load load_after left : OpenLoad) (a b : Answer) (calls later : List OutsideCall) (from made too : X)
        → IsTimed open_load → ResolvesCached polls time_source settings id endpoint old cache open_load load a new after open_after load_after calls → ResolvesCached polls time_source settings id endpoint old cache open_load load b other more also left later
        → Chained makes from calls made → Chained makes from later too → LeftAlike a b new other after more open_after also load_after left made too
    resolves time_source settings id endpoint old new other cache after more open_load open_after also load load_after left a b calls later from made too timed s t did again =
        let seen = opens_alike makes steady sleeps time_source settings id cache open_load s.found t.found s.cache_looked t.cache_looked s.open_looked t.open_looked s.looking t.looking s.answering t.answering from made too timed s.opens t.opens
        (subst (λ l. Chained makes from l made) s.calls_are did) (subst (λ l. Chained makes from l too) t.calls_are again) in
        let one = subst (λ f. Answered polls id endpoint f old s.cache_looked s.open_looked load b other more also left t.answering) (sym seen.found_is)
        (subst (λ c. Answered polls id endpoint t.found old c s.open_looked load b other more also left t.answering) (sym seen.cache_is)
        (subst (λ o. Answered polls id endpoint t.found old t.cache_looked o load b other more also left t.answering) (sym seen.load_is) t.answered)) in
        answered id endpoint s.found old new other s.cache_looked after more s.open_looked open_after also load load_after left a b s.answering t.answering seen.on.state made too seen.timed s.answered one seen.on.first seen.on.second

    goes_on_cached : (time_source : Bool) (settings : StandingLayers) (endpoint : Option Endpoint) (picked : Picked) (old new other : List (RegisteredSource R)) (cache after more : Cache) (open_load open_after also : Option IdentityLoad) (load load_after left : OpenLoad) (a b : Answer) (calls later : List OutsideCall) (from made too : X)
        → IsTimed open_load → GoesOnCached polls time_source settings endpoint picked old cache open_load load a new after open_after load_after calls → GoesOnCached polls time_source settings endpoint picked old cache open_load load b other more also left later
        → Chained makes from calls made → Chained makes from later too → LeftAlike a b new other after more open_after also load_after left made too
    goes_on_cached time_source settings endpoint (Scheme id) old new other cache after more open_load open_after also load load_after left a b calls later from made too timed s t did again =
        resolves time_source settings id endpoint old new other cache after more open_load open_after also load load_after left a b calls later from made too timed s t did again
    goes_on_cached time_source settings endpoint (Refused text) old new other cache after more open_load open_after also load load_after left a b calls later from made too timed s t did again =
        kept old new other cache after more open_load open_after also load load_after left a b calls later from made too timed (s.0 ∙ sym t.0) (s.1, s.2, s.3, s.4, s.5) (t.1, t.2, t.3, t.4, t.5) did again

    -- ---- by whether there is a cache

    module _ {A : Type 0} (names : A → List ℕ) where
      abbrev lacks : List A → List (RegisteredSource R) → Endpoint → StandingLayers → List ℕ → Option ExploreResult
      lacks schemes old endpoint settings = lack_of (map names schemes) (map (λ (x : RegisteredSource R). x.id) old) (schemes_of (endpoint_before endpoint settings))

      chooses_by : (options : List (List ℕ)) (schemes : List A) (endpoint : Endpoint) (time_source : Bool) (settings : StandingLayers) (cached : Option CachedIdentities) (old other new more : Identities R) (a b : Answer) (calls later : List OutsideCall) (from made too : X)
          → old.cached ≡ cached → other.cached ≡ cached → IdentitiesAlike old other → LoadIsTimed cached
          → ChoosesBy names polls options schemes endpoint time_source settings cached old a new calls → ChoosesBy names polls options schemes endpoint time_source settings cached other b more later
          → Chained makes from calls made → Chained makes from later too → (a ≡ b) × IdentitiesAlike new more × (made ≡ too)
      chooses_by options schemes endpoint time_source settings None old other new more a b calls later from made too old_is other_is same timed (s, new_is) (t, more_is) did again =
          let end = endpoint_before endpoint settings in
          let ordered = reprioritized (standing_preference settings) options in
          let u = subst (λ l. Chooses names polls options schemes endpoint settings old.sources.items l b more.sources.items more.load later) (sym same.load)
          (subst (λ xs. Chooses names polls options schemes endpoint settings xs other.load b more.sources.items more.load later) (sym same.sources) t) in
          let picked = picked_once (lacks schemes old.sources.items endpoint settings) ordered s.picked u.picked s.picks u.picks in
          let met = goes_on end s.picked old.sources.items new.sources.items more.sources.items old.load new.load more.load a b calls later from made too s.goes_on
          (subst (λ p. GoesOn polls end p old.sources.items old.load b more.sources.items more.load later) (sym picked) u.goes_on) did again in
          let new_none : new.cached ≡ None = ap (λ (x : Identities R). x.cached) new_is ∙ old_is in
          let more_none : more.cached ≡ None = ap (λ (x : Identities R). x.cached) more_is ∙ other_is in
          (met.0, record { sources = met.1; cached = new_none ∙ sym more_none; load = met.2; timed = subst LoadIsTimed (sym new_none) tt }, met.3)
      chooses_by options schemes endpoint time_source settings (Some cached) old other new more a b calls later from made too old_is other_is same timed (after, s, new_is) (left, t, more_is) did again =
          let end = endpoint_before endpoint settings in
          let ordered = reprioritized (standing_preference settings) options in
          let u = subst (λ l. ChoosesCached polls names options schemes endpoint time_source settings old.sources.items cached.cache cached.current l b more.sources.items left.cache left.current more.load later) (sym same.load)
          (subst (λ xs. ChoosesCached polls names options schemes endpoint time_source settings xs cached.cache cached.current other.load b more.sources.items left.cache left.current more.load later) (sym same.sources) t) in
          let picked = picked_once (lacks schemes old.sources.items endpoint settings) ordered s.picked u.picked s.picks u.picks in
          let met = goes_on_cached time_source settings end s.picked old.sources.items new.sources.items more.sources.items cached.cache after.cache left.cache cached.current after.current left.current old.load new.load more.load a b calls later from made too
          timed s.goes_on (subst (λ p. GoesOnCached polls time_source settings end p old.sources.items cached.cache cached.current old.load b more.sources.items left.cache left.current more.load later) (sym picked) u.goes_on) did again in
          let new_some : new.cached ≡ Some after = ap (λ (x : Identities R). x.cached) new_is in
          let more_some : more.cached ≡ Some left = ap (λ (x : Identities R). x.cached) more_is in (
            met.answer,
            record {
              sources = met.sources;
              cached = new_some ∙ ((λ i. Some (record { cache = met.cache_is i; current = met.open_is i })) ∙ sym more_some);
              load = met.load_is;
              timed = subst LoadIsTimed (sym new_some) met.timed;
            },
            met.outside,
          )

pub choices : {X A R : Type 0} (makes : X → OutsideCall → X → Type 0) (names : A → List ℕ) (polls : R → IdentityPoll → R → Type 0) → IsSteady makes → choosing.ChoicesAreDetermined makes names polls
choices makes names polls steady alike sleeps options schemes endpoint time_source settings one two after left a b same (calls, did, s) (later, again, t) =
    let met = chooses_by makes steady polls alike sleeps names options schemes endpoint time_source settings one.identities.cached one.identities two.identities after.identities left.identities a b calls later
    two.outside after.outside left.outside refl (sym same.identities.cached) same.identities same.identities.timed s
    (subst (λ c. ChoosesBy names polls options schemes endpoint time_source settings c two.identities b left.identities later) (sym same.identities.cached) t)
    (subst (λ x. Chained makes x calls after.outside) same.outside did) again in
    (met.0, record { outside = met.2; identities = met.1 })
