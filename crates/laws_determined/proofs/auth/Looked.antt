-- What a look into a cell finds is determined.
use Rattle.std.proofs.Common.{◌≡◌, ◌∙◌, refl, sym, ap, subst, ℕ, ◌+◌, ◌<◌, Bool, true, false, List, [], ◌∷◌, ◌++◌, Option, None, Some, Ok, if◌then◌else◌, lt-ltb, nat_lt, append_assoc}
use Rattle.std.specs.Prelude.{is_some, unwrap_or}
use Rattle.std.proofs.lemmas.Bool.{false≢true}
use Rattle.client_auth.specs.Caching.{LooksAt, OpensLoad}
use Rattle.client_auth.specs.declared.cached.Opened.{Opened}
use Rattle.client_auth.specs.declared.cached.Opened.TheVariants as opened
use Rattle.identity_cell.specs.Cell.{Cell, state_after_clear}
use Rattle.identity_cell.specs.LazyCache.{AnswersLook, Cache, cell_at, looked_at, put, timeout_by}
use Rattle.identity_cell.specs.declared.cell.CellState.TheVariants as state
use Rattle.identity_cell.specs.declared.identity_load.IdentityLoad.{IdentityLoad}
use Rattle.identity_cell.specs.declared.looked.Looked.{Looked}
use Rattle.identity_cell.specs.declared.looked.Looked.TheVariants as looked
use Rattle.outside.specs.Calls.{OutsideCall, OfTimers}
use Rattle.outside.specs.Clock.{clock_calls}
use Rattle.smithy_context.specs.StandingLayers.{StandingLayers}
use Rattle.smithy_types.specs.Chain.{Chained}
use Rattle.smithy_types.specs.declared.identity.Identity.{Identity}
use Rattle.smithy_types.specs.declared.timers.TimersCall.TheVariants.{Start}
use Rattle.laws_determined.specs.Steady.Steady.{IsSteady}
use Rattle.laws_determined.proofs.steady.Calls.{Onward, clock_tells, onward, same_known}
use Rattle.laws_determined.specs.Auth.Alike.{IsTimed}
use Rattle.laws_determined.specs.Auth.Choosing.{HasSleeps}

unexpired_stays : (buffer ticket expiry now : ℕ) (identity : Identity) → now + buffer < expiry → state_after_clear buffer (state.Full ticket identity expiry) now ≡ state.Empty → ⊥
unexpired_stays buffer ticket expiry now identity early is =
    let stays : nat_lt (now + buffer) expiry ≡ true = lt-ltb (now + buffer) expiry early in
    let kept : state.Full ticket identity expiry ≡ state.Empty = sym (ap (λ t. if t then state.Full ticket identity expiry else state.Empty) stays) ∙ is in
    cc kept

looks_same : (cell : Cell Identity) (now : ℕ) (one two : Looked) → AnswersLook cell now one → AnswersLook cell now two → one ≡ two
looks_same cell now (looked.Hit one) (looked.Hit two) (ticket, expiry, s, early) (other, end, t, late) =
    let same : state.Full ticket one expiry ≡ state.Full other two end = sym s ∙ t in
    let identity : one ≡ two = cc in
    ap looked.Hit identity
looks_same cell now (looked.Hit one) (looked.Load two) (ticket, expiry, s, early) (t, empty) =
    absurd (unexpired_stays cell.buffer ticket expiry now one early (subst (λ x. state_after_clear cell.buffer x now ≡ state.Empty) s empty))
looks_same cell now (looked.Hit one) looked.NotYet (ticket, expiry, s, early) (other, t) = let clash = sym s ∙ t in absurd (cc clash)
looks_same cell now (looked.Load one) (looked.Hit two) (s, empty) (ticket, expiry, t, early) =
    absurd (unexpired_stays cell.buffer ticket expiry now two early (subst (λ x. state_after_clear cell.buffer x now ≡ state.Empty) t empty))
looks_same cell now (looked.Load one) (looked.Load two) (s, empty) (t, also) = ap looked.Load (s ∙ sym t)
looks_same cell now (looked.Load one) looked.NotYet (s, empty) (ticket, t) =
    let clash : state.Loading ticket ≡ state.Empty = subst (λ x. state_after_clear cell.buffer x now ≡ state.Empty) t empty in absurd (cc clash)
looks_same cell now looked.NotYet (looked.Hit two) (other, s) (ticket, expiry, t, early) = let clash = sym s ∙ t in absurd (cc clash)
looks_same cell now looked.NotYet (looked.Load two) (ticket, s) (t, empty) =
    let clash : state.Loading ticket ≡ state.Empty = subst (λ x. state_after_clear cell.buffer x now ≡ state.Empty) s empty in absurd (cc clash)
looks_same cell now looked.NotYet looked.NotYet s t = refl

abbrev is_hit : Looked → Bool
is_hit (looked.Hit identity) = true
is_hit (looked.Load ticket) = false
is_hit looked.NotYet = false

abbrev is_load : Looked → Bool
is_load (looked.Hit identity) = false
is_load (looked.Load ticket) = true
is_load looked.NotYet = false

identity_in : Identity → Looked → Identity
identity_in d (looked.Hit identity) = identity
identity_in d (looked.Load ticket) = d
identity_in d looked.NotYet = d

ticket_in : Looked → ℕ
ticket_in (looked.Hit identity) = 0
ticket_in (looked.Load ticket) = ticket
ticket_in looked.NotYet = 0

-- what is found, and what is left: the load that is open has a sleep
pub record LookedAlike {X : Type 0} (makes : X → OutsideCall → X → Type 0) (found other : Opened) (new more : Cache) (open_load also : Option IdentityLoad) (calls later : List OutsideCall) (made too : X) : Type 0 where
  pub found_is : found ≡ other
  pub cache_is : new ≡ more
  pub load_is : open_load ≡ also
  pub timed : IsTimed open_load
  pub on : Onward makes calls later made too

module _ {X : Type 0} (makes : X → OutsideCall → X → Type 0) (steady : IsSteady makes) (sleeps : HasSleeps makes) where
  quiet : (found other : Opened) (new more put_cache : Cache) (open_load also : Option IdentityLoad) (looking looked_calls calls later : List OutsideCall) (from made too : X) → found ≡ other
      → new ≡ put_cache → more ≡ put_cache → open_load ≡ None → also ≡ None → looking ≡ [] → looked_calls ≡ []
      → Chained makes from (looking ++ calls) made → Chained makes from (looked_calls ++ later) too → LookedAlike makes found other new more open_load also calls later made too
  quiet found other new more put_cache open_load also looking looked_calls calls later from made too same a b c d e f did again = record {
    found_is = same;
    cache_is = a ∙ sym b;
    load_is = c ∙ sym d;
    timed = subst IsTimed (sym c) tt;
    on = record { state = from; first = subst (λ l. Chained makes from (l ++ calls) made) e did; second = subst (λ l. Chained makes from (l ++ later) too) f again };
  }

  looks_alike : (settings : StandingLayers) (id : List ℕ) (old : Cache) (now : ℕ) (found other : Opened) (new more : Cache) (open_load also : Option IdentityLoad) (looking seen calls later : List OutsideCall) (from made too : X)
      → LooksAt settings id old now found new open_load looking → LooksAt settings id old now other more also seen
      → Chained makes from (looking ++ calls) made → Chained makes from (seen ++ later) too → LookedAlike makes found other new more open_load also calls later made too
  unfolding identity_in ticket_in
  looks_alike settings id old now (opened.Hit one) (opened.Hit two) new more open_load also looking seen calls later from made too s t did again =
      quiet (opened.Hit one) (opened.Hit two) new more (put old id (looked_at (cell_at old id) now)) open_load also looking seen calls later from made too
      (ap opened.Hit (ap (identity_in one) (looks_same (cell_at old id) now (looked.Hit one) (looked.Hit two) s.0 t.0))) s.1 t.1 s.2 t.2 s.3 t.3 did again
  looks_alike settings id old now (opened.Hit one) opened.NotYet new more open_load also looking seen calls later from made too s t did again =
      absurd (false≢true (sym (ap is_hit (looks_same (cell_at old id) now (looked.Hit one) looked.NotYet s.0 t.0))))
  looks_alike settings id old now (opened.Hit one) opened.Load new more open_load also looking seen calls later from made too s t did again =
      absurd (false≢true (sym (ap is_hit (looks_same (cell_at old id) now (looked.Hit one) (looked.Load t.0) s.0 t.2))))
  looks_alike settings id old now opened.NotYet (opened.Hit two) new more open_load also looking seen calls later from made too s t did again =
      absurd (false≢true (ap is_hit (looks_same (cell_at old id) now looked.NotYet (looked.Hit two) s.0 t.0)))
  looks_alike settings id old now opened.NotYet opened.NotYet new more open_load also looking seen calls later from made too s t did again =
      quiet opened.NotYet opened.NotYet new more (put old id (looked_at (cell_at old id) now)) open_load also looking seen calls later from made too refl s.1 t.1 s.2 t.2 s.3 t.3 did again
  looks_alike settings id old now opened.NotYet opened.Load new more open_load also looking seen calls later from made too s t did again =
      absurd (false≢true (ap is_load (looks_same (cell_at old id) now looked.NotYet (looked.Load t.0) s.0 t.2)))
  looks_alike settings id old now opened.Load (opened.Hit two) new more open_load also looking seen calls later from made too s t did again =
      absurd (false≢true (ap is_hit (looks_same (cell_at old id) now (looked.Load s.0) (looked.Hit two) s.2 t.0)))
  looks_alike settings id old now opened.Load opened.NotYet new more open_load also looking seen calls later from made too s t did again =
      absurd (false≢true (sym (ap is_load (looks_same (cell_at old id) now (looked.Load s.0) looked.NotYet s.2 t.0))))
  looks_alike settings id old now opened.Load opened.Load new more open_load also looking seen calls later from made too (ticket, sleep, asks, new_is, open_is, calls_are) (other, slept, asked, more_is, also_is, seen_are) did again =
      let caches : new ≡ more = new_is ∙ sym more_is in
      let timeout : timeout_by new.terms settings ≡ timeout_by more.terms settings = ap (λ (c : Cache). timeout_by c.terms settings) caches in
      let first = subst (λ l. Chained makes from (l ++ calls) made) calls_are did in
      let started = onward makes steady (λ s. OfTimers (Start (timeout_by more.terms settings) (Ok s))) (steady.start (timeout_by more.terms settings)) sleep slept calls later from made too
      (subst (λ n. Chained makes from (OfTimers (Start n (Ok sleep)) ∷ calls) made) timeout first) (subst (λ l. Chained makes from (l ++ later) too) seen_are again) in
      let tickets : ticket ≡ other = ap ticket_in (looks_same (cell_at old id) now (looked.Load ticket) (looked.Load other) asks asked) in
      record {
        found_is = refl;
        cache_is = caches;
        load_is = open_is ∙ ((λ i. Some (record { id = id; ticket = tickets i; asked_at = now; timeout = timeout i; sleep = started.0 i })) ∙ sym also_is);
        timed = subst IsTimed (sym open_is) (sleeps from first.0 (timeout_by new.terms settings) sleep first.1);
        on = started.1;
      }

  pub opens_alike : (time_source : Bool) (settings : StandingLayers) (id : List ℕ) (old : Cache) (open_before : Option IdentityLoad) (found other : Opened) (new more : Cache) (open_load also : Option IdentityLoad) (looking seen calls later : List OutsideCall) (from made too : X)
      → IsTimed open_before → OpensLoad time_source settings id old open_before found new open_load looking → OpensLoad time_source settings id old open_before other more also seen
      → Chained makes from (looking ++ calls) made → Chained makes from (seen ++ later) too → LookedAlike makes found other new more open_load also calls later made too
  opens_alike time_source settings id old (Some load) found other new more open_load also looking seen calls later from made too timed s t did again = record {
    found_is = s.0 ∙ sym t.0;
    cache_is = s.1 ∙ sym t.1;
    load_is = s.2 ∙ sym t.2;
    timed = subst IsTimed (sym s.2) timed;
    on = record { state = from; first = subst (λ l. Chained makes from (l ++ calls) made) s.3 did; second = subst (λ l. Chained makes from (l ++ later) too) t.3 again };
  }
  opens_alike time_source settings id old None found other new more open_load also looking seen calls later from made too timed s t did again =
      let clock = clock_tells makes steady s.moment t.moment (s.sleeping ++ calls) (t.sleeping ++ later) from made too (same_known (is_some s.moment) (is_some t.moment) time_source s.known t.known)
      (regroup looking s.moment s.sleeping calls made s.calls_are did) (regroup seen t.moment t.sleeping later too t.calls_are again) in
      looks_alike settings id old (unwrap_or s.moment 0) found other new more open_load also s.sleeping t.sleeping calls later clock.1.state made too s.looks
      (subst (λ m. LooksAt settings id old (unwrap_or m 0) other more also t.sleeping) (sym clock.0) t.looks) clock.1.first clock.1.second
    where
      regroup : (all : List OutsideCall) (moment : Option ℕ) (sleeping rest : List OutsideCall) (end : X) → all ≡ clock_calls moment ++ sleeping → Chained makes from (all ++ rest) end → Chained makes from (clock_calls moment ++ (sleeping ++ rest)) end
      regroup all moment sleeping rest end is made = subst (λ l. Chained makes from l end) (ap (λ l. l ++ rest) is ∙ append_assoc (clock_calls moment) sleeping rest) made
