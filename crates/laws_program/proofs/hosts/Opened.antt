-- The sessions of one description are alike when they are opened.
use Rattle.std.proofs.Common.{◌≡◌, ◌∙◌, sym, ap, subst, ℕ, ◌+◌, ℤ, List, [], ◌∷◌, Option, None}
use Rattle.cli_client.specs.Opening.{quota_of}
use Rattle.cli_serve.specs.Opening.{IsFresh, IsServedFrom, Opens, OpensSeat, OpensSeats, ServedBuilder, ServedClient, served_builder}
use Rattle.cli_serve.specs.declared.description.HostDescription.{HostDescription}
use Rattle.cli_serve.specs.declared.description.SeatDescription.{SeatDescription}
use Rattle.client_builder.specs.declared.own_interceptor.OwnInterceptor.{OwnInterceptor}
use Rattle.client_call.specs.declared.call.Call.{Call}
use Rattle.client_call.specs.declared.call.Call.TheVariants.{Idle}
use Rattle.client_scripted.specs.Clients.{builder_of}
use Rattle.client_scripted.specs.declared.service.error.ServiceError.{ServiceError}
use Rattle.host_session.specs.Classifiers.{classifiers_with, with_classifiers}
use Rattle.host_session.specs.declared.seat.Seat.{Seat}
use Rattle.host_session.specs.declared.seat.SeatRun.{SeatRun}
use Rattle.host_session.specs.declared.service.retry_after.RetryAfterClassifier.{RetryAfterClassifier}
use Rattle.host_session.specs.declared.session.Session.{Session}
use Rattle.json_print.proofs.determined.Endings.{same_some}
use Rattle.outside_hosted.specs.declared.hosted_outside.HostedOutside.{HostedOutside}
use Rattle.rate_limit.specs.Pace.{Pace}
use Rattle.retry_policy.specs.declared.classify.Classifier.{Classifier}
use Rattle.retry_quota.specs.Registers.{Registers}
use Rattle.run_grammar.specs.declared.answer.Entry.{Entry}
use Rattle.smithy_base.specs.declared.intercept.Slot.{Slot}
use Rattle.laws_determined.specs.Auth.Alike.{LoadIsTimed}
use Rattle.laws_determined.specs.Calls.Alike.{OpenAlike}
use Rattle.laws_determined.specs.Retries.Alike.{HoldAlike}
use Rattle.laws_program.proofs.clients.Invoked.{pays, pays_from}
use Rattle.laws_program.proofs.clients.Opened.{holds_itself, one_partition, opens_timed, registers_alike}
use Rattle.laws_program.proofs.clients.Prioritized.{one_priority}
use Rattle.laws_program.proofs.clients.Each.{EachAlike}
use Rattle.laws_program.proofs.hosts.Running.{UnderWayAlike}
use Rattle.laws_program.proofs.hosts.Seats.{SeatsAlike}
use Rattle.laws_program.proofs.hosts.Sessions.{SessionsAlike}
use Rattle.laws_program.proofs.hosts.Worlds.{BareAlike, BarePartsAlike}

one_outside : (start seed : ℕ) (one two : HostedOutside) → IsFresh start seed one → IsFresh start seed two → one ≡ two
one_outside start seed one two s t = λ i. record {
  moment = (s.moment ∙ sym t.moment) i;
  generator = (s.generator ∙ sym t.generator) i;
  sleeps = (s.sleeps ∙ sym t.sleeps) i;
  call = (s.call ∙ sym t.call) i;
  calls = (s.calls ∙ sym t.calls) i;
  load = (s.load ∙ sym t.load) i;
  poisoned = (s.poisoned ∙ sym t.poisoned) i;
  is_parked = (s.is_parked ∙ sym t.is_parked) i;
  has_given = (s.has_given ∙ sym t.has_given) i;
  faults = (s.faults ∙ sym t.faults) i;
}

both_idle : (one two : Call) → one ≡ Idle → two ≡ Idle → OpenAlike one two
both_idle one two p q = subst (λ x. OpenAlike x two) (sym p) (subst (λ x. OpenAlike Idle x) (sym q) tt)

no_run : (one two : Option SeatRun) (log other : List Entry) → one ≡ None → two ≡ None → UnderWayAlike one two log other
no_run one two log other p q = subst (λ x. UnderWayAlike x two log other) (sym p) (subst (λ x. UnderWayAlike None x log other) (sym q) tt)

-- a client, by what boxes would be
abbrev One : (V W : Type 0) → (V → Type 0) → (W → Type 0) → Type 0
One V W v w = ServedClient (Classifier ServiceError V v) (Slot OwnInterceptor W w)

module _ {V W : Type 0} {v : V → Type 0} {w : W → Type 0} (ranked : Classifier ServiceError V v → ℤ) where
  built_alike : (start seed : ℕ) (builder : ServedBuilder V W v w) (a b : HostedOutside) (quota given : Registers Pace) (retry_after : Option RetryAfterClassifier) (one two : One V W v w) → IsFresh start seed a → IsFresh start seed b
      → IsServedFrom ranked builder a quota retry_after one → IsServedFrom ranked builder b given retry_after two → BareAlike one two
  built_alike start seed builder a b quota given retry_after one two fresh also s t =
      let p = s.built.parts in
      let q = t.built.parts in
      let own = one_priority ranked builder.classifiers s.components.parts.given.classifiers.items t.components.parts.given.classifiers.items s.built.classifiers t.built.classifiers in
      let deserializers = same_some _ _ (p.deserializer ∙ sym q.deserializer) in
      let first = with_classifiers one.components.parts.given.classifiers s.components.parts in
      let second = with_classifiers two.components.parts.given.classifiers t.components.parts in
      let alike : BarePartsAlike first second = record {
        given = record {
          client = p.settings ∙ sym q.settings;
          sleep_impl = p.sleep_impl ∙ sym q.sleep_impl;
          time_source = p.time_source ∙ sym q.time_source;
          classifiers = s.adds.classifiers ∙ ap (λ l. classifiers_with l retry_after) own ∙ sym t.adds.classifiers;
          options = p.options ∙ sym q.options;
          schemes = p.schemes ∙ sym q.schemes;
          endpoint = same_some _ _ (p.endpoint ∙ sym q.endpoint);
          serializer = same_some _ _ (p.serializer ∙ sym q.serializer);
          deserializer = ap (λ d. d.deserializer) deserializers;
          may_stream = ap (λ d. d.may_stream) deserializers;
        };
        sleeps = p.sleeps ∙ sym q.sleeps;
        call = both_idle s.components.parts.call t.components.parts.call p.call q.call;
        strategy = subst (λ x. HoldAlike pays_from pays s.components.parts.strategy x) (same_some _ _ (p.strategy ∙ sym q.strategy)) (holds_itself s.components.parts.strategy);
        interceptors = p.interceptors ∙ sym q.interceptors;
        identities = record {
          sources = p.sources ∙ sym q.sources;
          cached = p.cached ∙ sym q.cached;
          load = p.load ∙ sym q.load;
          timed = subst LoadIsTimed (sym p.cached) (opens_timed builder.cache);
        };
        outside = p.outside_is ∙ one_outside start seed a b fresh also ∙ sym q.outside_is;
      } in
      record {
        parts = subst (λ x. BarePartsAlike x two.components.parts) (sym s.adds.others) (subst (λ x. BarePartsAlike first x) (sym t.adds.others) alike);
        log = s.adds.log ∙ sym t.adds.log;
        awake = ap (λ x. x.outside.is_parked) s.adds.others ∙ ap (λ (o : HostedOutside). o.is_parked) p.outside_is ∙ fresh.is_parked;
      }

  -- one seat, and one quota that is left for the others
  seat_alike : (start number : ℕ) (old : Registers Pace) (d : SeatDescription) (one two : Seat (One V W v w)) (new more : Registers Pace) → OpensSeat ranked start number old d one new → OpensSeat ranked start number old d two more
      → SeatsAlike BareAlike one two × (new ≡ more)
  seat_alike start number old d one two new more s t =
      let p = s.client in
      let q = t.client in
      let met = one_partition d.client.target.service d.client.rules.bucket old p.partition q.partition new more p.registered q.registered in (
        record {
          worlds = built_alike start d.seed (served_builder (builder_of p.partition d.client) d.errors) p.outside q.outside p.quota q.quota d.retry_after one.world two.world p.fresh q.fresh p.built
              (subst (λ x. IsServedFrom ranked (served_builder (builder_of x d.client) d.errors) q.outside q.quota d.retry_after two.world) (sym met.0) q.built);
          run = no_run one.run two.run one.world.components.log two.world.components.log s.run t.run;
          terms = s.terms ∙ sym t.terms;
        },
        met.1,
      )

  seats_alike : (start number : ℕ) (old : Registers Pace) (ds : List SeatDescription) (ones twos : List (Seat (One V W v w))) (new more : Registers Pace) → OpensSeats ranked start number old ds ones new → OpensSeats ranked start number old ds twos more
      → EachAlike (SeatsAlike BareAlike) ones twos × (new ≡ more)
  seats_alike start number old [] [] [] new more s t = (tt, s ∙ sym t)
  seats_alike start number old [] [] (two ∷ twos) new more s t = absurd t
  seats_alike start number old [] (one ∷ ones) twos new more s t = absurd s
  seats_alike start number old (d ∷ ds) [] twos new more s t = absurd s
  seats_alike start number old (d ∷ ds) (one ∷ ones) [] new more s t = absurd t
  seats_alike start number old (d ∷ ds) (one ∷ ones) (two ∷ twos) new more (mid, this, rest) (away, that, later) =
      let met = seat_alike start number old d one two mid away this that in
      let others = seats_alike start (number + 1) mid ds ones twos new more rest (subst (λ r. OpensSeats ranked start (number + 1) r ds twos more) (sym met.1) later) in
      ((met.0, others.0), others.1)

  pub opened_alike : (d : HostDescription) (one two : Session (One V W v w)) → Opens ranked d one → Opens ranked d two → SessionsAlike one two
  opened_alike d one two s t =
      let met = seats_alike d.start 0 (quota_of d.buckets) d.seats one.seats.items two.seats.items one.quota two.quota s t in
      record { seats = met.0; quota = registers_alike one.quota two.quota met.1 }
