-- The session that a host begins with.
use Rattle.std.specs.Prelude.{◌≡◌, ℕ, ◌+◌, ℤ, false, List, [], ◌∷◌, Option, Some, None}
use Rattle.smithy_types.specs.declared.partition.RetryPartition.{RetryPartition}
use Rattle.smithy_types.specs.declared.payload.Payload.{Payload}
use Rattle.smithy_base.specs.declared.intercept.Slot.{Slot}
use Rattle.retry_quota.specs.Registers.{Registers}
use Rattle.retry_quota.specs.declared.permit.Permit.{Permit}
use Rattle.retry_policy.specs.declared.classify.Classifier.{Classifier}
use Rattle.rate_limit.specs.Pace.{Pace}
use Rattle.identity_cell.specs.declared.no_auth.NoAuthIdentityResolver.{NoAuthIdentityResolver}
use Rattle.outside_hosted.specs.Words.{seeded}
use Rattle.outside_hosted.specs.declared.call.HostCall.TheVariants.{Idle}
use Rattle.outside_hosted.specs.declared.hosted_outside.HostedOutside.{HostedOutside}
use Rattle.client_components.specs.declared.types.TypesOf.{TypesOf}
use Rattle.client_components.specs.declared.world.RuntimeComponents.{RuntimeComponents}
use Rattle.client_builder.specs.Built.{IsBuiltFrom}
use Rattle.client_builder.specs.declared.builder.OperationBuilder.{OperationBuilder}
use Rattle.client_builder.specs.declared.own_interceptor.OwnInterceptor.{OwnInterceptor}
use Rattle.client_builder.specs.declared.scheme.IdentityResolver.{IdentityResolver}
use Rattle.client_builder.specs.declared.scheme.Scheme.{Scheme}
use Rattle.client_scripted.specs.Clients.{ServiceBuilder, builder_of}
use Rattle.client_scripted.specs.Parts.{PartitionOf}
use Rattle.client_scripted.specs.declared.service.error.ServiceError.{ServiceError}
use Rattle.client_scripted.specs.declared.service.scheme.ServiceScheme.{ServiceScheme}
use Rattle.cli_client.specs.Opening.{quota_of}
use Rattle.host_session.specs.Classifiers.{AddsRetryAfter}
use Rattle.host_session.specs.declared.hosted.HostedClient.{HostedClient}
use Rattle.host_session.specs.declared.service.classifier.HostedClassifier.{HostedClassifier}
use Rattle.host_session.specs.declared.service.deserializer.ErrorRule.{ErrorRule}
use Rattle.host_session.specs.declared.service.deserializer.HostedDeserializer.{HostedDeserializer}
use Rattle.host_session.specs.declared.service.retry_after.RetryAfterClassifier.{RetryAfterClassifier}
use Rattle.host_session.specs.declared.service.serializer.HostedSerializer.{HostedSerializer}
use Rattle.host_session.specs.declared.seat.Seat.{Seat}
use Rattle.host_session.specs.declared.session.Session.{Session}
use Rattle.cli_serve.specs.declared.description.HostDescription.{HostDescription}
use Rattle.cli_serve.specs.declared.description.SeatDescription.{SeatDescription}

-- the builder of a host's client, where V and W are what boxed classifiers and interceptors would be
abbrev pub ServedBuilder : (V W : Type 0) → (V → Type 0) → (W → Type 0) → Type 0
ServedBuilder V W v w =
    OperationBuilder Payload Payload ServiceError ServiceScheme NoAuthIdentityResolver HostedSerializer
    HostedDeserializer V W v w

-- the types of such a client as its builder builds it, of classifiers C and interceptors I
abbrev pub BuiltTypes : (C I : Type 0) → Type 0
BuiltTypes C I =
    TypesOf HostedOutside (Registers Pace) C I (Scheme ServiceScheme) (IdentityResolver NoAuthIdentityResolver)
    HostedSerializer HostedDeserializer

-- what it builds
abbrev pub BuiltComponents : (C I : Type 0) → Type 0
BuiltComponents C I =
    RuntimeComponents (BuiltTypes C I) HostedOutside (Registers Pace) C I (Scheme ServiceScheme)
    (IdentityResolver NoAuthIdentityResolver) HostedSerializer HostedDeserializer Permit Pace

-- the types of such a client as it is served, of own classifiers C and interceptors I
abbrev pub ServedTypes : (C I : Type 0) → Type 0
ServedTypes C I = BuiltTypes (HostedClassifier C) I

-- the client
abbrev pub ServedClient : (C I : Type 0) → Type 0
ServedClient C I =
    HostedClient (ServedTypes C I) HostedOutside (Registers Pace) (HostedClassifier C) I (Scheme ServiceScheme)
    (IdentityResolver NoAuthIdentityResolver) HostedSerializer HostedDeserializer Permit Pace

-- The outside stands at its first moment, with the random words of a seed. Nothing is open, and nothing was told.
pub record IsFresh (start seed : ℕ) (outside : HostedOutside) : Type 0 where
  pub moment : outside.moment ≡ start
  pub generator : outside.generator ≡ seeded seed
  pub sleeps : outside.sleeps ≡ []
  pub call : outside.call ≡ Idle
  pub calls : outside.calls ≡ 0
  pub load : outside.load ≡ None
  pub poisoned : outside.poisoned ≡ None
  pub is_parked : outside.is_parked ≡ false
  pub has_given : outside.has_given ≡ false
  pub faults : outside.faults ≡ 0

module _ {V W : Type 0} {v : V → Type 0} {w : W → Type 0} where
  -- the builder of a client, but its inputs are requests, and its outputs responses
  abbrev pub served_builder : ServiceBuilder V W v w → List ErrorRule → ServedBuilder V W v w
  served_builder b errors = record {
    service_name = b.service_name;
    operation_name = b.operation_name;
    behavior_version = b.behavior_version;
    components = b.components;
    endpoint_url = b.endpoint_url;
    strategy = b.strategy;
    retry = b.retry;
    timeouts = b.timeouts;
    stall = b.stall;
    poisoning = b.poisoning;
    no_auth = b.no_auth;
    options = b.options;
    schemes = b.schemes;
    sources = b.sources;
    cache = b.cache;
    classifiers = b.classifiers;
    interceptors = b.interceptors;
    plugins = b.plugins;
    serializer = Some (record {});
    deserializer = Some (record { deserializer = record { rules = errors }; may_stream = false });
    types = record {};
  }

  -- The client is what the builder builds, with a classifier for delays behind its own, if there is one.
  pub record IsServedFrom (ranked : Classifier ServiceError V v → ℤ) (b : ServedBuilder V W v w)
      (outside : HostedOutside) (quota : Registers Pace) (retry_after : Option RetryAfterClassifier)
      (client : ServedClient (Classifier ServiceError V v) (Slot OwnInterceptor W w)) : Type 0 where
    pub components : BuiltComponents (Classifier ServiceError V v) (Slot OwnInterceptor W w)
    pub built : IsBuiltFrom ranked b outside quota components
    pub adds : AddsRetryAfter retry_after components client.components

  -- The client of a seat is built over a fresh outside and a quota of its own. Its custom partition gets a limiter of
  -- its own in the shared quota.
  pub record BuildsClient (ranked : Classifier ServiceError V v → ℤ) (start : ℕ) (old : Registers Pace)
      (d : SeatDescription) (client : ServedClient (Classifier ServiceError V v) (Slot OwnInterceptor W w))
      (new : Registers Pace) : Type 0 where
    pub partition : Option RetryPartition
    pub registered : PartitionOf d.client.target.service d.client.rules.bucket old partition new
    pub outside : HostedOutside
    pub fresh : IsFresh start d.seed outside
    pub quota : Registers Pace
    pub built : IsServedFrom ranked (served_builder (builder_of partition d.client) d.errors) outside quota
        d.retry_after client

  -- The seat is of such a client and has this number, and no run is under way.
  pub record OpensSeat (ranked : Classifier ServiceError V v → ℤ) (start number : ℕ) (old : Registers Pace)
      (d : SeatDescription) (seat : Seat (ServedClient (Classifier ServiceError V v) (Slot OwnInterceptor W w)))
      (new : Registers Pace) : Type 0 where
    pub client : BuildsClient ranked start old d seat.world new
    pub run : seat.run ≡ None
    pub terms : seat.terms ≡ record { number = number; output_kind = 1; error_kind = 2 }

  -- the seats of these descriptions, from this number on, one after another
  abbrev pub OpensSeats : (Classifier ServiceError V v → ℤ) → ℕ → ℕ → Registers Pace → List SeatDescription
      → List (Seat (ServedClient (Classifier ServiceError V v) (Slot OwnInterceptor W w))) → Registers Pace → Type 0
  OpensSeats ranked start number old [] [] new = new ≡ old
  OpensSeats ranked start number old (d ∷ ds) (seat ∷ seats) new =
      (mid : Registers Pace) × OpensSeat ranked start number old d seat mid
      × OpensSeats ranked start (number + 1) mid ds seats new
  OpensSeats ranked start number old [] (seat ∷ seats) new = ⊥
  OpensSeats ranked start number old (d ∷ ds) [] new = ⊥

  -- The session has the seats of a description, numbered from 0 on, and the quota that is left of its buckets.
  abbrev pub Opens : (Classifier ServiceError V v → ℤ) → HostDescription
      → Session (ServedClient (Classifier ServiceError V v) (Slot OwnInterceptor W w)) → Type 0
  Opens ranked d session =
      OpensSeats ranked d.start 0 (quota_of d.buckets) d.seats session.seats.items session.quota
