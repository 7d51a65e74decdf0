-- The clients that a script describes, and what is built of them.
use Rattle.std.specs.Prelude.{◌≡◌, ℕ, ℤ, List, [], ◌++◌, map, Option, None, Some, true, false}
use Rattle.json_scripts.specs.declared.client.terms.ClientObject.{ClientObject}
use Rattle.json_scripts.specs.declared.client.terms.ClientRules.{ClientRules}
use Rattle.json_scripts.specs.declared.client.terms.ClientTarget.{ClientTarget}
use Rattle.client_scripted.specs.declared.service.deserializer.ServiceDeserializer.{ServiceDeserializer}
use Rattle.client_scripted.specs.declared.service.error.ServiceError.{ServiceError}
use Rattle.client_scripted.specs.declared.service.scheme.ServiceScheme.{ServiceScheme}
use Rattle.client_scripted.specs.declared.service.serializer.ServiceSerializer.{ServiceSerializer}
use Rattle.client_components.specs.Meaning.{ClientMeaning}
use Rattle.client_components.specs.declared.parts.Parts.{Parts}
use Rattle.client_components.specs.declared.types.TypesOf.{TypesOf}
use Rattle.client_components.specs.declared.world.RuntimeComponents.{RuntimeComponents}
use Rattle.identity_cell.specs.declared.no_auth.NoAuthIdentityResolver.{NoAuthIdentityResolver}
use Rattle.client_builder.specs.Built.{IsBuiltFrom}
use Rattle.client_builder.specs.declared.builder.OperationBuilder.{OperationBuilder}
use Rattle.client_builder.specs.declared.own_interceptor.OwnInterceptor.{OwnInterceptor}
use Rattle.client_builder.specs.declared.plugin.Plugin.{Plugin}
use Rattle.client_builder.specs.declared.scheme.IdentityResolver.{IdentityResolver}
use Rattle.client_builder.specs.declared.scheme.Scheme.{Scheme}
use Rattle.orchestrate.specs.declared.operation.Operation.{Operation}
use Rattle.rate_limit.specs.Pace.{Pace}
use Rattle.retry_policy.specs.declared.classify.Classifier.{Classifier}
use Rattle.retry_quota.specs.Registers.{Registers}
use Rattle.retry_quota.specs.declared.permit.Permit.{Permit}
use Rattle.outside_scripted.specs.declared.scripted_outside.ScriptedOutside.{ScriptedOutside}
use Rattle.smithy_base.specs.declared.intercept.Slot.{Slot}
use Rattle.smithy_types.specs.Chain.{Chained}
use Rattle.smithy_types.specs.declared.partition.RetryPartition.{RetryPartition}
use Rattle.smithy_types.specs.declared.payload.Payload.{Payload}
use Rattle.client_scripted.specs.Parts.{PartitionOf, auth_parts_of, auth_terms_of, classifier_of, identities_of}
use Rattle.client_scripted.specs.Parts.{plugin_layer, plugins_of, retry_of, strategy_of}
use Rattle.client_scripted.specs.declared.auth.AuthParts.{AuthParts}
use Rattle.client_scripted.specs.declared.builder.ClientNames.{ClientNames}
use Rattle.client_scripted.specs.declared.client.ScriptedClient.{ScriptedClient}

-- the builder of a client, where V and W are what boxed classifiers and interceptors would be
abbrev pub ServiceBuilder : (V W : Type 0) → (V → Type 0) → (W → Type 0) → Type 0
ServiceBuilder V W v w =
    OperationBuilder Payload Payload ServiceError ServiceScheme NoAuthIdentityResolver ServiceSerializer
    ServiceDeserializer V W v w

-- the types of a client of the service, of an outside X, a quota Q, classifiers C and interceptors I
abbrev pub ServiceTypes : (X Q C I : Type 0) → Type 0
ServiceTypes X Q C I =
    TypesOf X Q C I (Scheme ServiceScheme) (IdentityResolver NoAuthIdentityResolver) ServiceSerializer
    ServiceDeserializer

-- what they mean, where P are the quota's permits and L its limiters
abbrev pub ServiceMeaning : (X Q C I P L : Type 0) → Type 1
ServiceMeaning X Q C I P L =
    ClientMeaning (ServiceTypes X Q C I) X Q C I (Scheme ServiceScheme) (IdentityResolver NoAuthIdentityResolver)
    ServiceSerializer ServiceDeserializer P L

-- the parts of such a client
abbrev pub ServiceParts : (X Q C I P L : Type 0) → Type 0
ServiceParts X Q C I P L =
    Parts (ServiceTypes X Q C I) X Q C I (Scheme ServiceScheme) (IdentityResolver NoAuthIdentityResolver)
    ServiceSerializer ServiceDeserializer P L

-- the client that is made of such parts
abbrev pub ServiceClient : (X Q C I P L : Type 0) → Type 0
ServiceClient X Q C I P L =
    RuntimeComponents (ServiceTypes X Q C I) X Q C I (Scheme ServiceScheme)
    (IdentityResolver NoAuthIdentityResolver) ServiceSerializer ServiceDeserializer P L

-- the client, of classifiers C and interceptors I, over a scripted outside and registers
abbrev pub ServiceWorld : (C I : Type 0) → Type 0
ServiceWorld C I = ServiceClient ScriptedOutside (Registers Pace) C I Permit Pace

-- the operation has the names of what the client calls
pub record IsOperationOf (target : ClientTarget) (operation : Operation Payload Payload Payload) : Type 0 where
  pub service_name : operation.service_name ≡ target.service
  pub operation_name : operation.operation_name ≡ target.operation

-- an object, and the client that is built of it
pub record Described (C I : Type 0) : Type 0 where
  pub object : ClientObject
  pub client : ScriptedClient C I

module _ {V W : Type 0} {v : V → Type 0} {w : W → Type 0} where
  -- the builder with these names, rules, classifiers, parts of auth and plugins set
  abbrev pub builder_with : ClientNames → ClientRules → List (Classifier ServiceError V v) → AuthParts → List Plugin
      → ServiceBuilder V W v w
  builder_with names rules classifiers auth plugins = record {
    service_name = Some names.service;
    operation_name = Some names.operation;
    behavior_version = None;
    components = record { sleep = rules.flags.sleep; time = rules.flags.time; client = true };
    endpoint_url = Some names.url;
    strategy = Some (strategy_of rules.retry);
    retry = retry_of rules.retry;
    timeouts = Some rules.timeouts;
    stall = rules.stall;
    poisoning = rules.flags.poisoning;
    no_auth = auth.no_auth;
    options = auth.options;
    schemes = auth.schemes;
    sources = auth.sources;
    cache = auth.cache;
    classifiers = classifiers;
    interceptors = [];
    plugins = plugins;
    serializer = Some (record {});
    deserializer = Some (record { deserializer = record {}; may_stream = false });
    types = record {};
  }

  -- the builder of the client that an object describes, where its custom partition is this one
  unfoldable pub builder_of : Option RetryPartition → ClientObject → ServiceBuilder V W v w
  builder_of partition c = builder_with
      (record { service = c.target.service; operation = c.target.operation; url = c.target.url })
      c.rules
      (map classifier_of c.classifiers)
      (auth_parts_of c.auth)
      (plugins_of (plugin_layer partition c.target.prefix (auth_terms_of c.auth).preference c.rules.flags.v2)
      c.rules.flags.enforce)

  -- the client is what the builder builds over an outside and a quota of its own
  pub record IsBuiltBy (ranked : Classifier ServiceError V v → ℤ) (builder : ServiceBuilder V W v w)
      (client : ServiceWorld (Classifier ServiceError V v) (Slot OwnInterceptor W w)) : Type 0 where
    pub outside : ScriptedOutside
    pub quota : Registers Pace
    pub built : IsBuiltFrom ranked builder outside quota client

  -- The client that an object describes is built over a registry: its custom partition gets a limiter of its own there.
  pub record Builds (ranked : Classifier ServiceError V v → ℤ) (old : Registers Pace) (object : ClientObject)
      (client : ScriptedClient (Classifier ServiceError V v) (Slot OwnInterceptor W w))
      (new : Registers Pace) : Type 0 where
    pub partition : Option RetryPartition
    pub registered : PartitionOf object.target.service object.rules.bucket old partition new
    pub operation : IsOperationOf object.target client.operation
    pub built : IsBuiltBy ranked (builder_of partition object) client.world
    pub identities : client.identities ≡ identities_of object.auth

module _ {V W : Type 0} {v : V → Type 0} {w : W → Type 0} (ranked : Classifier ServiceError V v → ℤ) where
  -- so it is with an object and its client
  abbrev pub BuildsOne : Registers Pace → Described (Classifier ServiceError V v) (Slot OwnInterceptor W w)
      → Registers Pace → Type 0
  BuildsOne old d new = Builds ranked old d.object d.client new

  -- behind those before, these clients are built of these objects, one after another over the registry
  pub record AreBuilt (old : Registers Pace) (objects : List ClientObject)
      (before clients : List (ScriptedClient (Classifier ServiceError V v) (Slot OwnInterceptor W w)))
      (new : Registers Pace) : Type 0 where
    pub described : List (Described (Classifier ServiceError V v) (Slot OwnInterceptor W w))
    pub objects_are : map (λ (d : Described (Classifier ServiceError V v) (Slot OwnInterceptor W w)). d.object)
        described ≡ objects
    pub clients_are : clients ≡ before ++ map
        (λ (d : Described (Classifier ServiceError V v) (Slot OwnInterceptor W w)). d.client) described
    pub over : Chained BuildsOne old described new
