-- What a builder builds.
use Rattle.std.specs.Prelude.{◌≡◌, ℕ, ℤ, Bool, true, false, ◌||◌, List, [], ◌∷◌, ◌++◌, codes, Option, None, Some}
use Rattle.std.specs.Prelude.{is_some, option_map, option_to_list, unwrap_or}
use Rattle.std.specs.List.{flat_map, list_any}
use Rattle.client_auth.specs.Choosing.{no_load}
use Rattle.client_auth.specs.Identities.{cached_by}
use Rattle.client_auth.specs.declared.sources.IdentitySource.TheVariants.{Resolver}
use Rattle.client_auth.specs.declared.sources.RegisteredSource.{RegisteredSource}
use Rattle.client_call.specs.Sleeping.{no_sleeps}
use Rattle.client_call.specs.declared.call.Call.TheVariants.{Idle}
use Rattle.client_components.specs.declared.world.RuntimeComponents.{RuntimeComponents}
use Rattle.orchestrate.specs.declared.operation.Operation.{Operation}
use Rattle.client_retries.specs.declared.strategy.RetryStrategy.{RetryStrategy}
use Rattle.client_retries.specs.declared.strategy.RetryStrategy.TheVariants as strategies
use Rattle.retry_policy.specs.declared.classify.Classifier.{Classifier}
use Rattle.smithy_base.specs.declared.intercept.Slot.{Slot}
use Rattle.smithy_base.specs.declared.intercept.Slot.TheVariants.{Own}
use Rattle.smithy_types.specs.declared.identity.Endpoint.{Endpoint}
use Rattle.smithy_types.specs.declared.notes.RetryAction.TheVariants.{NoActionIndicated}
use Rattle.client_builder.specs.ClientLayer.{client_layer}
use Rattle.client_builder.specs.Plugins.{draft_of, is_enforcing, is_no_auth, options_added}
use Rattle.client_builder.specs.Priority.{IsByPriority}
use Rattle.client_builder.specs.declared.builder.AuthOptions.{AuthOptions}
use Rattle.client_builder.specs.declared.builder.AuthOptions.TheVariants.{NoAuth, Listed}
use Rattle.client_builder.specs.declared.builder.OperationBuilder.{OperationBuilder}
use Rattle.client_builder.specs.declared.builder.StrategyKind.{StrategyKind}
use Rattle.client_builder.specs.declared.builder.StrategyKind.TheVariants.{Never, Standard}
use Rattle.client_builder.specs.declared.own_interceptor.OwnInterceptor.{OwnInterceptor}
use Rattle.client_builder.specs.declared.own_interceptor.OwnInterceptor.TheVariants.{TokenBucket, StalledStream}
use Rattle.client_builder.specs.declared.own_interceptor.OwnInterceptor.TheVariants.{ConnectionPoisoning}
use Rattle.client_builder.specs.declared.own_interceptor.OwnInterceptor.TheVariants.{EnforceContentLength}
use Rattle.client_builder.specs.declared.scheme.IdentityResolver.{IdentityResolver}
use Rattle.client_builder.specs.declared.scheme.IdentityResolver.TheVariants as resolvers
use Rattle.client_builder.specs.declared.scheme.Scheme.{Scheme}
use Rattle.client_builder.specs.declared.scheme.Scheme.TheVariants as schemes

-- this, where it is wanted
abbrev pub wanted : {T : Type 0} → Bool → T → Option T
wanted true x = Some x
wanted false x = None

-- the ids of the options
abbrev pub listed : AuthOptions → List (List ℕ)
listed NoAuth = codes "noAuth" ∷ []
listed (Listed options) = options

-- a strategy of this kind that holds no permit
abbrev pub strategy_of : {P : Type 0} → StrategyKind → RetryStrategy P
strategy_of Never = strategies.Never (record {})
strategy_of Standard = strategies.Standard (record { held = None })

-- the endpoint at a URL
abbrev pub endpoint_at : List ℕ → Endpoint
endpoint_at url = record { url = url; headers = []; schemes = None }

-- the source of nobody's identity
abbrev pub nobody : {R : Type 0} → RegisteredSource (IdentityResolver R)
nobody = record { id = codes "noAuth"; source = Resolver (resolvers.NoAuth (record {})) }

-- ---- the crate's own interceptors

-- the interceptor that provides the token bucket, with none offered yet
abbrev pub provider : {W : Type 0} {w : W → Type 0} → Slot OwnInterceptor W w
provider = Own (TokenBucket (record { offered = None }))

-- it knows whether there are sleeps and a time source
abbrev pub stalled_stream : {W : Type 0} {w : W → Type 0} → Bool → Bool → Slot OwnInterceptor W w
stalled_stream sleep time = Own (StalledStream (record { sleep = sleep; time = time }))

-- the interceptor that poisons connections, with no verdict yet
abbrev pub poisoning : {W : Type 0} {w : W → Type 0} → Slot OwnInterceptor W w
poisoning = Own (ConnectionPoisoning (record { verdict = NoActionIndicated }))

-- the interceptor that holds a response's body to its declared length
abbrev pub enforcing : {W : Type 0} {w : W → Type 0} → Slot OwnInterceptor W w
enforcing = Own (EnforceContentLength (record {}))

module _ {I O E A R Z D V W : Type 0} {v : V → Type 0} {w : W → Type 0} where
  -- a sleep implementation was given, by a setter or by a plugin
  abbrev pub has_sleep : OperationBuilder I O E A R Z D V W v w → Bool
  has_sleep b = b.components.sleep || list_any (λ p. (draft_of p).sleep) b.plugins

  -- a time source was given, by a setter or by a plugin
  abbrev pub has_time : OperationBuilder I O E A R Z D V W v w → Bool
  has_time b = b.components.time || list_any (λ p. (draft_of p).time) b.plugins

  -- whether requests may go unsigned
  abbrev pub has_no_auth : OperationBuilder I O E A R Z D V W v w → Bool
  has_no_auth b = b.no_auth || list_any is_no_auth b.plugins

  -- a plugin holds responses to their declared length
  abbrev pub is_enforced : OperationBuilder I O E A R Z D V W v w → Bool
  is_enforced b = list_any is_enforcing b.plugins

  -- the options that were set, and those that plugins add
  abbrev pub options_of : OperationBuilder I O E A R Z D V W v w → List (List ℕ)
  options_of b = listed b.options ++ flat_map options_added b.plugins

  -- the program's schemes, and last the one that signs nothing where it is registered
  abbrev pub schemes_of : OperationBuilder I O E A R Z D V W v w → List (Scheme A)
  schemes_of b = b.schemes ++ option_to_list (wanted (has_no_auth b) (schemes.NoAuth (record {})))

  -- the program's sources, and last that of nobody's identity where it is registered
  abbrev pub sources_of : OperationBuilder I O E A R Z D V W v w → List (RegisteredSource (IdentityResolver R))
  sources_of b = b.sources ++ option_to_list (wanted (has_no_auth b) nobody)

  -- those of the crate's own interceptors that come before the program's
  abbrev pub front_of : OperationBuilder I O E A R Z D V W v w → List (Slot OwnInterceptor W w)
  front_of b =
      provider ∷ []
      ++ option_to_list (wanted (is_some b.stall) (stalled_stream (has_sleep b) (has_time b)))
      ++ option_to_list (wanted b.poisoning poisoning)

  -- the interceptors in their order
  abbrev pub chain_of : OperationBuilder I O E A R Z D V W v w → List (Slot OwnInterceptor W w)
  chain_of b = front_of b ++ b.interceptors ++ option_to_list (wanted (is_enforced b) enforcing)

module _ {T X Q P L I O E A R Z D V W : Type 0} {v : V → Type 0} {w : W → Type 0} where
  -- the client has the builder's parts, the outside and the quota; nothing is open, and nothing was asked
  pub record HasParts (b : OperationBuilder I O E A R Z D V W v w) (outside : X) (quota : Q)
      (client : RuntimeComponents T X Q (Classifier E V v) (Slot OwnInterceptor W w) (Scheme A)
      (IdentityResolver R) Z D P L) : Type 0 where
    pub settings : client.parts.given.client ≡ client_layer (unwrap_or b.service_name []) b
    pub sleep_impl : client.parts.given.sleep_impl ≡ has_sleep b
    pub time_source : client.parts.given.time_source ≡ has_time b
    pub options : client.parts.given.options ≡ options_of b
    pub schemes : client.parts.given.schemes.items ≡ schemes_of b
    pub endpoint : Some client.parts.given.endpoint ≡ option_map endpoint_at b.endpoint_url
    pub serializer : Some client.parts.given.serializer ≡ b.serializer
    pub deserializer : Some (record {
      deserializer = client.parts.given.deserializer;
      may_stream = client.parts.given.may_stream;
    }) ≡ b.deserializer
    pub strategy : Some client.parts.strategy ≡ option_map strategy_of b.strategy
    pub interceptors : client.parts.interceptors.items ≡ chain_of b
    pub sources : client.parts.identities.sources.items ≡ sources_of b
    pub cached : client.parts.identities.cached ≡ cached_by b.cache
    pub sleeps : client.parts.sleeps ≡ no_sleeps
    pub call : client.parts.call ≡ Idle
    pub load : client.parts.identities.load ≡ no_load
    pub outside_is : client.parts.outside ≡ outside
    pub quota_is : client.parts.quota ≡ quota
    pub log : client.log ≡ []

  -- and its classifiers stand in the order in which they are asked
  pub record IsBuiltFrom (ranked : Classifier E V v → ℤ) (b : OperationBuilder I O E A R Z D V W v w) (outside : X)
      (quota : Q)
      (client : RuntimeComponents T X Q (Classifier E V v) (Slot OwnInterceptor W w) (Scheme A)
      (IdentityResolver R) Z D P L) : Type 0 where
    pub parts : HasParts b outside quota client
    pub classifiers : IsByPriority ranked b.classifiers client.parts.given.classifiers.items

module _ {I O E A R Z D V W : Type 0} {v : V → Type 0} {w : W → Type 0} where
  -- the operation has the builder's names
  pub record IsNamed (b : OperationBuilder I O E A R Z D V W v w) (operation : Operation I O E) : Type 0 where
    pub service_name : Some operation.service_name ≡ b.service_name
    pub operation_name : Some operation.operation_name ≡ b.operation_name
