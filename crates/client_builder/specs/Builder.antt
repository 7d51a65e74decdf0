-- What a builder holds.
use Rattle.std.specs.Prelude.{ℕ, List, [], None, false}
use Rattle.client_auth.specs.declared.sources.IdentitySource.{IdentitySource}
use Rattle.client_auth.specs.declared.sources.IdentitySource.TheVariants.{Outside, Resolver}
use Rattle.client_auth.specs.declared.sources.RegisteredSource.{RegisteredSource}
use Rattle.identity_cell.specs.declared.identity_cache.SharedIdentityCache.TheVariants.{NoCache}
use Rattle.client_builder.specs.Plugins.{no_draft}
use Rattle.client_builder.specs.declared.builder.OperationBuilder.{OperationBuilder}
use Rattle.client_builder.specs.declared.builder.AuthOptions.TheVariants.{Listed}
use Rattle.client_builder.specs.declared.scheme.IdentityResolver.{IdentityResolver}
use Rattle.client_builder.specs.declared.scheme.IdentityResolver.TheVariants.{Brought}

-- no part was given
abbrev pub no_parts : {I O E A R Z D V W : Type 0} {v : V → Type 0} {w : W → Type 0}
    → OperationBuilder I O E A R Z D V W v w
no_parts = record {
  service_name = None;
  operation_name = None;
  behavior_version = None;
  components = no_draft;
  endpoint_url = None;
  strategy = None;
  retry = None;
  timeouts = None;
  stall = None;
  poisoning = false;
  no_auth = false;
  options = Listed [];
  schemes = [];
  sources = [];
  cache = NoCache;
  classifiers = [];
  interceptors = [];
  plugins = [];
  serializer = None;
  deserializer = None;
  types = record {};
}

-- the program's source, as a client has it
abbrev pub brought_source : {R : Type 0} → List ℕ → IdentitySource R → RegisteredSource (IdentityResolver R)
brought_source id Outside = record { id = id; source = Outside }
brought_source id (Resolver resolver) = record { id = id; source = Resolver (Brought resolver) }
