-- The parts of a client that a script describes.
use Rattle.std.specs.Prelude.{◌≡◌, ℕ, Bool, true, false, List, [], ◌∷◌, ◌++◌, map, Option, None, Some, option_map}
use Rattle.std.specs.Prelude.{option_to_list, find}
use Rattle.client_auth.specs.declared.sources.IdentitySource.TheVariants.{Outside}
use Rattle.client_auth.specs.declared.sources.RegisteredSource.{RegisteredSource}
use Rattle.json_scripts.specs.Client.Schemes.{has_id}
use Rattle.json_scripts.specs.declared.client.terms.ApiKeyChoice.{ApiKeyChoice}
use Rattle.json_scripts.specs.declared.client.terms.AuthChoice.{AuthChoice}
use Rattle.json_scripts.specs.declared.client.terms.AuthChoice.TheVariants as auths
use Rattle.json_scripts.specs.declared.client.terms.ClassifierChoice.{ClassifierChoice}
use Rattle.json_scripts.specs.declared.client.terms.ClassifierChoice.TheVariants.{Modeled, Transient, Status}
use Rattle.json_scripts.specs.declared.client.terms.HttpSchemeChoice.{HttpSchemeChoice}
use Rattle.json_scripts.specs.declared.client.terms.HttpSchemeChoice.TheVariants as choices
use Rattle.json_scripts.specs.declared.client.terms.RetryChoice.{RetryChoice}
use Rattle.json_scripts.specs.declared.client.terms.RetryChoice.TheVariants as retries
use Rattle.client_scripted.specs.Service.Service.{scheme_of}
use Rattle.client_scripted.specs.declared.service.error.ServiceError.{ServiceError}
use Rattle.client_scripted.specs.declared.service.scheme.ServiceScheme.{ServiceScheme}
use Rattle.client_scripted.specs.declared.service.scheme.ServiceScheme.TheVariants as schemes
use Rattle.http_schemes.specs.declared.api_key.ApiKeyAuthScheme.{ApiKeyAuthScheme}
use Rattle.identity_cell.specs.declared.identity_cache.SharedIdentityCache.TheVariants.{NoCache}
use Rattle.identity_cell.specs.declared.no_auth.NoAuthIdentityResolver.{NoAuthIdentityResolver}
use Rattle.client_builder.specs.Built.{wanted}
use Rattle.client_builder.specs.ClientLayer.{putting}
use Rattle.client_builder.specs.Plugins.{no_draft}
use Rattle.client_builder.specs.declared.builder.AuthOptions.TheVariants as options
use Rattle.client_builder.specs.declared.builder.StrategyKind.{StrategyKind}
use Rattle.client_builder.specs.declared.builder.StrategyKind.TheVariants as kinds
use Rattle.client_builder.specs.declared.plugin.Plugin.{Plugin}
use Rattle.client_builder.specs.declared.plugin.Plugin.TheVariants.{Static, EnforceContentLength}
use Rattle.client_builder.specs.declared.scheme.IdentityResolver.{IdentityResolver}
use Rattle.client_builder.specs.declared.scheme.Scheme.{Scheme}
use Rattle.client_builder.specs.declared.scheme.Scheme.TheVariants.{Brought}
use Rattle.rate_limit.specs.Pace.{Pace, zero_pace}
use Rattle.retry_policy.specs.declared.classify.Classifier.{Classifier}
use Rattle.retry_policy.specs.declared.classify.Classifier.TheVariants as classifiers
use Rattle.retry_quota.specs.Registers.{GivesNumbers, Registers}
use Rattle.outside_scripted.specs.declared.records.IdentityRecord.{IdentityRecord}
use Rattle.smithy_context.specs.Layer.{entry, put_entry}
use Rattle.smithy_context.specs.declared.layer.LayerEntry.{LayerEntry}
use Rattle.smithy_context.specs.declared.setting.Setting.TheVariants as set
use Rattle.smithy_context.specs.declared.setting.SettingKey.TheVariants as keys
use Rattle.smithy_types.specs.declared.config.RetryConfig.{RetryConfig}
use Rattle.smithy_types.specs.declared.partition.CustomPartition.{CustomPartition}
use Rattle.smithy_types.specs.declared.partition.RetryPartition.{RetryPartition}
use Rattle.client_scripted.specs.declared.auth.AuthParts.{AuthParts}
use Rattle.client_scripted.specs.declared.auth.AuthTerms.{AuthTerms}

-- ---- retries

-- the retry classifier that a script names
abbrev pub classifier_of : {V : Type 0} {v : V → Type 0} → ClassifierChoice → Classifier ServiceError V v
classifier_of Modeled = classifiers.ModeledAsRetryable (record { error = record {} })
classifier_of Transient = classifiers.TransientError (record { error = record {} })
classifier_of (Status codes) = classifiers.HttpStatusCode (record { codes = codes })

-- the kind of the retry strategy: one that never retries, or the standard one
abbrev pub strategy_of : RetryChoice → StrategyKind
strategy_of retries.Never = kinds.Never
strategy_of (retries.Standard retry) = kinds.Standard

-- the retry configuration that is set; a client that never retries has none
abbrev pub retry_of : RetryChoice → Option RetryConfig
retry_of retries.Never = None
retry_of (retries.Standard retry) = Some retry

-- ---- signing

-- the scheme that signs by this API key
abbrev pub key_scheme : ApiKeyChoice → ApiKeyAuthScheme
key_scheme k = record { location = k.location; name = k.name; prefix = k.prefix }

-- by a bearer token, or by the API key
abbrev pub scheme_by : HttpSchemeChoice → ServiceScheme
scheme_by choices.Bearer = schemes.Bearer (record {})
scheme_by (choices.ApiKey key) = schemes.ApiKey (key_scheme key)

-- the scheme of which something is said, or the service's own of this id
abbrev pub scheme_or_own : List ℕ → Option HttpSchemeChoice → Scheme ServiceScheme
scheme_or_own id None = scheme_of id
scheme_or_own id (Some choice) = Brought (scheme_by choice)

-- the scheme of HTTP that has this id, if one is among these, and else the service's own
abbrev pub scheme_of_id : List HttpSchemeChoice → List ℕ → Scheme ServiceScheme
scheme_of_id https id = scheme_or_own id (find (has_id id) https)

-- each identity comes from the outside
abbrev pub source_of : IdentityRecord → RegisteredSource (IdentityResolver NoAuthIdentityResolver)
source_of i = record { id = i.id; source = Outside }

-- what the builder is given for auth: the options, the schemes, the sources of identities and the cache
abbrev pub auth_parts_of : AuthChoice → AuthParts
auth_parts_of auths.NoAuth = record {
  no_auth = true;
  options = options.NoAuth;
  schemes = [];
  sources = [];
  cache = NoCache;
}
auth_parts_of (auths.Schemes a) = record {
  no_auth = false;
  options = options.Listed a.options;
  schemes = map (scheme_of_id a.http_schemes) a.schemes;
  sources = map source_of a.identities;
  cache = a.cache;
}

-- what is set and loaded for auth: the preference, and the identities of the outside
abbrev pub auth_terms_of : AuthChoice → AuthTerms
auth_terms_of auths.NoAuth = record { preference = None; identities = [] }
auth_terms_of (auths.Schemes a) = record { preference = a.preference; identities = a.identities }

-- the identities that the outside loads for a client
abbrev pub identities_of : AuthChoice → List IdentityRecord
identities_of auth = (auth_terms_of auth).identities

-- ---- settings

-- V2 is unset where it is off
abbrev pub with_v2 : Bool → List LayerEntry → List LayerEntry
with_v2 true l = l
with_v2 false l = put_entry l (entry keys.V2 None)

-- a custom partition, a prefix and a preference, each where there is one, and whether V2 is on
unfoldable pub plugin_layer : Option RetryPartition → Option (List ℕ) → Option (List (List ℕ)) → Bool → List LayerEntry
plugin_layer partition prefix preference v2 =
    with_v2 v2 (putting (option_map set.Preference preference)
    (putting (option_map set.Prefix prefix) (putting (option_map set.Partition partition) [])))

-- a plugin that sets the layer, and one that enforces the length where that is wanted
abbrev pub plugins_of : List LayerEntry → Bool → List Plugin
plugins_of layer enforce = Static layer no_draft ∷ option_to_list (wanted enforce EnforceContentLength)

-- ---- partitions

-- the service's custom partition with the bucket of this number, and a limiter of its own that is added; or none
abbrev pub PartitionOf : List ℕ → Option ℕ → Registers Pace → Option RetryPartition → Registers Pace → Type 0
PartitionOf service None old partition new = (partition ≡ None) × (new ≡ old)
PartitionOf service (Some bucket) old None new = ⊥
PartitionOf service (Some bucket) old (Some partition) new =
    (partition.name ≡ service) × (numbers : CustomPartition) × (partition.custom ≡ Some numbers)
    × GivesNumbers zero_pace old (Some bucket) None numbers new
