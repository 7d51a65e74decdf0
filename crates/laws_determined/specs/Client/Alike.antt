-- When the parts of two clients are alike: nothing that they answer tells one from the other.
use Rattle.std.specs.Prelude.{◌≡◌, ℕ}
use Rattle.client_components.specs.declared.parts.Given.{Given}
use Rattle.client_components.specs.declared.parts.Parts.{Parts}
use Rattle.retry_quota.specs.Registers.{Registers}
use Rattle.laws_determined.specs.Auth.Alike.{IdentitiesAlike}
use Rattle.laws_determined.specs.Calls.Alike.{OpenAlike}
use Rattle.laws_determined.specs.Retries.Alike.{AreAlike, HoldAlike}

-- the same was given: of what stands in vectors, the same items
pub record GivenAlike {T X Q C I A R Z D P L : Type 0} (one two : Given T X Q C I A R Z D P L) : Type 0 where
  pub client : one.client ≡ two.client
  pub sleep_impl : one.sleep_impl ≡ two.sleep_impl
  pub time_source : one.time_source ≡ two.time_source
  pub classifiers : one.classifiers.items ≡ two.classifiers.items
  pub options : one.options ≡ two.options
  pub schemes : one.schemes.items ≡ two.schemes.items
  pub endpoint : one.endpoint ≡ two.endpoint
  pub serializer : one.serializer ≡ two.serializer
  pub deserializer : one.deserializer ≡ two.deserializer
  pub may_stream : one.may_stream ≡ two.may_stream

-- the same was given, and all that a run changes is alike
pub record PartsAlike {T X C I A R Z D P L : Type 0} (bucket amount : P → ℕ)
    (one two : Parts T X (Registers L) C I A R Z D P L) : Type 0 where
  pub given : GivenAlike one.given two.given
  pub sleeps : one.sleeps ≡ two.sleeps
  pub call : OpenAlike one.call two.call
  pub strategy : HoldAlike bucket amount one.strategy two.strategy
  pub interceptors : one.interceptors.items ≡ two.interceptors.items
  pub identities : IdentitiesAlike one.identities two.identities
  pub outside : one.outside ≡ two.outside
  pub quota : AreAlike one.quota two.quota
