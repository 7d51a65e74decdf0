-- Which auth schemes a script spells, and what they sign with.
use Rattle.std.specs.Prelude.{false, ◌==◌, List, Option, Some, None, codes, is_none, length, if◌then◌else◌}
use Rattle.serde_json.specs.Data.{Data}
use Rattle.identity_cell.specs.Builder.{refusal, built}
use Rattle.identity_cell.specs.declared.identity_cache.SharedIdentityCache.{SharedIdentityCache}
use Rattle.identity_cell.specs.declared.identity_cache.SharedIdentityCache.TheVariants as caches
use Rattle.identity_cell.specs.declared.lazy_builder.LazyCacheBuilder.{LazyCacheBuilder}
use Rattle.json_forms.specs.Forms.{says, tagged_at, optional_at, texts_at}
use Rattle.json_forms.specs.Plain.{number_at, quadruple_at, quintuple_at}
use Rattle.json_forms.specs.Reading.{◌>>=◌}
use Rattle.json_scripts.specs.Records.Identities.{sources_at}
use Rattle.json_scripts.specs.Client.Schemes.{placed}
use Rattle.json_scripts.specs.declared.client.terms.AuthChoice.{AuthChoice}
use Rattle.json_scripts.specs.declared.client.terms.AuthChoice.TheVariants as auths
use Rattle.json_scripts.specs.declared.client.terms.AuthSchemes.{AuthSchemes}
use Rattle.json_scripts.specs.declared.client.terms.HttpSchemeChoice.{HttpSchemeChoice}

-- the cache that the builder makes of these parts, if it makes one
abbrev pub lazy_of : LazyCacheBuilder → Option SharedIdentityCache
lazy_of parts = if is_none (refusal parts) then Some (built parts) else None

-- a buffer, an expiration, partitions, and a load timeout or null
unfoldable pub lazy_at : Data → Option SharedIdentityCache
lazy_at d = quadruple_at d >>= λ p. number_at p.0 >>= λ b. number_at p.1 >>= λ e. number_at p.2 >>= λ m.
    optional_at number_at p.3 >>= λ t.
    lazy_of (record {
      time_source = false;
      sleep_impl = false;
      load_timeout = t;
      buffer_time = Some b;
      default_expiration = Some e;
      max_partitions = Some m;
    })

-- the identity cache of a client: none, or a lazy one
unfoldable pub cache_at : Data → Option SharedIdentityCache
cache_at d = if says (codes "none") d then Some caches.NoCache else (tagged_at (codes "lazy") d >>= lazy_at)

-- options, schemes, identities, a preference or null, and a cache; what is said of schemes of HTTP is of these schemes
unfoldable pub auth_schemes_at : List HttpSchemeChoice → Data → Option AuthSchemes
auth_schemes_at https d = quintuple_at d >>= λ p. cache_at p.4 >>= λ c. texts_at p.0 >>= λ o. texts_at p.1 >>= λ s.
    placed s https >>= λ h. sources_at p.2 >>= λ i. optional_at texts_at p.3 >>= λ f.
    Some (record { options = o; schemes = s; http_schemes = h; identities = i; preference = f; cache = c })

-- nothing signs, and so nothing may be said of schemes of HTTP
abbrev pub unsigned : List HttpSchemeChoice → Option AuthChoice
unsigned https = if length https == 0 then Some auths.NoAuth else None

-- how a client's requests are signed: not at all, or by auth schemes
unfoldable pub auth_at : List HttpSchemeChoice → Data → Option AuthChoice
auth_at https d = if says (codes "none") d then unsigned https
    else (auth_schemes_at https d >>= λ s. Some (auths.Schemes s))
