-- Which client scripts are within the limits.
use Rattle.std.specs.Prelude.{ℕ, List, Bool, true, ◌&&◌, length, nat_le, sum_by}
use Rattle.std.specs.List.{list_all}
use Rattle.json_scripts.specs.Records.Limits.{sources_fit, records_fit}
use Rattle.json_scripts.specs.Texts.{fits_or_none, text_fits, texts_fit}
use Rattle.json_scripts.specs.declared.client.script.ClientScript.{ClientScript}
use Rattle.json_scripts.specs.declared.client.terms.AuthChoice.{AuthChoice}
use Rattle.json_scripts.specs.declared.client.terms.AuthChoice.TheVariants as auths
use Rattle.json_scripts.specs.declared.client.terms.AuthSchemes.{AuthSchemes}
use Rattle.retry_quota.specs.declared.state.BucketTerms.{BucketTerms}
use Rattle.json_scripts.specs.declared.client.terms.ClientObject.{ClientObject}
use Rattle.json_scripts.specs.declared.client.terms.HttpSchemeChoice.{HttpSchemeChoice}
use Rattle.json_scripts.specs.declared.client.terms.HttpSchemeChoice.TheVariants.{Bearer, ApiKey}
use Rattle.json_scripts.specs.declared.client.terms.InvocationRecord.{InvocationRecord}

-- ---- buckets

-- a bucket's capacity is at most 500,000,000
unfoldable pub capacity_fits : BucketTerms → Bool
capacity_fits b = nat_le b.capacity 500000000

-- ---- clients

-- each text of an API key's scheme; a bearer token's has none
unfoldable pub http_scheme_fits : HttpSchemeChoice → Bool
http_scheme_fits Bearer = true
http_scheme_fits (ApiKey k) = text_fits k.name && fits_or_none text_fits k.prefix

-- each text of a client's auth schemes, of their identities and of the preference
unfoldable pub schemes_fit : AuthSchemes → Bool
schemes_fit a =
    texts_fit a.options && (texts_fit a.schemes
    && (list_all http_scheme_fits a.http_schemes && (sources_fit a.identities && fits_or_none texts_fit a.preference)))

-- each text of how a client's requests are signed
unfoldable pub auth_fits : AuthChoice → Bool
auth_fits auths.NoAuth = true
auth_fits (auths.Schemes a) = schemes_fit a

-- each text of a client
unfoldable pub client_fits : ClientObject → Bool
client_fits c =
    text_fits (c.target).service && (text_fits (c.target).operation
    && (text_fits (c.target).url && (fits_or_none text_fits (c.target).prefix && auth_fits c.auth)))

-- each text of these clients
abbrev pub clients_fit : List ClientObject → Bool
clients_fit cs = list_all client_fits cs

-- ---- invocations

-- each text and each head that an invocation's responses bring
unfoldable pub invocation_fits : InvocationRecord → Bool
invocation_fits i = records_fit i.responses

-- the most questions of an invocation
abbrev pub fuel_of : InvocationRecord → ℕ
fuel_of i = i.fuel

-- ---- scripts

-- capacities up to 500000000, texts and heads within their limits, at most 10000 invocations,
-- and 100000 of fuel together
unfoldable pub client_script_fits : ClientScript → Bool
client_script_fits s =
    list_all capacity_fits s.buckets && (clients_fit s.clients && (list_all invocation_fits s.invocations
    && (nat_le (length s.invocations) 10000 && nat_le (sum_by fuel_of s.invocations) 100000)))
