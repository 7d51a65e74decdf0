-- The choice of an auth scheme, over lists of ids.
use Rattle.std.specs.Prelude.{◌≡◌, ℕ, ◌++◌, ◌∷◌, [], nat_lt, Bool, false, not, ◌&&◌, if◌then◌else◌, List, length, take}
use Rattle.std.specs.Prelude.{All, IsSome, Option, None, Some, codes, bytes_eq}
use Rattle.std.specs.List.{list_any, filter, AllZip}
use Rattle.smithy_types.specs.declared.identity.Endpoint.{Endpoint}
use Rattle.auth_endpoint.specs.declared.explored.ExploreResult.{ExploreResult}
use Rattle.auth_endpoint.specs.declared.explored.ExploreResult.TheVariants.{NoAuthScheme, NoIdentityResolver}
use Rattle.auth_endpoint.specs.declared.explored.ExploreResult.TheVariants.{MissingEndpointConfig}
use Rattle.auth_endpoint.specs.declared.explored.ExploredAuthOption.{ExploredAuthOption}
use Rattle.auth_endpoint.specs.declared.explored.ExploredList.{ExploredList}

-- the text is this id
abbrev pub is_id : List ℕ → List ℕ → Bool
is_id id text = bytes_eq text id

-- the id stands in the list
abbrev pub is_named : List (List ℕ) → List ℕ → Bool
is_named names id = list_any (is_id id) names

-- the schemes that the endpoint lists, if there is one and it lists some
abbrev pub schemes_of : Option Endpoint → Option (List (List ℕ))
schemes_of None = None
schemes_of (Some endpoint) = endpoint.schemes

-- the endpoint lists schemes without this one, which isn't `noAuth`
abbrev pub is_unlisted : Option (List (List ℕ)) → List ℕ → Bool
is_unlisted None id = false
is_unlisted (Some listed) id = not (bytes_eq id (codes "noAuth")) && not (is_named listed id)

-- the first thing that an option lacks: a scheme, a resolver, or its place in the endpoint's list
abbrev pub lack_of : List (List ℕ) → List (List ℕ) → Option (List (List ℕ)) → List ℕ → Option ExploreResult
lack_of schemes resolvers listed id =
    if not (is_named schemes id) then Some NoAuthScheme
    else (if not (is_named resolvers id) then Some NoIdentityResolver
    else (if is_unlisted listed id then Some MissingEndpointConfig else None))

-- at this place stands an option that lacks nothing, and each one before it lacks something
pub record IsChosen (lack : List ℕ → Option ExploreResult) (options : List (List ℕ)) (place : ℕ) : Type 0 where
  pub earlier : List (List ℕ)
  pub option : List ℕ
  pub later : List (List ℕ)
  pub split : options ≡ earlier ++ option ∷ later
  pub place_is : place ≡ length earlier
  pub qualifies : lack option ≡ None
  pub refused : All (λ o. IsSome (lack o)) earlier

-- the list keeps the first seven of these refused options, and says whether there are more
pub record KeepsFirst (all : List ExploredAuthOption) (explored : ExploredList) : Type 0 where
  pub kept : explored.items ≡ take 7 all
  pub more : explored.truncated ≡ nat_lt 7 (length all)

-- each option lacks something, and the list keeps the first seven with the first thing that each lacks
pub record NoneChosen (lack : List ℕ → Option ExploreResult) (options : List (List ℕ))
    (explored : ExploredList) : Type 0 where
  pub all : List ExploredAuthOption
  pub each : AllZip (λ o refused. (refused.scheme_id ≡ o) × (lack o ≡ Some refused.result)) options all
  pub kept : KeepsFirst all explored

-- the options that the preference names, by their last place in it
abbrev pub preferred : List (List ℕ) → List (List ℕ) → List (List ℕ)
preferred [] options = []
preferred (name ∷ names) options =
    (if is_named names name then [] else filter (is_id name) options) ++ preferred names options

-- those come first, and the others keep their order
abbrev pub reprioritized : Option (List (List ℕ)) → List (List ℕ) → List (List ℕ)
reprioritized None options = options
reprioritized (Some names) options = preferred names options ++ filter (λ o. not (is_named names o)) options
