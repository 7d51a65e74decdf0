-- What is said where no auth option was chosen.
use Rattle.std.specs.Prelude.{ℕ, ◌++◌, [], Bool, true, false, not, ◌&&◌, if◌then◌else◌, List, length, ◌==◌, flat_map}
use Rattle.std.specs.Prelude.{codes, bytes_eq}
use Rattle.std.specs.List.{list_any, list_all}
use Rattle.auth_endpoint.specs.declared.explored.ExploreResult.{ExploreResult}
use Rattle.auth_endpoint.specs.declared.explored.ExploreResult.TheVariants.{NoAuthScheme, NoIdentityResolver}
use Rattle.auth_endpoint.specs.declared.explored.ExploreResult.TheVariants.{MissingEndpointConfig}
use Rattle.auth_endpoint.specs.declared.explored.ExploredAuthOption.{ExploredAuthOption}
use Rattle.auth_endpoint.specs.declared.explored.ExploredList.{ExploredList}
use Rattle.auth_endpoint.specs.declared.explored.NoMatchingAuthSchemeError.{NoMatchingAuthSchemeError}
use Rattle.auth_endpoint.specs.declared.explored.NoMatchingAuthSchemeError.TheVariants.{Explored, OutOfMemory}

-- what is lacking is a scheme
abbrev pub is_no_scheme : ExploreResult → Bool
is_no_scheme NoAuthScheme = true
is_no_scheme NoIdentityResolver = false
is_no_scheme MissingEndpointConfig = false

-- what is lacking is a resolver
abbrev pub is_no_resolver : ExploreResult → Bool
is_no_resolver NoAuthScheme = false
is_no_resolver NoIdentityResolver = true
is_no_resolver MissingEndpointConfig = false

-- the option has no scheme
abbrev pub lacks_scheme : ExploredAuthOption → Bool
lacks_scheme option = is_no_scheme option.result

-- the option has no resolver
abbrev pub lacks_resolver : ExploredAuthOption → Bool
lacks_resolver option = is_no_resolver option.result

-- the option lacks a scheme or its place in the endpoint's list, which no caller can set
abbrev pub is_bug : ExploredAuthOption → Bool
is_bug option = not (lacks_resolver option)

-- the option is that of the scheme that signs nothing
abbrev pub is_no_auth : ExploredAuthOption → Bool
is_no_auth option = bytes_eq option.scheme_id (codes "noAuth")

-- why the option wasn't chosen
unfoldable pub reason_text : ExploreResult → List ℕ
reason_text NoAuthScheme = codes "no auth scheme was registered for it."
reason_text NoIdentityResolver = codes "there was no identity resolver for it."
reason_text MissingEndpointConfig = codes "there is auth config in the endpoint config, but this scheme wasn't listed in it (see https://github.com/smithy-lang/smithy-rs/discussions/3281 for more details)."

-- an option with its reason
unfoldable pub option_text : ExploredAuthOption → List ℕ
option_text option =
    codes " \"" ++ (option.scheme_id ++ (codes "\" wasn't a valid option because " ++ reason_text option.result))

-- what to do: to set an identity, where some option lacks a resolver;
-- else, where some option lacks another thing, nothing
unfoldable pub advice_text : List ExploredAuthOption → List ℕ
advice_text options =
    if list_any lacks_resolver options then codes " Be sure to set an identity, such as credentials, auth token, or other identity type that is required for this service."
    else (if list_any is_bug options then codes " This is likely a bug." else [])

-- how to go without, where no option lacks another thing than a resolver, and none is `noAuth`
unfoldable pub opt_out_text : List ExploredAuthOption → List ℕ
opt_out_text options =
    if not (list_any is_bug options) && not (list_any is_no_auth options) then
    codes " If you intended to make an unauthenticated request, consider using `@optionalAuth` or `@auth([])` on the operation in the service model and regenerating the client SDK. If modifying the model is not possible, you can disable authentication at runtime as described in https://github.com/smithy-lang/smithy-rs/discussions/4197."
    else []

-- that more were refused
unfoldable pub truncated_text : Bool → List ℕ
truncated_text truncated =
    if truncated then codes " Note: there were other auth schemes that were evaluated that weren't listed here." else []

-- how the text begins where some option has a scheme
unfoldable pub opening_text : List ℕ
opening_text = codes "failed to select an auth scheme to sign the request with."

-- the text where some option has a scheme
unfoldable pub parts_text : ExploredList → List ℕ
parts_text explored =
    opening_text
    ++ (flat_map option_text explored.items
    ++ (advice_text explored.items ++ (opt_out_text explored.items ++ truncated_text explored.truncated)))

-- the text where there was no option
unfoldable pub no_options_text : List ℕ
no_options_text = codes "no auth options are available. This can happen if there's a problem with the service model, or if there is a codegen bug."

-- the text where no option has a scheme
unfoldable pub no_schemes_text : List ℕ
no_schemes_text = codes "no auth schemes are registered. This can happen if there's a problem with the service model, or if there is a codegen bug."

-- the whole text of what was explored
abbrev pub explored_text : ExploredList → List ℕ
explored_text explored =
    if length explored.items == 0 then no_options_text
    else (if list_all lacks_scheme explored.items then no_schemes_text else parts_text explored)

-- the text of the error
abbrev pub no_match_text : NoMatchingAuthSchemeError → List ℕ
no_match_text (Explored explored) = explored_text explored
no_match_text OutOfMemory = codes "out of memory"
