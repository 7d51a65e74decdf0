-- Causes of refusals that follow from one another.
use Rattle.std.proofs.Common.{◌≡◌, List, ℕ, Option, inl, inr, subst}
use Rattle.http_uri.specs.declared.uri.Uri.{Uri as Target}
use Rattle.http_uri.specs.Uri.{Spells, SpellsNone}
use Rattle.smithy_types.specs.declared.identity.Endpoint.{Endpoint}
use Rattle.smithy_types.specs.declared.identity.EndpointHeader.{EndpointHeader}
use Rattle.smithy_types.specs.declared.http.HttpRequest.{HttpRequest}
use Rattle.auth_endpoint.specs.Endpoint.{HasCause, CantApply, CantRead, CantSend, Reading, IsAppliedText, RefusesHeaders}
use Rattle.auth_endpoint.specs.declared.endpoint_error.EndpointError.{EndpointError}
use Rattle.auth_endpoint.specs.declared.endpoint_error.EndpointError.TheVariants.{BadUrl, BadAuthority, NoScheme, BadUri, BadHeader, OutOfMemory}

-- a header is refused by another cause that follows
pub header_cause : {P Q : Type 0} → (P → Q) → (e : EndpointError) → HasCause ⊥ ⊥ ⊥ ⊥ P e → HasCause ⊥ ⊥ ⊥ ⊥ Q e
header_cause f BadUrl h = h
header_cause f BadAuthority h = h
header_cause f NoScheme h = h
header_cause f BadUri h = h
header_cause f BadHeader h = f h
header_cause f OutOfMemory h = h

-- the target is no URI
pub target_cause : (target front : List ℕ) (prefix : Option (List ℕ)) (e : EndpointError) → HasCause (SpellsNone target) ⊥ ⊥ ⊥ ⊥ e → CantRead target front prefix e
target_cause target front prefix BadUrl h = inl h
target_cause target front prefix BadAuthority h = absurd h
target_cause target front prefix NoScheme h = absurd h
target_cause target front prefix BadUri h = absurd h
target_cause target front prefix BadHeader h = h
target_cause target front prefix OutOfMemory h = h

-- the endpoint's URL is no URI
pub front_cause : (target front : List ℕ) (prefix : Option (List ℕ)) (e : EndpointError) → HasCause (SpellsNone front) ⊥ ⊥ ⊥ ⊥ e → CantRead target front prefix e
front_cause target front prefix BadUrl h = inr h
front_cause target front prefix BadAuthority h = absurd h
front_cause target front prefix NoScheme h = absurd h
front_cause target front prefix BadUri h = absurd h
front_cause target front prefix BadHeader h = h
front_cause target front prefix OutOfMemory h = h

-- the URI can't be applied
pub apply_cause : (target front : List ℕ) (prefix : Option (List ℕ)) (uri url : Target) → Spells target uri → Spells front url → (e : EndpointError) → CantApply uri url prefix e → CantRead target front prefix e
apply_cause target front prefix uri url t f BadUrl h = absurd h
apply_cause target front prefix uri url t f BadAuthority h = (uri, url, record { target_spells = t; front_spells = f }, h)
apply_cause target front prefix uri url t f NoScheme h = (uri, url, record { target_spells = t; front_spells = f }, h)
apply_cause target front prefix uri url t f BadUri h = (uri, url, record { target_spells = t; front_spells = f }, h)
apply_cause target front prefix uri url t f BadHeader h = h
apply_cause target front prefix uri url t f OutOfMemory h = h

-- a target that can't be read refuses the request
pub target_refused : (request : HttpRequest) (endpoint : Endpoint) (prefix : Option (List ℕ)) (e : EndpointError) → CantRead request.uri endpoint.url prefix e → CantSend request endpoint prefix e
target_refused request endpoint prefix BadUrl h = h
target_refused request endpoint prefix BadAuthority h = h
target_refused request endpoint prefix NoScheme h = h
target_refused request endpoint prefix BadUri h = h
target_refused request endpoint prefix BadHeader h = absurd h
target_refused request endpoint prefix OutOfMemory h = h

-- a header refuses the request
pub headers_refused : (request : HttpRequest) (endpoint : Endpoint) (prefix : Option (List ℕ)) (text : List ℕ) (headers : List EndpointHeader) → headers ≡ endpoint.headers → Reading request.uri endpoint.url (λ uri url. IsAppliedText uri url prefix text) → (e : EndpointError) → HasCause ⊥ ⊥ ⊥ ⊥ (RefusesHeaders request.headers headers) e → CantSend request endpoint prefix e
headers_refused request endpoint prefix text headers same a BadUrl h = absurd h
headers_refused request endpoint prefix text headers same a BadAuthority h = absurd h
headers_refused request endpoint prefix text headers same a NoScheme h = absurd h
headers_refused request endpoint prefix text headers same a BadUri h = absurd h
headers_refused request endpoint prefix text headers same a BadHeader h = record { target = text; applied = a; refused = subst (λ l. RefusesHeaders request.headers l) same h }
headers_refused request endpoint prefix text headers same a OutOfMemory h = h
