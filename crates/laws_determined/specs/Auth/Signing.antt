-- Apply and Sign are determined.
use Rattle.std.specs.Prelude.{◌≡◌, ℕ, List, Option}
use Rattle.auth_endpoint.specs.declared.scheme.Signed.{Signed}
use Rattle.client_auth.specs.Applying.{Applies}
use Rattle.client_auth.specs.Signing.{Signs}
use Rattle.run_grammar.specs.declared.answer.Answer.{Answer}
use Rattle.smithy_context.specs.StandingLayers.{StandingLayers}
use Rattle.smithy_types.specs.declared.http.HttpRequest.{HttpRequest}
use Rattle.smithy_types.specs.declared.identity.Endpoint.{Endpoint}
use Rattle.smithy_types.specs.declared.identity.Identity.{Identity}

-- one answer is given
abbrev pub OneAnswer : (Answer → Type 0) → Type 0
OneAnswer answers = (a b : Answer) → answers a → answers b → a ≡ b

-- an Apply has one answer for what it is handed
abbrev pub AppliesAreDetermined : Type 0
AppliesAreDetermined =
    (request : Option HttpRequest) (endpoint : Option Endpoint) (settings : StandingLayers)
    → OneAnswer (Applies request endpoint settings)

-- what a scheme makes of a request follows from what it is handed
abbrev pub SignsAlike : {A : Type 0} → (A → HttpRequest → Identity → Endpoint → Signed → Type 0) → Type 0
SignsAlike {A} signs =
    (scheme : A) (request : HttpRequest) (identity : Identity) (endpoint : Endpoint) (a b : Signed)
    → signs scheme request identity endpoint a → signs scheme request identity endpoint b → a ≡ b

-- a Sign has one answer for what it is handed, where each scheme's does
abbrev pub SignsAreDetermined : {A : Type 0} → (A → List ℕ) → (A → HttpRequest → Identity → Endpoint → Signed → Type 0)
    → Type 0
SignsAreDetermined {A} names signs = SignsAlike signs
    → (schemes : List A) (request : Option HttpRequest) (id : Option (List ℕ)) (identity : Option Identity)
    (endpoint : Option Endpoint)
    → OneAnswer (Signs names signs schemes request id identity endpoint)
