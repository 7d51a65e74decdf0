-- Sign.
use Rattle.std.specs.Prelude.{◌≡◌, ℕ, List, Option, None, Some, position, slice_get}
use Rattle.auth_endpoint.specs.Choice.{is_id}
use Rattle.auth_endpoint.specs.declared.scheme.Signed.{Signed}
use Rattle.auth_endpoint.specs.declared.scheme.Signed.TheVariants.{Request, Failed}
use Rattle.run_grammar.specs.declared.answer.Answer.{Answer}
use Rattle.run_grammar.specs.declared.answer.Answer.TheVariants as answers
use Rattle.smithy_types.specs.declared.http.HttpRequest.{HttpRequest}
use Rattle.smithy_types.specs.declared.identity.Endpoint.{Endpoint}
use Rattle.smithy_types.specs.declared.identity.Identity.{Identity}

-- what a scheme made of a request, as it is answered
abbrev pub answer_of : Signed → Answer
answer_of (Request request) = answers.Request request
answer_of (Failed text) = answers.Failed text

-- what this scheme makes of the request
abbrev pub SignedBy : {A : Type 0} → (A → HttpRequest → Identity → Endpoint → Signed → Type 0) → A → HttpRequest
    → Identity → Endpoint → Answer → Type 0
SignedBy signs scheme request identity endpoint a =
    (signed : Signed) × signs scheme request identity endpoint signed × (a ≡ answer_of signed)

module _ {A : Type 0} (names : A → List ℕ) (signs : A → HttpRequest → Identity → Endpoint → Signed → Type 0) where
  -- the first scheme of the id signs; without one it is absent
  abbrev pub SignsAt : List A → Option ℕ → HttpRequest → Identity → Endpoint → Answer → Type 0
  SignsAt schemes None request identity endpoint a = a ≡ answers.Absent
  SignsAt schemes (Some place) request identity endpoint a =
      (scheme : A) × (slice_get schemes place ≡ Some scheme) × SignedBy signs scheme request identity endpoint a

  -- the first scheme of this id signs
  abbrev pub SignsBy : List A → List ℕ → HttpRequest → Identity → Endpoint → Answer → Type 0
  SignsBy schemes id request identity endpoint a =
      SignsAt schemes (position (λ s. is_id id (names s)) schemes) request identity endpoint a

  -- all that it is signed with must be there
  abbrev pub Signs : List A → Option HttpRequest → Option (List ℕ) → Option Identity → Option Endpoint → Answer → Type 0
  Signs schemes (Some request) (Some id) (Some identity) (Some endpoint) a =
      SignsBy schemes id request identity endpoint a
  Signs schemes None id identity endpoint a = a ≡ answers.Absent
  Signs schemes (Some request) None identity endpoint a = a ≡ answers.Absent
  Signs schemes (Some request) (Some id) None endpoint a = a ≡ answers.Absent
  Signs schemes (Some request) (Some id) (Some identity) None a = a ≡ answers.Absent
