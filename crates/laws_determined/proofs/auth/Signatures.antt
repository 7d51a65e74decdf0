-- Sign is determined.
use Rattle.std.proofs.Common.{◌≡◌, ◌∙◌, sym, ap, subst, ℕ, List, Option, None, Some, position}
use Rattle.auth_endpoint.specs.Choice.{is_id}
use Rattle.auth_endpoint.specs.declared.scheme.Signed.{Signed}
use Rattle.client_auth.specs.Signing.{SignsAt, answer_of}
use Rattle.run_grammar.specs.declared.answer.Answer.{Answer}
use Rattle.smithy_types.specs.declared.http.HttpRequest.{HttpRequest}
use Rattle.smithy_types.specs.declared.identity.Endpoint.{Endpoint}
use Rattle.smithy_types.specs.declared.identity.Identity.{Identity}
use Rattle.laws_determined.specs.Auth.Signing as signing
use Rattle.laws_determined.proofs.auth.Picked.{same_some}

module _ {A : Type 0} (names : A → List ℕ) (signs : A → HttpRequest → Identity → Endpoint → Signed → Type 0) where
  signs_at : signing.SignsAlike signs → (schemes : List A) (place : Option ℕ) (request : HttpRequest) (identity : Identity) (endpoint : Endpoint) (a b : Answer)
      → SignsAt names signs schemes place request identity endpoint a → SignsAt names signs schemes place request identity endpoint b → a ≡ b
  signs_at alike schemes None request identity endpoint a b s t = s ∙ sym t
  signs_at alike schemes (Some place) request identity endpoint a b (scheme, there, (signed, made, is)) (other, too, (also, done, it)) =
      let one : scheme ≡ other = same_some scheme other (sym there ∙ too) in
      is ∙ (ap answer_of (alike other request identity endpoint signed also (subst (λ x. signs x request identity endpoint signed) one made) done) ∙ sym it)

  pub signs_once : signing.SignsAreDetermined names signs
  signs_once alike schemes (Some request) (Some id) (Some identity) (Some endpoint) a b s t =
      signs_at alike schemes (position (λ x. is_id id (names x)) schemes) request identity endpoint a b s t
  signs_once alike schemes None id identity endpoint a b s t = s ∙ sym t
  signs_once alike schemes (Some request) None identity endpoint a b s t = s ∙ sym t
  signs_once alike schemes (Some request) (Some id) None endpoint a b s t = s ∙ sym t
  signs_once alike schemes (Some request) (Some id) (Some identity) None a b s t = s ∙ sym t
