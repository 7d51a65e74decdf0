-- The laws of spellings and of signed requests.
use Rattle.std.proofs.Common.{◌≡◌, ◌≢◌, ◌++◌, ◌∷◌, ◌<◌, [], ℕ, List, All, IsTrue, Bool, true, false, refl, sym, ap, ◌∙◌, inl, inr, Option}
use Rattle.std.proofs.lemmas.Bool.{cond-true, cond-false}
use Rattle.std.proofs.lemmas.List.Elements.{All-head, All-tail}
use Rattle.percent_encoding.specs.Percent.{percent_decode}
use Rattle.percent_encoding.proofs.PercentLemmas.{percent_decode-nil, percent_decode_not_percent, percent_decode-percent_encode_byte}
use Rattle.http_header.specs.Token.{lowercase}
use Rattle.smithy_types.specs.declared.http.HttpRequest.{HttpRequest}
use Rattle.auth_endpoint.specs.declared.scheme.Signed.{Signed}
use Rattle.auth_endpoint.specs.declared.scheme.Signed.TheVariants.{Request, Failed}
use Rattle.http_schemes.specs.Encoding.{is_unreserved, encoded_byte, encoded}
use Rattle.http_schemes.specs.declared.api_key.ApiKeyLocation.{ApiKeyLocation}
use Rattle.http_schemes.specs.declared.api_key.ApiKeyLocation.TheVariants.{Header, Query}
use Rattle.http_schemes.specs.Signing.{SignsByHeader, SignsByKey, SignsByQuery, prefixed, secret_value, with_header}
use Rattle.http_schemes.proofs.TargetLemmas.{stays_with_key, not_both}
use Rattle.http_schemes.proofs.HeaderSet.{contains_inserted, inserted_twice}

-- ---- spellings

untrue : false ≡ true → ⊥
untrue e = cc

-- `%` is spelled by its digits
not_percent : (b : ℕ) → is_unreserved b ≡ true → b ≢ 37
not_percent b e p = untrue (ap is_unreserved (sym p) ∙ e)

-- unreserved bytes stand for themselves
pub unreserved_kept : (bytes : List ℕ) → All (λ b. IsTrue (is_unreserved b)) bytes → encoded bytes ≡ bytes
unreserved_kept [] all = refl
unreserved_kept (b ∷ bytes) all =
    ap (λ x. x ++ encoded bytes) (cond-true _ _ _ (All-head (λ b. IsTrue (is_unreserved b)) b bytes all)) ∙ ap (λ l. b ∷ l) (unreserved_kept bytes (All-tail (λ b. IsTrue (is_unreserved b)) b bytes all))

-- what is spelled is read again
decoded : (bytes : List ℕ) → All (λ b. b < 256) bytes → percent_decode (encoded bytes) ≡ bytes
decoded [] small = percent_decode-nil
decoded (b ∷ bytes) small = first (is_unreserved b) refl (All-head (λ b. b < 256) b bytes small) (decoded bytes (All-tail (λ b. b < 256) b bytes small))
  where
    first : (u : Bool) → is_unreserved b ≡ u → b < 256 → percent_decode (encoded bytes) ≡ bytes → percent_decode (encoded_byte b ++ encoded bytes) ≡ b ∷ bytes
    first true e within rest = ap (λ x. percent_decode (x ++ encoded bytes)) (cond-true _ _ _ e) ∙ percent_decode_not_percent b (encoded bytes) (not_percent b e) ∙ ap (λ l. b ∷ l) rest
    first false e within rest = ap (λ x. percent_decode (x ++ encoded bytes)) (cond-false _ _ _ e) ∙ percent_decode-percent_encode_byte b (encoded bytes) within ∙ ap (λ l. b ∷ l) rest

pub one_text : (bytes other : List ℕ) → All (λ b. b < 256) bytes → All (λ b. b < 256) other → encoded bytes ≡ encoded other → bytes ≡ other
one_text bytes other small below e = sym (decoded bytes small) ∙ ap percent_decode e ∙ decoded other below

-- ---- signed requests

pub stays_signed : (name value : List ℕ) (request new : HttpRequest) (again : Signed) → SignsByHeader name value request (Request new) → SignsByHeader name value new again → again ≡ Request new
stays_signed name value request new (Request again) (made, fits) (remade, refits) =
    ap Request (
    remade
    ∙ (λ i. record (made i) { headers = with_header (made i).headers name value })
    ∙ (λ i. record request { headers = inserted_twice request.headers (lowercase name) (secret_value value) i })
    ∙ sym made)
stays_signed name value request new (Failed text) (made, fits) (said, refused) =
    absurd (elim refused [
      | inl n ↦ fits (inl n)
      | inr r ↦ elim r [
        | inl v ↦ fits (inr (inl v))
        | inr full ↦ full.0 (rw (ap (λ r. r.headers) made) (contains_inserted request.headers (lowercase name) (secret_value value)))
      ]
    ])

pub stays_with_its_key : (location : ApiKeyLocation) (name : List ℕ) (prefix : Option (List ℕ)) (key : List ℕ) (request new : HttpRequest) (again : Signed) → SignsByKey location name prefix key request (Request new) → SignsByKey location name prefix key new again → again ≡ Request new
stays_with_its_key Header name prefix key request new again = stays_signed name (prefixed prefix key) request new again
stays_with_its_key Query name prefix key request new again = stays_with_key name key request new again

pub not_refused : (name key : List ℕ) (request new : HttpRequest) (text : List ℕ) → SignsByQuery name key request (Request new) → ¬ (SignsByQuery name key request (Failed text))
not_refused name key request new text (target, t, made) (said, refused) = not_both name key request.uri target t refused
