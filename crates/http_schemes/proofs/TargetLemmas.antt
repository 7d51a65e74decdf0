-- Targets that get a key.
use Rattle.std.proofs.Common.{◌≡◌, ◌≢◌, ◌++◌, ◌∷◌, ◌==◌, ◌||◌, [], ℕ, not, length, is_some, List, All, cond, sym, ap, ◌∙◌, subst, arith, inl, inr, append_assoc, Option, None, Some, Result, Ok, Err, IfOk, unwrap_or}
use Rattle.http_uri.specs.declared.uri.Uri.{Uri as Target}
use Rattle.http_uri.specs.Grammar.{path_of, query_of}
use Rattle.http_uri.specs.Uri.{Spells, SpellsNone, uri_scheme, uri_authority, uri_data, uri_path, uri_query, uri_text}
use Rattle.http_uri.proofs.Theorems.{Spells_unique}
use Rattle.smithy_types.specs.declared.http.HttpRequest.{HttpRequest}
use Rattle.auth_endpoint.specs.declared.scheme.Signed.{Signed}
use Rattle.auth_endpoint.specs.declared.scheme.Signed.TheVariants.{Request, Failed}
use Rattle.http_schemes.specs.Encoding.{encoded}
use Rattle.http_schemes.specs.Query.{scheme_text, query_with, signed_text, HasOtherQuery, IsTargetSigned, RefusesTarget, IsChecked, SignsTarget}
use Rattle.http_schemes.specs.Signing.{SignsByQuery}
use Rattle.http_schemes.proofs.QueryLemmas.{query_all, set_twice, encoded_lacks_amp, encoded_lacks_equals, encoded_no_hash}
use Rattle.http_schemes.proofs.FormLemmas.{front, data_plain, query_plain, other_query, other_query_prints}

-- the text by the parts
abbrev text_by : List ℕ → List ℕ → Option (List ℕ) → Option (List ℕ) → List ℕ → Option (List ℕ) → List ℕ
text_by name key s a p q = scheme_text s ++ unwrap_or a [] ++ p ++ (63 ∷ []) ++ query_with q (encoded name) (encoded key)

-- a URI of these parts gets this text
abbrev text_of : List ℕ → List ℕ → Option (List ℕ) → Option (List ℕ) → List ℕ → List ℕ
text_of name key s a k = text_by name key s a (cond (not (length k == 0) || is_some s) (path_of k) []) (query_of k)

same_text : (name key : List ℕ) (u v : Target) → (uri_scheme u ≡ uri_scheme v) × (uri_authority u ≡ uri_authority v) × (uri_data u ≡ uri_data v) → signed_text name key u ≡ signed_text name key v
same_text name key u v same = λ i. text_of name key (same.0 i) (same.1 i) (same.2 i)

-- the new query has no fragment
query_no_hash : (name key old : List ℕ) (u : Target) → Spells old u → All (λ b. b ≢ 35) (query_with (uri_query u) (encoded name) (encoded key))
query_no_hash name key old u h =
    query_all (λ b. b ≢ 35) (omega arith) (omega arith) (uri_query u) (encoded name) (encoded key)
    (query_plain (uri_data u) (data_plain old (uri_scheme u) (uri_authority u) (uri_data u) h.1)) (encoded_no_hash name) (encoded_no_hash key)

-- what the new target is cut into
pub cut_as : (name key old : List ℕ) (u v : Target) → Spells old u → Spells (signed_text name key u) v → HasOtherQuery u v (query_with (uri_query u) (encoded name) (encoded key))
cut_as name key old u v h g =
    let q = query_with (uri_query u) (encoded name) (encoded key) in
    other_query old u v q h (query_no_hash name key old u h)
    (subst (λ t. Spells t v) (append_assoc (front (uri_scheme u) (uri_authority u) (uri_data u)) (63 ∷ []) q) g)

pub changes_query : (name key old new : List ℕ) (uri signed : Target) → IsTargetSigned name key old new → Spells old uri → Spells new signed → HasOtherQuery uri signed (query_with (uri_query uri) (encoded name) (encoded key))
changes_query name key old new uri signed t h g =
    cut_as name key old uri signed h (subst (λ x. Spells x signed) (t.new_is ∙ same_text name key t.uri uri (Spells_unique old t.uri uri t.old_spells h)) g)

pub prints_itself : (name key old new : List ℕ) (signed : Target) → IsTargetSigned name key old new → Spells new signed → uri_text signed ≡ new
prints_itself name key old new signed t g =
    other_query_prints t.uri signed (query_with (uri_query t.uri) (encoded name) (encoded key)) (cut_as name key old t.uri signed t.old_spells (subst (λ x. Spells x signed) t.new_is g))
    ∙ sym t.new_is

-- a target that has the key stays
pub settled : (name key old new : List ℕ) (v : Target) → IsTargetSigned name key old new → Spells new v → signed_text name key v ≡ new
settled name key old new v t g =
    let h = cut_as name key old t.uri v t.old_spells (subst (λ x. Spells x v) t.new_is g) in
    (λ i. text_by name key (h.same_scheme i) (h.same_authority i) (h.same_path i) (h.has_query i))
    ∙ ap (λ q. scheme_text (uri_scheme t.uri) ++ unwrap_or (uri_authority t.uri) [] ++ uri_path t.uri ++ (63 ∷ []) ++ q)
    (set_twice (uri_query t.uri) (encoded name) (encoded key) (encoded_lacks_amp name) (encoded_lacks_equals name) (encoded_lacks_amp key))
    ∙ sym t.new_is

spelled : (text : List ℕ) (u : Target) → Spells text u → ¬ (SpellsNone text)
spelled text u h none = none (uri_scheme u) (uri_authority u) (uri_data u) h

never_refused : (name key old new : List ℕ) → IsTargetSigned name key old new → ¬ (RefusesTarget name key new)
never_refused name key old new t (inl none) = spelled new t.signed t.new_spells none
never_refused name key old new t (inr (u, h, none)) = spelled new t.signed t.new_spells (subst SpellsNone (settled name key old new u t h) none)

pub not_both : (name key old new : List ℕ) → IsTargetSigned name key old new → ¬ (RefusesTarget name key old)
not_both name key old new t (inl none) = spelled old t.uri t.old_spells none
not_both name key old new t (inr (u, h, none)) =
    spelled new t.signed t.new_spells (subst SpellsNone (same_text name key u t.uri (Spells_unique old u t.uri h t.old_spells) ∙ sym t.new_is) none)

pub stays_with_key : (name key : List ℕ) (request new : HttpRequest) (again : Signed) → SignsByQuery name key request (Request new) → SignsByQuery name key new again → again ≡ Request new
stays_with_key name key request new (Request other) (target, t, made) (next, u, remade) =
    let stands : new.uri ≡ target = ap (λ r. r.uri) made in
    let same : next ≡ target = u.new_is ∙ settled name key request.uri target u.uri t (subst (λ x. Spells x u.uri) stands u.old_spells) in
    ap Request (remade ∙ (λ i. record (made i) { uri = same i }) ∙ sym made)
stays_with_key name key request new (Failed text) (target, t, made) (said, refused) =
    absurd (never_refused name key request.uri target t (subst (RefusesTarget name key) (ap (λ r. r.uri) made) refused))

-- the text of the URI with its key was looked at
pub target_signed : {E : Type 0} (name key old : List ℕ) (uri : Target) (text : List ℕ) (r : Result (Option (List ℕ)) E) → Spells old uri → text ≡ signed_text name key uri → IfOk r (IsChecked text) → IfOk r (SignsTarget name key old)
target_signed name key old uri text (Ok None) h made none = inr (uri, h, subst SpellsNone made none)
target_signed name key old uri text (Ok (Some new)) h made (same, (u, spells)) = record { uri = uri; old_spells = h; new_is = same ∙ made; signed = u; new_spells = spells }
target_signed name key old uri text (Err e) h made none = tt
