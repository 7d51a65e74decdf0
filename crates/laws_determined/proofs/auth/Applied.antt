-- Apply is determined.
use Rattle.std.proofs.Common.{◌≡◌, ◌∙◌, refl, sym, ap, subst, ℕ, inl, inr, ◌⊎◌, List, [], ◌++◌, Option, None, Some}
use Rattle.std.specs.Prelude.{unwrap_or, IsTrue, codes, length, not, is_some, ◌==◌, ◌||◌, if◌then◌else◌}
use Rattle.std.proofs.lemmas.Bool.{false≢true}
use Rattle.auth_endpoint.specs.Endpoint.{AreRead, CantSend, HasFront, IsAppliedText, RefusesHeaders, merged_path, query_text, refusal_text, whole_text, joined_authority, with_headers}
use Rattle.auth_endpoint.specs.declared.endpoint_error.EndpointError.{EndpointError}
use Rattle.auth_endpoint.specs.declared.endpoint_error.EndpointError.TheVariants.{BadUrl, BadAuthority, NoScheme, BadUri, BadHeader, OutOfMemory}
use Rattle.client_auth.specs.Applying.{Applies, AppliesTo, is_refusal}
use Rattle.client_auth.specs.Reading.{standing_prefix}
use Rattle.http_uri.specs.ByteClasses.{framed_text}
use Rattle.http_uri.specs.Grammar.{IsAuthority, path_of, query_of}
use Rattle.http_uri.specs.Uri.{Spells, SpellsNone, uri_authority, uri_data, uri_path, uri_query, uri_scheme, uri_text}
use Rattle.http_uri.specs.declared.uri.Uri.{Uri as Target}
use Rattle.http_uri.proofs.Theorems.{Spells_unique}
use Rattle.run_grammar.specs.declared.answer.Answer.{Answer}
use Rattle.run_grammar.specs.declared.answer.Answer.TheVariants as answers
use Rattle.smithy_context.specs.StandingLayers.{StandingLayers}
use Rattle.smithy_types.specs.declared.http.HttpRequest.{HttpRequest}
use Rattle.smithy_types.specs.declared.identity.Endpoint.{Endpoint}
use Rattle.laws_determined.proofs.auth.Picked.{same_some}

-- two URIs of the same parts
pub record SameParts (one two : Target) : Type 0 where
  pub scheme : one.scheme ≡ two.scheme
  pub authority : one.authority ≡ two.authority
  pub data_is : one.path_and_query ≡ two.path_and_query

pub same_parts : (text : List ℕ) (one two : Target) → Spells text one → Spells text two → SameParts one two
same_parts text one two s t = let met = Spells_unique text one two s t in record { scheme = met.0; authority = met.1; data_is = met.2 }

pub same_path : (one two : Target) → SameParts one two → uri_path one ≡ uri_path two
same_path one two same = λ i. if not (length (same.data_is i) == 0) || is_some (same.scheme i) then path_of (same.data_is i) else []

pub same_query : (one two : Target) → SameParts one two → uri_query one ≡ uri_query two
same_query one two same = ap query_of same.data_is

same_text : (one two : Target) → SameParts one two → uri_text one ≡ uri_text two
same_text one two same =
    λ i. framed_text [] (same.scheme i) (codes "://") ++ framed_text [] (same.authority i) [] ++ same_path one two same i ++ framed_text (codes "?") (same_query one two same i) []

pub no_spelling : (text : List ℕ) (uri : Target) → SpellsNone text → Spells text uri → ⊥
no_spelling text uri none spells = none (uri_scheme uri) (uri_authority uri) (uri_data uri) spells

-- what becomes of a target that is read
data Fate : Type 0 where
  bad_authority : Fate
  no_scheme : Fate
  bad_uri : Fate
  applied_as : List ℕ → Fate

abbrev IsFate : Option (List ℕ) → Target → Target → Fate → Type 0
IsFate prefix uri url bad_authority = ¬ (IsAuthority (joined_authority prefix url))
IsFate prefix uri url no_scheme = IsAuthority (joined_authority prefix url) × (uri_scheme url ≡ None)
IsFate prefix uri url bad_uri = (scheme : List ℕ) × HasFront url prefix scheme × SpellsNone (whole_text scheme (joined_authority prefix url) uri url)
IsFate prefix uri url (applied_as text) = IsAppliedText uri url prefix text

module _ (prefix : Option (List ℕ)) where
  whole_same : (uri too url other : Target) (scheme : List ℕ) → SameParts uri too → SameParts url other
      → whole_text scheme (joined_authority prefix url) uri url ≡ whole_text scheme (joined_authority prefix other) too other
  whole_same uri too url other scheme same also =
      λ i. scheme ++ codes "://" ++ (unwrap_or prefix [] ++ unwrap_or (also.authority i) []) ++ merged_path (same_path uri too same i) (same_path url other also i) ++ query_text (same_query uri too same i)

  front_moved : (url other : Target) (scheme : List ℕ) → SameParts url other → HasFront other prefix scheme → HasFront url prefix scheme
  front_moved url other scheme also f = record {
    authority = subst (λ a. IsAuthority (unwrap_or prefix [] ++ unwrap_or a [])) (sym also.authority) f.authority;
    has_scheme = also.scheme ∙ f.has_scheme;
  }

  moved : (uri too url other : Target) (fate : Fate) → SameParts uri too → SameParts url other → IsFate prefix too other fate → IsFate prefix uri url fate
  moved uri too url other bad_authority same also t = λ h. t (subst (λ a. IsAuthority (unwrap_or prefix [] ++ unwrap_or a [])) also.authority h)
  moved uri too url other no_scheme same also t = (subst (λ a. IsAuthority (unwrap_or prefix [] ++ unwrap_or a [])) (sym also.authority) t.0, also.scheme ∙ t.1)
  moved uri too url other bad_uri same also (scheme, front, none) = (scheme, front_moved url other scheme also front, subst SpellsNone (sym (whole_same uri too url other scheme same also)) none)
  moved uri too url other (applied_as text) same also (applied, (scheme, front, spells), is) =
      (applied, (scheme, front_moved url other scheme also front, subst (λ w. Spells w applied) (sym (whole_same uri too url other scheme same also)) spells), is)

  one_scheme : (url : Target) (one two : List ℕ) → HasFront url prefix one → HasFront url prefix two → one ≡ two
  one_scheme url one two s t = same_some one two (sym s.has_scheme ∙ t.has_scheme)

  lacks_scheme : (url : Target) (scheme : List ℕ) → uri_scheme url ≡ None → HasFront url prefix scheme → ⊥
  lacks_scheme url scheme none front = let clash = sym none ∙ front.has_scheme in cc clash

  not_both : (uri url : Target) (text : List ℕ) → IsFate prefix uri url bad_uri → IsAppliedText uri url prefix text → ⊥
  not_both uri url text (scheme, front, none) (applied, (other, also, spells), is) =
      no_spelling (whole_text scheme (joined_authority prefix url) uri url) applied none
      (subst (λ s. Spells (whole_text s (joined_authority prefix url) uri url) applied) (one_scheme url other scheme also front) spells)

  fate_once : (uri url : Target) (one two : Fate) → IsFate prefix uri url one → IsFate prefix uri url two → one ≡ two
  fate_once uri url bad_authority bad_authority s t = refl
  fate_once uri url bad_authority no_scheme s t = absurd (s t.0)
  fate_once uri url bad_authority bad_uri s t = absurd (s t.1.authority)
  fate_once uri url bad_authority (applied_as text) s t = absurd (s t.1.1.authority)
  fate_once uri url no_scheme bad_authority s t = absurd (t s.0)
  fate_once uri url no_scheme no_scheme s t = refl
  fate_once uri url no_scheme bad_uri s t = absurd (lacks_scheme url t.0 s.1 t.1)
  fate_once uri url no_scheme (applied_as text) s t = absurd (lacks_scheme url t.1.0 s.1 t.1.1)
  fate_once uri url bad_uri bad_authority s t = absurd (t s.1.authority)
  fate_once uri url bad_uri no_scheme s t = absurd (lacks_scheme url s.0 t.1 s.1)
  fate_once uri url bad_uri bad_uri s t = refl
  fate_once uri url bad_uri (applied_as text) s t = absurd (not_both uri url text s t)
  fate_once uri url (applied_as text) bad_authority s t = absurd (t s.1.1.authority)
  fate_once uri url (applied_as text) no_scheme s t = absurd (lacks_scheme url s.1.0 t.1 s.1.1)
  fate_once uri url (applied_as text) bad_uri s t = absurd (not_both uri url text t s)
  fate_once uri url (applied_as text) (applied_as other) (applied, (scheme, front, spells), is) (too, (name, also, says), it) =
      let same = same_parts (whole_text scheme (joined_authority prefix url) uri url) applied too spells
      (subst (λ s. Spells (whole_text s (joined_authority prefix url) uri url) too) (one_scheme url name scheme also front) says) in
      ap applied_as (is ∙ (same_text applied too same ∙ sym it))

-- ---- the answer

module _ (request : HttpRequest) (endpoint : Endpoint) where
  -- what a fate answers
  abbrev Answers : Fate → Answer → Type 0
  Answers (applied_as text) a =
      (RefusesHeaders request.headers endpoint.headers × (a ≡ answers.Failed (refusal_text BadHeader)))
      ⊎ (¬ (RefusesHeaders request.headers endpoint.headers) × (a ≡ answers.Request (record request { uri = text; headers = with_headers request.headers endpoint.headers })))
  Answers bad_authority a = a ≡ answers.Failed (refusal_text BadAuthority)
  Answers no_scheme a = a ≡ answers.Failed (refusal_text NoScheme)
  Answers bad_uri a = a ≡ answers.Failed (refusal_text BadUri)

  answers_once : (fate : Fate) (a b : Answer) → Answers fate a → Answers fate b → a ≡ b
  answers_once bad_authority a b s t = s ∙ sym t
  answers_once no_scheme a b s t = s ∙ sym t
  answers_once bad_uri a b s t = s ∙ sym t
  answers_once (applied_as text) a b (inl s) (inl t) = s.1 ∙ sym t.1
  answers_once (applied_as text) a b (inl s) (inr t) = absurd (t.0 s.0)
  answers_once (applied_as text) a b (inr s) (inl t) = absurd (s.0 t.0)
  answers_once (applied_as text) a b (inr s) (inr t) = s.1 ∙ sym t.1

  module _ (prefix : Option (List ℕ)) where
    -- the target isn't read, or it has a fate
    abbrev Comes : Answer → Type 0
    Comes a =
        ((SpellsNone request.uri ⊎ SpellsNone endpoint.url) × (a ≡ answers.Failed (refusal_text BadUrl)))
        ⊎ ((uri : Target) × (url : Target) × AreRead request.uri endpoint.url uri url × (fate : Fate) × IsFate prefix uri url fate × Answers fate a)

    unread : (uri url : Target) → SpellsNone request.uri ⊎ SpellsNone endpoint.url → AreRead request.uri endpoint.url uri url → ⊥
    unread uri url (inl none) reads = no_spelling request.uri uri none reads.target_spells
    unread uri url (inr none) reads = no_spelling endpoint.url url none reads.front_spells

    comes_once : (a b : Answer) → Comes a → Comes b → a ≡ b
    comes_once a b (inl s) (inl t) = s.1 ∙ sym t.1
    comes_once a b (inl s) (inr t) = absurd (unread t.0 t.1 s.0 t.2)
    comes_once a b (inr s) (inl t) = absurd (unread s.0 s.1 t.0 s.2)
    comes_once a b (inr (uri, url, reads, fate, is, says)) (inr (too, other, read, end, it, said)) =
        let same = same_parts request.uri uri too reads.target_spells read.target_spells in
        let also = same_parts endpoint.url url other reads.front_spells read.front_spells in
        let met = fate_once prefix uri url fate end is (moved prefix uri too url other end same also it) in
        answers_once fate a b says (subst (λ f. Answers f b) (sym met) said)

    refusal_comes : (refusal : EndpointError) (a : Answer) → IsTrue (is_refusal refusal) → CantSend request endpoint prefix refusal → a ≡ answers.Failed (refusal_text refusal) → Comes a
    refusal_comes BadUrl a is cause text = inl (cause, text)
    refusal_comes BadAuthority a is (uri, url, reads, cause) text = inr (uri, url, reads, bad_authority, cause, text)
    refusal_comes NoScheme a is (uri, url, reads, cause) text = inr (uri, url, reads, no_scheme, cause, text)
    refusal_comes BadUri a is (uri, url, reads, cause) text = inr (uri, url, reads, bad_uri, cause, text)
    refusal_comes BadHeader a is cause text = let r = cause.applied in inr (r.0, r.1, r.2, applied_as cause.target, r.3, inl (cause.refused, text))
    refusal_comes OutOfMemory a is cause text = absurd (false≢true is)

  comes : (settings : StandingLayers) (a : Answer) → AppliesTo request endpoint settings a → Comes (standing_prefix settings) a
  comes settings (answers.Request sent) h = let r = h.applied in inr (r.0, r.1, r.2, applied_as h.target, r.3, inr (h.headers_fit, ap answers.Request h.request))
  comes settings (answers.Failed text) (refusal, is, cause, text_is) = refusal_comes (standing_prefix settings) refusal (answers.Failed text) is cause (ap answers.Failed text_is)
  comes settings _ h = absurd h

pub applies_once : (request : Option HttpRequest) (endpoint : Option Endpoint) (settings : StandingLayers) (a b : Answer) → Applies request endpoint settings a → Applies request endpoint settings b → a ≡ b
applies_once (Some request) (Some endpoint) settings a b s t = comes_once request endpoint (standing_prefix settings) a b (comes request endpoint settings a s) (comes request endpoint settings b t)
applies_once (Some request) None settings a b s t = s ∙ sym t
applies_once None endpoint settings a b s t = s ∙ sym t
