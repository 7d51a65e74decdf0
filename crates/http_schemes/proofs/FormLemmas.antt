-- Each form of a URI, with another query behind its path.
use Rattle.std.proofs.Common.{◌≡◌, ◌≢◌, ◌++◌, ◌∷◌, ◌+◌, ◌<◌, ◌==◌, ◌||◌, ◌⊎◌, [], ℕ, not, length, take, drop, get_or, List, All, is_some, Bool, true, false, cond, refl, sym, ap, ◌∙◌, subst, arith, inl, inr, append_assoc, append-nil, Option, None, Some, unwrap_or, bytes_eq, take_at, drop_at, drop-drop, length-append, length-take-le, get_or-take, get_or-drop, nat_lt, rules}
use Rattle.std.proofs.lemmas.Bool.{cases_order, cases_eq, cases_Bool, ne_eqb, eqb-true, cond-true, or_right}
use Rattle.std.proofs.lemmas.List.{append_cancel_left, get_or_append_left}
use Rattle.std.proofs.lemmas.List.Elements.{All-nil, All-cons, All-drop}
use Rattle.http_uri.specs.declared.uri.Uri.{Uri as Target}
use Rattle.http_uri.specs.ByteClasses.{is_scheme_byte, is_delimiter, lowercase, index_of, framed_text}
use Rattle.http_uri.specs.Grammar.{AllPass, IsScheme, IsAuthority, IsTail, IsForm, HasScheme, StartsOrigin, normal_scheme, without_fragment, path_of, query_of, scheme_len, authority_len}
use Rattle.http_uri.specs.Uri.{Spells, uri_scheme, uri_authority, uri_data, uri_path, uri_text}
use Rattle.http_uri.proofs.RunLemmas.{run-append, run_passes, AllPass-at, index_of_at_least, index_of_le}
use Rattle.http_uri.proofs.SchemeLemmas.{scheme_byte_plain}
use Rattle.http_uri.proofs.AuthorityLemmas.{IsAuthority_no_delimiter}
use Rattle.http_uri.proofs.UriLemmas.{cut_name, cut_rest, cut_authority, cut_scheme, cut_first, IsAuthority_first, IsAuthority_no_scheme, HasScheme_room}
use Rattle.http_schemes.specs.Query.{scheme_text, HasOtherQuery}
use Rattle.http_schemes.proofs.QueryLemmas.{Throughout}
use Rattle.http_schemes.proofs.CutLemmas.{IsPlain, whole, kept_plain, path_plain, path_first, path_nonempty, path_back, query_back, tail_plain, at_mark, no_authority}

-- ---- the origin form

star_no_scheme : (q : List ℕ) → ¬ (HasScheme (42 ∷ 63 ∷ q))
star_no_scheme q h = let e : 42 ≡ 58 = ap (λ t. get_or t 0 0) h.1 in omega (arith, e)

origin_same : (p q : List ℕ) → 0 < length p → All IsPlain p → (get_or p 0 0 ≡ 47) ⊎ (p ≡ 42 ∷ []) → All (λ b. b ≢ 35) q → (s a : Option (List ℕ)) (k : List ℕ) → IsForm (p ++ 63 ∷ q) s a k → (s ≡ None) × (a ≡ None) × (k ≡ p ++ 63 ∷ q)
origin_same p q some all start rest None None k g = (refl, refl, g.1 ∙ whole (p ++ 63 ∷ q) (tail_plain p q all rest))
origin_same p q some all start rest None (Some a) k g = absurd (no_authority p q g.0)
origin_same p q some all start rest (Some s) None k g = absurd g
origin_same p q some all start rest (Some s) (Some a) k g =
    absurd (elim start [
      | inl slash ↦ cut_first (p ++ 63 ∷ q) s a k g (get_or_append_left p (63 ∷ q) 0 0 some ∙ slash)
      | inr star ↦ star_no_scheme q (subst (λ t. HasScheme (t ++ 63 ∷ q)) star (cut_scheme (p ++ 63 ∷ q) s a k g))
    ])

-- ---- the authority form, which takes no query

authority_no_scheme : (a q : List ℕ) → IsAuthority a → ¬ (HasScheme (a ++ 63 ∷ q))
authority_no_scheme a q h has =
    let text = a ++ 63 ∷ q in
    let n = scheme_len text in
    let room = HasScheme_room text has in
    let mark = at_mark a q in
    let colon : get_or text n 0 ≡ 58 =
    ap (λ m. get_or text m 0) (none_more n) ∙ sym (get_or-drop n text 0 0) ∙ sym (get_or-take 3 (drop n text) 0 0 (omega arith)) ∙ ap (λ t. get_or t 0 0) has.1 in
    let slash : get_or text (n + 1) 0 ≡ 47 =
    sym (get_or-drop n text 1 0) ∙ sym (get_or-take 3 (drop n text) 1 0 (omega arith)) ∙ ap (λ t. get_or t 1 0) has.1 in
    elim (cases_order n (length a)) [
      | inl same ↦ clash 58 (sym colon ∙ ap (λ m. get_or text m 0) same ∙ mark) (omega arith)
      | inr (inl below) ↦ elim (cases_eq (n + 1) (length a)) [
        | inl next ↦ clash 47 (sym slash ∙ ap (λ m. get_or text m 0) next ∙ mark) (omega arith)
        | inr other ↦
            let within : n + 1 < length a = omega (arith, below, other) in
            delimited (get_or a (n + 1) 0) (sym (get_or_append_left a (63 ∷ q) 0 (n + 1) within) ∙ slash) (IsAuthority_no_delimiter a h (n + 1) within)
      ]
      | inr (inr above) ↦ marked (get_or text (length a) 0) mark (run_passes is_scheme_byte text (length a) above)
    ]
  where
    none_more : (n : ℕ) → n ≡ n + 0
    none_more n = omega arith

    clash : (b : ℕ) → b ≡ 63 → b ≢ 63 → ⊥
    clash b e n = n e

    delimited : (b : ℕ) → b ≡ 47 → not (is_delimiter b) ≡ true → ⊥
    delimited b e plain = let never : false ≡ true = ap (λ c. not (is_delimiter c)) (sym e) ∙ plain in cc

    marked : (b : ℕ) → b ≡ 63 → is_scheme_byte b ≡ true → ⊥
    marked b e pass = let never : false ≡ true = ap is_scheme_byte (sym e) ∙ pass in cc

authority_none : (a q : List ℕ) → IsAuthority a → (s b : Option (List ℕ)) (k : List ℕ) → ¬ (IsForm (a ++ 63 ∷ q) s b k)
authority_none a q h None None k g =
    elim g.0.0 [
      | inl star ↦ omega (arith, ap length star, length-append a (63 ∷ q), h.nonempty)
      | inr slash ↦ IsAuthority_first a h (sym (get_or_append_left a (63 ∷ q) 0 0 h.nonempty) ∙ slash)
    ]
authority_none a q h None (Some b) k g = no_authority a q g.0
authority_none a q h (Some s) None k g = g
authority_none a q h (Some s) (Some b) k g = authority_no_scheme a q h (cut_scheme (a ++ 63 ∷ q) s b k g)

-- ---- the absolute form

-- a scheme as a URI holds it is a scheme, and stays so
normal : (name : List ℕ) → IsScheme name → IsScheme (normal_scheme name) × (normal_scheme (normal_scheme name) ≡ normal_scheme name)
normal name h =
    elim (cases_Bool (bytes_eq (lowercase name) (104 ∷ 116 ∷ 116 ∷ 112 ∷ []))) [
      | inl http ↦ rw http ((search rules, omega arith), refl)
      | inr other ↦ elim (cases_Bool (bytes_eq (lowercase name) (104 ∷ 116 ∷ 116 ∷ 112 ∷ 115 ∷ []))) [
        | inl https ↦ rw (other, https) ((search rules, omega arith), refl)
        | inr neither ↦ rw (other, neither) (h, rw (other, neither))
      ]
    ]

module _ (s a p q : List ℕ) (named : IsScheme s) (lasts : normal_scheme s ≡ s) (valid : IsAuthority a) (some : 0 < length p) (slash : get_or p 0 0 ≡ 47) (plain : All IsPlain p) (rest : All (λ b. b ≢ 35) q) where
  abbrev tail : List ℕ
  tail = p ++ 63 ∷ q

  abbrev text : List ℕ
  text = s ++ 58 ∷ 47 ∷ 47 ∷ (a ++ tail)

  named_len : scheme_len text ≡ length s
  named_len = run-append is_scheme_byte s (58 ∷ 47 ∷ 47 ∷ (a ++ tail)) (AllPass-at is_scheme_byte s named.0) λ _. refl

  behind_name : drop (scheme_len text) text ≡ 58 ∷ 47 ∷ 47 ∷ (a ++ tail)
  behind_name = drop_at s (58 ∷ 47 ∷ 47 ∷ (a ++ tail)) (scheme_len text) (sym named_len)

  behind_marks : drop (scheme_len text + 3) text ≡ a ++ tail
  behind_marks = sym (drop-drop 3 (scheme_len text) text) ∙ ap (drop 3) behind_name

  tail_first : get_or tail 0 0 ≡ 47
  tail_first = get_or_append_left p (63 ∷ q) 0 0 some ∙ slash

  authority_ends : authority_len (a ++ tail) ≡ length a
  authority_ends = run-append (λ b. not (is_delimiter b)) a tail (IsAuthority_no_delimiter a valid) λ _. ap (λ b. not (is_delimiter b)) tail_first

  text_len : length text ≡ length s + (3 + (length a + length tail))
  text_len = omega (arith, length-append s (58 ∷ 47 ∷ 47 ∷ (a ++ tail)), length-append a tail)

  has_scheme : HasScheme text
  has_scheme = (omega (arith, text_len, valid.nonempty), ap (take 3) behind_name)

  no_slash : get_or text 0 0 ≢ 47
  no_slash = by s named.0
    where
      by : (s : List ℕ) → AllPass is_scheme_byte s → get_or (s ++ 58 ∷ 47 ∷ 47 ∷ (a ++ tail)) 0 0 ≢ 47
      by [] all = omega arith
      by (b ∷ s) all = (scheme_byte_plain b (AllPass-at is_scheme_byte (b ∷ s) all 0 (omega arith))).1

  tail_kept : (t k : List ℕ) → t ≡ tail → IsTail t k → k ≡ tail
  tail_kept t k same (inl h) = absurd (omega (arith, ap length (sym h.0 ∙ same), length-append p (63 ∷ q)))
  tail_kept t k same (inr h) = h.2 ∙ ap without_fragment same ∙ whole tail (tail_plain p q plain rest)

  absolute_same : (s₂ a₂ : Option (List ℕ)) (k₂ : List ℕ) → IsForm text s₂ a₂ k₂ → (s₂ ≡ Some s) × (a₂ ≡ Some a) × (k₂ ≡ tail)
  absolute_same None None k₂ g =
      absurd (elim g.0.0 [ inl star ↦ omega (arith, ap length star, text_len, valid.nonempty) | inr first ↦ no_slash first ])
  absolute_same None (Some a₂) k₂ g = absurd (IsAuthority_no_scheme text g.0 has_scheme)
  absolute_same (Some s₂) None k₂ g = absurd g
  absolute_same (Some s₂) (Some a₂) k₂ g =
      let name : g.name ≡ s = sym (cut_name text s₂ a₂ k₂ g) ∙ take_at s (58 ∷ 47 ∷ 47 ∷ (a ++ tail)) (scheme_len text) (sym named_len) in
      let behind : a₂ ++ g.tail ≡ a ++ tail = sym (cut_rest text s₂ a₂ k₂ g) ∙ behind_marks in
      let authority : a₂ ≡ a = sym (cut_authority text s₂ a₂ k₂ g) ∙ ap (λ t. take (authority_len t) t) behind ∙ take_at a tail (authority_len (a ++ tail)) (sym authority_ends) in
      let same_tail : g.tail ≡ tail = append_cancel_left a g.tail tail (ap (λ t. t ++ g.tail) (sym authority) ∙ behind) in
      (ap Some (g.normal ∙ ap normal_scheme name ∙ lasts), ap Some authority, tail_kept g.tail k₂ same_tail g.is_tail)

-- ---- every form

-- the path that a URI shows, by its parts
abbrev pub path_by : Option (List ℕ) → List ℕ → List ℕ
path_by scheme k = cond (not (length k == 0) || is_some scheme) (path_of k) []

-- what stands before the query
abbrev pub front : Option (List ℕ) → Option (List ℕ) → List ℕ → List ℕ
front scheme authority k = scheme_text scheme ++ unwrap_or authority [] ++ path_by scheme k

shown : (s : Option (List ℕ)) (k : List ℕ) → 0 < length k → path_by s k ≡ path_of k
shown s k some = ap (λ b. cond (not b || is_some s) (path_of k) []) (ne_eqb (length k) 0 (λ e. omega (arith, e, some)))

shown_behind : (s k : List ℕ) → path_by (Some s) k ≡ path_of k
shown_behind s k = cond-true _ _ _ (or_right (not (length k == 0)) true refl)

-- what a form keeps has no fragment
pub data_plain : (text : List ℕ) (s a : Option (List ℕ)) (k : List ℕ) → IsForm text s a k → All (λ b. b ≢ 35) k
data_plain text None None k h = subst (All (λ b. b ≢ 35)) (sym h.1) (kept_plain text)
data_plain text None (Some a) k h = subst (All (λ b. b ≢ 35)) (sym h.3) (All-nil (λ b. b ≢ 35))
data_plain text (Some s) None k h = absurd h
data_plain text (Some s) (Some a) k h =
    elim h.is_tail [
      | inl none ↦ subst (All (λ b. b ≢ 35)) (sym none.1) (All-cons (λ b. b ≢ 35) 47 [] (omega arith) (All-nil (λ b. b ≢ 35)))
      | inr some ↦ subst (All (λ b. b ≢ 35)) (sym some.2) (kept_plain h.tail)
    ]

-- so its query has none
pub query_plain : (k : List ℕ) → All (λ b. b ≢ 35) k → Throughout (λ b. b ≢ 35) (query_of k)
query_plain k all = by (nat_lt (index_of 63 k) (length k))
  where
    by : (t : Bool) → Throughout (λ b. b ≢ 35) (cond t (Some (drop (index_of 63 k + 1) k)) None)
    by true = All-drop (λ b. b ≢ 35) (index_of 63 k + 1) k all
    by false = tt

some_byte : (k : List ℕ) → 0 < get_or k 0 0 → 0 < length k
some_byte [] h = absurd (omega (arith, h))
some_byte (b ∷ k) h = omega arith

origin_kept : (text : List ℕ) → StartsOrigin text → 0 < length (without_fragment text)
origin_kept text (inl star) = subst (λ t. 0 < length (without_fragment t)) (sym star) (omega arith)
origin_kept text (inr slash) =
    let past = index_of_at_least 35 text 1 (some_byte text (omega (arith, slash))) (λ j h. let first : j ≡ 0 = omega (arith, h) in subst (λ i. get_or text i 0 ≢ 35) (sym first) (λ e. omega (arith, e, slash))) in
    omega (arith, past, length-take-le (index_of 35 text) text (index_of_le 35 text))

origin_path : (text : List ℕ) → StartsOrigin text → (get_or (path_of (without_fragment text)) 0 0 ≡ 47) ⊎ (path_of (without_fragment text) ≡ 42 ∷ [])
origin_path text (inl star) = inr (ap (λ t. path_of (without_fragment t)) star)
origin_path text (inr slash) = elim (path_first text) [ inl first ↦ inl first | inr same ↦ inl (same.0 ∙ slash) ]

delimiter_plain : (b : ℕ) → is_delimiter b ≡ true → IsPlain b → b ≡ 47
delimiter_plain b mark plain = by (b == 47) refl
  where
    by : (t : Bool) → (b == 47) ≡ t → b ≡ 47
    by true e = eqb-true b 47 e
    by false e = absurd (never (sym mark ∙ ap (λ x. (x || (b == 63)) || (b == 35)) e ∙ ap (λ x. x || (b == 35)) (ne_eqb b 63 plain.0) ∙ ne_eqb b 35 plain.1))
      where
        never : true ≡ false → ⊥
        never e = cc

tail_path : (t k : List ℕ) → IsTail t k → get_or (path_of k) 0 0 ≡ 47
tail_path t k (inl none) = ap (λ l. get_or (path_of l) 0 0) none.1
tail_path t k (inr some) =
    ap (λ l. get_or (path_of l) 0 0) some.2
    ∙ elim (path_first t) [ inl first ↦ first | inr same ↦ same.0 ∙ delimiter_plain (get_or t 0 0) some.0 same.1 ]

pub same_parts : (text : List ℕ) (s a : Option (List ℕ)) (k : List ℕ) → IsForm text s a k → (q : List ℕ) → All (λ b. b ≢ 35) q → (s₂ a₂ : Option (List ℕ)) (k₂ : List ℕ) → IsForm (front s a k ++ 63 ∷ q) s₂ a₂ k₂ → (s₂ ≡ s) × (a₂ ≡ a) × (path_by s₂ k₂ ≡ path_by s k) × (query_of k₂ ≡ Some q)
same_parts text None None k h q rest s₂ a₂ k₂ g =
    let some : 0 < length k = subst (λ l. 0 < length l) (sym h.1) (origin_kept text h.0.0) in
    let p = path_of k in
    let seen : path_by None k ≡ p = shown None k some in
    let plain : All IsPlain p = path_plain k (data_plain text None None k h) in
    let start : (get_or p 0 0 ≡ 47) ⊎ (p ≡ 42 ∷ []) = subst (λ l. (get_or (path_of l) 0 0 ≡ 47) ⊎ (path_of l ≡ 42 ∷ [])) (sym h.1) (origin_path text h.0.0) in
    let same = origin_same p q (path_nonempty k) plain start rest s₂ a₂ k₂ (subst (λ t. IsForm (t ++ 63 ∷ q) s₂ a₂ k₂) seen g) in (
      same.0,
      same.1,
      (λ i. path_by (same.0 i) (same.2 i)) ∙ shown None (p ++ 63 ∷ q) (omega (arith, length-append p (63 ∷ q))) ∙ path_back p q (path_nonempty k) plain ∙ sym seen,
      ap query_of same.2 ∙ query_back p q plain,
    )
same_parts text None (Some a) k h q rest s₂ a₂ k₂ g =
    let bare : front None (Some a) k ≡ a = ap (λ l. a ++ path_by None l) h.3 ∙ append-nil a in
    let valid : IsAuthority a = subst IsAuthority (sym h.2) h.0 in
    absurd (authority_none a q valid s₂ a₂ k₂ (subst (λ t. IsForm (t ++ 63 ∷ q) s₂ a₂ k₂) bare g))
same_parts text (Some s) None k h q rest s₂ a₂ k₂ g = absurd h
same_parts text (Some s) (Some a) k h q rest s₂ a₂ k₂ g =
    let p = path_of k in
    let scheme = normal h.name h.is_scheme in
    let named : IsScheme s = subst IsScheme (sym h.normal) scheme.0 in
    let lasts : normal_scheme s ≡ s = ap normal_scheme h.normal ∙ scheme.1 ∙ sym h.normal in
    let seen : path_by (Some s) k ≡ p = shown_behind s k in
    let plain : All IsPlain p = path_plain k (data_plain text (Some s) (Some a) k h) in
    let grouped : front (Some s) (Some a) k ++ 63 ∷ q ≡ s ++ 58 ∷ 47 ∷ 47 ∷ (a ++ (p ++ 63 ∷ q)) =
    ap (λ l. (((s ++ 58 ∷ 47 ∷ 47 ∷ []) ++ a) ++ l) ++ 63 ∷ q) seen
    ∙ append_assoc ((s ++ 58 ∷ 47 ∷ 47 ∷ []) ++ a) p (63 ∷ q)
    ∙ append_assoc (s ++ 58 ∷ 47 ∷ 47 ∷ []) a (p ++ 63 ∷ q)
    ∙ append_assoc s (58 ∷ 47 ∷ 47 ∷ []) (a ++ (p ++ 63 ∷ q)) in
    let same = absolute_same s a p q named lasts h.is_authority (path_nonempty k) (tail_path h.tail k h.is_tail) plain rest s₂ a₂ k₂ (subst (λ t. IsForm t s₂ a₂ k₂) grouped g) in (
      same.0,
      same.1,
      (λ i. path_by (same.0 i) (same.2 i)) ∙ shown_behind s (p ++ 63 ∷ q) ∙ path_back p q (path_nonempty k) plain ∙ sym seen,
      ap query_of same.2 ∙ query_back p q plain,
    )

-- what the URI with another query is cut into
pub other_query : (text : List ℕ) (u v : Target) (q : List ℕ) → Spells text u → All (λ b. b ≢ 35) q → Spells (front (uri_scheme u) (uri_authority u) (uri_data u) ++ 63 ∷ q) v → HasOtherQuery u v q
other_query text u v q h rest g =
    let same = same_parts text (uri_scheme u) (uri_authority u) (uri_data u) h.1 q rest (uri_scheme v) (uri_authority v) (uri_data v) g.1 in
    record { same_scheme = same.0; same_authority = same.1; same_path = same.2; has_query = same.3 }

printed_by : (s a : Option (List ℕ)) (p q : List ℕ) → framed_text [] s (58 ∷ 47 ∷ 47 ∷ []) ++ framed_text [] a [] ++ p ++ framed_text (63 ∷ []) (Some q) [] ≡ scheme_text s ++ unwrap_or a [] ++ p ++ (63 ∷ []) ++ q
printed_by s a p q =
    (λ i. schemed s i ++ authorized a i ++ p ++ 63 ∷ append-nil q i)
    ∙ sym (append_assoc (scheme_text s ++ unwrap_or a [] ++ p) (63 ∷ []) q)
  where
    schemed : (s : Option (List ℕ)) → framed_text [] s (58 ∷ 47 ∷ 47 ∷ []) ≡ scheme_text s
    schemed None = refl
    schemed (Some s) = refl

    authorized : (a : Option (List ℕ)) → framed_text [] a [] ≡ unwrap_or a []
    authorized None = refl
    authorized (Some a) = append-nil a

-- what it prints
pub other_query_prints : (u v : Target) (q : List ℕ) → HasOtherQuery u v q → uri_text v ≡ scheme_text (uri_scheme u) ++ unwrap_or (uri_authority u) [] ++ uri_path u ++ (63 ∷ []) ++ q
other_query_prints u v q h =
    (λ i. framed_text [] (h.same_scheme i) (58 ∷ 47 ∷ 47 ∷ []) ++ framed_text [] (h.same_authority i) [] ++ h.same_path i ++ framed_text (63 ∷ []) (h.has_query i) [])
    ∙ printed_by (uri_scheme u) (uri_authority u) (uri_path u) q
