-- A URI with another query is cut as it was, but for its query.
use Rattle.std.proofs.Common.{◌≡◌, ◌≢◌, ◌++◌, ◌∷◌, ◌-◌, ◌<◌, ◌==◌, ◌⊎◌, [], ℕ, not, length, take, drop, get_or, List, All, refl, sym, ap, ◌∙◌, subst, arith, inl, inr, Some, take_all, take_at, drop_at, drop-drop, length-append, length-take-le, get_or-take, lt-ltb}
use Rattle.std.proofs.lemmas.Bool.{ne_eqb, cond-true, cond-false}
use Rattle.std.proofs.lemmas.List.{get_or-append_right}
use Rattle.std.proofs.lemmas.List.Elements.{All-nil, All-cons, All-append, All-get_or, All-from_get_or}
use Rattle.http_uri.specs.ByteClasses.{index_of, split_once_front}
use Rattle.http_uri.specs.Grammar.{IsAuthority, without_fragment, or_slash, path_of, query_of}
use Rattle.http_uri.proofs.RunLemmas.{run-append, index_of_at_least, index_of_before, index_of_le}
use Rattle.http_uri.proofs.AuthorityLemmas.{IsAuthority_no_delimiter}

-- the byte is neither the query's mark nor the fragment's
abbrev pub IsPlain : ℕ → Type 0
IsPlain b = (b ≢ 63) × (b ≢ 35)

-- ---- the fragment

-- a text without the fragment's mark is kept whole
pub whole : (text : List ℕ) → All (λ b. b ≢ 35) text → without_fragment text ≡ text
whole text all =
    take_all _ text (omega (arith, index_of_at_least 35 text (length text) (omega arith) (λ k h. All-get_or (λ b. b ≢ 35) text k 0 h all)))

-- what is kept hasn't the mark
pub kept_plain : (text : List ℕ) → All (λ b. b ≢ 35) (without_fragment text)
kept_plain text =
    let e = index_of 35 text in
    let len = length-take-le e text (index_of_le 35 text) in
    All-from_get_or (λ b. b ≢ 35) (take e text) 0 (λ k h. rw (get_or-take e text k 0 (omega (arith, len, h))) (index_of_before 35 text k (omega (arith, len, h))))

-- ---- the path

or_slash_some : (p : List ℕ) → 0 < length p → or_slash p ≡ p
or_slash_some p some = cond-false _ _ _ (ne_eqb (length p) 0 (λ e. omega (arith, e, some)))

or_slash_plain : (p : List ℕ) → All IsPlain p → All IsPlain (or_slash p)
or_slash_plain [] all = All-cons IsPlain 47 [] ((omega arith), (omega arith)) (All-nil IsPlain)
or_slash_plain (b ∷ p) all = subst (All IsPlain) (sym (or_slash_some (b ∷ p) (omega arith))) all

-- a path has neither mark
pub path_plain : (k : List ℕ) → All (λ b. b ≢ 35) k → All IsPlain (path_of k)
path_plain k all =
    let i = index_of 63 k in
    let len = length-take-le i k (index_of_le 63 k) in
    or_slash_plain (take i k)
    (All-from_get_or IsPlain (take i k) 0 (λ j h. rw (get_or-take i k j 0 (omega (arith, len, h))) (index_of_before 63 k j (omega (arith, len, h)), All-get_or (λ b. b ≢ 35) k j 0 (omega (arith, len, h, index_of_le 63 k)) all)))

or_slash_first : (p : List ℕ) → ((p ≡ []) × (get_or (or_slash p) 0 0 ≡ 47)) ⊎ ((0 < length p) × (get_or (or_slash p) 0 0 ≡ get_or p 0 0))
or_slash_first [] = inl (refl, refl)
or_slash_first (b ∷ p) = inr (omega arith, ap (λ t. get_or t 0 0) (or_slash_some (b ∷ p) (omega arith)))

-- a path begins with a slash, or as the text does
pub path_first : (text : List ℕ) → (get_or (path_of (without_fragment text)) 0 0 ≡ 47) ⊎ ((get_or (path_of (without_fragment text)) 0 0 ≡ get_or text 0 0) × IsPlain (get_or text 0 0))
path_first text =
    let e = index_of 35 text in
    let k = take e text in
    let i = index_of 63 k in
    let len = length-take-le e text (index_of_le 35 text) in
    let within = length-take-le i k (index_of_le 63 k) in
    elim (or_slash_first (take i k)) [
      | inl none ↦ inl none.1
      | inr some ↦
          let before : 0 < i = omega (arith, within, some.0) in
          let ahead : 0 < e = omega (arith, len, index_of_le 63 k, before) in
          let same : get_or k 0 0 ≡ get_or text 0 0 = get_or-take e text 0 0 ahead in
          inr (some.1 ∙ get_or-take i k 0 0 before ∙ same, (subst (λ n. n ≢ 63) same (index_of_before 63 k 0 before), index_of_before 35 text 0 ahead))
    ]

or_slash_nonempty : (p : List ℕ) → 0 < length (or_slash p)
or_slash_nonempty [] = omega arith
or_slash_nonempty (b ∷ p) = subst (λ t. 0 < length t) (sym (or_slash_some (b ∷ p) (omega arith))) (omega arith)

pub path_nonempty : (k : List ℕ) → 0 < length (path_of k)
path_nonempty k = or_slash_nonempty (split_once_front 63 k)

-- ---- a path and a query behind it

-- where the query's mark stands
mark_at : (p q : List ℕ) → All IsPlain p → index_of 63 (p ++ 63 ∷ q) ≡ length p
mark_at p q all =
    run-append (λ b. not (b == 63)) p (63 ∷ q) (λ k h. ap not (ne_eqb (get_or p k 0) 63 (All-get_or IsPlain p k 0 h all).0)) (λ _. refl)

pub path_back : (p q : List ℕ) → 0 < length p → All IsPlain p → path_of (p ++ 63 ∷ q) ≡ p
path_back p q some all = ap or_slash (take_at p (63 ∷ q) _ (sym (mark_at p q all))) ∙ or_slash_some p some

pub query_back : (p q : List ℕ) → All IsPlain p → query_of (p ++ 63 ∷ q) ≡ Some q
query_back p q all =
    let at = mark_at p q all in
    let len = length-append p (63 ∷ q) in
    cond-true _ _ _ (lt-ltb (index_of 63 (p ++ 63 ∷ q)) (length (p ++ 63 ∷ q)) (omega (arith, at, len)))
    ∙ ap Some (sym (drop-drop 1 (index_of 63 (p ++ 63 ∷ q)) (p ++ 63 ∷ q)) ∙ ap (drop 1) (drop_at p (63 ∷ q) _ (sym at)))

pub tail_plain : (p q : List ℕ) → All IsPlain p → All (λ b. b ≢ 35) q → All (λ b. b ≢ 35) (p ++ 63 ∷ q)
tail_plain p q all rest =
    All-append (λ b. b ≢ 35) p (63 ∷ q) (All-from_get_or (λ b. b ≢ 35) p 0 (λ k h. (All-get_or IsPlain p k 0 h all).1)) (All-cons (λ b. b ≢ 35) 63 q (omega arith) rest)

-- the byte behind the front
pub at_mark : (p q : List ℕ) → get_or (p ++ 63 ∷ q) (length p) 0 ≡ 63
at_mark p q = get_or-append_right p (63 ∷ q) (length p) (length p) 0 refl (omega arith) ∙ ap (λ n. get_or (63 ∷ q) n 0) (nothing (length p))
  where
    nothing : (n : ℕ) → n - n ≡ 0
    nothing n = omega arith

-- a text with the query's mark is no authority
pub no_authority : (p q : List ℕ) → ¬ (IsAuthority (p ++ 63 ∷ q))
no_authority p q h =
    let plain = rw (at_mark p q) at (IsAuthority_no_delimiter (p ++ 63 ∷ q) h (length p) (omega (arith, length-append p (63 ∷ q)))) in
    cc
