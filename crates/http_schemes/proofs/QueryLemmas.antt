-- Queries that are cut, joined, and cut again.
use Rattle.std.proofs.Common.{◌≡◌, ◌≢◌, ◌++◌, ◌∷◌, ◌<◌, ◌==◌, [], ℕ, not, length, List, All, Bool, true, false, cond, refl, sym, ap, ◌∙◌, subst, arith, append_assoc, append-nil, filter, flat_map, bytes_eq, Option, None, Some, length-append}
use Rattle.std.specs.List.{slice_split, onto_first, join_with_byte, before_first}
use Rattle.std.proofs.lemmas.Bool.{ne_eqb, cond-true, cond-false}
use Rattle.std.proofs.lemmas.Bool.Decides.{nat_tests}
use Rattle.std.proofs.lemmas.List.{take_at}
use Rattle.std.proofs.lemmas.List.Elements.{All-nil, All-cons, All-head, All-tail, All-append, All-weaker, All-get_or, All-filter, filter-append, filter_passes}
use Rattle.std.proofs.lemmas.List.Splits.{slice_split_none, slice_split_at}
use Rattle.std.proofs.lemmas.Slice.Eq.{bytes_eq-Decides}
use Rattle.percent_encoding.specs.Percent.{percent_encode_byte}
use Rattle.percent_encoding.proofs.PercentLemmas.{IsEscapeByte, All-percent_encode_byte}
use Rattle.http_uri.proofs.RunLemmas.{run-append}
use Rattle.http_schemes.specs.Encoding.{is_unreserved, encoded_byte, encoded}
use Rattle.http_schemes.specs.Query.{pieces, piece_name, other_pieces, kept_text, query_with}

-- the byte isn't in the text
abbrev pub Lacks : ℕ → List ℕ → Type 0
Lacks c bytes = All (λ b. (b == c) ≡ false) bytes

-- each piece and an `&`
abbrev pub ended : List (List ℕ) → List ℕ
ended ks = flat_map (λ k. k ++ 38 ∷ []) ks

-- ---- joined

join_further : (k : List ℕ) (ks : List (List ℕ)) (last : List ℕ) → join_with_byte 38 (k ∷ (ks ++ last ∷ [])) ≡ k ++ (38 ∷ join_with_byte 38 (ks ++ last ∷ []))
join_further k [] last = refl
join_further k (y ∷ ks) last = refl

regrouped : (k f last : List ℕ) → k ++ (38 ∷ (f ++ last)) ≡ ((k ++ 38 ∷ []) ++ f) ++ last
regrouped k f last = sym (append_assoc (k ++ 38 ∷ []) f last ∙ append_assoc k (38 ∷ []) (f ++ last))

pub joined : (ks : List (List ℕ)) (last : List ℕ) → join_with_byte 38 (ks ++ last ∷ []) ≡ ended ks ++ last
joined [] last = refl
joined (k ∷ ks) last = join_further k ks last ∙ ap (λ t. k ++ (38 ∷ t)) (joined ks last) ∙ regrouped k (ended ks) last

-- what is kept of the pieces, one after another
pub kept : (name : List ℕ) (ps : List (List ℕ)) → flat_map (kept_text name) ps ≡ ended (filter (λ p. not (bytes_eq (piece_name p) name)) ps)
kept name [] = refl
kept name (p ∷ ps) = by (not (bytes_eq (piece_name p) name)) (kept name ps)
  where
    by : (b : Bool) → flat_map (kept_text name) ps ≡ ended (filter (λ p. not (bytes_eq (piece_name p) name)) ps) → cond b (p ++ 38 ∷ []) [] ++ flat_map (kept_text name) ps ≡ ended (cond b (p ∷ filter (λ p. not (bytes_eq (piece_name p) name)) ps) (filter (λ p. not (bytes_eq (piece_name p) name)) ps))
    by true later = ap (λ t. (p ++ 38 ∷ []) ++ t) later
    by false later = later

-- what `push_query` writes, behind what stands
pub written : (before name value : List ℕ) (query : Option (List ℕ)) → ((before ++ flat_map (kept_text name) (pieces query)) ++ name ++ 61 ∷ []) ++ value ≡ before ++ query_with query name value
written before name value query =
    append_assoc ((before ++ flat_map (kept_text name) (pieces query)) ++ name) (61 ∷ []) value
    ∙ append_assoc (before ++ flat_map (kept_text name) (pieces query)) name ((61 ∷ []) ++ value)
    ∙ append_assoc before (flat_map (kept_text name) (pieces query)) (name ++ ((61 ∷ []) ++ value))
    ∙ ap (λ t. before ++ t) (
    ap (λ t. t ++ (name ++ ((61 ∷ []) ++ value))) (kept name (pieces query))
    ∙ ap (λ t. ended (other_pieces name query) ++ t) (sym (append_assoc name (61 ∷ []) value))
    ∙ sym (joined (other_pieces name query) ((name ++ 61 ∷ []) ++ value)))

-- ---- cut again

pub split_joined : (ks : List (List ℕ)) (last : List ℕ) → All (Lacks 38) ks → Lacks 38 last → slice_split (λ b. b == 38) (ended ks ++ last) ≡ ks ++ last ∷ []
split_joined [] last all lacks = slice_split_none (λ b. b == 38) last lacks
split_joined (k ∷ ks) last all lacks =
    ap (slice_split (λ b. b == 38)) (sym (regrouped k (ended ks) last))
    ∙ slice_split_at (λ b. b == 38) k 38 (ended ks ++ last) (All-head (Lacks 38) k ks all) refl
    ∙ ap (λ l. k ∷ l) (split_joined ks last (All-tail (Lacks 38) k ks all) lacks)

onto_lacks : (b : ℕ) (parts : List (List ℕ)) → (b == 38) ≡ false → All (Lacks 38) parts → All (Lacks 38) (onto_first b parts)
onto_lacks b [] e all = All-cons (Lacks 38) (b ∷ []) [] (All-cons (λ x. (x == 38) ≡ false) b [] e (All-nil (λ x. (x == 38) ≡ false))) (All-nil (Lacks 38))
onto_lacks b (part ∷ parts) e all =
    All-cons (Lacks 38) (b ∷ part) parts (All-cons (λ x. (x == 38) ≡ false) b part e (All-head (Lacks 38) part parts all)) (All-tail (Lacks 38) part parts all)

-- no piece has an `&`
pub parts_lack : (bytes : List ℕ) → All (Lacks 38) (slice_split (λ b. b == 38) bytes)
parts_lack [] = All-cons (Lacks 38) [] [] (All-nil (λ x. (x == 38) ≡ false)) (All-nil (Lacks 38))
parts_lack (b ∷ bytes) = by (b == 38) refl (parts_lack bytes)
  where
    by : (t : Bool) → (b == 38) ≡ t → All (Lacks 38) (slice_split (λ b. b == 38) bytes) → All (Lacks 38) (cond t ([] ∷ slice_split (λ b. b == 38) bytes) (onto_first b (slice_split (λ b. b == 38) bytes)))
    by true e later = All-cons (Lacks 38) [] (slice_split (λ b. b == 38) bytes) (All-nil (λ x. (x == 38) ≡ false)) later
    by false e later = onto_lacks b (slice_split (λ b. b == 38) bytes) e later

-- what holds of each byte holds of those of each piece
onto_all : (P : ℕ → Type 0) (b : ℕ) (parts : List (List ℕ)) → P b → All (All P) parts → All (All P) (onto_first b parts)
onto_all P b [] e all = All-cons (All P) (b ∷ []) [] (All-cons P b [] e (All-nil P)) (All-nil (All P))
onto_all P b (part ∷ parts) e all = All-cons (All P) (b ∷ part) parts (All-cons P b part e (All-head (All P) part parts all)) (All-tail (All P) part parts all)

pub parts_all : (P : ℕ → Type 0) (bytes : List ℕ) → All P bytes → All (All P) (slice_split (λ b. b == 38) bytes)
parts_all P [] all = All-cons (All P) [] [] (All-nil P) (All-nil (All P))
parts_all P (b ∷ bytes) all = by (b == 38) (All-head P b bytes all) (parts_all P bytes (All-tail P b bytes all))
  where
    by : (t : Bool) → P b → All (All P) (slice_split (λ b. b == 38) bytes) → All (All P) (cond t ([] ∷ slice_split (λ b. b == 38) bytes) (onto_first b (slice_split (λ b. b == 38) bytes)))
    by true e later = All-cons (All P) [] (slice_split (λ b. b == 38) bytes) (All-nil P) later
    by false e later = onto_all P b (slice_split (λ b. b == 38) bytes) e later

pieces_lack : (query : Option (List ℕ)) → All (Lacks 38) (pieces query)
pieces_lack None = All-nil (Lacks 38)
pieces_lack (Some query) = by (length query == 0)
  where
    by : (t : Bool) → All (Lacks 38) (cond t [] (slice_split (λ b. b == 38) query))
    by true = All-nil (Lacks 38)
    by false = parts_lack query

-- what holds of each byte of the query, if there is one
abbrev pub Throughout : (ℕ → Type 0) → Option (List ℕ) → Type 0
Throughout P None = Unit {0}
Throughout P (Some query) = All P query

pieces_all : (P : ℕ → Type 0) (query : Option (List ℕ)) → Throughout P query → All (All P) (pieces query)
pieces_all P None all = All-nil (All P)
pieces_all P (Some query) all = by (length query == 0)
  where
    by : (t : Bool) → All (All P) (cond t [] (slice_split (λ b. b == 38) query))
    by true = All-nil (All P)
    by false = parts_all P query all

ended_all : (P : ℕ → Type 0) → P 38 → (ks : List (List ℕ)) → All (All P) ks → All P (ended ks)
ended_all P mark [] all = All-nil P
ended_all P mark (k ∷ ks) all =
    All-append P (k ++ 38 ∷ []) (ended ks) (All-append P k (38 ∷ []) (All-head (All P) k ks all) (All-cons P 38 [] mark (All-nil P))) (ended_all P mark ks (All-tail (All P) k ks all))

-- what holds of each byte of the old query, of the name, of the value and of both marks holds of each of the new query
pub query_all : (P : ℕ → Type 0) → P 38 → P 61 → (query : Option (List ℕ)) (name value : List ℕ) → Throughout P query → All P name → All P value → All P (query_with query name value)
query_all P amp equals query name value old named valued =
    let ks = other_pieces name query in
    let last = (name ++ 61 ∷ []) ++ value in
    subst (All P) (sym (joined ks last))
    (All-append P (ended ks) last (ended_all P amp ks (All-filter (λ p. not (bytes_eq (piece_name p) name)) (All P) (pieces query) (pieces_all P query old)))
    (All-append P (name ++ 61 ∷ []) value (All-append P name (61 ∷ []) named (All-cons P 61 [] equals (All-nil P))) valued))

-- ---- the name's own piece

pub named : (name value : List ℕ) → Lacks 61 name → piece_name ((name ++ 61 ∷ []) ++ value) ≡ name
named name value lacks =
    let whole = append_assoc name (61 ∷ []) value in
    ap (before_first (λ b. b == 61)) whole
    ∙ take_at name (61 ∷ value) _ (sym (run-append (λ b. not (b == 61)) name (61 ∷ value) (λ k h. ap not (All-get_or (λ b. (b == 61) ≡ false) name k 0 h lacks)) (λ _. refl)))

filter_whole : (f : List ℕ → Bool) (ks : List (List ℕ)) → All (λ k. f k ≡ true) ks → filter f ks ≡ ks
filter_whole f [] all = refl
filter_whole f (k ∷ ks) all =
    cond-true _ _ _ (All-head (λ k. f k ≡ true) k ks all) ∙ ap (λ l. k ∷ l) (filter_whole f ks (All-tail (λ k. f k ≡ true) k ks all))

cut_again : (ks : List (List ℕ)) (last : List ℕ) → 0 < length last → All (Lacks 38) ks → Lacks 38 last → pieces (Some (ended ks ++ last)) ≡ ks ++ last ∷ []
cut_again ks last some all lacks =
    cond-false _ _ _ (ne_eqb (length (ended ks ++ last)) 0 (λ e. omega (arith, length-append (ended ks) last))) ∙ split_joined ks last all lacks

-- a key that is set twice is set once
pub set_twice : (query : Option (List ℕ)) (name value : List ℕ) → Lacks 38 name → Lacks 61 name → Lacks 38 value → query_with (Some (query_with query name value)) name value ≡ query_with query name value
set_twice query name value no_amp no_equals plain =
    let f : List ℕ → Bool = λ p. not (bytes_eq (piece_name p) name) in
    let ks = other_pieces name query in
    let last = (name ++ 61 ∷ []) ++ value in
    let long : 0 < length last = omega (arith, length-append (name ++ 61 ∷ []) value, length-append name (61 ∷ [])) in
    let lacks : Lacks 38 last = All-append (λ b. (b == 38) ≡ false) (name ++ 61 ∷ []) value (All-append (λ b. (b == 38) ≡ false) name (61 ∷ []) no_amp (All-cons (λ b. (b == 38) ≡ false) 61 [] refl (All-nil (λ b. (b == 38) ≡ false)))) plain in
    let all : All (Lacks 38) ks = All-filter f (Lacks 38) (pieces query) (pieces_lack query) in
    let again : pieces (Some (query_with query name value)) ≡ ks ++ last ∷ [] = ap (λ t. pieces (Some t)) (joined ks last) ∙ cut_again ks last long all lacks in
    let own : filter f (last ∷ []) ≡ [] = cond-false _ _ _ (ap not ((bytes_eq-Decides (piece_name last) name).1 (named name value no_equals))) in
    let others : filter f (ks ++ last ∷ []) ≡ ks =
    filter-append f ks (last ∷ []) ∙ ap (λ l. filter f ks ++ l) own ∙ append-nil (filter f ks) ∙ filter_whole f ks (filter_passes f (pieces query)) in
    ap (λ l. join_with_byte 38 (l ++ last ∷ [])) (ap (filter f) again ∙ others)

-- ---- spelled texts

-- what holds of unreserved bytes and of those of an escape holds of each byte of a spelled text
pub encoded_all : (P : ℕ → Type 0) → ((b : ℕ) → is_unreserved b ≡ true → P b) → ((b : ℕ) → IsEscapeByte b → P b) → (bytes : List ℕ) → All P (encoded bytes)
encoded_all P plain escape [] = All-nil P
encoded_all P plain escape (b ∷ bytes) = All-append P (encoded_byte b) (encoded bytes) (by (is_unreserved b) refl) (encoded_all P plain escape bytes)
  where
    by : (t : Bool) → is_unreserved b ≡ t → All P (cond t (b ∷ []) (percent_encode_byte b))
    by true e = All-cons P b [] (plain b e) (All-nil P)
    by false e = All-weaker IsEscapeByte P escape (percent_encode_byte b) (All-percent_encode_byte b)

unreserved_plain : (b : ℕ) → is_unreserved b ≡ true → (b ≢ 35) × ((b == 38) ≡ false) × ((b == 61) ≡ false)
unreserved_plain b e = grind (arith, nat_tests)

escape_plain : (b : ℕ) → IsEscapeByte b → (b ≢ 35) × ((b == 38) ≡ false) × ((b == 61) ≡ false)
escape_plain b h = grind (arith, nat_tests)

pub encoded_lacks_amp : (bytes : List ℕ) → Lacks 38 (encoded bytes)
encoded_lacks_amp = encoded_all (λ b. (b == 38) ≡ false) (λ b e. (unreserved_plain b e).1) (λ b h. (escape_plain b h).1)

pub encoded_lacks_equals : (bytes : List ℕ) → Lacks 61 (encoded bytes)
encoded_lacks_equals = encoded_all (λ b. (b == 61) ≡ false) (λ b e. (unreserved_plain b e).2) (λ b h. (escape_plain b h).2)

pub encoded_no_hash : (bytes : List ℕ) → All (λ b. b ≢ 35) (encoded bytes)
encoded_no_hash = encoded_all (λ b. b ≢ 35) (λ b e. (unreserved_plain b e).0) (λ b h. (escape_plain b h).0)
