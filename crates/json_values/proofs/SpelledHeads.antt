-- Payloads, heads and bodies that are read can be spelled.
use Rattle.std.proofs.Common.{if◌then◌else◌, ◌≡◌, ℕ, ◌+◌, ◌≤◌, ◌^◌, List, [], ◌∷◌, ◌++◌, map, length, take, Bool, true, false, ◌||◌, not, nat_le, nat_lt, nat_eq, Some, None, refl, arith, ap, sym, subst, ◌∙◌, length-append, codes}
use Rattle.std.proofs.lemmas.Bool.{and_parts, and_from, or_parts, or_from, not_from_false, le-leb, lt-ltb}
use Rattle.std.proofs.lemmas.List.{length-map, length-take}
use Rattle.std.proofs.lemmas.List.Folds.{list_all-append, list_any-append}
use Rattle.std.proofs.lemmas.Slice.Eq.{bytes_eq-Decides}
use Rattle.std.specs.Cmp.Lexicographic.{pointwise}
use Rattle.std.specs.List.{list_all, list_any}
use Rattle.std.specs.Prelude.{bytes_eq}
use Rattle.std.specs.Char.{to_ascii_lowercase}
use Rattle.http_header.proofs.TokenLemmas.{is_token_byte-to_ascii_lowercase, lowercase-lowercase_lem}
use Rattle.http_header.specs.FieldValue.{FieldValue, plain_value}
use Rattle.http_header.specs.HeaderMap.{update, append, append_all, entry_pairs, pairs}
use Rattle.http_header.specs.Token.{is_token_byte, is_value_byte, lowercase}
use Rattle.serde_json.specs.Data.{Data, null, boolean, number, string, array, object}
use Rattle.serde_json.specs.Find.{as_str, as_array}
use Rattle.smithy_types.specs.HeaderList.{HeaderList}
use Rattle.json_forms.specs.Forms.{starts, tagged_at, blob_at}
use Rattle.json_forms.specs.Lists.{list_of, fresh}
use Rattle.json_forms.specs.Plain.{number_below, pair_at, triple_at, quadruple_at}
use Rattle.json_forms.specs.Reading.{◌>>=◌}
use Rattle.json_values.specs.Readings.{payload_at, Header, is_field_name, field_name, field_value, header_at, headers_at, sent_at, body_at, request_at, response_at}
use Rattle.json_values.specs.Spellable.{is_u16, is_u32, bytes_spellable, payload_spellable, header_spellable, has_values, names_in, headers_spellable, body_spellable, request_spellable, response_spellable}
use Rattle.json_values.proofs.PrintedForms.{three_parts}
use Rattle.json_values.proofs.PrintedHeads.{other_name, added, names_in-push}
use Rattle.json_values.proofs.SpelledForms.{Holds, step, past, either, either_by, weaker, three_from, four_from, take_passes, OfBytes, array_of_bytes, pair_of_bytes, triple_of_bytes, quadruple_of_bytes, tagged_holds, number_within, blob_spelled, list_spelled}

pub payload_spelled : (d : Data) → OfBytes d → Holds (λ p. payload_spellable p ≡ true) (payload_at d)
unfolding payload_at Holds payload_spellable
payload_spelled d h =
    step _ _ (pair_at d) _ (pair_of_bytes d h) (λ p hp.
    step _ _ (number_below (2 ^ 32) p.0) _ (number_within (2 ^ 32) p.0) (λ k hk.
    step _ _ (blob_at p.1) _ (blob_spelled p.1 hp.1) (λ b hb. and_from (is_u32 k) (bytes_spellable b) hk hb)))

-- ---- one header

tokens_lower : (s : List ℕ) → list_all is_token_byte s ≡ true → list_all is_token_byte (lowercase s) ≡ true
tokens_lower [] h = refl
tokens_lower (b ∷ s) h =
    let parts = and_parts (is_token_byte b) (list_all is_token_byte s) h in
    and_from (is_token_byte (to_ascii_lowercase b)) (list_all is_token_byte (lowercase s)) (is_token_byte-to_ascii_lowercase b parts.0) (tokens_lower s parts.1)

lower_name : (s : List ℕ) → is_field_name s ≡ true → is_field_name (lowercase s) ≡ true
unfolding is_field_name
lower_name s h =
    let parts = three_parts (nat_lt 0 (length s)) (nat_le (length s) 65535) (list_all is_token_byte s) h in
    three_from (nat_lt 0 (length (lowercase s))) (nat_le (length (lowercase s)) 65535) (list_all is_token_byte (lowercase s))
    (ap (λ (n : ℕ). nat_lt 0 n) (length-map s to_ascii_lowercase) ∙ parts.0)
    (ap (λ (n : ℕ). nat_le n 65535) (length-map s to_ascii_lowercase) ∙ parts.1)
    (tokens_lower s parts.2)

-- a name as it is kept
abbrev is_kept : List ℕ → Type 0
is_kept n = (is_field_name n ≡ true) × (bytes_eq (lowercase n) n ≡ true)

name_kept : (s : List ℕ) → Holds is_kept (field_name s)
unfolding field_name Holds
name_kept s = either_by is_kept (is_field_name s) (Some (lowercase s)) None
    (λ e. (lower_name s e, (bytes_eq-Decides (lowercase (lowercase s)) (lowercase s)).1 (lowercase-lowercase_lem s))) (λ _. tt)

-- a value as it is kept
abbrev is_plain : List ℕ → FieldValue → Type 0
is_plain bytes v = (list_all is_value_byte bytes ≡ true) × (plain_value bytes ≡ v)

value_kept : (bytes : List ℕ) → Holds (is_plain bytes) (field_value bytes)
unfolding field_value Holds
value_kept bytes = either_by (is_plain bytes) (list_all is_value_byte bytes) (Some (plain_value bytes)) None (λ e. (e, refl)) (λ _. tt)

header_parts : (n bytes : List ℕ) → is_kept n → list_all is_value_byte bytes ≡ true → bytes_spellable bytes ≡ true → header_spellable (n, plain_value bytes) ≡ true
unfolding header_spellable
header_parts n bytes k v b = rw (k.0, k.1, v, b) refl

value_spelled : (d : Data) → OfBytes d → Holds (λ v. (n : List ℕ) → is_kept n → header_spellable (n, v) ≡ true) (blob_at d >>= field_value)
value_spelled d h =
    step (λ b. bytes_spellable b ≡ true) _ (blob_at d) field_value (blob_spelled d h) (λ b hb.
    weaker (is_plain b) _ (field_value b) (value_kept b) (λ v hv n k. subst (λ (w : FieldValue). header_spellable (n, w) ≡ true) hv.1 (header_parts n b k hv.0 hb)))

pub header_spelled : (d : Data) → OfBytes d → Holds (λ h. header_spellable h ≡ true) (header_at d)
unfolding header_at Holds
header_spelled d h =
    step _ _ (pair_at d) _ (pair_of_bytes d h) (λ p hp.
    step is_kept _ (as_str p.0 >>= field_name) _ (past is_kept (as_str p.0) field_name name_kept) (λ n k.
    step _ _ (blob_at p.1 >>= field_value) _ (value_spelled p.1 hp.1) (λ v t. t n k)))

-- ---- headers under their names

fresh-push : (before ns : List (List ℕ)) (n : List ℕ) → fresh before ns ≡ true → list_any (pointwise nat_eq n) before ≡ false → list_any (pointwise nat_eq n) ns ≡ false → fresh before (ns ++ n ∷ []) ≡ true
fresh-push before [] n f b a = and_from (not (list_any (pointwise nat_eq n) before)) true (not_from_false _ b) refl
fresh-push before (m ∷ ns) n f b a =
    let parts = and_parts (not (list_any (pointwise nat_eq m) before)) (fresh (before ++ m ∷ []) ns) f in
    let others = or_parts (pointwise nat_eq n m) (list_any (pointwise nat_eq n) ns) a in
    and_from (not (list_any (pointwise nat_eq m) before)) (fresh (before ++ m ∷ []) (ns ++ n ∷ [])) parts.0
    (fresh-push (before ++ m ∷ []) ns n parts.1
    (list_any-append (pointwise nat_eq n) before (m ∷ []) ∙ or_from (list_any (pointwise nat_eq n) before) (pointwise nat_eq n m || false) b (or_from (pointwise nat_eq n m) false others.0 refl))
    others.1)

-- the name stands further on
further : (a n : List ℕ) (later : Bool) → bytes_eq a n ≡ false → (pointwise nat_eq n a || later) ≡ true → later ≡ true
further a n later t h = subst (λ (b : Bool). (b || later) ≡ true) (other_name a n t) h

-- the names stay where one of them is this one
names_stay : (m : HeaderList) (n : List ℕ) (f : List FieldValue → List FieldValue) → list_any (pointwise nat_eq n) (names_in m) ≡ true → names_in (update m n f) ≡ names_in m
names_stay [] n f h = absurd (cc)
names_stay (e ∷ m) n f h = by_name (bytes_eq e.0 n) refl (λ t. names_stay m n f (further e.0 n (list_any (pointwise nat_eq n) (names_in m)) t h))
  where
    by_name : (b : Bool) → bytes_eq e.0 n ≡ b → (bytes_eq e.0 n ≡ false → names_in (update m n f) ≡ names_in m) → names_in (if bytes_eq e.0 n then (e.0, f e.1) ∷ m else e ∷ update m n f) ≡ e.0 ∷ names_in m
    by_name true t k = rw t refl
    by_name false t k = rw t (ap (λ (l : List (List ℕ)). e.0 ∷ l) (k t))

names_differ : (m : HeaderList) (n : List ℕ) (v : FieldValue) → fresh [] (names_in m) ≡ true → fresh [] (names_in (append m n v)) ≡ true
names_differ m n v h = by_name (list_any (pointwise nat_eq n) (names_in m)) refl
  where
    by_name : (b : Bool) → list_any (pointwise nat_eq n) (names_in m) ≡ b → fresh [] (names_in (append m n v)) ≡ true
    by_name true t = ap (fresh []) (names_stay m n (λ l. l ++ v ∷ []) t) ∙ h
    by_name false t =
        ap (λ (l : HeaderList). fresh [] (names_in l)) (added m n (λ l. l ++ v ∷ []) t)
        ∙ ap (fresh []) (names_in-push m n (v ∷ []))
        ∙ fresh-push [] (names_in m) n h refl t

longer : (vs : List FieldValue) (v : FieldValue) → nat_lt 0 (length (vs ++ v ∷ [])) ≡ true
longer vs v = lt-ltb 0 (length (vs ++ v ∷ [])) (omega (arith, length-append vs (v ∷ [])))

still_filled : (m : HeaderList) (n : List ℕ) (v : FieldValue) → list_all has_values m ≡ true → list_all has_values (append m n v) ≡ true
still_filled [] n v h = refl
still_filled (e ∷ m) n v h = by_name (bytes_eq e.0 n) refl (still_filled m n v parts.1)
  where
    parts : (has_values e ≡ true) × (list_all has_values m ≡ true)
    parts = and_parts (has_values e) (list_all has_values m) h

    by_name : (b : Bool) → bytes_eq e.0 n ≡ b → list_all has_values (append m n v) ≡ true → list_all has_values (if bytes_eq e.0 n then (e.0, e.1 ++ v ∷ []) ∷ m else e ∷ append m n v) ≡ true
    by_name true t k = rw t (and_from (has_values (e.0, e.1 ++ v ∷ [])) (list_all has_values m) (longer e.1 v) parts.1)
    by_name false t k = rw t (and_from (has_values e) (list_all has_values (append m n v)) parts.0 k)

abbrev under : List ℕ → List FieldValue → List Header
under n vs = map (λ v. (n, v)) vs

value_more : (n : List ℕ) (vs : List FieldValue) (v : FieldValue) → list_all header_spellable (under n vs) ≡ true → header_spellable (n, v) ≡ true → list_all header_spellable (under n (vs ++ v ∷ [])) ≡ true
value_more n [] v h k = and_from (header_spellable (n, v)) true k refl
value_more n (w ∷ vs) v h k =
    let parts = and_parts (header_spellable (n, w)) (list_all header_spellable (under n vs)) h in
    and_from (header_spellable (n, w)) (list_all header_spellable (under n (vs ++ v ∷ []))) parts.0 (value_more n vs v parts.1 k)

count_more : (n : List ℕ) (vs : List FieldValue) (v : FieldValue) → length (under n (vs ++ v ∷ [])) ≡ length (under n vs) + 1
count_more n [] v = refl
count_more n (w ∷ vs) v = let e = count_more n vs v in omega (arith, e)

all_of_both : (hs ks : List Header) → list_all header_spellable (hs ++ ks) ≡ true → (list_all header_spellable hs ≡ true) × (list_all header_spellable ks ≡ true)
all_of_both hs ks h = and_parts (list_all header_spellable hs) (list_all header_spellable ks) (sym (list_all-append header_spellable hs ks) ∙ h)

both_of_all : (hs ks : List Header) → list_all header_spellable hs ≡ true → list_all header_spellable ks ≡ true → list_all header_spellable (hs ++ ks) ≡ true
both_of_all hs ks h k = list_all-append header_spellable hs ks ∙ and_from (list_all header_spellable hs) (list_all header_spellable ks) h k

still_spellable : (m : HeaderList) (n : List ℕ) (v : FieldValue) → list_all header_spellable (pairs m) ≡ true → header_spellable (n, v) ≡ true → list_all header_spellable (pairs (append m n v)) ≡ true
still_spellable [] n v h k = and_from (header_spellable (n, v)) true k refl
still_spellable (e ∷ m) n v h k = by_name (bytes_eq e.0 n) refl (still_spellable m n v parts.1 k)
  where
    parts : (list_all header_spellable (entry_pairs e) ≡ true) × (list_all header_spellable (pairs m) ≡ true)
    parts = all_of_both (entry_pairs e) (pairs m) h

    here : bytes_eq e.0 n ≡ true → header_spellable (e.0, v) ≡ true
    here t = subst (λ (w : List ℕ). header_spellable (w, v) ≡ true) (sym ((bytes_eq-Decides e.0 n).0 t)) k

    by_name : (b : Bool) → bytes_eq e.0 n ≡ b → list_all header_spellable (pairs (append m n v)) ≡ true → list_all header_spellable (pairs (if bytes_eq e.0 n then (e.0, e.1 ++ v ∷ []) ∷ m else e ∷ append m n v)) ≡ true
    by_name true t r = rw t (both_of_all (under e.0 (e.1 ++ v ∷ [])) (pairs m) (value_more e.0 e.1 v parts.0 (here t)) parts.1)
    by_name false t r = rw t (both_of_all (entry_pairs e) (pairs (append m n v)) parts.0 r)

one_more : (m : HeaderList) (n : List ℕ) (v : FieldValue) → length (pairs (append m n v)) ≡ length (pairs m) + 1
one_more [] n v = refl
one_more (e ∷ m) n v = by_name (bytes_eq e.0 n) refl (one_more m n v)
  where
    by_name : (b : Bool) → bytes_eq e.0 n ≡ b → length (pairs (append m n v)) ≡ length (pairs m) + 1 → length (pairs (if bytes_eq e.0 n then (e.0, e.1 ++ v ∷ []) ∷ m else e ∷ append m n v)) ≡ length (entry_pairs e ++ pairs m) + 1
    by_name true t r =
        rw t (omega (arith, length-append (under e.0 (e.1 ++ v ∷ [])) (pairs m), length-append (entry_pairs e) (pairs m), count_more e.0 e.1 v))
    by_name false t r = rw t (omega (arith, length-append (entry_pairs e) (pairs (append m n v)), length-append (entry_pairs e) (pairs m), r))

-- a head in the making, of so many headers
record Made (m : HeaderList) (count : ℕ) : Type 0 where
  differ : fresh [] (names_in m) ≡ true
  filled : list_all has_values m ≡ true
  spellable : list_all header_spellable (pairs m) ≡ true
  counted : length (pairs m) ≡ count

made_more : (m : HeaderList) (h : Header) (count : ℕ) → header_spellable h ≡ true → Made m count → Made (append m h.0 h.1) (count + 1)
made_more m h count t k = record {
  differ = names_differ m h.0 h.1 k.differ;
  filled = still_filled m h.0 h.1 k.filled;
  spellable = still_spellable m h.0 h.1 k.spellable t;
  counted = one_more m h.0 h.1 ∙ ap (λ (n : ℕ). n + 1) k.counted;
}

made_of_all : (m : HeaderList) (hs : List Header) (count room : ℕ) → count + length hs ≤ room → list_all header_spellable hs ≡ true → Made m count →
    (total : ℕ) × (total ≤ room) × Made (append_all m hs) total
made_of_all m [] count room b h k = (count, omega arith, k)
made_of_all m (x ∷ hs) count room b h k =
    let parts = and_parts (header_spellable x) (list_all header_spellable hs) h in
    made_of_all (append m x.0 x.1) hs (count + 1) room (omega arith) parts.1 (made_more m x count parts.0 k)

made_spellable : (m : HeaderList) (count : ℕ) → count ≤ 24576 → Made m count → headers_spellable m ≡ true
unfolding headers_spellable
made_spellable m count b k =
    four_from (fresh [] (names_in m)) (list_all has_values m) (list_all header_spellable (pairs m)) (nat_le (length (pairs m)) 24576) k.differ k.filled k.spellable
    (ap (λ (n : ℕ). nat_le n 24576) k.counted ∙ le-leb count 24576 b)

head_spelled : (hs : List Header) → list_all header_spellable hs ≡ true → headers_spellable (append_all [] (take 24576 hs)) ≡ true
head_spelled hs h =
    let none : Made [] 0 = record { differ = refl; filled = refl; spellable = refl; counted = refl } in
    let all = made_of_all [] (take 24576 hs) 0 24576 (omega (arith, length-take 24576 hs)) (take_passes header_spellable 24576 hs h) none in
    made_spellable (append_all [] (take 24576 hs)) all.0 all.1 all.2

pub headers_spelled : (d : Data) → OfBytes d → Holds (λ hs. headers_spellable hs ≡ true) (headers_at d)
unfolding headers_at Holds
headers_spelled d h =
    step _ _ (as_array d) _ (array_of_bytes d h) (λ ds hds.
    step _ _ (list_of header_at ds) _ (list_spelled header_spellable header_at header_spelled ds hds) (λ hs t. head_spelled hs t))

-- ---- bodies, requests and responses

sent_spelled : (d : Data) → OfBytes d → Holds (λ b. body_spellable b ≡ true) (sent_at d)
unfolding sent_at Holds body_spellable
sent_spelled d h =
    either _ (starts (codes "Once") d) _ _
    (step _ _ (tagged_at (codes "Once") d >>= blob_at) _ (tagged_holds _ (codes "Once") blob_at d h blob_spelled) (λ b hb. hb))
    (step _ _ (blob_at d) _ (blob_spelled d h) (λ b hb. hb))

body_spelled : (d : Data) → OfBytes d → Holds (λ b. body_spellable b ≡ true) (body_at d)
unfolding body_at Holds body_spellable
body_spelled null h = refl
body_spelled (boolean b) h = sent_spelled (boolean b) h
body_spelled (number n) h = sent_spelled (number n) h
body_spelled (string s) h = sent_spelled (string s) h
body_spelled (array ds) h = sent_spelled (array ds) h
body_spelled (object ms) h = sent_spelled (object ms) h

pub request_spelled : (d : Data) → OfBytes d → Holds (λ r. request_spellable r ≡ true) (request_at d)
unfolding request_at Holds request_spellable
request_spelled d h =
    step _ _ (quadruple_at d) _ (quadruple_of_bytes d h) (λ p hp.
    past _ (as_str p.0) _ (λ m.
    past _ (as_str p.1) _ (λ u.
    step _ _ (headers_at p.2) _ (headers_spelled p.2 hp.2) (λ hs hhs.
    step _ _ (body_at p.3) _ (body_spelled p.3 hp.3) (λ b hb. and_from (headers_spellable hs) (body_spellable b) hhs hb)))))

pub response_spelled : (d : Data) → OfBytes d → Holds (λ r. response_spellable r ≡ true) (response_at d)
unfolding response_at Holds response_spellable
response_spelled d h =
    step _ _ (triple_at d) _ (triple_of_bytes d h) (λ p hp.
    step _ _ (number_below (2 ^ 16) p.0) _ (number_within (2 ^ 16) p.0) (λ s hs.
    step _ _ (headers_at p.1) _ (headers_spelled p.1 hp.1) (λ m hm.
    step _ _ (body_at p.2) _ (body_spelled p.2 hp.2) (λ b hb. three_from (is_u16 s) (headers_spellable m) (body_spellable b) hs hm hb))))
