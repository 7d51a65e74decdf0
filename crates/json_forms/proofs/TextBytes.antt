-- The texts of a value are of bytes.
use Rattle.std.proofs.Common.{◌≡◌, ℕ, ◌+◌, ◌/◌, ◌<◌, inl, inr, List, [], ◌∷◌, true, nat_lt, Ordering, Less, Equal, Greater, refl, arith, subst, ◌∙◌}
use Rattle.std.proofs.lemmas.Bool.{and_parts, and_from, lt-ltb, ltb-true, cond_both}
use Rattle.std.proofs.lemmas.List.Folds.{list_all-append}
use Rattle.std.specs.Cmp.Lexicographic.{slice_cmp}
use Rattle.std.specs.Ordering.{nat_cmp, match_ordering}
use Rattle.std.specs.Str.{IsUtf8}
use Rattle.json.specs.Json as json
use Rattle.serde_json.specs.Data.{Data, Members, no_members, member, put}
use Rattle.json_forms.specs.Bytes.{are_bytes, of_bytes, items_of_bytes, members_of_bytes, json_of_bytes, all_of_bytes, each_of_bytes}
use Rattle.json_forms.specs.View.{data_of_json, items_of_json, members_of_json}
use lib.Utf8.{scalar, scalars, scalar_cases, encode, encodes, next}

-- ---- a text

abbrev AreBytes : List ℕ → Type 0
AreBytes l = are_bytes l ≡ true

byte : (b : ℕ) → b < 256 → nat_lt b 256 ≡ true
byte b h = lt-ltb b 256 h

next_byte : (c : ℕ) → nat_lt (next c) 256 ≡ true
next_byte c = byte (next c) (omega arith)

scalar_below : (c : ℕ) → scalar c ≡ true → c < 1114112
scalar_below c h = elim (scalar_cases c h) [
  | inl low ↦ omega arith
  | inr high ↦ omega (arith, high.1)
]

char_bytes : (c : ℕ) → scalar c ≡ true → AreBytes (encode c)
unfolding encode
char_bytes c h =
    let top = scalar_below c h in
    cond_both (nat_lt c 128) _ _ AreBytes (λ e. let b = ltb-true c 128 e in rw (byte c (omega arith)) refl) (λ _.
    cond_both (nat_lt c 2048) _ _ AreBytes (λ e. let b = ltb-true c 2048 e in rw (byte (192 + c / 64) (omega arith), next_byte c) refl) (λ _.
    cond_both (nat_lt c 65536) _ _ AreBytes (λ e. let b = ltb-true c 65536 e in rw (byte (224 + c / 4096) (omega arith), next_byte (c / 64), next_byte c) refl) (λ _.
    rw (byte (240 + c / 262144) (omega arith), next_byte (c / 4096), next_byte (c / 64), next_byte c) refl)))

chars_bytes : (cs : List ℕ) → scalars cs ≡ true → AreBytes (encodes cs)
chars_bytes [] h = refl
chars_bytes (c ∷ cs) h =
    let parts = and_parts (scalar c) (scalars cs) h in
    list_all-append (λ b. nat_lt b 256) (encode c) (encodes cs) ∙ and_from (are_bytes (encode c)) (are_bytes (encodes cs)) (char_bytes c parts.0) (chars_bytes cs parts.1)

pub text_bytes : (bs : List ℕ) → IsUtf8 bs → are_bytes bs ≡ true
text_bytes bs u = subst AreBytes u.1.1 (chars_bytes u.0 u.1.0)

-- ---- from JSON to data

put_match : (o : Ordering) (a b c : Members) → members_of_bytes a ≡ true → members_of_bytes b ≡ true → members_of_bytes c ≡ true → members_of_bytes (match_ordering o a b c) ≡ true
put_match Less a b c x y z = x
put_match Equal a b c x y z = y
put_match Greater a b c x y z = z

put_bytes : (k : List ℕ) (d : Data) (ms : Members) → of_bytes d ≡ true → members_of_bytes ms ≡ true → members_of_bytes (put k d ms) ≡ true
put_bytes k d no_members h s = and_from _ true h refl
put_bytes k d (member l e ms) h s =
    let p = and_parts (of_bytes e) (members_of_bytes ms) s in
    put_match (slice_cmp nat_cmp k l) (member k d (member l e ms)) (member l d ms) (member l e (put k d ms)) (and_from _ _ h s) (and_from _ _ h p.1) (and_from _ _ p.0 (put_bytes k d ms h p.1))

mutual
  pub data_bytes : (j : json.Json) → json_of_bytes j ≡ true → of_bytes (data_of_json j) ≡ true
  data_bytes json.null h = refl
  data_bytes (json.boolean b) h = refl
  data_bytes (json.number s) h = refl
  data_bytes (json.string s) h = h
  data_bytes (json.array js) h = items_bytes js h
  data_bytes (json.object ms) h = members_bytes ms no_members h refl

  items_bytes : (js : json.Items) → all_of_bytes js ≡ true → items_of_bytes (items_of_json js) ≡ true
  items_bytes json.no_items h = refl
  items_bytes (json.item j js) h =
      let p = and_parts (json_of_bytes j) (all_of_bytes js) h in
      and_from _ _ (data_bytes j p.0) (items_bytes js p.1)

  members_bytes : (ms : json.Members) (found : Members) → each_of_bytes ms ≡ true → members_of_bytes found ≡ true → members_of_bytes (members_of_json ms found) ≡ true
  members_bytes json.no_members found h s = s
  members_bytes (json.member k j ms) found h s =
      let p = and_parts (json_of_bytes j) (each_of_bytes ms) h in
      members_bytes ms (put k (data_of_json j) found) p.1 (put_bytes k (data_of_json j) found (data_bytes j p.0) s)
