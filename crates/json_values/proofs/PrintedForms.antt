-- Forms, bytes and names that are printed are read again.
use Rattle.std.proofs.Common.{◌≡◌, ℕ, zero, suc, ◌/◌, ◌%◌, ◌<◌, List, [], ◌∷◌, map, slice_index, codes, Bool, true, false, ◌&&◌, Option, Some, None, Ok, refl, arith, ap, sym, ◌∙◌}
use Rattle.std.proofs.lemmas.Bool.{and_parts}
use Rattle.std.proofs.lemmas.Bool.Decides.{nat_tests}
use Rattle.std.specs.List.{list_all}
use Rattle.hex.proofs.HexLemmas.{decode_of-encode_lower}
use Rattle.hex.specs.Hex.{IsBytes, lower_digits, encode_with, encode_lower, decode_of}
use Rattle.serde_json.specs.Data.{Data, null, boolean, number, string, array, object, no_members, member}
use Rattle.serde_json.specs.Find.{as_str}
use Rattle.serde_json.specs.View.{items_of}
use Rattle.json_forms.specs.Forms.{optional_at, texts_at, is_lower_digit, hex_bytes, only_at, hex_at, blob_at}
use Rattle.json_forms.specs.Lists.{list_of}
use Rattle.json_forms.specs.Plain.{number_at}
use Rattle.json_values.specs.Spellable.{none_or, is_byte, bytes_spellable}
use Rattle.json_forms.specs.Prints.{num, null_or, texts, is_shown, blob_data}

-- ---- tests

pub three_parts : (a b c : Bool) → a && b && c ≡ true → (a ≡ true) × (b ≡ true) × (c ≡ true)
three_parts true true true h = (refl, refl, refl)
three_parts true true false h = absurd (cc)
three_parts true false c h = absurd (cc)
three_parts false b c h = absurd (cc)

pub four_parts : (a b c d : Bool) → a && b && c && d ≡ true → (a ≡ true) × (b ≡ true) × (c ≡ true) × (d ≡ true)
four_parts true true true true h = (refl, refl, refl, refl)
four_parts true true true false h = absurd (cc)
four_parts true true false d h = absurd (cc)
four_parts true false c d h = absurd (cc)
four_parts false b c d h = absurd (cc)

pub five_parts : (a b c d e : Bool) → a && b && c && d && e ≡ true → (a ≡ true) × (b ≡ true) × (c ≡ true) × (d ≡ true) × (e ≡ true)
five_parts true true true true true h = (refl, refl, refl, refl, refl)
five_parts true true true true false h = absurd (cc)
five_parts true true true false e h = absurd (cc)
five_parts true true false d e h = absurd (cc)
five_parts true false c d e h = absurd (cc)
five_parts false b c d e h = absurd (cc)

-- ---- lists

pub list_read : {X : Type 0} (f : Data → Option X) (g : X → Data) (test : X → Bool) → ((x : X) → test x ≡ true → f (g x) ≡ Some x) → (xs : List X) → list_all test xs ≡ true →
    list_of f (items_of (map g xs)) ≡ Some xs
unfolding list_of
list_read f g test each [] h = refl
list_read f g test each (x ∷ xs) h =
    let parts = and_parts (test x) (list_all test xs) h in
    rw (each x parts.0, list_read f g test each xs parts.1) refl

pub list_read_all : {X : Type 0} (f : Data → Option X) (g : X → Data) → ((x : X) → f (g x) ≡ Some x) → (xs : List X) → list_of f (items_of (map g xs)) ≡ Some xs
unfolding list_of
list_read_all f g each [] = refl
list_read_all f g each (x ∷ xs) = rw (each x, list_read_all f g each xs) refl

pub texts_read : (ts : List (List ℕ)) → texts_at (texts ts) ≡ Some ts
unfolding texts_at
texts_read ts = list_read_all as_str string (λ t. refl) ts

-- ---- values that may be absent

none_not_some : {X : Type 0} (P : Type 0) (x : X) → None ≡ Some x → P
none_not_some P x h = absurd (cc)

filled_read : {X : Type 0} (f : Data → Option X) (d : Data) (x : X) → f null ≡ None → f d ≡ Some x → optional_at f d ≡ Some (Some x)
unfolding optional_at
filled_read f null x n h = none_not_some _ x (sym n ∙ h)
filled_read f (boolean b) x n h = rw h refl
filled_read f (number b) x n h = rw h refl
filled_read f (string s) x n h = rw h refl
filled_read f (array ds) x n h = rw h refl
filled_read f (object ms) x n h = rw h refl

pub optional_read : {X : Type 0} (f : Data → Option X) (g : X → Data) (test : X → Bool) → f null ≡ None → ((x : X) → test x ≡ true → f (g x) ≡ Some x) → (o : Option X) → none_or test o ≡ true →
    optional_at f (null_or g o) ≡ Some o
unfolding optional_at
optional_read f g test n each None h = refl
optional_read f g test n each (Some x) h = filled_read f (g x) x n (each x h)

pub optional_read_all : {X : Type 0} (f : Data → Option X) (g : X → Data) → f null ≡ None → ((x : X) → f (g x) ≡ Some x) → (o : Option X) → optional_at f (null_or g o) ≡ Some o
unfolding optional_at
optional_read_all f g n each None = refl
optional_read_all f g n each (Some x) = filled_read f (g x) x n (each x)

pub optional_number_read : (o : Option ℕ) → optional_at number_at (null_or num o) ≡ Some o
optional_number_read o = optional_read_all number_at num refl (λ n. refl) o

pub optional_text_read : (o : Option (List ℕ)) → optional_at as_str (null_or string o) ≡ Some o
optional_text_read o = optional_read_all as_str string refl (λ t. refl) o

pub optional_texts_read : (o : Option (List (List ℕ))) → optional_at texts_at (null_or texts o) ≡ Some o
unfolding texts_at
optional_texts_read o = optional_read_all texts_at texts refl texts_read o

-- ---- bytes

lower_at : (d : ℕ) → d < 16 → is_lower_digit (slice_index lower_digits d) ≡ true
unfolding is_lower_digit
lower_at zero h = refl
lower_at (suc zero) h = refl
lower_at (suc (suc zero)) h = refl
lower_at (suc (suc (suc zero))) h = refl
lower_at (suc (suc (suc (suc zero)))) h = refl
lower_at (suc (suc (suc (suc (suc zero))))) h = refl
lower_at (suc (suc (suc (suc (suc (suc zero)))))) h = refl
lower_at (suc (suc (suc (suc (suc (suc (suc zero))))))) h = refl
lower_at (suc (suc (suc (suc (suc (suc (suc (suc zero)))))))) h = refl
lower_at (suc (suc (suc (suc (suc (suc (suc (suc (suc zero))))))))) h = refl
lower_at (suc (suc (suc (suc (suc (suc (suc (suc (suc (suc zero)))))))))) h = refl
lower_at (suc (suc (suc (suc (suc (suc (suc (suc (suc (suc (suc zero))))))))))) h = refl
lower_at (suc (suc (suc (suc (suc (suc (suc (suc (suc (suc (suc (suc zero)))))))))))) h = refl
lower_at (suc (suc (suc (suc (suc (suc (suc (suc (suc (suc (suc (suc (suc zero))))))))))))) h = refl
lower_at (suc (suc (suc (suc (suc (suc (suc (suc (suc (suc (suc (suc (suc (suc zero)))))))))))))) h = refl
lower_at (suc (suc (suc (suc (suc (suc (suc (suc (suc (suc (suc (suc (suc (suc (suc zero))))))))))))))) h = refl
lower_at (suc (suc (suc (suc (suc (suc (suc (suc (suc (suc (suc (suc (suc (suc (suc (suc d)))))))))))))))) h = absurd (omega arith)

byte_below : (b : ℕ) → is_byte b ≡ true → b < 256
byte_below b h = grind (arith, nat_tests)

lower_encoded : (bytes : List ℕ) → list_all is_byte bytes ≡ true → list_all is_lower_digit (encode_lower bytes) ≡ true
unfolding encode_with
lower_encoded [] h = refl
lower_encoded (b ∷ bytes) h =
    let parts = and_parts (is_byte b) (list_all is_byte bytes) h in
    let fits = byte_below b parts.0 in
    let high : b / 16 < 16 = omega arith in
    let low : b % 16 < 16 = omega arith in
    rw (lower_at (b / 16) high, lower_at (b % 16) low, lower_encoded bytes parts.1) refl

are_bytes : (bytes : List ℕ) → list_all is_byte bytes ≡ true → IsBytes bytes
are_bytes [] h i = omega arith
are_bytes (b ∷ bytes) h zero = byte_below b (and_parts (is_byte b) (list_all is_byte bytes) h).0
are_bytes (b ∷ bytes) h (suc i) = are_bytes bytes (and_parts (is_byte b) (list_all is_byte bytes) h).1 i

decoded : (s bytes : List ℕ) → list_all is_lower_digit s ≡ true → decode_of s ≡ Ok bytes → hex_bytes s ≡ Some bytes
unfolding hex_bytes
decoded s bytes h e = rw (h, e) refl

hex_read : (bytes : List ℕ) → list_all is_byte bytes ≡ true → blob_at (object (member (codes "hex") (string (encode_lower bytes)) no_members)) ≡ Some bytes
unfolding blob_at hex_at only_at
hex_read bytes h = decoded (encode_lower bytes) bytes (lower_encoded bytes h) (decode_of-encode_lower bytes (are_bytes bytes h))

text_read : (s : List ℕ) → blob_at (string s) ≡ Some s
unfolding blob_at
text_read s = refl

pub printed_shown : (bytes : List ℕ) → list_all is_shown bytes ≡ true → blob_data bytes ≡ string bytes
unfolding blob_data
printed_shown bytes h = rw h refl

pub printed_hex : (bytes : List ℕ) → list_all is_shown bytes ≡ false → blob_data bytes ≡ object (member (codes "hex") (string (encode_lower bytes)) no_members)
unfolding blob_data
printed_hex bytes h = rw h refl

pub blob_read : (bytes : List ℕ) → bytes_spellable bytes ≡ true → blob_at (blob_data bytes) ≡ Some bytes
unfolding bytes_spellable
blob_read bytes h = by_test (list_all is_shown bytes) refl
  where
    by_test : (t : Bool) → list_all is_shown bytes ≡ t → blob_at (blob_data bytes) ≡ Some bytes
    by_test true e = ap blob_at (printed_shown bytes e) ∙ text_read bytes
    by_test false e = ap blob_at (printed_hex bytes e) ∙ hex_read bytes h
