-- Words, tags and bytes, as JSON spells them.
use Rattle.std.specs.Prelude.{ℕ, suc, List, Bool, true, false, ◌&&◌, ◌||◌, ◌==◌, Option, Some, None, Result, Ok, Err}
use Rattle.std.specs.Prelude.{codes, find, nat_le, nat_eq, option_map, if◌then◌else◌}
use Rattle.std.specs.Cmp.Lexicographic.{pointwise}
use Rattle.std.specs.List.{list_all}
use Rattle.hex.specs.Hex.{decode_of}
use Rattle.serde_json.specs.Data.{Data, null, string, array, Items, no_items, item, Members, no_members, member}
use Rattle.serde_json.specs.Find.{as_bool, as_str, as_array, as_object, get}
use Rattle.json_forms.specs.Lists.{list_of}
use Rattle.json_forms.specs.Plain.{pair_at}
use Rattle.json_forms.specs.Reading.{◌>>=◌}

-- ---- words

-- the text is this word
unfoldable pub says : List ℕ → Data → Bool
says word (string s) = pointwise nat_eq s word
says word _ = false

-- the first item is this word
unfoldable pub first_says : List ℕ → Items → Bool
first_says word (item d ds) = says word d
first_says word no_items = false

-- an array that begins with this word
unfoldable pub starts : List ℕ → Data → Bool
starts word (array ds) = first_says word ds
starts word _ = false

-- whether a text is this word, as a reading
abbrev pub same_word : List ℕ → List ℕ → Option (Unit {0})
same_word word s = if pointwise nat_eq s word then Some tt else None

-- this word as a text
unfoldable pub word_at : List ℕ → Data → Option (Unit {0})
word_at word d = as_str d >>= same_word word

-- what stands beside the tag in an array of two
unfoldable pub tagged_at : List ℕ → Data → Option Data
tagged_at tag d = pair_at d >>= λ p. word_at tag p.0 >>= λ _. Some p.1

-- the first of the values that prints so
abbrev pub named : {X : Type 0} → (X → List ℕ) → List X → List ℕ → Option X
named text_of xs s = find (λ x. pointwise nat_eq s (text_of x)) xs

-- ---- values that may be absent

-- null, or a value
unfoldable pub optional_at : {X : Type 0} → (Data → Option X) → Data → Option (Option X)
optional_at f null = Some None
optional_at f d = option_map Some (f d)

-- ---- marks, lists of texts

-- the one value that a mark may have
abbrev pub only_true : Bool → Option (Unit {0})
only_true true = Some tt
only_true false = None

-- a mark: the value true
unfoldable pub true_at : Data → Option (Unit {0})
true_at d = as_bool d >>= only_true

-- an array of texts
unfoldable pub texts_at : Data → Option (List (List ℕ))
texts_at d = as_array d >>= list_of as_str

-- ---- bytes

-- a digit of hex, its letters in lower case
unfoldable pub is_lower_digit : ℕ → Bool
is_lower_digit b = (nat_le 48 b && nat_le b 57) || (nat_le 97 b && nat_le b 102)

-- the value of a success, if it is one
abbrev pub ok_of : {X E : Type 0} → Result X E → Option X
ok_of (Ok x) = Some x
ok_of (Err e) = None

-- the bytes of pairs of such digits
unfoldable pub hex_bytes : List ℕ → Option (List ℕ)
hex_bytes s = if list_all is_lower_digit s then ok_of (decode_of s) else None

-- how many members there are
abbrev pub member_count : Members → ℕ
member_count no_members = 0
member_count (member k d ms) = suc (member_count ms)

-- there is exactly one member
abbrev pub one_member : Members → Option (Unit {0})
one_member ms = if member_count ms == 1 then Some tt else None

-- an object with one member
unfoldable pub only_at : Data → Option (Unit {0})
only_at d = as_object d >>= one_member

-- an object whose one member is hex
unfoldable pub hex_at : Data → Option (List ℕ)
hex_at d = only_at d >>= λ _. get (codes "hex") d >>= as_str >>= hex_bytes

-- a text's bytes, or bytes in hex
unfoldable pub blob_at : Data → Option (List ℕ)
blob_at (string s) = Some s
blob_at d = hex_at d
