-- A compact text is UTF-8.
use Rattle.std.proofs.Common.{◌≡◌, pos, negsuc, List, [], ◌∷◌, Bool, true, false, ◌&&◌, IsUtf8, refl, ltb-true}
use Rattle.std.proofs.lemmas.Bool.{and_parts, false≢true}
use Rattle.std.proofs.lemmas.Fmt.{IsAscii-decimal, IsAscii-signed}
use Rattle.std.proofs.lemmas.Str.{IsUtf8-append, IsUtf8-nil, IsUtf8-from_ascii}
use Rattle.std.specs.List.{list_all}
use Rattle.json.specs.Print.{quoted}
use Rattle.json.proofs.Printed.Utf8.{IsUtf8-are_ascii, IsUtf8-quoted, IsUtf8-boolean}
use Rattle.serde_json.specs.Data.{Num, unsigned, negative, float, Data, null, boolean, number, string, array, object, Items, no_items, item, Members, no_members, member}
use Rattle.serde_json.specs.Written.{number_text, comma_if, compact_text, items_text, members_text}
use Rattle.json_forms.specs.Carried.{is_integer, is_below, is_carried, items_carried, members_carried}
use Rattle.json_forms.specs.Lines.{lines_text, HasTexts, ItemsHaveTexts, MembersHaveTexts, AllHaveTexts}

number_utf8 : (n : Num) → is_integer n ≡ true → IsUtf8 (number_text n)
number_utf8 (unsigned n) h = IsUtf8-from_ascii _ (IsAscii-decimal n (ltb-true n _ h))
number_utf8 (negative (pos n)) h = absurd (false≢true h)
number_utf8 (negative (negsuc n)) h = IsUtf8-from_ascii _ (IsAscii-signed (negsuc n) (ltb-true n _ h))
number_utf8 (float x) h = absurd (false≢true h)

comma_utf8 : (later : Bool) → IsUtf8 (comma_if later)
comma_utf8 true = IsUtf8-are_ascii (44 ∷ []) refl
comma_utf8 false = IsUtf8-nil

mutual
  pub characters : (d : Data) → is_carried d ≡ true → HasTexts d → IsUtf8 (compact_text d)
  characters null h u = IsUtf8-are_ascii _ refl
  characters (boolean b) h u = IsUtf8-boolean b
  characters (number n) h u = number_utf8 n h
  characters (string s) h u = IsUtf8-quoted s u
  characters (array ds) h u = IsUtf8-append (91 ∷ []) _ (IsUtf8-are_ascii (91 ∷ []) refl) (items_characters false ds h u)
  characters (object ms) h u = IsUtf8-append (123 ∷ []) _ (IsUtf8-are_ascii (123 ∷ []) refl) (members_characters false ms h u)

  items_characters : (later : Bool) (ds : Items) → items_carried ds ≡ true → ItemsHaveTexts ds → IsUtf8 (items_text later ds)
  items_characters later no_items h u = IsUtf8-are_ascii (93 ∷ []) refl
  items_characters later (item d ds) h u =
      let p = and_parts (is_carried d) (items_carried ds) h in
      IsUtf8-append (comma_if later) _ (comma_utf8 later) (IsUtf8-append (compact_text d) (items_text true ds) (characters d p.0 u.0) (items_characters true ds p.1 u.1))

  members_characters : (later : Bool) (ms : Members) → members_carried ms ≡ true → MembersHaveTexts ms → IsUtf8 (members_text later ms)
  members_characters later no_members h u = IsUtf8-are_ascii (125 ∷ []) refl
  members_characters later (member k d ms) h u =
      let p = and_parts (is_below k ms) (is_carried d && members_carried ms) h in
      let q = and_parts (is_carried d) (members_carried ms) p.1 in
      let value = IsUtf8-append (compact_text d) (members_text true ms) (characters d q.0 u.1) (members_characters true ms q.1 u.2) in
      IsUtf8-append (comma_if later) _ (comma_utf8 later) (IsUtf8-append (quoted k) _ (IsUtf8-quoted k u.0) (IsUtf8-append (58 ∷ []) _ (IsUtf8-are_ascii (58 ∷ []) refl) value))

pub lines_characters : (ds : List Data) → list_all is_carried ds ≡ true → AllHaveTexts ds → IsUtf8 (lines_text ds)
lines_characters [] h u = IsUtf8-nil
lines_characters (d ∷ ds) h u =
    let p = and_parts (is_carried d) (list_all is_carried ds) h in
    IsUtf8-append _ (lines_text ds) (IsUtf8-append (compact_text d) (10 ∷ []) (characters d p.0 u.0) (IsUtf8-are_ascii (10 ∷ []) refl)) (lines_characters ds p.1 u.1)
