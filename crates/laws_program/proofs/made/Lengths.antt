-- How long a text is at most.
use Rattle.std.proofs.Common.{◌≡◌, ℕ, ◌+◌, ◌*◌, ◌^◌, ◌≤◌, List, [], ◌∷◌, ◌++◌, length, Bool, true, false, cond, ◌&&◌, arith, ltb-true}
use Rattle.std.proofs.lemmas.Bool.{and_parts}
use Rattle.std.proofs.lemmas.Fmt.{length-decimal-le}
use Rattle.std.proofs.lemmas.List.{length-append}
use Rattle.std.specs.Fmt.{signed_decimal}
use Rattle.json.specs.Print.{escape, escape_byte, quoted}
use Rattle.json_forms.specs.Carried.{is_below, is_carried, is_integer, items_carried, members_carried}
use Rattle.serde_json.specs.Data.{Num, unsigned, negative, float, Data, null, boolean, number, string, array, object, Items, no_items, item, Members, no_members, member}
use Rattle.serde_json.specs.Written.{comma_if, compact_text, items_text, members_text, number_text}

-- twenty digits at most
abbrev num_len : Num → ℕ
num_len (unsigned n) = 20
num_len (negative z) = length (signed_decimal z)
num_len (float x) = 0

-- a byte of a string takes at most six, and each value is counted with a comma
abbrev mutual
  pub text_len : Data → ℕ
  text_len null = 4
  text_len (boolean b) = 5
  text_len (number n) = num_len n
  text_len (string s) = 6 * length s + 2
  text_len (array ds) = 1 + items_len ds
  text_len (object ms) = 1 + members_len ms

  pub items_len : Items → ℕ
  items_len no_items = 1
  items_len (item d ds) = 1 + (text_len d + items_len ds)

  pub members_len : Members → ℕ
  members_len no_members = 1
  members_len (member k d ms) = 4 + (6 * length k + (text_len d + members_len ms))

-- ---- strings

by_tests : (a b : Bool) (x y z w : ℕ) → length (cond a (92 ∷ x ∷ []) (cond b (92 ∷ 117 ∷ 48 ∷ 48 ∷ y ∷ z ∷ []) (w ∷ []))) ≤ 6
by_tests true b x y z w = omega arith
by_tests false true x y z w = omega arith
by_tests false false x y z w = omega arith

byte_short : (x : ℕ) → length (escape_byte x) ≤ 6
unfolding escape_byte
byte_short x = by_tests _ _ _ _ _ x

escape_short : (s : List ℕ) → length (escape s) ≤ 6 * length s
escape_short [] = omega arith
escape_short (x ∷ s) = omega (arith, length-append (escape_byte x) (escape s), byte_short x, escape_short s)

quoted_short : (s : List ℕ) → length (quoted s) ≤ 6 * length s + 2
quoted_short s = omega (arith, length-append (escape s) (34 ∷ []), escape_short s)

-- ---- values

comma_short : (later : Bool) → length (comma_if later) ≤ 1
comma_short true = omega arith
comma_short false = omega arith

num_short : (n : Num) → is_integer n ≡ true → length (number_text n) ≤ num_len n
num_short (unsigned n) h = let below = ltb-true n (2 ^ 64) h in length-decimal-le 20 n (omega arith) (omega (arith, below)) below
num_short (negative z) h = omega arith
num_short (float x) h = omega arith

mutual
  pub text_short : (d : Data) → is_carried d ≡ true → length (compact_text d) ≤ text_len d
  text_short null h = omega arith
  text_short (boolean true) h = omega arith
  text_short (boolean false) h = omega arith
  text_short (number n) h = num_short n h
  text_short (string s) h = quoted_short s
  text_short (array ds) h = omega (arith, items_short false ds h)
  text_short (object ms) h = omega (arith, members_short false ms h)

  items_short : (later : Bool) (ds : Items) → items_carried ds ≡ true → length (items_text later ds) ≤ items_len ds
  items_short later no_items h = omega arith
  items_short later (item d ds) h =
      let p = and_parts (is_carried d) (items_carried ds) h in
      omega (arith, length-append (comma_if later) (compact_text d ++ items_text true ds), length-append (compact_text d) (items_text true ds), comma_short later, text_short d p.0, items_short true ds p.1)

  members_short : (later : Bool) (ms : Members) → members_carried ms ≡ true → length (members_text later ms) ≤ members_len ms
  members_short later no_members h = omega arith
  members_short later (member k d ms) h =
      let p = and_parts (is_below k ms) (is_carried d && members_carried ms) h in
      let q = and_parts (is_carried d) (members_carried ms) p.1 in
      omega (
        arith,
        length-append (comma_if later) (quoted k ++ 58 ∷ (compact_text d ++ members_text true ms)),
        length-append (quoted k) (58 ∷ (compact_text d ++ members_text true ms)),
        length-append (compact_text d) (members_text true ms),
        comma_short later,
        quoted_short k,
        text_short d q.0,
        members_short true ms q.1,
      )
