-- A compact text has no control character.
use Rattle.std.proofs.Common.{◌≡◌, ℕ, zero, suc, ◌<◌, ◌≤◌, negsuc, pos, List, [], ◌∷◌, ◌++◌, Bool, true, false, ◌&&◌, decimal, inl, inr, refl, ◌∙◌, arith, ltb-true, le-leb}
use Rattle.std.proofs.lemmas.Bool.{and_parts, and_from, cases_lt, cases_eq, false≢true}
use Rattle.std.proofs.lemmas.Fmt.{decimal_is_IsNumeral}
use Rattle.std.proofs.lemmas.List.Folds.{list_all-append}
use Rattle.std.specs.Char.{digit_value}
use Rattle.std.specs.List.{list_all}
use Rattle.std.specs.Str.Parse.{AllDigits}
use Rattle.json.specs.Print.{escape_byte, escape, quoted, token_text}
use Rattle.json.specs.Token.{Token}
use Rattle.json.proofs.Printed.Strings.{escape_byte_plain}
use Rattle.serde_json.specs.Data.{Num, unsigned, negative, float, Data, null, boolean, number, string, array, object, Items, no_items, item, Members, no_members, member}
use Rattle.serde_json.specs.Written.{number_text, comma_if, compact_text, items_text, members_text}
use Rattle.json_forms.specs.Carried.{is_integer, is_below, is_carried, items_carried, members_carried}
use Rattle.json_forms.specs.Lines.{is_visible}

abbrev AreVisible : List ℕ → Type 0
AreVisible l = list_all is_visible l ≡ true

pub both : (xs ys : List ℕ) → AreVisible xs → AreVisible ys → AreVisible (xs ++ ys)
both xs ys h k = list_all-append is_visible xs ys ∙ and_from _ _ h k

then : (x : ℕ) (xs : List ℕ) → 32 ≤ x → AreVisible xs → AreVisible (x ∷ xs)
then x xs h k = and_from _ _ (le-leb 32 x h) k

-- ---- strings

abbrev escapes_below : ℕ → Bool
escapes_below zero = true
escapes_below (suc n) = list_all is_visible (escape_byte n) && escapes_below n

escape_below : (n : ℕ) → escapes_below n ≡ true → (x : ℕ) → x < n → AreVisible (escape_byte x)
escape_below zero e x h = absurd (omega arith)
escape_below (suc n) e x h =
    let p = and_parts (list_all is_visible (escape_byte n)) (escapes_below n) e in
    elim (cases_eq x n) [ inl same ↦ rw same p.0 | inr other ↦ escape_below n p.1 x (omega arith) ]

all_below : escapes_below 93 ≡ true
unfolding escape_byte
all_below = refl

escaped_byte : (x : ℕ) → AreVisible (escape_byte x)
escaped_byte x = elim (cases_lt x 93) [
  | inl small ↦ escape_below 93 all_below x small
  | inr big ↦ rw (escape_byte_plain x (λ e. omega arith) (λ e. omega arith) (omega arith)) (then x [] (omega arith) refl)
]

escaped : (s : List ℕ) → AreVisible (escape s)
escaped [] = refl
escaped (x ∷ xs) = both (escape_byte x) (escape xs) (escaped_byte x) (escaped xs)

in_quotes : (s : List ℕ) → AreVisible (quoted s)
in_quotes s = both (escape s) (34 ∷ []) (escaped s) refl

-- ---- numbers

digit : (c : ℕ) → digit_value c < 10 → 32 ≤ c
digit c h = grind arith

digits : (ds : List ℕ) → AllDigits 10 ds → AreVisible ds
digits [] h = refl
digits (d ∷ ds) h = then d ds (digit d h.0) (digits ds h.1)

number_visible : (n : Num) → is_integer n ≡ true → AreVisible (number_text n)
number_visible (unsigned n) h = digits (decimal n) (decimal_is_IsNumeral n (ltb-true n _ h)).0.1
number_visible (negative (pos n)) h = absurd (false≢true h)
number_visible (negative (negsuc n)) h = let small = ltb-true n _ h in digits (decimal (suc n)) (decimal_is_IsNumeral (suc n) (omega arith)).0.1
number_visible (float x) h = absurd (false≢true h)

-- ---- values

boolean_visible : (b : Bool) → AreVisible (token_text (Token.boolean b))
boolean_visible true = refl
boolean_visible false = refl

comma_visible : (later : Bool) → AreVisible (comma_if later)
comma_visible true = refl
comma_visible false = refl

mutual
  pub visible : (d : Data) → is_carried d ≡ true → AreVisible (compact_text d)
  visible null h = refl
  visible (boolean b) h = boolean_visible b
  visible (number n) h = number_visible n h
  visible (string s) h = in_quotes s
  visible (array ds) h = items_visible false ds h
  visible (object ms) h = members_visible false ms h

  items_visible : (later : Bool) (ds : Items) → items_carried ds ≡ true → AreVisible (items_text later ds)
  items_visible later no_items h = refl
  items_visible later (item d ds) h =
      let p = and_parts (is_carried d) (items_carried ds) h in
      both (comma_if later) _ (comma_visible later) (both (compact_text d) (items_text true ds) (visible d p.0) (items_visible true ds p.1))

  members_visible : (later : Bool) (ms : Members) → members_carried ms ≡ true → AreVisible (members_text later ms)
  members_visible later no_members h = refl
  members_visible later (member k d ms) h =
      let p = and_parts (is_below k ms) (is_carried d && members_carried ms) h in
      let q = and_parts (is_carried d) (members_carried ms) p.1 in
      both (comma_if later) _ (comma_visible later) (both (quoted k) (58 ∷ (compact_text d ++ members_text true ms)) (in_quotes k) (both (compact_text d) (members_text true ms) (visible d q.0) (members_visible true ms q.1)))
