-- The compact text of data reads as that data.
use Rattle.std.proofs.Common.{◌≡◌, ℕ, suc, ◌≤◌, max, pos, negsuc, List, [], Bool, true, ◌&&◌, Some, option_map, option_and_then, Ordering, Less, Equal, Greater, refl, sym, ap, ap₂, ◌∙◌, arith, append-nil, ltb-true}
use Rattle.std.proofs.lemmas.Bool.{and_parts, and_from, false≢true}
use Rattle.std.proofs.lemmas.Cmp.{nat_list_cmp_total}
use Rattle.std.specs.Cmp.Lexicographic.{slice_cmp}
use Rattle.std.specs.Ordering.{nat_cmp, is_lt, match_ordering, ordering_reverse}
use Rattle.json.specs.Lex.{tokens}
use Rattle.json.specs.Json as json
use Rattle.json.specs.Tree as tree
use Rattle.json.specs.Tree.{json_tokens, HasNumbers, ItemsHaveNumbers, MembersHaveNumbers}
use Rattle.json.proofs.Printed.Decimals.{IsNumber-decimal, IsNumber-signed_decimal}
use Rattle.json.proofs.Printed.Tokens.{tokens-print}
use Rattle.json.proofs.Printed.Trees.{value-json_tokens, ArePrintable-json_tokens}
use Rattle.serde_json.specs.Data.{Num, unsigned, negative, float, Data, null, boolean, number, string, array, object, Items, no_items, item, Members, no_members, member, put, depth, items_depth, members_depth}
use Rattle.serde_json.specs.Read.{read, max_depth, number_of, of_json, of_items, of_members}
use Rattle.serde_json.specs.Written.{number_text, outline, items_outline, members_outline, compact_text}
use Rattle.serde_json.proofs.Numbers.{number_of-decimal, number_of-negative}
use Rattle.serde_json.proofs.Texts.{print-outline}
use Rattle.json_forms.specs.Carried.{is_integer, is_below, is_carried, items_carried, members_carried}

-- ---- numbers

number_back : (n : Num) → is_integer n ≡ true → number_of (number_text n) ≡ Some n
number_back (unsigned n) h = number_of-decimal n (ltb-true n _ h)
number_back (negative (pos n)) h = absurd (false≢true h)
number_back (negative (negsuc n)) h = number_of-negative n (ltb-true n _ h)
number_back (float x) h = absurd (false≢true h)

number_spelled : (n : Num) → is_integer n ≡ true → HasNumbers (json.number (number_text n))
number_spelled (unsigned n) h = IsNumber-decimal n (ltb-true n _ h)
number_spelled (negative (pos n)) h = absurd (false≢true h)
number_spelled (negative (negsuc n)) h = IsNumber-signed_decimal (negsuc n) (ltb-true n _ h)
number_spelled (float x) h = absurd (false≢true h)

-- ---- objects: each key goes in behind those before it

abbrev joined : Members → Members → Members
joined no_members rest = rest
joined (member k d ms) rest = member k d (joined ms rest)

joined-assoc : (a : Members) (k : List ℕ) (d : Data) (rest : Members) → joined (joined a (member k d no_members)) rest ≡ joined a (member k d rest)
joined-assoc no_members k d rest = refl
joined-assoc (member l e ms) k d rest = ap (member l e) (joined-assoc ms k d rest)

-- the keys are below this one
abbrev are_below : Members → List ℕ → Bool
are_below no_members k = true
are_below (member l d ms) k = is_lt (slice_cmp nat_cmp l k) && are_below ms k

-- each key is below each of the rest
abbrev all_below : Members → Members → Bool
all_below done no_members = true
all_below done (member k d ms) = are_below done k && all_below done ms

none_below : (ms : Members) → all_below no_members ms ≡ true
none_below no_members = refl
none_below (member k d ms) = none_below ms

is_less : (o : Ordering) → is_lt o ≡ true → o ≡ Less
is_less Less h = refl
is_less Equal h = absurd (false≢true h)
is_less Greater h = absurd (false≢true h)

-- a key above all others goes last
put_last : (done : Members) (k : List ℕ) (d : Data) → are_below done k ≡ true → put k d done ≡ joined done (member k d no_members)
put_last no_members k d h = refl
put_last (member l e ms) k d h =
    let p = and_parts (is_lt (slice_cmp nat_cmp l k)) (are_below ms k) h in
    let above : slice_cmp nat_cmp k l ≡ Greater = nat_list_cmp_total.antisymm k l ∙ ap ordering_reverse (is_less _ p.0) in
    ap (λ o. match_ordering o (member k d (member l e ms)) (member l d ms) (member l e (put k d ms))) above ∙ ap (member l e) (put_last ms k d p.1)

one_more : (done : Members) (k : List ℕ) (d : Data) (m : List ℕ) → are_below done m ≡ true → is_lt (slice_cmp nat_cmp k m) ≡ true → are_below (joined done (member k d no_members)) m ≡ true
one_more no_members k d m h here = and_from _ true here refl
one_more (member l e ms) k d m h here =
    let p = and_parts (is_lt (slice_cmp nat_cmp l m)) (are_below ms m) h in
    and_from _ _ p.0 (one_more ms k d m p.1 here)

grown : (done : Members) (k : List ℕ) (d : Data) (ms : Members) → all_below done ms ≡ true → is_below k ms ≡ true → all_below (joined done (member k d no_members)) ms ≡ true
grown done k d no_members h below = refl
grown done k d (member l e ms) h below =
    let p = and_parts (are_below done l) (all_below done ms) h in
    let q = and_parts (is_lt (slice_cmp nat_cmp k l)) (is_below k ms) below in
    and_from _ _ (one_more done k d l p.0 q.0) (grown done k d ms p.1 q.1)

joined-nil : (ms : Members) → joined ms no_members ≡ ms
joined-nil no_members = refl
joined-nil (member k d ms) = ap (member k d) (joined-nil ms)

-- ---- values

mutual
  of_json-outline : (d : Data) → is_carried d ≡ true → of_json (outline d) ≡ Some d
  of_json-outline null h = refl
  of_json-outline (boolean b) h = refl
  of_json-outline (number n) h = ap (option_map number) (number_back n h)
  of_json-outline (string s) h = refl
  of_json-outline (array ds) h = ap (option_map array) (of_items-outline ds h)
  of_json-outline (object ms) h = ap (option_map object) (of_members-outline no_members ms h (none_below ms))

  of_items-outline : (ds : Items) → items_carried ds ≡ true → of_items (items_outline ds) ≡ Some ds
  of_items-outline no_items h = refl
  of_items-outline (item d ds) h =
      let p = and_parts (is_carried d) (items_carried ds) h in
      ap (option_and_then (λ e. option_map (item e) (of_items (items_outline ds)))) (of_json-outline d p.0)
      ∙ ap (option_map (item d)) (of_items-outline ds p.1)

  of_members-outline : (done ms : Members) → members_carried ms ≡ true → all_below done ms ≡ true → of_members (members_outline ms) done ≡ Some (joined done ms)
  of_members-outline done no_members h below = ap Some (sym (joined-nil done))
  of_members-outline done (member k d ms) h below =
      let p = and_parts (is_below k ms) (is_carried d && members_carried ms) h in
      let q = and_parts (is_carried d) (members_carried ms) p.1 in
      let b = and_parts (are_below done k) (all_below done ms) below in
      ap (option_and_then (λ e. of_members (members_outline ms) (put k e done))) (of_json-outline d q.0)
      ∙ ap (of_members (members_outline ms)) (put_last done k d b.0)
      ∙ of_members-outline (joined done (member k d no_members)) ms q.1 (grown done k d ms b.1 p.0)
      ∙ ap Some (joined-assoc done k d ms)

mutual
  numbers-outline : (d : Data) → is_carried d ≡ true → HasNumbers (outline d)
  numbers-outline null h = tt
  numbers-outline (boolean b) h = tt
  numbers-outline (number n) h = number_spelled n h
  numbers-outline (string s) h = tt
  numbers-outline (array ds) h = items_numbers-outline ds h
  numbers-outline (object ms) h = members_numbers-outline ms h

  items_numbers-outline : (ds : Items) → items_carried ds ≡ true → ItemsHaveNumbers (items_outline ds)
  items_numbers-outline no_items h = tt
  items_numbers-outline (item d ds) h = let p = and_parts (is_carried d) (items_carried ds) h in (numbers-outline d p.0, items_numbers-outline ds p.1)

  members_numbers-outline : (ms : Members) → members_carried ms ≡ true → MembersHaveNumbers (members_outline ms)
  members_numbers-outline no_members h = tt
  members_numbers-outline (member k d ms) h =
      let p = and_parts (is_below k ms) (is_carried d && members_carried ms) h in
      let q = and_parts (is_carried d) (members_carried ms) p.1 in
      (numbers-outline d q.0, members_numbers-outline ms q.1)

mutual
  depth-outline : (d : Data) → tree.depth (outline d) ≡ depth d
  depth-outline null = refl
  depth-outline (boolean b) = refl
  depth-outline (number n) = refl
  depth-outline (string s) = refl
  depth-outline (array ds) = ap suc (items_depth-outline ds)
  depth-outline (object ms) = ap suc (members_depth-outline ms)

  items_depth-outline : (ds : Items) → tree.items_depth (items_outline ds) ≡ items_depth ds
  items_depth-outline no_items = refl
  items_depth-outline (item d ds) = ap₂ max (depth-outline d) (items_depth-outline ds)

  members_depth-outline : (ms : Members) → tree.members_depth (members_outline ms) ≡ members_depth ms
  members_depth-outline no_members = refl
  members_depth-outline (member k d ms) = ap₂ max (depth-outline d) (members_depth-outline ms)

-- ---- the whole text

pub tokens-compact_text : (d : Data) → is_carried d ≡ true → tokens (compact_text d) ≡ json_tokens (outline d)
tokens-compact_text d h = ap tokens (sym (print-outline d)) ∙ tokens-print (json_tokens (outline d)) (ArePrintable-json_tokens (outline d) (numbers-outline d h))

pub read-compact_text : (d : Data) → is_carried d ≡ true → depth d ≤ max_depth → read (compact_text d) ≡ Some d
read-compact_text d h shallow =
    ap (λ o. option_and_then of_json (option_and_then (λ p. json.if_last p.0 p.1) o))
    (ap (json.value max_depth) (tokens-compact_text d h ∙ sym (append-nil (json_tokens (outline d)))) ∙ value-json_tokens (outline d) max_depth [] (omega (arith, depth-outline d)))
    ∙ of_json-outline d h
