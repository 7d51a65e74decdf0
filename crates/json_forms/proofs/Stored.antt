-- What was read can be printed: its numbers are of 64 bits, and its objects have their keys in order.
use Rattle.std.proofs.Common.{◌≡◌, ℕ, zero, suc, ◌<◌, ◌≤◌, ◌^◌, List, Bool, true, false, cond, ◌&&◌, ◌||◌, ◌==◌, nat_lt, nat_le, drop, get_or, Option, Some, None, option_map, option_and_then, Ordering, Less, Equal, Greater, refl, ap, ◌∙◌, arith, subst, lt-ltb, ltb-true, leb-true}
use Rattle.std.proofs.lemmas.Bool.{and_parts, and_from, or_parts, false≢true, true≢false}
use Rattle.std.proofs.lemmas.Cmp.{nat_list_cmp_total}
use Rattle.std.specs.Cmp.Lexicographic.{slice_cmp}
use Rattle.std.specs.Ordering.{nat_cmp, is_lt, match_ordering, ordering_reverse}
use Rattle.fast_float.specs.Text.{Parts, scan, digits_of, with_sign, minus}
use Rattle.json.specs.Lex.{tokens}
use Rattle.json.specs.Json as json
use Rattle.serde_json.specs.Data.{Num, unsigned, negative, float, Data, null, boolean, number, string, array, object, Items, no_items, item, Members, no_members, member, put}
use Rattle.serde_json.specs.Find.{is_float}
use Rattle.serde_json.specs.Read.{is_integer, float_of, number_from, number_of, of_json, of_items, of_members, read, max_depth}
use Rattle.serde_json.specs.Written.{has_float, items_have_float, members_have_float}
use Rattle.json_forms.specs.Carried as carried
use Rattle.json_forms.specs.Carried.{is_below, is_carried, items_carried, members_carried}

-- carried, but for floats
abbrev num_stored : Num → Bool
num_stored n = is_float n || carried.is_integer n

abbrev mutual
  stored : Data → Bool
  stored null = true
  stored (boolean b) = true
  stored (number n) = num_stored n
  stored (string s) = true
  stored (array ds) = items_stored ds
  stored (object ms) = members_stored ms

  items_stored : Items → Bool
  items_stored no_items = true
  items_stored (item d ds) = stored d && items_stored ds

  members_stored : Members → Bool
  members_stored no_members = true
  members_stored (member k d ms) = is_below k ms && (stored d && members_stored ms)

-- of what was read, if anything was
abbrev pass : {A : Type 0} → (A → Bool) → Option A → Type 0
pass p None = Unit {0}
pass p (Some a) = p a ≡ true

pass-map : {A B : Type 0} (p : A → Bool) (q : B → Bool) (h : A → B) → ((a : A) → p a ≡ true → q (h a) ≡ true) → (o : Option A) → pass p o → pass q (option_map h o)
pass-map p q h k None x = tt
pass-map p q h k (Some a) x = k a x

pass-and_then : {A B : Type 0} (p : A → Bool) (q : B → Bool) (h : A → Option B) → ((a : A) → p a ≡ true → pass q (h a)) → (o : Option A) → pass p o → pass q (option_and_then h o)
pass-and_then p q h k None x = tt
pass-and_then p q h k (Some a) x = k a x

-- ---- numbers

choose : (b : Bool) (n : Num) (o : Option Num) → (b ≡ true → num_stored n ≡ true) → pass num_stored o → pass num_stored (cond b (Some n) o)
choose true n o h k = h refl
choose false n o h k = k

float_stored : (sign : Bool) (p : Parts) → pass num_stored (float_of sign p)
float_stored sign p = choose _ (float _) None (λ _. refl) tt

below_zero : (n : ℕ) → 0 < n → n ≤ 2 ^ 63 → num_stored (negative (with_sign true n)) ≡ true
below_zero zero some h = absurd (omega arith)
below_zero (suc n) some h = lt-ltb n (2 ^ 63) (omega arith)

from_stored : (sign : Bool) (p : Parts) → pass num_stored (number_from sign p)
from_stored false p = choose (is_integer p && nat_lt (digits_of p) (2 ^ 64)) (unsigned (digits_of p)) (float_of false p) (λ e. (and_parts (is_integer p) _ e).1) (float_stored false p)
from_stored true p =
    choose (is_integer p && nat_lt 0 (digits_of p) && nat_le (digits_of p) (2 ^ 63)) (negative (with_sign true (digits_of p))) (float_of true p)
    (λ e. let q = and_parts (is_integer p && nat_lt 0 (digits_of p)) (nat_le (digits_of p) (2 ^ 63)) e in let r = and_parts (is_integer p) (nat_lt 0 (digits_of p)) q.0 in below_zero (digits_of p) (ltb-true 0 _ r.1) (leb-true _ _ q.1)) (float_stored true p)

number_stored : (s : List ℕ) → pass num_stored (number_of s)
unfolding number_of
number_stored s = by_sign (get_or s 0 0 == minus)
  where
    by_sign : (b : Bool) → pass num_stored (cond b (number_from true (scan (drop 1 s))) (number_from false (scan s)))
    by_sign true = from_stored true (scan (drop 1 s))
    by_sign false = from_stored false (scan s)

-- ---- objects

is_less : (o : Ordering) → is_lt o ≡ true → o ≡ Less
is_less Less h = refl
is_less Equal h = absurd (false≢true h)
is_less Greater h = absurd (false≢true h)

-- what is below the first key is below all
below_all : (k l : List ℕ) (ms : Members) → slice_cmp nat_cmp k l ≡ Less → is_below l ms ≡ true → is_below k ms ≡ true
below_all k l no_members h below = refl
below_all k l (member m d ms) h below =
    let p = and_parts (is_lt (slice_cmp nat_cmp l m)) (is_below l ms) below in
    and_from _ _ (ap is_lt (nat_list_cmp_total.trans k l m h (is_less _ p.0))) (below_all k l ms h p.1)

below_match : (o : Ordering) (k : List ℕ) (a b c : Members) → (o ≡ Less → is_below k a ≡ true) → (o ≡ Equal → is_below k b ≡ true) → (o ≡ Greater → is_below k c ≡ true) → is_below k (match_ordering o a b c) ≡ true
below_match Less k a b c x y z = x refl
below_match Equal k a b c x y z = y refl
below_match Greater k a b c x y z = z refl

below_put : (m k : List ℕ) (d : Data) (ms : Members) → is_lt (slice_cmp nat_cmp m k) ≡ true → is_below m ms ≡ true → is_below m (put k d ms) ≡ true
below_put m k d no_members h below = and_from _ true h refl
below_put m k d (member l e ms) h below =
    let p = and_parts (is_lt (slice_cmp nat_cmp m l)) (is_below m ms) below in
    below_match (slice_cmp nat_cmp k l) m (member k d (member l e ms)) (member l d ms) (member l e (put k d ms))
    (λ _. and_from _ _ h below) (λ _. below) (λ _. and_from _ _ p.0 (below_put m k d ms h p.1))

stored_match : (o : Ordering) (a b c : Members) → (o ≡ Less → members_stored a ≡ true) → (o ≡ Equal → members_stored b ≡ true) → (o ≡ Greater → members_stored c ≡ true) → members_stored (match_ordering o a b c) ≡ true
stored_match Less a b c x y z = x refl
stored_match Equal a b c x y z = y refl
stored_match Greater a b c x y z = z refl

stored_put : (k : List ℕ) (d : Data) (ms : Members) → stored d ≡ true → members_stored ms ≡ true → members_stored (put k d ms) ≡ true
stored_put k d no_members h s = and_from true _ refl (and_from (stored d) true h refl)
stored_put k d (member l e ms) h s =
    let p = and_parts (is_below l ms) (stored e && members_stored ms) s in
    let q = and_parts (stored e) (members_stored ms) p.1 in
    stored_match (slice_cmp nat_cmp k l) (member k d (member l e ms)) (member l d ms) (member l e (put k d ms))
    (λ less. and_from _ _ (and_from _ _ (ap is_lt less) (below_all k l ms less p.0)) (and_from _ _ h s))
    (λ _. and_from _ _ p.0 (and_from _ _ h q.1))
    (λ more. and_from _ _ (below_put l k d ms (ap is_lt (nat_list_cmp_total.antisymm l k ∙ ap ordering_reverse more)) p.0) (and_from _ _ q.0 (stored_put k d ms h q.1)))

-- ---- values

mutual
  of_json-stored : (j : json.Json) → pass stored (of_json j)
  of_json-stored json.null = refl
  of_json-stored (json.boolean b) = refl
  of_json-stored (json.number s) = pass-map num_stored stored number (λ n h. h) (number_of s) (number_stored s)
  of_json-stored (json.string s) = refl
  of_json-stored (json.array js) = pass-map items_stored stored array (λ ds h. h) (of_items js) (of_items-stored js)
  of_json-stored (json.object ms) = pass-map members_stored stored object (λ ds h. h) (of_members ms no_members) (of_members-stored ms no_members refl)

  of_items-stored : (js : json.Items) → pass items_stored (of_items js)
  of_items-stored json.no_items = refl
  of_items-stored (json.item j js) =
      pass-and_then stored items_stored _ (λ d h. pass-map items_stored items_stored (item d) (λ ds k. and_from _ _ h k) (of_items js) (of_items-stored js)) (of_json j) (of_json-stored j)

  of_members-stored : (ms : json.Members) (found : Members) → members_stored found ≡ true → pass members_stored (of_members ms found)
  of_members-stored json.no_members found s = s
  of_members-stored (json.member k j ms) found s =
      pass-and_then stored members_stored _ (λ d h. of_members-stored ms (put k d found) (stored_put k d found h s)) (of_json j) (of_json-stored j)

-- ---- with no float

no_float : (n : Num) → num_stored n ≡ true → is_float n ≡ false → carried.is_integer n ≡ true
no_float (unsigned n) h f = h
no_float (negative z) h f = h
no_float (float x) h f = absurd (true≢false f)

mutual
  carried_stored : (d : Data) → stored d ≡ true → has_float d ≡ false → is_carried d ≡ true
  carried_stored null h f = refl
  carried_stored (boolean b) h f = refl
  carried_stored (number n) h f = no_float n h f
  carried_stored (string s) h f = refl
  carried_stored (array ds) h f = items_carried_stored ds h f
  carried_stored (object ms) h f = members_carried_stored ms h f

  items_carried_stored : (ds : Items) → items_stored ds ≡ true → items_have_float ds ≡ false → items_carried ds ≡ true
  items_carried_stored no_items h f = refl
  items_carried_stored (item d ds) h f =
      let p = and_parts (stored d) (items_stored ds) h in
      let g = or_parts (has_float d) (items_have_float ds) f in
      and_from _ _ (carried_stored d p.0 g.0) (items_carried_stored ds p.1 g.1)

  members_carried_stored : (ms : Members) → members_stored ms ≡ true → members_have_float ms ≡ false → members_carried ms ≡ true
  members_carried_stored no_members h f = refl
  members_carried_stored (member k d ms) h f =
      let p = and_parts (is_below k ms) (stored d && members_stored ms) h in
      let q = and_parts (stored d) (members_stored ms) p.1 in
      let g = or_parts (has_float d) (members_have_float ms) f in
      and_from _ _ p.0 (and_from _ _ (carried_stored d q.0 g.0) (members_carried_stored ms q.1 g.1))

each_stored : (o : Option json.Json) → pass stored (option_and_then of_json o)
each_stored None = tt
each_stored (Some j) = of_json-stored j

pub carried_when_read : (text : List ℕ) (d : Data) → read text ≡ Some d → has_float d ≡ false → is_carried d ≡ true
carried_when_read text d e f = carried_stored d (subst (pass stored) e (each_stored (option_and_then (λ p. json.if_last p.0 p.1) (json.value max_depth (tokens text))))) f
