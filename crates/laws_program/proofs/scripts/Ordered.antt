-- What was read has each key of an object once, in order.
use Rattle.std.proofs.Common.{◌≡◌, ℕ, List, Bool, true, ◌&&◌, Option, Some, None, option_map, option_and_then, Ordering, Less, Equal, Greater, refl, ap, ◌∙◌, subst}
use Rattle.std.proofs.lemmas.Bool.{and_parts, and_from, false≢true}
use Rattle.std.proofs.lemmas.Cmp.{nat_list_cmp_total}
use Rattle.std.specs.Cmp.Lexicographic.{slice_cmp}
use Rattle.std.specs.Ordering.{nat_cmp, is_lt, match_ordering, ordering_reverse}
use Rattle.json.specs.Json as json
use Rattle.json.specs.Lex.{tokens}
use Rattle.serde_json.specs.Data.{Num, Data, null, boolean, number, string, array, object, Items, no_items, item, Members, no_members, member, put}
use Rattle.serde_json.specs.Read.{number_of, of_json, of_items, of_members, read, max_depth}
use Rattle.json_forms.specs.Carried.{is_below}

abbrev mutual
  pub is_ordered : Data → Bool
  is_ordered null = true
  is_ordered (boolean b) = true
  is_ordered (number n) = true
  is_ordered (string s) = true
  is_ordered (array ds) = items_ordered ds
  is_ordered (object ms) = members_ordered ms

  pub items_ordered : Items → Bool
  items_ordered no_items = true
  items_ordered (item d ds) = is_ordered d && items_ordered ds

  -- each key is below those behind it
  pub members_ordered : Members → Bool
  members_ordered no_members = true
  members_ordered (member k d ms) = is_below k ms && (is_ordered d && members_ordered ms)

-- of what was read, if anything was
abbrev pass : {A : Type 0} → (A → Bool) → Option A → Type 0
pass p None = Unit {0}
pass p (Some a) = p a ≡ true

pass-map : {A B : Type 0} (p : A → Bool) (q : B → Bool) (h : A → B) → ((a : A) → p a ≡ true → q (h a) ≡ true) → (o : Option A) → pass p o → pass q (option_map h o)
pass-map p q h k None x = tt
pass-map p q h k (Some a) x = k a x

pass-and_then : {A B : Type 0} (p : A → Bool) (q : B → Bool) (h : A → Option B) → ((a : A) → p a ≡ true → pass q (h a)) → (o : Option A) → pass p o → pass q (option_and_then h o)
pass-and_then p q h k None x = tt
pass-and_then p q h k (Some a) x = k a x

number_passes : (o : Option Num) → pass is_ordered (option_map number o)
number_passes None = tt
number_passes (Some n) = refl

-- ---- a further member

pub is_less : (o : Ordering) → is_lt o ≡ true → o ≡ Less
is_less Less h = refl
is_less Equal h = absurd (false≢true h)
is_less Greater h = absurd (false≢true h)

-- what is below the first key is below all
below_all : (k l : List ℕ) (ms : Members) → slice_cmp nat_cmp k l ≡ Less → is_below l ms ≡ true → is_below k ms ≡ true
below_all k l no_members h below = refl
below_all k l (member m d ms) h below =
    let p = and_parts (is_lt (slice_cmp nat_cmp l m)) (is_below l ms) below in
    and_from _ _ (ap is_lt (nat_list_cmp_total.trans k l m h (is_less _ p.0))) (below_all k l ms h p.1)

by_match : (test : Members → Bool) (o : Ordering) (a b c : Members) → (o ≡ Less → test a ≡ true) → (o ≡ Equal → test b ≡ true) → (o ≡ Greater → test c ≡ true) → test (match_ordering o a b c) ≡ true
by_match test Less a b c x y z = x refl
by_match test Equal a b c x y z = y refl
by_match test Greater a b c x y z = z refl

below_put : (m k : List ℕ) (d : Data) (ms : Members) → is_lt (slice_cmp nat_cmp m k) ≡ true → is_below m ms ≡ true → is_below m (put k d ms) ≡ true
below_put m k d no_members h below = and_from _ true h refl
below_put m k d (member l e ms) h below =
    let p = and_parts (is_lt (slice_cmp nat_cmp m l)) (is_below m ms) below in
    by_match (is_below m) (slice_cmp nat_cmp k l) (member k d (member l e ms)) (member l d ms) (member l e (put k d ms))
    (λ _. and_from _ _ h below) (λ _. below) (λ _. and_from _ _ p.0 (below_put m k d ms h p.1))

ordered_put : (k : List ℕ) (d : Data) (ms : Members) → is_ordered d ≡ true → members_ordered ms ≡ true → members_ordered (put k d ms) ≡ true
ordered_put k d no_members h s = and_from true _ refl (and_from (is_ordered d) true h refl)
ordered_put k d (member l e ms) h s =
    let p = and_parts (is_below l ms) (is_ordered e && members_ordered ms) s in
    let q = and_parts (is_ordered e) (members_ordered ms) p.1 in
    by_match members_ordered (slice_cmp nat_cmp k l) (member k d (member l e ms)) (member l d ms) (member l e (put k d ms))
    (λ less. and_from _ _ (and_from _ _ (ap is_lt less) (below_all k l ms less p.0)) (and_from _ _ h s))
    (λ _. and_from _ _ p.0 (and_from _ _ h q.1))
    (λ more. and_from _ _ (below_put l k d ms (ap is_lt (nat_list_cmp_total.antisymm l k ∙ ap ordering_reverse more)) p.0) (and_from _ _ q.0 (ordered_put k d ms h q.1)))

-- ---- values

mutual
  of_json-ordered : (j : json.Json) → pass is_ordered (of_json j)
  of_json-ordered json.null = refl
  of_json-ordered (json.boolean b) = refl
  of_json-ordered (json.number s) = number_passes (number_of s)
  of_json-ordered (json.string s) = refl
  of_json-ordered (json.array js) = pass-map items_ordered is_ordered array (λ ds h. h) (of_items js) (of_items-ordered js)
  of_json-ordered (json.object ms) = pass-map members_ordered is_ordered object (λ ds h. h) (of_members ms no_members) (of_members-ordered ms no_members refl)

  of_items-ordered : (js : json.Items) → pass items_ordered (of_items js)
  of_items-ordered json.no_items = refl
  of_items-ordered (json.item j js) =
      pass-and_then is_ordered items_ordered _ (λ d h. pass-map items_ordered items_ordered (item d) (λ ds k. and_from _ _ h k) (of_items js) (of_items-ordered js)) (of_json j) (of_json-ordered j)

  of_members-ordered : (ms : json.Members) (found : Members) → members_ordered found ≡ true → pass members_ordered (of_members ms found)
  of_members-ordered json.no_members found s = s
  of_members-ordered (json.member k j ms) found s =
      pass-and_then is_ordered members_ordered _ (λ d h. of_members-ordered ms (put k d found) (ordered_put k d found h s)) (of_json j) (of_json-ordered j)

each_ordered : (o : Option json.Json) → pass is_ordered (option_and_then of_json o)
each_ordered None = tt
each_ordered (Some j) = of_json-ordered j

pub ordered_when_read : (text : List ℕ) (d : Data) → read text ≡ Some d → is_ordered d ≡ true
ordered_when_read text d e = subst (pass is_ordered) e (each_ordered (option_and_then (λ p. json.if_last p.0 p.1) (json.value max_depth (tokens text))))
