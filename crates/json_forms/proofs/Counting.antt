-- The members of an object are counted as they come, each name once.
use Rattle.std.proofs.Common.{◌≡◌, ℕ, suc, ◌+◌, ◌<◌, ◌≤◌, List, [], ◌∷◌, ◌++◌, length, drop, get_or, Bool, true, false, ◌&&◌, ◌||◌, ◌==◌, bytes_eq, Bor, Ordering, Less, Equal, Greater, refl, sym, ap, ◌∙◌, arith, subst, drop-cons, add-one, true≢false}
use Rattle.std.proofs.lemmas.Bool.{and_parts, and_from, false≢true, ne_eqb}
use Rattle.std.proofs.lemmas.Cmp.{nat_list_cmp_total}
use Rattle.std.proofs.lemmas.Map.Text.{is_eq-slice_cmp}
use Rattle.std.proofs.lemmas.Slice.Eq.{bytes_eq-Decides}
use Rattle.std.specs.Cmp.Lexicographic.{slice_cmp}
use Rattle.std.specs.List.{list_any}
use Rattle.std.specs.Ordering.{nat_cmp, is_eq, is_lt, match_ordering, ordering_reverse}
use Rattle.json.specs.Json as json
use Rattle.json.specs.Value as values
use Rattle.json.specs.Value.{value_view}
use Rattle.json.specs.declared.value.Value.{Value}
use Rattle.serde_json.specs.Data.{Data, Members, no_members, member, put}
use Rattle.json_forms.specs.Forms.{member_count}
use Rattle.json_forms.specs.View.{view, data_of_json, members_of_json, members_view}

abbrev Entry : Type 0 → Type 0
Entry A = Bor (List ℕ) × Value A

abbrev has_key : List ℕ → Members → Bool
has_key n no_members = false
has_key n (member k d ms) = bytes_eq k n || has_key n ms

-- ---- in order

-- the name stands before those of the members
abbrev is_below : List ℕ → Members → Bool
is_below k no_members = true
is_below k (member l d ms) = is_lt (slice_cmp nat_cmp k l) && is_below k ms

abbrev is_ordered : Members → Bool
is_ordered no_members = true
is_ordered (member k d ms) = is_below k ms && is_ordered ms

is_less : (o : Ordering) → is_lt o ≡ true → o ≡ Less
is_less Less h = refl
is_less Equal h = absurd (false≢true h)
is_less Greater h = absurd (false≢true h)

below_all : (k l : List ℕ) (ms : Members) → slice_cmp nat_cmp k l ≡ Less → is_below l ms ≡ true → is_below k ms ≡ true
below_all k l no_members h below = refl
below_all k l (member m d ms) h below =
    let p = and_parts (is_lt (slice_cmp nat_cmp l m)) (is_below l ms) below in
    and_from _ _ (ap is_lt (nat_list_cmp_total.trans k l m h (is_less _ p.0))) (below_all k l ms h p.1)

below_match : (o : Ordering) (k : List ℕ) (a b c : Members) → is_below k a ≡ true → is_below k b ≡ true → is_below k c ≡ true → is_below k (match_ordering o a b c) ≡ true
below_match Less k a b c x y z = x
below_match Equal k a b c x y z = y
below_match Greater k a b c x y z = z

below_put : (m k : List ℕ) (d : Data) (ms : Members) → is_lt (slice_cmp nat_cmp m k) ≡ true → is_below m ms ≡ true → is_below m (put k d ms) ≡ true
below_put m k d no_members h below = and_from _ true h refl
below_put m k d (member l e ms) h below =
    let p = and_parts (is_lt (slice_cmp nat_cmp m l)) (is_below m ms) below in
    below_match (slice_cmp nat_cmp k l) m (member k d (member l e ms)) (member l d ms) (member l e (put k d ms)) (and_from _ _ h below) below (and_from _ _ p.0 (below_put m k d ms h p.1))

ordered_match : (o : Ordering) (a b c : Members) → (o ≡ Less → is_ordered a ≡ true) → (o ≡ Equal → is_ordered b ≡ true) → (o ≡ Greater → is_ordered c ≡ true) → is_ordered (match_ordering o a b c) ≡ true
ordered_match Less a b c x y z = x refl
ordered_match Equal a b c x y z = y refl
ordered_match Greater a b c x y z = z refl

ordered_put : (k : List ℕ) (d : Data) (ms : Members) → is_ordered ms ≡ true → is_ordered (put k d ms) ≡ true
ordered_put k d no_members s = refl
ordered_put k d (member l e ms) s =
    let p = and_parts (is_below l ms) (is_ordered ms) s in
    ordered_match (slice_cmp nat_cmp k l) (member k d (member l e ms)) (member l d ms) (member l e (put k d ms))
    (λ less. and_from _ _ (and_from _ _ (ap is_lt less) (below_all k l ms less p.0)) s)
    (λ _. s)
    (λ more. and_from _ _ (below_put l k d ms (ap is_lt (nat_list_cmp_total.antisymm l k ∙ ap ordering_reverse more)) p.0) (ordered_put k d ms p.1))

-- ---- a name among them

named_same : (o : Ordering) (k l : List ℕ) → slice_cmp nat_cmp k l ≡ o → bytes_eq k l ≡ is_eq o
named_same o k l is = sym (is_eq-slice_cmp k l) ∙ ap is_eq is

turned : (k l : List ℕ) → bytes_eq l k ≡ true → bytes_eq k l ≡ true
turned k l h = (bytes_eq-Decides k l).1 (sym ((bytes_eq-Decides l k).0 h))

-- a name before all of them is none of them
below_is_new : (k : List ℕ) (ms : Members) → is_below k ms ≡ true → has_key k ms ≡ true → ⊥
below_is_new k no_members h among = false≢true among
below_is_new k (member l d ms) h among =
    let p = and_parts (is_lt (slice_cmp nat_cmp k l)) (is_below k ms) h in
    by_first (bytes_eq l k) refl (is_less _ p.0) among (below_is_new k ms p.1)
  where
    by_first : (b : Bool) → bytes_eq l k ≡ b → slice_cmp nat_cmp k l ≡ Less → b || has_key k ms ≡ true → (has_key k ms ≡ true → ⊥) → ⊥
    by_first true e less h later = true≢false (sym (turned k l e) ∙ named_same Less k l less)
    by_first false e less h later = later h

-- ---- how many they are

count_match : (o : Ordering) (a b c : Members) (n : ℕ) → (o ≡ Less → member_count a ≡ n) → (o ≡ Equal → member_count b ≡ n) → (o ≡ Greater → member_count c ≡ n) → member_count (match_ordering o a b c) ≡ n
count_match Less a b c n x y z = x refl
count_match Equal a b c n x y z = y refl
count_match Greater a b c n x y z = z refl

new_parts : (a b : Bool) → a || b ≡ false → (a ≡ false) × (b ≡ false)
new_parts true b h = absurd (true≢false h)
new_parts false b h = (refl, h)

-- a new name is one more
count_new : (k : List ℕ) (d : Data) (ms : Members) → has_key k ms ≡ false → member_count (put k d ms) ≡ suc (member_count ms)
count_new k d no_members h = refl
count_new k d (member l e ms) h =
    let p = new_parts (bytes_eq l k) (has_key k ms) h in
    count_match (slice_cmp nat_cmp k l) (member k d (member l e ms)) (member l d ms) (member l e (put k d ms)) (suc (suc (member_count ms)))
    (λ _. refl)
    (λ same. absurd (true≢false (sym (turned l k (named_same Equal k l same)) ∙ p.0)))
    (λ _. ap suc (count_new k d ms p.1))

old_later : (a b : Bool) → a ≡ false → a || b ≡ true → b ≡ true
old_later true b e h = absurd (true≢false e)
old_later false b e h = h

-- a name that stands there is no more
count_old : (k : List ℕ) (d : Data) (ms : Members) → is_ordered ms ≡ true → has_key k ms ≡ true → member_count (put k d ms) ≡ member_count ms
count_old k d no_members s h = absurd (false≢true h)
count_old k d (member l e ms) s h =
    let p = and_parts (is_below l ms) (is_ordered ms) s in
    count_match (slice_cmp nat_cmp k l) (member k d (member l e ms)) (member l d ms) (member l e (put k d ms)) (suc (member_count ms))
    (λ less. absurd (below_is_new k (member l e ms) (and_from _ _ (ap is_lt less) (below_all k l ms less p.0)) h))
    (λ _. refl)
    (λ more. ap suc (count_old k d ms p.1 (old_later (bytes_eq l k) (has_key k ms) (by_name (bytes_eq l k) refl more) h)))
  where
    by_name : (b : Bool) → bytes_eq l k ≡ b → slice_cmp nat_cmp k l ≡ Greater → b ≡ false
    by_name true e more = absurd (true≢false (sym (turned k l e) ∙ named_same Greater k l more))
    by_name false e more = refl

grows_match : (o : Ordering) (a b c : Members) (n : ℕ) → n ≤ member_count a → n ≤ member_count b → n ≤ member_count c → n ≤ member_count (match_ordering o a b c)
grows_match Less a b c n x y z = x
grows_match Equal a b c n x y z = y
grows_match Greater a b c n x y z = z

put_grows : (k : List ℕ) (d : Data) (ms : Members) → member_count ms ≤ member_count (put k d ms)
put_grows k d no_members = omega arith
put_grows k d (member l e ms) =
    let later = put_grows k d ms in
    grows_match (slice_cmp nat_cmp k l) (member k d (member l e ms)) (member l d ms) (member l e (put k d ms)) (suc (member_count ms)) (omega arith) (omega arith) (omega (arith, later))

-- ---- a name beside the one that was put

swapped : (a b c : Bool) → a || (b || c) ≡ b || (a || c)
swapped true true c = refl
swapped true false c = refl
swapped false true c = refl
swapped false false c = refl

twice : (a b : Bool) → a || b ≡ a || (a || b)
twice true b = refl
twice false b = refl

key_match : (o : Ordering) (n : List ℕ) (a b c : Members) (r : Bool) → (o ≡ Less → has_key n a ≡ r) → (o ≡ Equal → has_key n b ≡ r) → (o ≡ Greater → has_key n c ≡ r) → has_key n (match_ordering o a b c) ≡ r
key_match Less n a b c r x y z = x refl
key_match Equal n a b c r x y z = y refl
key_match Greater n a b c r x y z = z refl

key_put : (n k : List ℕ) (d : Data) (ms : Members) → has_key n (put k d ms) ≡ bytes_eq k n || has_key n ms
key_put n k d no_members = refl
key_put n k d (member l e ms) =
    key_match (slice_cmp nat_cmp k l) n (member k d (member l e ms)) (member l d ms) (member l e (put k d ms)) (bytes_eq k n || (bytes_eq l n || has_key n ms))
    (λ _. refl)
    (λ same. let is : k ≡ l = (bytes_eq-Decides k l).0 (named_same Equal k l same) in subst (λ m. bytes_eq l n || has_key n ms ≡ bytes_eq m n || (bytes_eq l n || has_key n ms)) (sym is) (twice (bytes_eq l n) (has_key n ms)))
    (λ _. ap (λ r. bytes_eq l n || r) (key_put n k d ms) ∙ swapped (bytes_eq l n) (bytes_eq k n) (has_key n ms))

-- ---- one after another

-- some of the members were seen, these are their names, and the others are left
abbrev pub Counts : {A : Type 0} → List (Bor (List ℕ)) → List (Entry A) → Members → ℕ → Type 0
Counts names left whole limit =
    (found : Members) × (members_of_json (values.members_view left) found ≡ whole) × (is_ordered found ≡ true) × (length names ≡ member_count found)
    × ((n : List ℕ) → list_any (λ other. bytes_eq other.now n) names ≡ has_key n found) × (length names ≤ limit)

pub count_start : {A : Type 0} (ms : List (Entry A)) (limit : ℕ) → Counts [] ms (members_view ms) limit
unfolding members_view view
count_start ms limit = (no_members, refl, refl, refl, λ n. refl, omega arith)

either_name : (a b : Bool) → a ≡ true → a || b ≡ true
either_name true b h = refl
either_name false b h = absurd (false≢true h)

known_again : (k n : List ℕ) (found : Members) → has_key k found ≡ true → bytes_eq k n || has_key n found ≡ has_key n found
known_again k n found h = by_name (bytes_eq k n) refl
  where
    by_name : (b : Bool) → bytes_eq k n ≡ b → b || has_key n found ≡ has_key n found
    by_name true e = sym (subst (λ m. has_key m found ≡ true) ((bytes_eq-Decides k n).0 e) h)
    by_name false e = refl

pub count_old_name : {A : Type 0} (names : List (Bor (List ℕ))) (m : Entry A) (left : List (Entry A)) (whole : Members) (limit : ℕ) →
    Counts names (m ∷ left) whole limit → true ≡ list_any (λ other. bytes_eq other.now m.0.now) names → Counts names left whole limit
unfolding members_view view
count_old_name names m left whole limit (found, rest, ordered, counted, known, room) among =
    let here : has_key m.0.now found ≡ true = sym (known m.0.now) ∙ sym among in (
      put m.0.now (view m.1) found,
      rest,
      ordered_put m.0.now (view m.1) found ordered,
      counted ∙ sym (count_old m.0.now (view m.1) found ordered here),
      (λ n. known n ∙ sym (key_put n m.0.now (view m.1) found ∙ known_again m.0.now n found here)),
      room,
    )

any_push : (n : List ℕ) (name : Bor (List ℕ)) (names : List (Bor (List ℕ))) → list_any (λ other. bytes_eq other.now n) (names ++ name ∷ []) ≡ bytes_eq name.now n || list_any (λ other. bytes_eq other.now n) names
any_push n name [] = refl
any_push n name (x ∷ names) = ap (λ r. bytes_eq x.now n || r) (any_push n name names) ∙ swapped (bytes_eq x.now n) (bytes_eq name.now n) (list_any (λ other. bytes_eq other.now n) names)

length_push : (names : List (Bor (List ℕ))) (name : Bor (List ℕ)) → length (names ++ name ∷ []) ≡ suc (length names)
length_push [] name = refl
length_push (x ∷ names) name = ap suc (length_push names name)

pub count_new_name : {A : Type 0} (names : List (Bor (List ℕ))) (m : Entry A) (left : List (Entry A)) (whole : Members) (limit : ℕ) →
    Counts names (m ∷ left) whole limit → false ≡ list_any (λ other. bytes_eq other.now m.0.now) names → (length names ≡ limit → ⊥) → Counts (names ++ m.0 ∷ []) left whole limit
unfolding members_view view
count_new_name names m left whole limit (found, rest, ordered, counted, known, room) among some =
    let here : has_key m.0.now found ≡ false = sym (known m.0.now) ∙ sym among in (
      put m.0.now (view m.1) found,
      rest,
      ordered_put m.0.now (view m.1) found ordered,
      length_push names m.0 ∙ ap suc counted ∙ sym (count_new m.0.now (view m.1) found here),
      (λ n. any_push n m.0 names ∙ ap (λ r. bytes_eq m.0.now n || r) (known n) ∙ sym (key_put n m.0.now (view m.1) found)),
      less (length names) limit room some (length (names ++ m.0 ∷ [])) (length_push names m.0),
    )
  where
    less : (a b : ℕ) → a ≤ b → (a ≡ b → ⊥) → (c : ℕ) → c ≡ suc a → c ≤ b
    less a b h other c e = omega (arith, h, other, e)

all_grow : (ms : json.Members) (found : Members) → member_count found ≤ member_count (members_of_json ms found)
all_grow json.no_members found = omega arith
all_grow (json.member k j ms) found = let one = put_grows k (data_of_json j) found in let rest = all_grow ms (put k (data_of_json j) found) in omega (arith, one, rest)

-- one name too many
pub count_full : {A : Type 0} (names : List (Bor (List ℕ))) (m : Entry A) (left : List (Entry A)) (whole : Members) (limit : ℕ) →
    Counts names (m ∷ left) whole limit → false ≡ list_any (λ other. bytes_eq other.now m.0.now) names → length names ≡ limit → member_count whole == limit ≡ false
unfolding members_view view
count_full names m left whole limit (found, rest, ordered, counted, known, room) among full =
    let here : has_key m.0.now found ≡ false = sym (known m.0.now) ∙ sym among in
    let more = count_new m.0.now (view m.1) found here in
    let grown = all_grow (values.members_view left) (put m.0.now (view m.1) found) in
    let whole_is = ap member_count rest in
    ne_eqb (member_count whole) limit (λ e. omega (arith, more, grown, whole_is, counted, full, e))

pub count_end : {A : Type 0} (names : List (Bor (List ℕ))) (left : List (Entry A)) (whole : Members) (limit : ℕ) → Counts names left whole limit → left ≡ [] → (length names == limit) ≡ (member_count whole == limit)
count_end names left whole limit (found, rest, ordered, counted, known, room) none =
    ap (λ n. n == limit) (counted ∙ ap member_count (sym (ap (λ l. members_of_json (values.members_view l) found) none) ∙ rest))

pub next_member : {A : Type 0} (ms : List (Entry A)) (i : ℕ) (m : Entry A) → i < length ms → m ≡ get_or ms i m → drop i ms ≡ m ∷ drop (i + 1) ms
next_member {A} ms i m h e = drop-cons ms i m h ∙ ap (λ (q : Entry A). q ∷ drop (suc i) ms) (sym e) ∙ rw add-one refl
