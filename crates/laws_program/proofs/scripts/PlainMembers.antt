-- Objects that have no float: each of their members is read.
use Rattle.std.proofs.Common.{◌≡◌, ℕ, List, [], ◌∷◌, Bool, true, ◌&&◌, Option, Some, None, is_some, Ordering, Less, Equal, Greater, refl, sym, ap, subst, ◌∙◌, true≢false, ⊎_elim}
use Rattle.std.proofs.lemmas.Bool.{and_parts, or_cases, or_from}
use Rattle.std.proofs.lemmas.Cmp.{nat_list_cmp_total, tied_itself}
use Rattle.std.proofs.lemmas.Map.Text.{is_eq-slice_cmp}
use Rattle.std.proofs.lemmas.Slice.Eq.{bytes_eq-Decides}
use Rattle.std.specs.Cmp.Lexicographic.{slice_cmp}
use Rattle.std.specs.List.{AllByRecursion}
use Rattle.std.specs.Ordering.{nat_cmp, is_eq, is_lt, match_ordering}
use Rattle.serde_json.specs.Data.{Data, null, boolean, number, string, array, object, Items, no_items, item, Members, no_members, member}
use Rattle.serde_json.specs.Find.{as_array, get_member}
use Rattle.serde_json.specs.Written.{has_float, items_have_float, members_have_float}
use Rattle.json_forms.specs.Carried.{is_below}
use Rattle.json_forms.specs.Lists.{list_of}
use Rattle.json_forms.specs.Reading.{◌>>=◌}
use Rattle.json_values.proofs.SpelledForms.{Holds, either_by, step, weaker}
use Rattle.json_scripts.specs.Members.{is_among, is_name, members_all, only_among}
use Rattle.laws_program.proofs.scripts.Ordered.{is_less, is_ordered, items_ordered, members_ordered}
use Rattle.laws_program.proofs.scripts.PlainForms.{Plain, ArePlain, Refuses}

-- what stands at this name, if anything does, is plain
abbrev pub IsPlainAt : List ℕ → Members → Type 0
IsPlainAt k ms = (e : Data) → get_member k ms ≡ Some e → Plain e

pub none_some : {X : Type 0} (o : Option X) (x : X) → o ≡ None → o ≡ Some x → ⊥
none_some o x h g = true≢false (ap is_some (sym g) ∙ ap is_some h)

pub some_same : {X : Type 0} (x y : X) → Some x ≡ Some y → x ≡ y
some_same x y h = cc

equal_keys : (k l : List ℕ) → slice_cmp nat_cmp k l ≡ Equal → k ≡ l
equal_keys k l is = (bytes_eq-Decides k l).0 (sym (is_eq-slice_cmp k l) ∙ ap is_eq is)

-- ---- what is found under each name is all that there is

absent_below : (k : List ℕ) (ms : Members) → is_below k ms ≡ true → get_member k ms ≡ None
absent_below k no_members h = refl
absent_below k (member l e ms) h =
    let p = and_parts (is_lt (slice_cmp nat_cmp k l)) (is_below k ms) h in
    ap (λ o. match_ordering o (get_member k ms) (Some e) (get_member k ms)) (is_less _ p.0) ∙ absent_below k ms p.1

first_plain : (l : List ℕ) (d : Data) (ms : Members) → IsPlainAt l (member l d ms) → Plain d
first_plain l d ms f = f d (ap (λ o. match_ordering o (get_member l ms) (Some d) (get_member l ms)) (tied_itself nat_list_cmp_total l))

-- what is found behind a member is found
behind : (o : Ordering) (k l : List ℕ) (d e : Data) (ms : Members) → slice_cmp nat_cmp k l ≡ o → is_below l ms ≡ true → get_member k ms ≡ Some e → get_member k (member l d ms) ≡ Some e
behind Less k l d e ms is below h = ap (λ o. match_ordering o (get_member k ms) (Some d) (get_member k ms)) is ∙ h
behind Equal k l d e ms is below h = absurd (none_some (get_member l ms) e (absent_below l ms below) (subst (λ n. get_member n ms ≡ Some e) (equal_keys k l is) h))
behind Greater k l d e ms is below h = ap (λ o. match_ordering o (get_member k ms) (Some d) (get_member k ms)) is ∙ h

pub all_plain : (ms : Members) → members_ordered ms ≡ true → ((k : List ℕ) → IsPlainAt k ms) → Plain (object ms)
all_plain no_members h f = refl
all_plain (member l d ms) h f =
    let p = and_parts (is_below l ms) (is_ordered d && members_ordered ms) h in
    let q = and_parts (is_ordered d) (members_ordered ms) p.1 in
    or_from (has_float d) (members_have_float ms) (first_plain l d ms (f l)) (all_plain ms q.1 (λ k e g. f k e (behind (slice_cmp nat_cmp k l) k l d e ms refl p.0 g)))

-- ---- each name is one of a list

named_at : (o : Ordering) (p : List ℕ → Bool) (k l : List ℕ) (ms : Members) (d e : Data) → slice_cmp nat_cmp k l ≡ o → match_ordering o (get_member k ms) (Some d) (get_member k ms) ≡ Some e → p l ≡ true →
    (get_member k ms ≡ Some e → p k ≡ true) → p k ≡ true
named_at Less p k l ms d e is h here later = later h
named_at Equal p k l ms d e is h here later = ap p (equal_keys k l is) ∙ here
named_at Greater p k l ms d e is h here later = later h

-- a name that is found passes the test that all names pass
named : (p : List ℕ → Bool) (k : List ℕ) (ms : Members) (e : Data) → members_all p ms ≡ true → get_member k ms ≡ Some e → p k ≡ true
named p k no_members e h g = absurd (none_some None e refl g)
named p k (member l d ms) e h g =
    let q = and_parts (p l) (members_all p ms) h in
    named_at (slice_cmp nat_cmp k l) p k l ms d e refl g q.0 (named p k ms e q.1)

at_name : (name k : List ℕ) (ms : Members) (e : Data) → IsPlainAt name ms → get_member k ms ≡ Some e → is_name name k ≡ true → Plain e
at_name name k ms e plain g h = plain e (subst (λ n. get_member n ms ≡ Some e) ((bytes_eq-Decides k name).0 h) g)

-- what is found under a name that is one of these, each of which finds what is plain
at_one_of : (names : List (List ℕ)) (k : List ℕ) (ms : Members) (e : Data) → AllByRecursion (λ name. IsPlainAt name ms) names → get_member k ms ≡ Some e → is_among names k ≡ true → Plain e
at_one_of [] k ms e plain g h = absurd (true≢false (sym h))
at_one_of (name ∷ names) k ms e plain g h = ⊎_elim (at_name name k ms e plain.0 g) (at_one_of names k ms e plain.1 g) (or_cases (is_name name k) (is_among names k) h)

-- an object is plain where no member stands beside some, each of which is plain
pub by_names : (names : List (List ℕ)) (ms : Members) → members_ordered ms ≡ true → members_all (is_among names) ms ≡ true → AllByRecursion (λ name. IsPlainAt name ms) names → Plain (object ms)
by_names names ms h among plain = all_plain ms h (λ k e g. at_one_of names k ms e plain g (named (is_among names) k ms e among g))

only_named : (names : List (List ℕ)) (ms : Members) → Holds (λ _. members_all (is_among names) ms ≡ true) (only_among names (object ms))
unfolding only_among Holds
only_named names ms = either_by _ (members_all (is_among names) ms) (Some tt) None (λ h. h) (λ _. tt)

-- ---- a member that is read

-- where something is read of it
pub member_plain : {X : Type 0} (f : Data → Option X) → Refuses f → (k : List ℕ) (ms : Members) → Holds (λ (x : X). IsPlainAt k ms) (get_member k ms >>= f)
unfolding Holds
member_plain {X} f h k ms = by_found (get_member k ms)
  where
    by_found : (o : Option Data) → Holds (λ (x : X). (e : Data) → o ≡ Some e → Plain e) (o >>= f)
    by_found None = tt
    by_found (Some d) = weaker (λ (x : X). Plain d) (λ (x : X). (e : Data) → Some d ≡ Some e → Plain e) (f d) (h d) (λ x p e g. subst Plain (some_same d e g) p)

-- the same, read in two steps
pub member_then : {A B : Type 0} (f : Data → Option A) (g : A → Option B) → Refuses (λ d. f d >>= g) → (k : List ℕ) (ms : Members) → Holds (λ (x : B). IsPlainAt k ms) (get_member k ms >>= f >>= g)
unfolding Holds
member_then {A} {B} f g h k ms = by_found (get_member k ms)
  where
    by_found : (o : Option Data) → Holds (λ (x : B). (e : Data) → o ≡ Some e → Plain e) (o >>= f >>= g)
    by_found None = tt
    by_found (Some d) = weaker (λ (x : B). Plain d) (λ (x : B). (e : Data) → Some d ≡ Some e → Plain e) (f d >>= g) (h d) (λ x p e g. subst Plain (some_same d e g) p)

-- what is plain where anything is read of it spells nothing with a float
pub spells_nothing : {X : Type 0} (d : Data) (o : Option X) → Holds (λ (x : X). Plain d) o → has_float d ≡ true → o ≡ None
unfolding Holds
spells_nothing d None h float = refl
spells_nothing d (Some x) h float = absurd (true≢false (sym float ∙ h))

-- ---- members that have objects within them

-- What it reads something of is plain, if its objects have each key once, in order.
abbrev pub RefusesOrdered : {X : Type 0} → (Data → Option X) → Type 0
RefusesOrdered {X} f = (d : Data) → is_ordered d ≡ true → Holds (λ (x : X). Plain d) (f d)

-- where nothing is read but an object without members beside some
pub by_members : {X : Type 0} (names : List (List ℕ)) (rest : Data → Option X)
    → ((ms : Members) → members_ordered ms ≡ true → members_all (is_among names) ms ≡ true → Holds (λ (x : X). Plain (object ms)) (rest (object ms)))
    → RefusesOrdered (λ d. only_among names d >>= λ _. rest d)
unfolding only_among Holds
by_members names rest f null h = tt
by_members names rest f (boolean b) h = tt
by_members names rest f (number n) h = tt
by_members names rest f (string s) h = tt
by_members names rest f (array ds) h = tt
by_members {X} names rest f (object ms) h = step (λ _. members_all (is_among names) ms ≡ true) (λ (x : X). Plain (object ms)) (only_among names (object ms)) (λ _. rest (object ms)) (only_named names ms) (λ _ among. f ms h among)

chosen_ordered : (o : Ordering) (x y z : Option Data) → Holds (λ d. is_ordered d ≡ true) x → Holds (λ d. is_ordered d ≡ true) y → Holds (λ d. is_ordered d ≡ true) z → Holds (λ d. is_ordered d ≡ true) (match_ordering o x y z)
chosen_ordered Less x y z hx hy hz = hx
chosen_ordered Equal x y z hx hy hz = hy
chosen_ordered Greater x y z hx hy hz = hz

member_ordered : (k : List ℕ) (ms : Members) → members_ordered ms ≡ true → Holds (λ d. is_ordered d ≡ true) (get_member k ms)
unfolding Holds
member_ordered k no_members h = tt
member_ordered k (member l d ms) h =
    let p = and_parts (is_below l ms) (is_ordered d && members_ordered ms) h in
    let q = and_parts (is_ordered d) (members_ordered ms) p.1 in
    let later = member_ordered k ms q.1 in
    chosen_ordered (slice_cmp nat_cmp k l) (get_member k ms) (Some d) (get_member k ms) later q.0 later

pub ordered_member_plain : {X : Type 0} (f : Data → Option X) → RefusesOrdered f → (k : List ℕ) (ms : Members) → members_ordered ms ≡ true → Holds (λ (x : X). IsPlainAt k ms) (get_member k ms >>= f)
unfolding Holds
ordered_member_plain {X} f h k ms ordered = by_found (get_member k ms) (member_ordered k ms ordered)
  where
    by_found : (o : Option Data) → Holds (λ d. is_ordered d ≡ true) o → Holds (λ (x : X). (e : Data) → o ≡ Some e → Plain e) (o >>= f)
    by_found None i = tt
    by_found (Some d) i = weaker (λ (x : X). Plain d) (λ (x : X). (e : Data) → Some d ≡ Some e → Plain e) (f d) (h d i) (λ x p e g. subst Plain (some_same d e g) p)

ordered_list_plain : {X : Type 0} (f : Data → Option X) → RefusesOrdered f → (ds : Items) → items_ordered ds ≡ true → Holds (λ (xs : List X). ArePlain ds) (list_of f ds)
unfolding list_of Holds
ordered_list_plain f h no_items i = refl
ordered_list_plain {X} f h (item d ds) i =
    let p = and_parts (is_ordered d) (items_ordered ds) i in
    step (λ (x : X). Plain d) (λ (xs : List X). ArePlain (item d ds)) (f d) _ (h d p.0) (λ x first.
    step (λ (xs : List X). ArePlain ds) (λ (xs : List X). ArePlain (item d ds)) (list_of f ds) _ (ordered_list_plain f h ds p.1) (λ xs rest. or_from (has_float d) (items_have_float ds) first rest))

pub ordered_rows_plain : {X : Type 0} (f : Data → Option X) → RefusesOrdered f → RefusesOrdered (λ d. as_array d >>= list_of f)
unfolding Holds
ordered_rows_plain f h null i = tt
ordered_rows_plain f h (boolean b) i = tt
ordered_rows_plain f h (number n) i = tt
ordered_rows_plain f h (string s) i = tt
ordered_rows_plain f h (array ds) i = ordered_list_plain f h ds i
ordered_rows_plain f h (object ms) i = tt
