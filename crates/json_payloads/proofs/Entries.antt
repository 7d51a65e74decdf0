-- The entries of a map, one after another.
use Rattle.std.proofs.Common.{◌≡◌, ℕ, List, [], ◌∷◌, map, Bool, true, ◌&&◌, Option, Some, None, String, Global, Ordering, Less, Equal, Greater, string_bytes, string_cmp, refl, sym, ap, ◌∙◌}
use Rattle.std.specs.BTreeMap.{insert_entry}
use Rattle.std.specs.List.{AllByRecursion}
use Rattle.std.specs.List.Sorted.{IsStrictlySortedBy}
use Rattle.std.specs.Map.{keys_of}
use Rattle.std.specs.Ordering.{match_ordering, is_lt}
use Rattle.serde_json.specs.Data.{Data}
use Rattle.serde_json.specs.View.{view, members_view}
use Rattle.serde_json.specs.declared.value.Value.{Value}
use Rattle.json_payloads.specs.Maps.{entry_of, key_cmp, is_below, is_sorted, gather}
use Rattle.json_payloads.specs.Reading.{◌>>=◌, Fails}
use Rattle.json_payloads.specs.declared.reading.ReadError.{ReadError}
use Rattle.json_payloads.specs.declared.reading.ReadError.TheVariants.{Memory, Refused}

-- ---- one entry more

map-match_ordering : {X Y : Type 0} (f : X → Y) (o : Ordering) (a b c : List X) → map f (match_ordering o a b c) ≡ match_ordering o (map f a) (map f b) (map f c)
map-match_ordering f Less a b c = refl
map-match_ordering f Equal a b c = refl
map-match_ordering f Greater a b c = refl

pub entries_inserted : {X : Type 0} (es : List (String Global × X)) (k : String Global) (x : X) → map entry_of (insert_entry string_cmp es k x) ≡ insert_entry key_cmp (map entry_of es) (string_bytes k) x
entries_inserted [] k x = refl
entries_inserted {X} (e ∷ es) k x =
    map-match_ordering entry_of (string_cmp k e.0) ((k, x) ∷ e ∷ es) ((e.0, x) ∷ es) (e ∷ insert_entry string_cmp es k x)
    ∙ ap (λ (rest : List (List ℕ × X)). match_ordering (string_cmp k e.0) (entry_of (k, x) ∷ entry_of e ∷ map entry_of es) (entry_of (e.0, x) ∷ map entry_of es) (entry_of e ∷ rest)) (entries_inserted es k x)

-- ---- the keys ascend

pub both_true : (a b : Bool) → a ≡ true → b ≡ true → (a && b) ≡ true
both_true a b p q = ap (λ (x : Bool). x && b) p ∙ q

all_above : {X : Type 0} (k : String Global) (es : List (String Global × X)) → AllByRecursion (λ y. string_cmp k y ≡ Less) (keys_of es) → is_below (string_bytes k) (map entry_of es) ≡ true
all_above k [] h = refl
all_above k (e ∷ es) h = both_true _ _ (ap is_lt h.0) (all_above k es h.1)

pub entries_sorted : {X : Type 0} (es : List (String Global × X)) → IsStrictlySortedBy string_cmp (keys_of es) → is_sorted (map entry_of es) ≡ true
unfolding IsStrictlySortedBy
entries_sorted [] h = refl
entries_sorted (e ∷ es) h = both_true _ _ (all_above e.0 es h.0) (entries_sorted es h.1)

pub ruleset entries_printed = (entries_sorted, both_true)

-- ---- reading

pub gather_more : {X : Type 0} (f : Data → Option X) (t u : List (String Global × Value)) (e : String Global × Value) (found : List (List ℕ × X)) (x : X) → t ≡ e ∷ u → f (view e.1) ≡ Some x
    → gather f (members_view u) (insert_entry key_cmp found (string_bytes e.0) x) ≡ gather f (members_view t) found
unfolding gather
gather_more {X} f t u e found x is r =
    sym (ap (λ (es : List (String Global × Value)). gather f (members_view es) found) is ∙ ap (λ (o : Option X). o >>= λ y. gather f (members_view u) (insert_entry key_cmp found (string_bytes e.0) y)) r)

gather_none : {X : Type 0} (f : Data → Option X) (t u : List (String Global × Value)) (e : String Global × Value) (found : List (List ℕ × X)) → t ≡ e ∷ u → f (view e.1) ≡ None
    → gather f (members_view t) found ≡ None
unfolding gather
gather_none {X} f t u e found is r =
    ap (λ (es : List (String Global × Value)). gather f (members_view es) found) is ∙ ap (λ (o : Option X). o >>= λ y. gather f (members_view u) (insert_entry key_cmp found (string_bytes e.0) y)) r

pub gather_fail : {X : Type 0} (f : Data → Option X) (error : ReadError) (t u : List (String Global × Value)) (e : String Global × Value) (found : List (List ℕ × X)) (whole : Option (List (List ℕ × X))) → t ≡ e ∷ u
    → gather f (members_view t) found ≡ whole → Fails error (f (view e.1)) → Fails error whole
gather_fail f Memory t u e found whole is w r = tt
gather_fail f (Refused why) t u e found whole is w r = sym w ∙ gather_none f t u e found is r

pub gather_end : {X : Type 0} (f : Data → Option X) (t : List (String Global × Value)) (found : List (List ℕ × X)) → t ≡ [] → gather f (members_view t) found ≡ Some found
unfolding gather
gather_end {X} f t found is = ap (λ (es : List (String Global × Value)). gather f (members_view es) found) is

pub ruleset entries_read = (gather_more, gather_fail, gather_end)
