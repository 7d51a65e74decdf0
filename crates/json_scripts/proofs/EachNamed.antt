-- The names of an object's members, as they stand in the text.
use Rattle.std.proofs.Common.{◌≡◌, ℕ, suc, ◌+◌, ◌<◌, ◌≤◌, List, ◌∷◌, length, drop, get_or, Bool, true, false, ◌&&◌, Bor, Ordering, Less, Equal, Greater, refl, sym, ap, ◌∙◌, subst, drop-cons, add-one}
use Rattle.std.proofs.lemmas.List.{drop_all}
use Rattle.std.proofs.lemmas.Map.Text.{is_eq-slice_cmp}
use Rattle.std.proofs.lemmas.Slice.Eq.{bytes_eq-Decides}
use Rattle.std.specs.Cmp.Lexicographic.{slice_cmp}
use Rattle.std.specs.Ordering.{nat_cmp, is_eq, match_ordering}
use Rattle.json.specs.Json as json
use Rattle.json.specs.Value as values
use Rattle.json.specs.declared.value.Value.{Value}
use Rattle.serde_json.specs.Data.{Data, Members, no_members, member, put}
use Rattle.json_forms.specs.View.{data_of_json, members_of_json, members_view}
use Rattle.json_scripts.specs.Members.{members_all}

abbrev Entry : Type 0 → Type 0
Entry A = Bor (List ℕ) × Value A

-- each name is one of these
pub each_is : (List ℕ → Bool) → json.Members → Bool
each_is p json.no_members = true
each_is p (json.member k j ms) = p k && each_is p ms

-- ---- the object has the same names

all_match : (p : List ℕ → Bool) (o : Ordering) (a b c : Members) (r : Bool) → (o ≡ Less → members_all p a ≡ r) → (o ≡ Equal → members_all p b ≡ r) → (o ≡ Greater → members_all p c ≡ r) → members_all p (match_ordering o a b c) ≡ r
all_match p Less a b c r x y z = x refl
all_match p Equal a b c r x y z = y refl
all_match p Greater a b c r x y z = z refl

swapped : (a b c : Bool) → a && (b && c) ≡ b && (a && c)
swapped true true c = refl
swapped true false c = refl
swapped false true c = refl
swapped false false c = refl

twice : (a b : Bool) → a && b ≡ a && (a && b)
twice true b = refl
twice false b = refl

all_put : (p : List ℕ → Bool) (k : List ℕ) (d : Data) (ms : Members) → members_all p (put k d ms) ≡ p k && members_all p ms
all_put p k d no_members = refl
all_put p k d (member l e ms) =
    all_match p (slice_cmp nat_cmp k l) (member k d (member l e ms)) (member l d ms) (member l e (put k d ms)) (p k && (p l && members_all p ms))
    (λ _. refl)
    (λ same. let is : k ≡ l = (bytes_eq-Decides k l).0 (sym (is_eq-slice_cmp k l) ∙ ap is_eq same) in subst (λ n. p l && members_all p ms ≡ p n && (p l && members_all p ms)) (sym is) (twice (p l) (members_all p ms)))
    (λ _. ap (λ r. p l && r) (all_put p k d ms) ∙ swapped (p l) (p k) (members_all p ms))

moved : (a b c : Bool) → b && (a && c) ≡ (a && b) && c
moved true b c = refl
moved false true c = refl
moved false false c = refl

all_in : (p : List ℕ → Bool) (ms : json.Members) (found : Members) → members_all p (members_of_json ms found) ≡ each_is p ms && members_all p found
unfolding each_is
all_in p json.no_members found = refl
all_in p (json.member k j ms) found =
    all_in p ms (put k (data_of_json j) found) ∙ ap (λ r. each_is p ms && r) (all_put p k (data_of_json j) found) ∙ moved (p k) (each_is p ms) (members_all p found)

and_true : (b : Bool) → b && true ≡ b
and_true true = refl
and_true false = refl

pub names_in_view : {A : Type 0} (p : List ℕ → Bool) (ms : List (Entry A)) → members_all p (members_view ms) ≡ each_is p (values.members_view ms)
unfolding members_view
names_in_view p ms = all_in p (values.members_view ms) no_members ∙ and_true (each_is p (values.members_view ms))

-- ---- one after another

name-drop : {A : Type 0} (p : List ℕ → Bool) (ms : List (Entry A)) (i : ℕ) (m : Entry A) → i < length ms → m ≡ get_or ms i m →
    each_is p (values.members_view (drop i ms)) ≡ p m.0.now && each_is p (values.members_view (drop (i + 1) ms))
unfolding each_is
name-drop {A} p ms i m h e =
    ap (λ (l : List (Entry A)). each_is p (values.members_view l)) (drop-cons ms i m h ∙ ap (λ (q : Entry A). q ∷ drop (suc i) ms) (sym e) ∙ ap (λ (k : ℕ). m ∷ drop k ms) (sym (add-one i)))

pub name-more : {A : Type 0} (p : List ℕ → Bool) (ms : List (Entry A)) (i : ℕ) (m : Entry A) → i < length ms → m ≡ get_or ms i m → true ≡ p m.0.now →
    each_is p (values.members_view (drop (i + 1) ms)) ≡ each_is p (values.members_view (drop i ms))
name-more p ms i m h e r = sym (name-drop p ms i m h e ∙ ap (λ b. b && each_is p (values.members_view (drop (i + 1) ms))) (sym r))

pub name-stop : {A : Type 0} (p : List ℕ → Bool) (ms : List (Entry A)) (i : ℕ) (m : Entry A) → i < length ms → m ≡ get_or ms i m → false ≡ p m.0.now → each_is p (values.members_view (drop i ms)) ≡ false
name-stop p ms i m h e r = name-drop p ms i m h e ∙ ap (λ b. b && each_is p (values.members_view (drop (i + 1) ms))) (sym r)

pub name-end : {A : Type 0} (p : List ℕ → Bool) (ms : List (Entry A)) (i : ℕ) → length ms ≤ i → each_is p (values.members_view (drop i ms)) ≡ true
unfolding each_is
name-end {A} p ms i h = ap (λ (l : List (Entry A)). each_is p (values.members_view l)) (drop_all i ms h)

pub ruleset each_named = (names_in_view, name-more, name-stop, name-end)
