-- Names that are read one after another, none of them twice.
use Rattle.std.proofs.Common.{◌≡◌, ℕ, ◌+◌, ◌<◌, ◌≤◌, List, [], ◌∷◌, ◌++◌, length, drop, get_or, Bool, true, false, not, nat_eq, Option, Some, None, refl, ap, ◌∙◌, sym, if◌then◌else◌}
use Rattle.std.specs.Cmp.Lexicographic.{pointwise}
use Rattle.std.specs.List.{list_any}
use Rattle.json_forms.specs.View.{view, items_view}
use Rattle.json.specs.declared.value.Value.{Value}
use Rattle.json_forms.specs.Lists.{list_of}
use Rattle.json_forms.specs.Lists.{fresh, name_at, once, named_once}
use Rattle.json_forms.specs.Reading.{◌>>=◌, Fails}
use Rattle.json_forms.specs.declared.read.ReadError.{ReadError}
use Rattle.json_forms.specs.declared.read.ReadError.TheVariants.{Memory, Refused}
use Rattle.json_forms.proofs.ReadLists.{list_of-drop, list_of-end}

-- names that were seen, and the further ones
pub fresh_then : List (List ℕ) → Option (List (List ℕ)) → Option (Unit {0})
fresh_then seen None = None
fresh_then seen (Some ns) = if fresh seen ns then Some tt else None

by_reading : (o : Option (List (List ℕ))) → fresh_then [] o ≡ (o >>= once)
unfolding fresh_then
by_reading None = refl
by_reading (Some ns) = refl

pub fresh-init : {A : Type 0} (vs : List (Value A)) → fresh_then [] (list_of name_at (items_view vs)) ≡ named_once (items_view vs)
unfolding named_once
fresh-init {A} vs = by_reading (list_of name_at (items_view vs))

not-true : (b : Bool) → true ≡ not b → b ≡ false
not-true true h = absurd (cc)
not-true false h = refl

not-false : (b : Bool) → false ≡ not b → b ≡ true
not-false true h = refl
not-false false h = absurd (cc)

step : {A : Type 0} (seen : List (List ℕ)) (vs : List (Value A)) (i : ℕ) (v : Value A) (n : List ℕ) → i < length vs → v ≡ get_or vs i v → name_at (view v) ≡ Some n →
    fresh_then seen (list_of name_at (items_view (drop i vs))) ≡ fresh_then seen (list_of name_at (items_view (drop (i + 1) vs)) >>= λ ns. Some (n ∷ ns))
step {A} seen vs i v n a e r =
    ap (fresh_then seen) (list_of-drop name_at vs i v a e ∙ ap (λ (o : Option (List ℕ)). o >>= λ x. list_of name_at (items_view (drop (i + 1) vs)) >>= λ xs. Some (x ∷ xs)) r)

new-name : (seen : List (List ℕ)) (n : List ℕ) (o : Option (List (List ℕ))) → list_any (pointwise nat_eq n) seen ≡ false →
    fresh_then (seen ++ n ∷ []) o ≡ fresh_then seen (o >>= λ ns. Some (n ∷ ns))
unfolding fresh_then
new-name seen n None h = refl
new-name seen n (Some ns) h = rw h refl

old-name : (seen : List (List ℕ)) (n : List ℕ) (o : Option (List (List ℕ))) → list_any (pointwise nat_eq n) seen ≡ true →
    fresh_then seen (o >>= λ ns. Some (n ∷ ns)) ≡ None
unfolding fresh_then
old-name seen n None h = refl
old-name seen n (Some ns) h = rw h refl

-- a name that wasn't seen
pub name-new : {A : Type 0} (seen next : List (List ℕ)) (vs : List (Value A)) (i : ℕ) (v : Value A) (n : List ℕ) → i < length vs → v ≡ get_or vs i v → name_at (view v) ≡ Some n →
    true ≡ not (list_any (pointwise nat_eq n) seen) → next ≡ seen ++ n ∷ [] →
    fresh_then next (list_of name_at (items_view (drop (i + 1) vs))) ≡ fresh_then seen (list_of name_at (items_view (drop i vs)))
name-new {A} seen next vs i v n a e r h f =
    ap (λ (l : List (List ℕ)). fresh_then l (list_of name_at (items_view (drop (i + 1) vs)))) f
    ∙ new-name seen n (list_of name_at (items_view (drop (i + 1) vs))) (not-true (list_any (pointwise nat_eq n) seen) h)
    ∙ sym (step seen vs i v n a e r)

-- a name that was seen
pub name-again : {A : Type 0} (seen : List (List ℕ)) (vs : List (Value A)) (i : ℕ) (v : Value A) (n : List ℕ) → i < length vs → v ≡ get_or vs i v → name_at (view v) ≡ Some n →
    false ≡ not (list_any (pointwise nat_eq n) seen) → fresh_then seen (list_of name_at (items_view (drop i vs))) ≡ named_once (items_view vs) →
    named_once (items_view vs) ≡ None
name-again {A} seen vs i v n a e r h w =
    sym w ∙ step seen vs i v n a e r ∙ old-name seen n (list_of name_at (items_view (drop (i + 1) vs))) (not-false (list_any (pointwise nat_eq n) seen) h)

-- a name that was not read
pub name-fail : {A : Type 0} (error : ReadError) (seen : List (List ℕ)) (vs : List (Value A)) (i : ℕ) (v : Value A) → i < length vs → v ≡ get_or vs i v →
    fresh_then seen (list_of name_at (items_view (drop i vs))) ≡ named_once (items_view vs) → Fails error (name_at (view v)) → Fails error (named_once (items_view vs))
unfolding fresh_then
name-fail {A} Memory seen vs i v a e w r = tt
name-fail {A} Refused seen vs i v a e w r =
    sym w ∙ ap (fresh_then seen) (list_of-drop name_at vs i v a e ∙ ap (λ (o : Option (List ℕ)). o >>= λ x. list_of name_at (items_view (drop (i + 1) vs)) >>= λ xs. Some (x ∷ xs)) r)

-- no name more
pub name-end : {A : Type 0} (seen : List (List ℕ)) (vs : List (Value A)) (i : ℕ) → length vs ≤ i → fresh_then seen (list_of name_at (items_view (drop i vs))) ≡ Some tt
unfolding fresh_then
name-end {A} seen vs i h = ap (fresh_then seen) (list_of-end name_at vs i h)

pub ruleset fresh_names = (fresh-init, name-new, name-again, name-fail, name-end)
