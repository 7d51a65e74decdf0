-- Reading one item after another.
use Rattle.std.proofs.Common.{◌≡◌, ℕ, suc, ◌+◌, ◌<◌, ◌≤◌, List, [], ◌∷◌, ◌++◌, length, drop, get_or, Option, Some, None, refl, ap, ◌∙◌, sym, drop-cons, add-one, append_assoc}
use Rattle.std.proofs.lemmas.List.{append-nil, drop_all}
use Rattle.serde_json.specs.Data.{Data, Items, no_items, item}
use Rattle.serde_json.specs.View.{view, items_view}
use Rattle.serde_json.specs.declared.value.Value.{Value}
use Rattle.json_payloads.specs.Lists.{list_of}
use Rattle.json_payloads.specs.Reading.{◌>>=◌, Fails}
use Rattle.json_payloads.specs.declared.reading.ReadError.{ReadError}
use Rattle.json_payloads.specs.declared.reading.ReadError.TheVariants.{Memory, Refused}

-- what was read, and then the rest
abbrev pub behind : {X : Type 0} → List X → Option (List X) → Option (List X)
behind front None = None
behind front (Some rest) = Some (front ++ rest)

pub behind-nil : {X : Type 0} (o : Option (List X)) → behind [] o ≡ o
behind-nil None = refl
behind-nil (Some rest) = refl

behind-push : {X : Type 0} (front : List X) (a : X) (o : Option (List X)) → behind front (o >>= λ list. Some (a ∷ list)) ≡ behind (front ++ a ∷ []) o
behind-push front a None = refl
behind-push {X} front a (Some rest) = ap (λ (l : List X). Some l) (sym (append_assoc front (a ∷ []) rest))

list_of-cons : {X : Type 0} (f : Data → Option X) (d : Data) (ds : Items) → list_of f (item d ds) ≡ (f d >>= λ x. list_of f ds >>= λ xs. Some (x ∷ xs))
unfolding list_of
list_of-cons f d ds = refl

list_of-nil : {X : Type 0} (f : Data → Option X) → list_of f no_items ≡ Some []
unfolding list_of
list_of-nil f = refl

list_of-drop : {X : Type 0} (f : Data → Option X) (vs : List Value) (i : ℕ) (v : Value) → i < length vs → v ≡ get_or vs i v →
    list_of f (items_view (drop i vs)) ≡ (f (view v) >>= λ x. list_of f (items_view (drop (i + 1) vs)) >>= λ xs. Some (x ∷ xs))
list_of-drop f vs i v h e =
    ap (λ (l : List Value). list_of f (items_view l)) (drop-cons vs i v h ∙ ap (λ (q : Value). q ∷ drop (suc i) vs) (sym e))
    ∙ rw add-one (list_of-cons f (view v) (items_view (drop (suc i) vs)))

-- one item more
pub list_more : {X : Type 0} (f : Data → Option X) (front : List X) (vs : List Value) (i : ℕ) (v : Value) (x : X) → i < length vs → v ≡ get_or vs i v → f (view v) ≡ Some x →
    behind (front ++ x ∷ []) (list_of f (items_view (drop (i + 1) vs))) ≡ behind front (list_of f (items_view (drop i vs)))
list_more {X} f front vs i v x h e r =
    sym (ap (behind front) (list_of-drop f vs i v h e ∙ ap (λ (o : Option X). o >>= λ y. list_of f (items_view (drop (i + 1) vs)) >>= λ ys. Some (y ∷ ys)) r)
    ∙ behind-push front x (list_of f (items_view (drop (i + 1) vs))))

list_none : {X : Type 0} (f : Data → Option X) (front : List X) (vs : List Value) (i : ℕ) (v : Value) → i < length vs → v ≡ get_or vs i v → f (view v) ≡ None →
    behind front (list_of f (items_view (drop i vs))) ≡ None
list_none {X} f front vs i v h e r =
    ap (behind front) (list_of-drop f vs i v h e ∙ ap (λ (o : Option X). o >>= λ y. list_of f (items_view (drop (i + 1) vs)) >>= λ ys. Some (y ∷ ys)) r)

-- an item that was not read
pub list_fail : {X : Type 0} (f : Data → Option X) (error : ReadError) (front : List X) (vs : List Value) (i : ℕ) (v : Value) → i < length vs → v ≡ get_or vs i v →
    behind front (list_of f (items_view (drop i vs))) ≡ list_of f (items_view vs) → Fails error (f (view v)) → Fails error (list_of f (items_view vs))
list_fail f Memory front vs i v h e w r = tt
list_fail f (Refused why) front vs i v h e w r = sym w ∙ list_none f front vs i v h e r

-- no item more
pub list_end : {X : Type 0} (f : Data → Option X) (front : List X) (vs : List Value) (i : ℕ) → length vs ≤ i → behind front (list_of f (items_view (drop i vs))) ≡ Some front
list_end {X} f front vs i h =
    ap (λ (l : List Value). behind front (list_of f (items_view l))) (drop_all i vs h) ∙ ap (behind front) (list_of-nil f) ∙ ap (λ (l : List X). Some l) (append-nil front)

pub ruleset list_reading = (behind-nil, list_more, list_fail, list_end)
