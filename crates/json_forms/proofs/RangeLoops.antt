-- Whether each number has a value, one item after another.
use Rattle.std.proofs.Common.{◌≡◌, ℕ, suc, ◌+◌, ◌<◌, ◌≤◌, List, ◌∷◌, length, drop, get_or, true, false, ◌&&◌, Bor, refl, ap, ◌∙◌, sym, drop-cons, add-one}
use Rattle.std.proofs.lemmas.Bool.{and_from}
use Rattle.std.proofs.lemmas.List.{drop_all}
use Rattle.json.specs.Value.{value_view, items_view, members_view}
use Rattle.json.specs.declared.value.Value.{Value}
use Rattle.json_forms.specs.Bytes.{json_of_bytes, all_of_bytes, each_of_bytes}
use Rattle.json_forms.specs.View.{in_range, items_in_range, members_in_range}

abbrev Member : Type 0 → Type 0
Member A = Bor (List ℕ) × Value A

-- ---- items

items-drop : {A : Type 0} (vs : List (Value A)) (i : ℕ) (v : Value A) → i < length vs → v ≡ get_or vs i v →
    items_in_range (items_view (drop i vs)) ≡ (in_range (value_view v) && items_in_range (items_view (drop (i + 1) vs)))
items-drop {A} vs i v h e =
    ap (λ (l : List (Value A)). items_in_range (items_view l)) (drop-cons vs i v h ∙ ap (λ (q : Value A). q ∷ drop (suc i) vs) (sym e)) ∙ rw add-one refl

pub items-more : {A : Type 0} (vs : List (Value A)) (i : ℕ) (v : Value A) → i < length vs → v ≡ get_or vs i v → true ≡ in_range (value_view v) →
    items_in_range (items_view (drop (i + 1) vs)) ≡ items_in_range (items_view (drop i vs))
items-more vs i v h e r = sym (items-drop vs i v h e ∙ ap (λ b. b && items_in_range (items_view (drop (i + 1) vs))) (sym r))

pub items-stop : {A : Type 0} (vs : List (Value A)) (i : ℕ) (v : Value A) → i < length vs → v ≡ get_or vs i v → false ≡ in_range (value_view v) →
    items_in_range (items_view (drop i vs)) ≡ false
items-stop vs i v h e r = items-drop vs i v h e ∙ ap (λ b. b && items_in_range (items_view (drop (i + 1) vs))) (sym r)

pub items-end : {A : Type 0} (vs : List (Value A)) (i : ℕ) → length vs ≤ i → items_in_range (items_view (drop i vs)) ≡ true
items-end {A} vs i h = ap (λ (l : List (Value A)). items_in_range (items_view l)) (drop_all i vs h)

-- ---- members

members-drop : {A : Type 0} (ms : List (Member A)) (i : ℕ) (m : Member A) → i < length ms → m ≡ get_or ms i m →
    members_in_range (members_view (drop i ms)) ≡ (in_range (value_view m.1) && members_in_range (members_view (drop (i + 1) ms)))
members-drop {A} ms i m h e =
    ap (λ (l : List (Member A)). members_in_range (members_view l)) (drop-cons ms i m h ∙ ap (λ (q : Member A). q ∷ drop (suc i) ms) (sym e)) ∙ rw add-one refl

pub members-more : {A : Type 0} (ms : List (Member A)) (i : ℕ) (m : Member A) → i < length ms → m ≡ get_or ms i m → true ≡ in_range (value_view m.1) →
    members_in_range (members_view (drop (i + 1) ms)) ≡ members_in_range (members_view (drop i ms))
members-more ms i m h e r = sym (members-drop ms i m h e ∙ ap (λ b. b && members_in_range (members_view (drop (i + 1) ms))) (sym r))

pub members-stop : {A : Type 0} (ms : List (Member A)) (i : ℕ) (m : Member A) → i < length ms → m ≡ get_or ms i m → false ≡ in_range (value_view m.1) →
    members_in_range (members_view (drop i ms)) ≡ false
members-stop ms i m h e r = members-drop ms i m h e ∙ ap (λ b. b && members_in_range (members_view (drop (i + 1) ms))) (sym r)

pub members-end : {A : Type 0} (ms : List (Member A)) (i : ℕ) → length ms ≤ i → members_in_range (members_view (drop i ms)) ≡ true
members-end {A} ms i h = ap (λ (l : List (Member A)). members_in_range (members_view l)) (drop_all i ms h)

-- ---- texts of bytes

pub bytes-more : {A : Type 0} (vs : List (Value A)) (i : ℕ) (v : Value A) → i < length vs → v ≡ get_or vs i v → json_of_bytes (value_view v) ≡ true →
    all_of_bytes (items_view (drop (i + 1) vs)) ≡ true → all_of_bytes (items_view (drop i vs)) ≡ true
bytes-more {A} vs i v h e first rest =
    ap (λ (l : List (Value A)). all_of_bytes (items_view l)) (drop-cons vs i v h ∙ ap (λ (q : Value A). q ∷ drop (suc i) vs) (sym e) ∙ ap (λ (k : ℕ). v ∷ drop k vs) (sym (add-one i))) ∙ and_from _ _ first rest

pub bytes-end : {A : Type 0} (vs : List (Value A)) (i : ℕ) → length vs ≤ i → all_of_bytes (items_view (drop i vs)) ≡ true
bytes-end {A} vs i h = ap (λ (l : List (Value A)). all_of_bytes (items_view l)) (drop_all i vs h)

pub bytes-more-members : {A : Type 0} (ms : List (Member A)) (i : ℕ) (m : Member A) → i < length ms → m ≡ get_or ms i m → json_of_bytes (value_view m.1) ≡ true →
    each_of_bytes (members_view (drop (i + 1) ms)) ≡ true → each_of_bytes (members_view (drop i ms)) ≡ true
bytes-more-members {A} ms i m h e first rest =
    ap (λ (l : List (Member A)). each_of_bytes (members_view l)) (drop-cons ms i m h ∙ ap (λ (q : Member A). q ∷ drop (suc i) ms) (sym e) ∙ ap (λ (k : ℕ). m ∷ drop k ms) (sym (add-one i))) ∙ and_from _ _ first rest

pub bytes-end-members : {A : Type 0} (ms : List (Member A)) (i : ℕ) → length ms ≤ i → each_of_bytes (members_view (drop i ms)) ≡ true
bytes-end-members {A} ms i h = ap (λ (l : List (Member A)). each_of_bytes (members_view l)) (drop_all i ms h)

pub ruleset range_loops = (items-more, items-stop, items-end, members-more, members-stop, members-end, bytes-more, bytes-end, bytes-more-members, bytes-end-members)
