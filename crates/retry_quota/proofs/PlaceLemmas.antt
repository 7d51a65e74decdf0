-- A change at one place of a list, against the words of the code.
use Rattle.std.proofs.Common.{◌≡◌, ◌∙◌, ap, refl, ℕ, zero, suc, ◌<◌, List, [], ◌∷◌, ◌++◌, ◌≢◌, length, arith, Some, None, ◌≤◌, Bool, false, true, nat_lt}
use Rattle.std.proofs.lemmas.Bool.{false≢true, leb-true, lt-ltb}
use Rattle.std.specs.Prelude.{slice_set, slice_get, slice_index_or}
use Rattle.std.specs.Option.{option_map_or}
use Rattle.retry_quota.specs.Place.{change_at}

pub length-change_at : {X : Type 0} → (f : X → X) (xs : List X) (i : ℕ) → length (change_at i f xs) ≡ length xs
length-change_at f [] i = refl
length-change_at f (x ∷ xs) zero = refl
length-change_at f (x ∷ xs) (suc i) = ap suc (length-change_at f xs i)

-- a write of what the item becomes
pub set-change_at : {X : Type 0} → (f : X → X) (xs : List X) (i : ℕ) (d : X) → i < length xs
    → slice_set xs i (f (slice_index_or xs i d)) ≡ change_at i f xs
set-change_at f [] i d within = absurd (omega arith)
set-change_at f (x ∷ xs) zero d within = refl
set-change_at f (x ∷ xs) (suc i) d within = ap (λ ys. x ∷ ys) (set-change_at f xs i d (omega arith))

-- what the change keeps of an item is as before at each place
pub map_or-change_at : {X Y : Type 0} → (g : X → Y) (f : X → X) → ((x : X) → g (f x) ≡ g x)
    → (xs : List X) (i j : ℕ) (d : Y)
    → option_map_or g (slice_get (change_at i f xs) j) d ≡ option_map_or g (slice_get xs j) d
map_or-change_at g f kept [] i j d = refl
map_or-change_at g f kept (x ∷ xs) zero zero d = kept x
map_or-change_at g f kept (x ∷ xs) zero (suc j) d = refl
map_or-change_at g f kept (x ∷ xs) (suc i) zero d = refl
map_or-change_at g f kept (x ∷ xs) (suc i) (suc j) d = map_or-change_at g f kept xs i j d

-- a write of what the item becomes, where the item was read before
pub set-changed : {X : Type 0} → (f : X → X) (xs : List X) (i : ℕ) (x y : X)
    → i < length xs → x ≡ slice_index_or xs i x → y ≡ f x → slice_set xs i y ≡ change_at i f xs
set-changed f [] i x y within read made = absurd (omega arith)
set-changed f (z ∷ xs) zero x y within read made = ap (λ w. w ∷ xs) (made ∙ ap f read)
set-changed f (z ∷ xs) (suc i) x y within read made = ap (λ ys. z ∷ ys) (set-changed f xs i x y (omega arith) read made)

-- a place past the end changes nothing
pub change_at-past : {X : Type 0} → (f : X → X) (xs : List X) (i : ℕ) → length xs ≤ i → change_at i f xs ≡ xs
change_at-past f [] i past = refl
change_at-past f (x ∷ xs) zero past = absurd (omega arith)
change_at-past f (x ∷ xs) (suc i) past = ap (λ ys. x ∷ ys) (change_at-past f xs i (omega arith))

pub slice_get-past : {X : Type 0} → (xs : List X) (i : ℕ) → length xs ≤ i → slice_get xs i ≡ None
slice_get-past [] i past = refl
slice_get-past (x ∷ xs) zero past = absurd (omega arith)
slice_get-past (x ∷ xs) (suc i) past = slice_get-past xs i (omega arith)

-- what fails its test is not changed
pub change_at-refused : {X : Type 0} → (p : X → Bool) (f : X → X) → ((x : X) → p x ≡ false → f x ≡ x)
    → (xs : List X) (i : ℕ) → option_map_or p (slice_get xs i) false ≡ false → change_at i f xs ≡ xs
change_at-refused p f kept [] i refused = refl
change_at-refused p f kept (x ∷ xs) zero refused = ap (λ w. w ∷ xs) (kept x refused)
change_at-refused p f kept (x ∷ xs) (suc i) refused = ap (λ ys. x ∷ ys) (change_at-refused p f kept xs i refused)

-- what passes its test is there
pub passed_there : {X : Type 0} → (p : X → Bool) (xs : List X) (i : ℕ)
    → option_map_or p (slice_get xs i) false ≡ true → nat_lt i (length xs) ≡ true
passed_there p [] i passed = absurd (false≢true passed)
passed_there p (x ∷ xs) zero passed = lt-ltb zero (length (x ∷ xs)) (omega arith)
passed_there p (x ∷ xs) (suc i) passed =
    let there : suc i ≤ length xs = leb-true (suc i) (length xs) (passed_there p xs i passed) in
    lt-ltb (suc i) (length (x ∷ xs)) (omega arith)

-- what is added stands last
pub slice_get-last : {X : Type 0} → (xs : List X) (x : X) → slice_get (xs ++ x ∷ []) (length xs) ≡ Some x
slice_get-last [] x = refl
slice_get-last (y ∷ xs) x = slice_get-last xs x

-- and all others where they were
pub slice_get-before : {X : Type 0} → (xs : List X) (x : X) (i : ℕ) → i ≢ length xs → slice_get (xs ++ x ∷ []) i ≡ slice_get xs i
slice_get-before [] x zero other = absurd (other refl)
slice_get-before [] x (suc i) other = refl
slice_get-before (y ∷ xs) x zero other = refl
slice_get-before (y ∷ xs) x (suc i) other = slice_get-before xs x i (λ same. other (ap suc same))
