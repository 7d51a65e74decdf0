-- Two lists of which each item is alike.
use Rattle.std.proofs.Common.{◌≡◌, refl, ap, subst, ℕ, zero, suc, List, [], ◌∷◌, length, Some}
use Rattle.std.specs.Prelude.{slice_get, slice_set}
use Rattle.json_print.proofs.determined.Endings.{same_some}
use Rattle.laws_determined.specs.Calls.Alike.{MaybeAlike}

module _ {A : Type 0} (alike : A → A → Type 0) where
  abbrev pub EachAlike : List A → List A → Type 0
  EachAlike [] [] = Unit {0}
  EachAlike [] (y ∷ ys) = ⊥
  EachAlike (x ∷ xs) [] = ⊥
  EachAlike (x ∷ xs) (y ∷ ys) = alike x y × EachAlike xs ys

  -- at each place there is something in both, or in none
  pub alike_at : (xs ys : List A) (place : ℕ) → EachAlike xs ys → MaybeAlike alike (slice_get xs place) (slice_get ys place)
  alike_at [] [] place same = tt
  alike_at [] (y ∷ ys) place same = absurd same
  alike_at (x ∷ xs) [] place same = absurd same
  alike_at (x ∷ xs) (y ∷ ys) zero same = same.0
  alike_at (x ∷ xs) (y ∷ ys) (suc place) same = alike_at xs ys place same.1

  -- what stands at one place
  pub found_alike : (xs ys : List A) (place : ℕ) (x y : A) → EachAlike xs ys → slice_get xs place ≡ Some x → slice_get ys place ≡ Some y → alike x y
  found_alike [] ys place one two same s t = absurd (cc s)
  found_alike (x ∷ xs) [] place one two same s t = absurd same
  found_alike (x ∷ xs) (y ∷ ys) zero one two same s t = subst (λ c. alike c two) (same_some x one s) (subst (λ c. alike x c) (same_some y two t) same.0)
  found_alike (x ∷ xs) (y ∷ ys) (suc place) one two same s t = found_alike xs ys place one two same.1 s t

  pub set_alike : (xs ys : List A) (place : ℕ) (x y : A) → EachAlike xs ys → alike x y → EachAlike (slice_set xs place x) (slice_set ys place y)
  set_alike [] [] place one two same new = tt
  set_alike [] (y ∷ ys) place one two same new = absurd same
  set_alike (x ∷ xs) [] place one two same new = absurd same
  set_alike (x ∷ xs) (y ∷ ys) zero one two same new = (new, same.1)
  set_alike (x ∷ xs) (y ∷ ys) (suc place) one two same new = (same.0, set_alike xs ys place one two same.1 new)

  pub same_length : (xs ys : List A) → EachAlike xs ys → length xs ≡ length ys
  same_length [] [] same = refl
  same_length [] (y ∷ ys) same = absurd same
  same_length (x ∷ xs) [] same = absurd same
  same_length (x ∷ xs) (y ∷ ys) same = ap suc (same_length xs ys same.1)
