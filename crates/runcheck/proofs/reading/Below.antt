-- The deadlines that are armed below a frame.
use Rattle.std.proofs.Common.{ℕ, zero, suc, ◌<◌, ◌≤◌, ◌-◌, Option, None, Some, List, [], ◌∷◌, ◌≡◌, refl, ap, ◌∙◌, take, slice_get, IfNone, arith}
use Rattle.run_grammar.specs.declared.kind.Role.{Role}
use Rattle.runcheck.specs.declared.reading.walk.Frame.{Frame}
use Rattle.runcheck.specs.Reading.Frames.{arms, armed_in, armed}

some_inside : (x f : Frame) → Some x ≡ Some f → x ≡ f
some_inside x f e = cc

pub taken_some : (xs : List Frame) (m : ℕ) (ds : List Role) (f : Frame) → slice_get xs m ≡ Some f → armed_in ds (take (suc m) xs) ≡ arms f (armed_in ds (take m xs))
taken_some [] m ds f e = absurd (cc)
taken_some (x ∷ xs) zero ds f e = ap (λ y. arms y ds) (some_inside x f e)
taken_some (x ∷ xs) (suc m) ds f e = taken_some xs m (arms x ds) f e

pub taken_none : (xs : List Frame) (m : ℕ) (ds : List Role) → slice_get xs m ≡ None → armed_in ds (take (suc m) xs) ≡ armed_in ds (take m xs)
taken_none [] zero ds e = refl
taken_none [] (suc m) ds e = refl
taken_none (x ∷ xs) zero ds e = absurd (cc)
taken_none (x ∷ xs) (suc m) ds e = taken_none xs m (arms x ds) e

pub before : (n : ℕ) → 0 < n → n ≡ suc (n - 1)
before n h = omega arith

pub not_armed : (xs : List Frame) (n : ℕ) (o : Option Role) → 0 < n → IfNone o (armed (take (suc (n - 1)) xs) ≡ armed (take (n - 1) xs)) → o ≡ None → armed (take n xs) ≡ armed (take (n - 1) xs)
not_armed xs n None h e g = ap (λ m. armed (take m xs)) (before n h) ∙ e
not_armed xs n (Some d) h e g = absurd (cc)

pub is_armed : (xs : List Frame) (n : ℕ) (d : Role) → 0 < n → armed (take (suc (n - 1)) xs) ≡ d ∷ armed (take (n - 1) xs) → armed (take n xs) ≡ d ∷ armed (take (n - 1) xs)
is_armed xs n d h e = ap (λ m. armed (take m xs)) (before n h) ∙ e

pub none_left : (n : ℕ) → n ≤ 0 → n ≡ 0
none_left n h = omega arith
