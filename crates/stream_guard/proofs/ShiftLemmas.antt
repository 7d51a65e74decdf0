-- Bins that move on place by place.
use Rattle.std.proofs.Common.{◌≡◌, ℕ, zero, suc, ◌+◌, ◌-◌, ◌<◌, ◌≤◌, cond, nat_lt, List, arith, refl, ap, ◌∙◌, sym, inl, inr}
use Rattle.std.proofs.lemmas.Bool.{lt-ltb, le-ltb}
use Rattle.std.proofs.lemmas.Bool.Decides.{leb_tells}
use Rattle.stream_guard.specs.declared.bin.Bin.{Bin}
use Rattle.stream_guard.specs.Bin.{no_polling, back, Shifted}

-- what stands so many places back where bins moved on
pub came_in : (n k : ℕ) (x y : Bin) → k < n → cond (nat_lt k n) x y ≡ x
came_in n k x y h = rw (lt-ltb k n h) refl

pub was_there : (n k : ℕ) (x y : Bin) → n ≤ k → cond (nat_lt k n) x y ≡ y
was_there n k x y h = rw (le-ltb k n h) refl

pub unshifted : (bins : List Bin) → Shifted 0 bins bins
unshifted bins k h = let same : k - 0 ≡ k = omega arith in sym (was_there 0 k no_polling (back (k - 0) bins) (omega arith) ∙ ap (λ j. back j bins) same)

pub shifted_more : (n : ℕ) (a b c : List Bin) → Shifted n a b → Shifted 1 b c → Shifted (n + 1) a c
shifted_more n a b c first second zero small =
    second 0 small ∙ sym (came_in (n + 1) 0 no_polling (back (0 - (n + 1)) a) (omega arith))
shifted_more n a b c first second (suc k) small =
    let less : suc k - 1 ≡ k = omega arith in
    second (suc k) small ∙ was_there 1 (suc k) no_polling (back (suc k - 1) b) (omega arith) ∙ ap (λ j. back j b) less ∙ first k (omega arith) ∙ elim (leb_tells (k + 1) n) [
      | inl in_front ↦ came_in n k no_polling (back (k - n) a) (omega (arith, in_front.1)) ∙ sym (came_in (n + 1) (suc k) no_polling (back (suc k - (n + 1)) a) (omega (arith, in_front.1)))
      | inr behind ↦ (let same : k - n ≡ suc k - (n + 1) = omega arith in
          was_there n k no_polling (back (k - n) a) (omega (arith, behind.1)) ∙ ap (λ j. back j a) same ∙ sym (was_there (n + 1) (suc k) no_polling (back (suc k - (n + 1)) a) (omega (arith, behind.1))))
    ]

-- after ten places nothing is left
pub shifted_out : (n : ℕ) (a b : List Bin) → 10 ≤ n → Shifted 10 a b → Shifted n a b
shifted_out n a b many h k small = h k small ∙ came_in 10 k no_polling (back (k - 10) a) small ∙ sym (came_in n k no_polling (back (k - n) a) (omega arith))
