-- Sums of backoffs: in two parts, and where all are the greatest.
use Rattle.std.proofs.Common.{◌≡◌, ℕ, zero, suc, ◌+◌, ◌-◌, ◌*◌, ◌^◌, ◌<◌, ◌≤◌, min, arith, refl, ap, ◌∙◌, sym, inl, inr}
use Rattle.std.specs.Prelude.{sum_by}
use Rattle.std.specs.List.{range_with_len}
use Rattle.std.proofs.lemmas.List.Sums.{sum_by-cons}
use Rattle.std.proofs.Math.Nat.{two-pow-succ, min-eq_right, suc-mul, mul-add, mul-le-mul_left}
use Rattle.std.proofs.lemmas.Bool.{cases_lt}
use Rattle.std.proofs.Math.Pow.{pow_mono}
use Rattle.identity_cell.specs.Timeout.{backoffs}

-- the sum of so many numbers from a place on
abbrev total : (ℕ → ℕ) → ℕ → ℕ → ℕ
total f a n = sum_by f (range_with_len a n)

same : (f : ℕ → ℕ) (a b n m : ℕ) → a ≡ b → n ≡ m → total f a n ≡ total f b m
same f a b n m p q = ap (λ x. total f x n) p ∙ ap (λ x. total f b x) q

first : (f : ℕ → ℕ) (a n : ℕ) → total f a (suc n) ≡ f a + total f (a + 1) n
first f a n = sum_by-cons f a (range_with_len (a + 1) n)

pub split : (f : ℕ → ℕ) (a n k : ℕ) → total f a (n + k) ≡ total f a n + total f (a + n) k
split f a zero k = same f a (a + zero) (zero + k) k (omega arith) (omega arith) ∙ omega arith
split f a (suc n) k =
    let l = same f a a (suc n + k) (suc (n + k)) refl (omega arith) in
    let r = same f (a + 1 + n) (a + suc n) k k (omega arith) refl in
    omega (arith, l, r, first f a (n + k), first f a n, split f (a + 1) n k)

-- one more
one : (f : ℕ → ℕ) (a : ℕ) → total f a 1 ≡ f a
one f a = omega arith

pub one_more : (f : ℕ → ℕ) (n : ℕ) → total f 0 (n + 1) ≡ total f 0 n + f n
one_more f n = omega (arith, split f 0 n 1, same f (0 + n) n 1 1 (omega arith) refl, one f n)

-- all of them the same
constant : (f : ℕ → ℕ) (c a k : ℕ) → ((i : ℕ) → a ≤ i → f i ≡ c) → total f a k ≡ k * c
constant f c a zero h = omega arith
constant f c a (suc k) h =
    omega (arith, first f a k, h a (omega arith), constant f c (a + 1) k (λ i le. h i (omega arith)), suc-mul k c)

-- a backoff that has doubled 64 times is the greatest, or zero
past : (start most i : ℕ) → most < 2 ^ 64 → 64 ≤ i → min (start * 2 ^ i) most ≡ min (start * 2 ^ 64) most
past zero most i small le = omega arith
past (suc m) most i small le =
    let p : 2 ^ 64 ≤ 2 ^ i = pow_mono le in
    let a : 2 ^ i ≤ suc m * 2 ^ i = omega (arith, suc-mul m (2 ^ i)) in
    let b : 2 ^ 64 ≤ suc m * 2 ^ 64 = omega arith in
    min-eq_right (omega arith) ∙ sym (min-eq_right (omega arith))

tail : (start most k : ℕ) → most < 2 ^ 64 → backoffs start most (64 + k) ≡ backoffs start most 64 + k * min (start * 2 ^ 64) most
tail start most k small =
    let f = λ (i : ℕ). min (start * 2 ^ i) most in
    split f 0 64 k ∙ ap (λ x. total f 0 64 + x) (constant f (min (start * 2 ^ 64) most) (0 + 64) k (λ i le. past start most i small le))

-- the backoffs that double, and those behind them
pub all_backoffs : (start most retries doubling : ℕ) → most < 2 ^ 64 → doubling ≡ min retries 64 → backoffs start most doubling + (retries - doubling) * min (start * 2 ^ doubling) most ≡ backoffs start most retries
all_backoffs start most retries doubling small is =
    elim (cases_lt retries 64) [
      | inl lt ↦
          let e : doubling ≡ retries = omega arith in
          rw e (few start most retries)
      | inr ge ↦
          let e : doubling ≡ 64 = omega arith in
          let k : 64 + (retries - 64) ≡ retries = omega arith in
          rw e (sym (tail start most (retries - 64) small) ∙ ap (backoffs start most) k)
    ]
  where
    few : (start most n : ℕ) → backoffs start most n + (n - n) * min (start * 2 ^ n) most ≡ backoffs start most n
    few start most n = let z : n - n ≡ 0 = omega arith in rw z (omega arith)

-- the next backoff
pub doubled : (start most step : ℕ) → min (2 * min (start * 2 ^ step) most) most ≡ min (start * 2 ^ (step + 1)) most
doubled start most step =
    let e : 2 ^ (step + 1) ≡ 2 ^ step + 2 ^ step = ap (λ x. 2 ^ x) (omega arith) ∙ two-pow-succ step in
    let d : start * 2 ^ (step + 1) ≡ start * 2 ^ step + start * 2 ^ step = rw e (mul-add start (2 ^ step) (2 ^ step)) in
    omega (arith, d)

-- a product of 32 and of 64 bits
pub small_product : (k b : ℕ) → k ≤ 4294967295 → b ≤ 18446744073709551615 → k * b ≤ 79228162495817593515539431425
small_product k b kle ble =
    let p : k * b ≤ k * 18446744073709551615 = mul-le-mul_left k ble in
    omega (arith, p)
