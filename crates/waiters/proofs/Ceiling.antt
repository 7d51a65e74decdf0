-- The greatest attempt whose doubled delay is within the greatest delay, by a logarithm.
use Rattle.std.proofs.Common.{◌≡◌, ℕ, ◌+◌, ◌-◌, ◌*◌, ◌/◌, ◌^◌, ◌≤◌, ◌<◌, inl, inr, suc, arith}
use Rattle.std.proofs.lemmas.Bool.{cases_lt}
use Rattle.std.proofs.Math.Nat.{pow-succ', le-div_iff_mul-le, pow-le-pow_right, mul-le-mul_right, mul-le-mul_left, div-mul-le_self}
use Rattle.waiters.specs.Delay.{IsCeiling}

-- the power that a bound on the quotient gives
pub power_below : (min max k : ℕ) → 0 < min → min * 2 ^ k ≤ max → 2 ^ k ≤ max / min
power_below min max k pos h =
    let fits : 2 ^ k * min ≤ max = omega arith in
    (le-div_iff_mul-le pos).1 fits

pub is_ceiling-log : (min max r : ℕ) → 0 < min → 2 ^ r ≤ max / min → max / min < 2 * 2 ^ r → IsCeiling min max (r + 1)
is_ceiling-log min max r pos reached next = record {
  within =
      let fits : 2 ^ r * min ≤ max = (le-div_iff_mul-le pos).0 reached in
      let same : r + 1 - 1 ≡ r = omega arith in
      rw same (omega arith);
  greatest = λ k h. elim (cases_lt (r + 1) k) [
    | inl more ↦
        let positive : 0 < 2 = omega arith in
        let further : suc r ≤ k - 1 = omega arith in
        let powers : 2 ^ suc r ≤ 2 ^ (k - 1) = pow-le-pow_right positive further in
        let doubled : 2 ^ suc r ≡ 2 * 2 ^ r = pow-succ' 2 r in
        absurd (omega (arith, power_below min max (k - 1) pos h))
    | inr fits ↦ fits
  ];
}

-- doubling a number of whole seconds for an attempt up to the ceiling stays within the longest
pub doubled-within : (min max c a : ℕ) → IsCeiling min max c → 1 ≤ a → a ≤ c → min * 2 ^ (a - 1) ≤ max
doubled-within min max c a is one within =
    let smaller : a - 1 ≤ c - 1 = omega arith in
    let positive : 0 < 2 = omega arith in
    let powers : 2 ^ (a - 1) ≤ 2 ^ (c - 1) = pow-le-pow_right positive smaller in
    let scaled : min * 2 ^ (a - 1) ≤ min * 2 ^ (c - 1) = mul-le-mul_left min powers in
    omega (arith, is.within)

pub seconds-within : (min max p s : ℕ) → 0 < s → min * p ≤ max → min / s * p ≤ max / s
seconds-within min max p s pos h =
    let whole : min / s * s ≤ min = div-mul-le_self min s in
    let scaled : min / s * s * p ≤ min * p = mul-le-mul_right p whole in
    let fits : min / s * p * s ≤ max = omega arith in
    (le-div_iff_mul-le pos).1 fits
