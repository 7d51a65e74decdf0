-- Rates are in a total order, up to equal rates.
use Rattle.std.proofs.Common.{◌≡◌, ℕ, ◌+◌, ◌*◌, ◌<◌, ◌≤◌, cond, nat_lt, arith, ap, ◌∙◌, sym, inl, inr}
use Rattle.std.proofs.lemmas.Bool.{lt-ltb, le-ltb}
use Rattle.std.proofs.lemmas.Bool.Decides.{leb_tells, nat_tests}
use Rattle.std.proofs.Math.Nat.{mul-lt-mul_of_pos_right, mul-le-mul_right}
use Rattle.std.specs.Ordering.{nat_cmp, eq_by_cmp}
use Rattle.std.specs.declared.cmp.Ordering.TheVariants.{Less, Equal, Greater}
use Rattle.std.specs.Cmp.{IsTotalOrder, IsPartialEquivalence, nat_cmp_total, partial_equiv_from_equiv, eq_by_cmp_equiv}
use Rattle.stream_guard.specs.declared.throughput.Throughput.{Throughput}
use Rattle.stream_guard.specs.Rate.{fraction_bytes, fraction_nanos, rate_cmp}

-- numbers compare as their multiples do
lt_scaled : (a b n : ℕ) → 0 < n → nat_lt (a * n) (b * n) ≡ nat_lt a b
lt_scaled a b n h = elim (leb_tells (a + 1) b) [
  | inl below ↦
      (let small : a < b = omega (arith, below.1) in
      lt-ltb (a * n) (b * n) (mul-lt-mul_of_pos_right small h) ∙ sym (lt-ltb a b small))
  | inr above ↦
      (let large : b ≤ a = omega (arith, above.1) in
      le-ltb (a * n) (b * n) (mul-le-mul_right n large) ∙ sym (le-ltb a b large))
]

-- numbers compare by which of them is less
cmp_by_lt : (a b : ℕ) → nat_cmp a b ≡ cond (nat_lt a b) Less (cond (nat_lt b a) Greater Equal)
cmp_by_lt a b = grind (arith, nat_tests)

-- a common factor that isn't 0 leaves a comparison as it was
pub cmp_scaled : (a b n : ℕ) → 0 < n → nat_cmp (a * n) (b * n) ≡ nat_cmp a b
cmp_scaled a b n h = cmp_by_lt (a * n) (b * n) ∙ rw (lt_scaled a b n h, lt_scaled b a n h) (sym (cmp_by_lt a b))

-- the ns of a rate's fraction are never 0
nanos_positive : (t : Throughput) → 0 < fraction_nanos t
nanos_positive t = grind (arith, nat_tests)

-- the comparison of x with z, with both sides times the ns of y
scaled : (x y z : Throughput) →
    rate_cmp x z
    ≡ nat_cmp (fraction_bytes x * fraction_nanos z * fraction_nanos y)
    (fraction_bytes z * fraction_nanos x * fraction_nanos y)
scaled x y z =
    sym (cmp_scaled (fraction_bytes x * fraction_nanos z) (fraction_bytes z * fraction_nanos x)
    (fraction_nanos y) (nanos_positive y))

-- three numbers multiply in any order
swapped : (a b c : ℕ) → a * b * c ≡ a * c * b
swapped a b c = omega arith

-- numbers that compare as equal are the same
equal_products : (a b : ℕ) → nat_cmp a b ≡ Equal → a ≡ b
equal_products a b h = grind (arith, nat_tests)

-- a rate below another one is below each that the other is below
rate_trans : (x y z : Throughput) → rate_cmp x y ≡ Less → rate_cmp y z ≡ Less → rate_cmp x z ≡ Less
rate_trans x y z first second =
    let bx = fraction_bytes x in let by = fraction_bytes y in let bz = fraction_bytes z in
    let nx = fraction_nanos x in let ny = fraction_nanos y in let nz = fraction_nanos z in
    let low : nat_cmp (bx * nz * ny) (by * nx * nz) ≡ Less =
    ap (λ k. nat_cmp k (by * nx * nz)) (swapped bx nz ny)
    ∙ cmp_scaled (bx * ny) (by * nx) nz (nanos_positive z) ∙ first in
    let high : nat_cmp (by * nx * nz) (bz * nx * ny) ≡ Less =
    ap (λ k. nat_cmp k (bz * nx * ny)) (swapped by nx nz) ∙ ap (λ k. nat_cmp (by * nz * nx) k) (swapped bz nx ny)
    ∙ cmp_scaled (by * nz) (bz * ny) nx (nanos_positive x) ∙ second in
    scaled x y z ∙ nat_cmp_total.trans (bx * nz * ny) (by * nx * nz) (bz * nx * ny) low high

-- equal rates compare in the same way with a third
rate_congr : (x y z : Throughput) → rate_cmp x y ≡ Equal → rate_cmp x z ≡ rate_cmp y z
rate_congr x y z h =
    let bx = fraction_bytes x in let by = fraction_bytes y in let bz = fraction_bytes z in
    let nx = fraction_nanos x in let ny = fraction_nanos y in let nz = fraction_nanos z in
    let same : bx * ny ≡ by * nx = equal_products (bx * ny) (by * nx) h in
    let left : bx * nz * ny ≡ by * nz * nx = swapped bx nz ny ∙ ap (λ k. k * nz) same ∙ swapped by nx nz in
    scaled x y z ∙ ap (λ k. nat_cmp k (bz * nx * ny)) left ∙ ap (λ k. nat_cmp (by * nz * nx) k) (swapped bz nx ny)
    ∙ cmp_scaled (by * nz) (bz * ny) nx (nanos_positive x)

-- rates compare as a total order does
pub rate_total : IsTotalOrder rate_cmp
rate_total = record {
  antisymm = λ x y. nat_cmp_total.antisymm (fraction_bytes x * fraction_nanos y) (fraction_bytes y * fraction_nanos x);
  trans = rate_trans;
  congr = rate_congr;
}

-- equality of rates is symmetric and transitive
pub rate_equal : IsPartialEquivalence (eq_by_cmp rate_cmp)
rate_equal = partial_equiv_from_equiv (eq_by_cmp_equiv rate_total)
