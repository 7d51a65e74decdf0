-- Cube roots by halving, and that there is but one.
use Rattle.std.proofs.Common.{◌≡◌, ℕ, zero, suc, ◌+◌, ◌-◌, ◌*◌, ◌/◌, ◌^◌, ◌<◌, ◌≤◌, Bool, true, false, nat_le, arith, subst, inl, inr}
use Rattle.std.proofs.lemmas.Nat.{mul-le}
use Rattle.std.proofs.lemmas.Bool.Decides.{leb_tells, nat_tests}
use Rattle.std.proofs.Math.Nat.{two-pow-succ}
use Rattle.rate_limit.specs.CubeRoot.{cube, cube_root, greatest_up_to, IsCubeRoot}

pub cube_le : (a b : ℕ) → a ≤ b → cube a ≤ cube b
cube_le a b h = mul-le (a * a) a (b * b) b (mul-le a a b b h h) h

le_cube : (a : ℕ) → a ≤ cube a
le_cube zero = omega arith
le_cube (suc a) = let square : 1 ≤ suc a * suc a = mul-le 1 1 (suc a) (suc a) (omega arith) (omega arith) in
    omega (arith, mul-le 1 (suc a) (suc a * suc a) (suc a) square (omega arith))

-- a number is at most a root where the next cube passes
pub within_root : (n root other : ℕ) → n < cube (root + 1) → cube other ≤ n → other ≤ root
within_root n root other above below = elim (leb_tells other root) [
  | inl h ↦ omega (arith, h.1)
  | inr h ↦ omega (arith, h.1, above, below, cube_le (root + 1) other (omega (arith, h.1)))
]

meets : (k : ℕ) (test : ℕ → Bool) → test 0 ≡ true → test (greatest_up_to k test) ≡ true
meets zero test h = h
meets (suc k) test h = grind (arith, meets k test h)

reaches : (k : ℕ) (test : ℕ → Bool) (other : ℕ) → other ≤ k → test other ≡ true → other ≤ greatest_up_to k test
reaches zero test other h met = h
reaches (suc k) test other h met = grind (arith, reaches k test other)

pub is_cube_root : (n : ℕ) → IsCubeRoot n (cube_root n)
unfolding cube_root
is_cube_root n = record {
  below = grind (arith, nat_tests, meets n (λ root. nat_le (cube root) n) (search arith));
  greatest = λ other h. reaches n (λ root. nat_le (cube root) n) other (omega (arith, le_cube other, h)) (grind (arith, nat_tests));
}

pub one_root : (n a b : ℕ) → IsCubeRoot n a → IsCubeRoot n b → a ≡ b
one_root n a b x y = omega (arith, x.greatest b y.below, y.greatest a x.below)

-- the root lies in a part that is halved round by round
pub record Narrows (n root width round : ℕ) : Type 0 where
  pub some : 0 < width
  pub ends : root + width ≤ 6981463658332
  pub small : width ≤ 2 ^ (43 - round)
  pub below : cube root ≤ n
  pub above : n < cube (root + width)

halved : (width round : ℕ) → round < 43 → width ≤ 2 ^ (43 - round) → width - width / 2 ≤ 2 ^ (43 - (round + 1))
halved width round h small =
    let k = 43 - (round + 1) in
    let e : 43 - round ≡ suc k = omega arith in
    let bound : width ≤ 2 ^ suc k = subst (λ m. width ≤ 2 ^ m) e small in
    omega (arith, bound, two-pow-succ k)

pub narrows_up : (n root width round : ℕ) → round < 43 → Narrows n root width round → nat_le (cube (root + width / 2)) n ≡ true → Narrows n (root + width / 2) (width - width / 2) (round + 1)
narrows_up n root width round h x within =
    let e : root + width ≡ root + width / 2 + (width - width / 2) = omega arith in record {
      some = omega (arith, x.some);
      ends = omega (arith, x.ends);
      small = halved width round h x.small;
      below = grind (arith, nat_tests);
      above = subst (λ m. n < cube m) e x.above;
    }

some_left : (n root half : ℕ) → cube root ≤ n → n < cube (root + half) → 0 < half
some_left n root zero below above =
    let e : root + 0 ≡ root = omega arith in
    let same : n < cube root = subst (λ m. n < cube m) e above in absurd (omega (arith, below, same))
some_left n root (suc half) below above = omega arith

pub narrows_down : (n root width round : ℕ) → round < 43 → Narrows n root width round → nat_le (cube (root + width / 2)) n ≡ false → Narrows n root (width / 2) (round + 1)
narrows_down n root width round h x past =
    let above : n < cube (root + width / 2) = grind (arith, nat_tests) in record {
      some = some_left n root (width / 2) x.below above;
      ends = omega (arith, x.ends);
      small = omega (arith, halved width round h x.small);
      below = x.below;
      above = above;
    }

pub narrowed : (n root width : ℕ) → Narrows n root width 43 → IsCubeRoot n root
narrowed n root width x =
    let e : width ≡ 1 = omega (arith, x.some, x.small) in
    let above : n < cube (root + 1) = subst (λ m. n < cube (root + m)) e x.above in record {
      below = x.below;
      greatest = λ other. within_root n root other above;
    }
