-- The limiter of a partition, looked up in two quotas that mean alike.
use Rattle.std.proofs.Common.{◌≡◌, ◌∙◌, refl, sym, ap, subst, ℕ, Bool, true, false, inl, inr, ◌⊎◌, List, ◌++◌, ◌∷◌, [], Option, None, Some, length}
use Rattle.std.specs.Prelude.{MatchOption, is_some}
use Rattle.std.specs.Cmp.{and_equiv, on_equiv, bool_eq_equiv}
use Rattle.std.specs.Cmp.Lexicographic.{nat_list_eq_equiv}
use Rattle.std.specs.Map.{lookup}
use Rattle.retry_policy.specs.Decision.{FindsLimiter}
use Rattle.retry_policy.specs.declared.standing.Paced.{Paced}
use Rattle.retry_quota.specs.Calls.{Limiters}
use Rattle.retry_quota.specs.Meaning.{AddsLimiter, IsKept, Meaning}
use Rattle.retry_quota.specs.Registers.{Registers, meaning_of}
use Rattle.smithy_types.specs.Partition.{same_partition}
use Rattle.smithy_types.specs.declared.partition.CustomPartition.{CustomPartition}
use Rattle.smithy_types.specs.declared.partition.RetryPartition.{RetryPartition}
use Rattle.laws_determined.specs.Retries.Alike.{AreAlike}
use Rattle.laws_determined.proofs.retries.Quota.{IsTold, Left, MeanAlike, kept_left, same_some, stays_left}

-- every partition but those that are the same as this one
abbrev pub but_for : Option RetryPartition → RetryPartition → Type 0
but_for None other = Unit {0}
but_for (Some partition) other = (other ≡ partition) ⊎ (same_partition other partition ≡ false)

abbrev pub every : RetryPartition → Type 0
every other = Unit {0}

-- the same partition finds the same
pub same_found : (one two : RetryPartition) (names : List (RetryPartition × ℕ)) → same_partition one two ≡ true → lookup (same_partition one) names ≡ lookup (same_partition two) names
same_found one two names same =
    let laws = and_equiv (on_equiv (λ (p : RetryPartition). is_some p.custom) bool_eq_equiv) (on_equiv (λ (p : RetryPartition). p.name) nat_list_eq_equiv) in
    ap (λ (test : RetryPartition → Bool). lookup test names) (λ i k. laws.congr one two k same i)

module _ {L : Type 0} where
  -- registers tell their books
  pub registers_told : (q : Registers L) → IsTold (meaning_of q)
  registers_told q = record { books = q.books; told = refl; there = λ bucket. refl }

  pub registers_left : (q r : Registers L) → AreAlike q r → Left every (meaning_of q) (meaning_of r)
  registers_left q r alike = record {
    told = registers_told q;
    alike = record {
      has = λ bucket. ap (λ books. (meaning_of (record q { books = books })).has bucket) alike.books;
      cost = λ bucket kind. ap (λ books. (meaning_of (record q { books = books })).cost bucket kind) alike.books;
      reward = λ bucket. ap (λ books. (meaning_of (record q { books = books })).reward bucket) alike.books;
      bucket_of = alike.bucket_of;
      limiter_of = λ p w. alike.limiter_of p;
      books = ap Some alike.books;
      limiters = alike.limiters;
    };
  }

  limiter_found : (partition : Option RetryPartition) (q r : Registers L) → MeanAlike (but_for partition) (meaning_of q) (meaning_of r) → (other : RetryPartition)
      → lookup (same_partition other) q.limiter_names ≡ lookup (same_partition other) r.limiter_names
  limiter_found None q r alike other = alike.limiter_of other tt
  limiter_found (Some partition) q r alike other = by (same_partition other partition) refl
    where
      by : (same : Bool) → same_partition other partition ≡ same → lookup (same_partition other) q.limiter_names ≡ lookup (same_partition other) r.limiter_names
      by true is = same_found other partition q.limiter_names is ∙ (alike.limiter_of partition (inl refl) ∙ sym (same_found other partition r.limiter_names is))
      by false is = alike.limiter_of other (inr is)

  pub registers_alike : (partition : Option RetryPartition) (q r : Registers L) → Left (but_for partition) (meaning_of q) (meaning_of r) → AreAlike q r
  registers_alike partition q r was = record {
    books = same_some q.books r.books was.alike.books;
    limiters = was.alike.limiters;
    bucket_of = was.alike.bucket_of;
    limiter_of = limiter_found partition q r was.alike;
  }

  weaker : (partition : Option RetryPartition) (m n : Meaning L) → Left every m n → Left (but_for partition) m n
  weaker partition m n was = record { told = was.told; alike = weaken was.alike }
    where
      weaken : MeanAlike every m n → MeanAlike (but_for partition) m n
      weaken a = record { has = a.has; cost = a.cost; reward = a.reward; bucket_of = a.bucket_of; limiter_of = λ p w. a.limiter_of p tt; books = a.books; limiters = a.limiters }

  added : (partition : RetryPartition) (m n left more : Meaning L) (limiter : L) (number other : ℕ) → Left every m n → AddsLimiter m partition limiter number left → AddsLimiter n partition limiter other more
      → (number ≡ other) × Left (but_for (Some partition)) left more
  added partition m n left more limiter number other was s t =
      let same : number ≡ other = s.new ∙ (ap length was.alike.limiters ∙ sym t.new) in (
        same,
        record {
          told = record { books = was.told.books; told = s.books ∙ was.told.told; there = λ b. s.has b ∙ was.told.there b };
          alike = record {
            has = λ b. s.has b ∙ (was.alike.has b ∙ sym (t.has b));
            cost = λ b kind. s.cost b kind ∙ (was.alike.cost b kind ∙ sym (t.cost b kind));
            reward = λ b. s.reward b ∙ (was.alike.reward b ∙ sym (t.reward b));
            bucket_of = λ p. s.bucket_of p ∙ (was.alike.bucket_of p ∙ sym (t.bucket_of p));
            limiter_of = λ p w. elim w [
              | inl is ↦ ap left.limiter_of is ∙ (s.named ∙ (ap Some same ∙ (sym t.named ∙ ap more.limiter_of (sym is))))
              | inr not_it ↦ s.other_names p not_it ∙ (was.alike.limiter_of p tt ∙ sym (t.other_names p not_it))
            ];
            books = s.books ∙ (was.alike.books ∙ sym t.books);
            limiters = s.limiters ∙ (ap (λ ls. ls ++ limiter ∷ []) was.alike.limiters ∙ sym t.limiters);
          };
        },
      )

  module _ (partition : RetryPartition) (m n left more : Meaning L) (limiter : L) (number other : ℕ) (was : Left every m n) where
    kept : (known : ℕ) → (number ≡ known) × IsKept m left → (other ≡ known) × IsKept n more → (number ≡ other) × Left (but_for (Some partition)) left more
    kept known s t = (s.0 ∙ sym t.0, kept_left (but_for (Some partition)) m n left more (weaker (Some partition) m n was) s.1 t.1)

    by_name : (found : Option ℕ) → MatchOption found (AddsLimiter m partition limiter number left) (λ known. (number ≡ known) × IsKept m left)
        → MatchOption found (AddsLimiter n partition limiter other more) (λ known. (other ≡ known) × IsKept n more) → (number ≡ other) × Left (but_for (Some partition)) left more
    by_name None s t = added partition m n left more limiter number other was s t
    by_name (Some known) s t = kept known s t

    by_custom : (custom : Option CustomPartition)
        → MatchOption custom (MatchOption (m.limiter_of partition) (AddsLimiter m partition limiter number left) (λ known. (number ≡ known) × IsKept m left)) (λ numbers. (number ≡ numbers.limiter) × IsKept m left)
        → MatchOption custom (MatchOption (n.limiter_of partition) (AddsLimiter n partition limiter other more) (λ known. (other ≡ known) × IsKept n more)) (λ numbers. (other ≡ numbers.limiter) × IsKept n more)
        → (number ≡ other) × Left (but_for (Some partition)) left more
    by_custom None s t =
        by_name (n.limiter_of partition)
        (subst (λ found. MatchOption found (AddsLimiter m partition limiter number left) (λ known. (number ≡ known) × IsKept m left)) (was.alike.limiter_of partition tt) s) t
    by_custom (Some numbers) s t = kept numbers.limiter s t

  -- the same limiter is found, or none
  pub found_left : (means : Limiters L) (uses : Bool) (now : Option ℕ) (partition : Option RetryPartition) (paced other : Option Paced) (m n left more : Meaning L) → Left every m n
      → FindsLimiter means m uses now partition paced left → FindsLimiter means n uses now partition other more → (paced ≡ other) × Left (but_for partition) left more
  found_left means true (Some now) (Some partition) (Some paced) (Some other) m n left more was s t =
      let met = by_custom partition m n left more (means.at now) paced.limiter other.limiter was partition.custom s.1 t.1 in
      (ap Some (one_paced paced other met.0 (s.0 ∙ sym t.0)), met.1)
    where
      one_paced : (paced other : Paced) → paced.limiter ≡ other.limiter → paced.now ≡ other.now → paced ≡ other
      one_paced paced other a b = λ i. record { limiter = a i; now = b i }
  found_left means true (Some now) (Some partition) (Some paced) None m n left more was s t = absurd t
  found_left means true (Some now) (Some partition) None other m n left more was s t = absurd s
  found_left means true (Some now) None paced other m n left more was s t = absurd s
  found_left means true None partition paced other m n left more was s t = absurd s
  found_left means false now partition None None m n left more was s t = (refl, stays_left (but_for partition) means m n left more (weaker partition m n was) s t)
  found_left means false now partition None (Some other) m n left more was s t = absurd t
  found_left means false now partition (Some paced) other m n left more was s t = absurd s
