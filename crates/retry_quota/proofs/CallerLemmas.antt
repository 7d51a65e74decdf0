-- What a caller does to its bucket and its limiter, as the quota that it is.
use Rattle.std.proofs.Common.{◌≡◌, ◌≢◌, ◌∙◌, ap, refl, sym, ℕ, zero, suc, ◌==◌, true, false, IsTrue, [], ◌∷◌, Option, Some, None}
use Rattle.std.proofs.lemmas.Bool.{eqb-true, false≢true}
use Rattle.std.specs.Option.{option_map_or}
use Rattle.std.specs.Prelude.{IfSome, slice_get}
use Rattle.smithy_types.specs.declared.kinds.ErrorKind.{ErrorKind}
use Rattle.retry_quota.specs.Caller.{CallerMeaning, Limits, Makes, one_bucket}
use Rattle.retry_quota.specs.History.{Step, Reply, Done}
use Rattle.retry_quota.specs.Meaning.{ChangesLimiter, IsKept, KeepsBuckets, Settles, Steps}
use Rattle.retry_quota.specs.Place.{change_at}
use Rattle.retry_quota.specs.declared.permit.Permit.{Permit}

-- the one bucket is 0
is_zero : (bucket : ℕ) → IsTrue (bucket == 0) → bucket ≡ 0
is_zero bucket here = eqb-true bucket 0 here

-- a permit of bucket 0 is one of the bucket that was asked
pub granted : (permit : Option Permit) (bucket cost : ℕ) → IsTrue (bucket == 0) → IfSome permit (λ p. (p.bucket ≡ 0) × (p.amount ≡ cost)) → IfSome permit (λ p. (p.bucket ≡ bucket) × (p.amount ≡ cost))
granted None bucket cost here h = tt
granted (Some permit) bucket cost here h = (h.0 ∙ sym (is_zero bucket here), h.1)

module _ {L : Type 0} where
  keeps : (m n : CallerMeaning L) → ((kind : ErrorKind) → n.cost kind ≡ m.cost kind) → n.reward ≡ m.reward → KeepsBuckets (one_bucket m) (one_bucket n)
  keeps m n cost reward = record {
    has = λ bucket. refl;
    cost = λ bucket kind. cost kind;
    reward = λ bucket. reward;
    bucket_of = λ partition. refl;
    limiter_of = λ partition. refl;
  }

  kept : (m : CallerMeaning L) → IsKept (one_bucket m) (one_bucket m)
  kept m = record { buckets = keeps m m (λ kind. refl) refl; books = refl; entries = refl; limiters = refl }

  -- a step of the caller is one of its bucket
  pub made : (m n : CallerMeaning L) (bucket : ℕ) (step : Step) (reply : Reply) → Makes m step reply n → Steps (one_bucket m) bucket step reply (one_bucket n)
  made m n bucket step reply h = record {
    book = refl;
    entries = h.entries;
    buckets = keeps m n h.cost h.reward;
    limiters = ap (λ l. l ∷ []) h.limiter;
  }

  -- a permit of its bucket
  pub settled : (m n : CallerMeaning L) (bucket : ℕ) (step : Step) → bucket ≡ 0 → Makes m step Done n → Settles (one_bucket m) bucket step (one_bucket n)
  settled m n bucket step here h = record {
    there = λ _. made m n bucket step Done h;
    foreign = λ other. absurd (false≢true (sym other ∙ ap (λ (n : ℕ). n == 0) here));
  }

  -- a permit of another bucket
  pub settled_nothing : (m : CallerMeaning L) (bucket : ℕ) (step : Step) → bucket ≢ 0 → Settles (one_bucket m) bucket step (one_bucket m)
  settled_nothing m bucket step other = record {
    there = λ here. absurd (other (is_zero bucket here));
    foreign = λ _. kept m;
  }

  -- its limiter
  pub limited : (m n : CallerMeaning L) (limiter : ℕ) (change : L → L) → limiter ≡ 0 → Limits m change n → ChangesLimiter (one_bucket m) limiter change (one_bucket n)
  limited m n limiter change here h = record {
    limiters = ap (λ l. l ∷ []) h.limiter ∙ sym (ap (λ (i : ℕ). change_at i change (m.limiter ∷ [])) here);
    books = refl;
    entries = h.entries;
    buckets = keeps m n h.cost h.reward;
  }

  -- another limiter
  pub limited_nothing : (m : CallerMeaning L) (limiter : ℕ) (change : L → L) → limiter ≢ 0 → ChangesLimiter (one_bucket m) limiter change (one_bucket m)
  limited_nothing m zero change other = absurd (other refl)
  limited_nothing m (suc limiter) change other = record { limiters = refl; books = refl; entries = refl; buckets = keeps m m (λ kind. refl) refl }

  -- what its limiter replies
  pub replied : {R : Type 0} (m : CallerMeaning L) (limiter : ℕ) (f : L → R) (free reply : R) → limiter ≡ 0 → reply ≡ f m.limiter → reply ≡ option_map_or f (slice_get (m.limiter ∷ []) limiter) free
  replied m limiter f free reply here is = is ∙ sym (ap (λ (i : ℕ). option_map_or f (slice_get (m.limiter ∷ []) i) free) here)

  -- another refuses nothing
  pub replied_nothing : {R : Type 0} (m : CallerMeaning L) (limiter : ℕ) (f : L → R) (free : R) → limiter ≢ 0 → free ≡ option_map_or f (slice_get (m.limiter ∷ []) limiter) free
  replied_nothing m zero f free other = absurd (other refl)
  replied_nothing m (suc limiter) f free other = refl
