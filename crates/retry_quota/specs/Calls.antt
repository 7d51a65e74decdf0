-- The calls of a quota as data, and what each does to what the quota means.
use Rattle.std.specs.Prelude.{◌≡◌, ℕ, Bool, true, Option, Result, Ok, slice_get}
use Rattle.std.specs.Option.{option_map_or}
use Rattle.smithy_types.specs.declared.config.RetrySpec.{RetrySpec}
use Rattle.smithy_types.specs.declared.kinds.ErrorKind.{ErrorKind}
use Rattle.smithy_types.specs.declared.partition.RetryPartition.{RetryPartition}
use Rattle.retry_quota.specs.declared.limiter.RequestReason.{RequestReason}
use Rattle.retry_quota.specs.History.{Step, Reply}
use Rattle.retry_quota.specs.Meaning.{Meaning, Steps, Settles, ChangesLimiter, AnswersBucket, AnswersLimiter}

-- a call on a quota with what it answered
pub data QuotaCall : Type 0 where
  -- a bucket makes the step and replies so
  OnBucket : ℕ → Step → Reply → QuotaCall
  -- a permit is given back or up in its bucket
  Settled : ℕ → Step → QuotaCall
  -- a limiter is asked at this moment for a request, and answers so
  AskedLimiter : ℕ → ℕ → RequestReason → Result (Unit {0}) ℕ → QuotaCall
  -- a limiter is told of a response at this moment, and whether it was throttled
  ToldLimiter : ℕ → ℕ → Bool → QuotaCall
  -- the number of a partition's bucket, under this specification
  FoundBucket : RetryPartition → Option RetrySpec → ℕ → QuotaCall
  -- the number of a partition's limiter, at this moment
  FoundLimiter : RetryPartition → ℕ → ℕ → QuotaCall

-- what the limiters of a quota do
pub record Limiters (L : Type 0) : Type 0 where
  pub at : ℕ → L
  pub after_acquire : L → ℕ → RequestReason → L
  pub reply_to : L → ℕ → RequestReason → Result (Unit {0}) ℕ
  pub after_update : L → ℕ → Bool → L

-- limiters that begin so, and answer and change so
abbrev pub limiters_by : {L : Type 0} → (ℕ → L) → (L → ℕ → RequestReason → L) →
    (L → ℕ → RequestReason → Result (Unit {0}) ℕ) → (L → ℕ → Bool → L) → Limiters L
limiters_by at after_acquire reply_to after_update = record {
  at = at;
  after_acquire = after_acquire;
  reply_to = reply_to;
  after_update = after_update;
}

-- what a limiter answers; a number that isn't there refuses nothing
abbrev pub limiter_reply : {L : Type 0} → Limiters L → Meaning L → ℕ → ℕ → RequestReason → Result (Unit {0}) ℕ
limiter_reply means m limiter now reason =
    option_map_or (λ l. means.reply_to l now reason) (slice_get m.limiters limiter) (Ok tt)

-- the call is made on a quota that means m, and then it means n
abbrev pub Calls : {L : Type 0} → Limiters L → Meaning L → QuotaCall → Meaning L → Type 0
Calls means m (OnBucket bucket step reply) n = Steps m bucket step reply n
Calls means m (Settled bucket step) n = Settles m bucket step n
Calls means m (AskedLimiter limiter now reason reply) n =
    ChangesLimiter m limiter (λ l. means.after_acquire l now reason) n
    × (reply ≡ limiter_reply means m limiter now reason)
Calls means m (ToldLimiter limiter now throttled) n =
    ChangesLimiter m limiter (λ l. means.after_update l now throttled) n
Calls means m (FoundBucket partition spec number) n = AnswersBucket m partition spec number n
Calls means m (FoundLimiter partition now number) n = AnswersLimiter m partition (means.at now) number n

-- a bucket that is there stays there, with its costs and its reward
pub record KeepsThere {L : Type 0} (m n : Meaning L) (bucket : ℕ) : Type 0 where
  pub has : n.has bucket ≡ true
  pub cost : (kind : ErrorKind) → n.cost bucket kind ≡ m.cost bucket kind
  pub reward : n.reward bucket ≡ m.reward bucket
