-- What the quota of one caller means, at a bucket that it shares with others.
use Rattle.std.specs.Prelude.{◌≡◌, ℕ, ◌==◌, Option, None, Some, List, [], ◌∷◌}
use Rattle.smithy_types.specs.declared.kinds.ErrorKind.{ErrorKind}
use Rattle.retry_quota.specs.History.{Step, Reply, Entry}
use Rattle.retry_quota.specs.Meaning.{Meaning, recorded}

-- L is what a limiter is
pub record CallerMeaning (L : Type 0) : Type 0 where
  -- what a retry costs in the bucket
  pub cost : ErrorKind → ℕ
  -- what a success adds there
  pub reward : ℕ
  -- the caller's steps so far with their replies, where they are told
  pub entries : Option (List Entry)
  -- the caller's own limiter
  pub limiter : L

-- one bucket for every partition, which is 0, and the caller's own limiter; books aren't told
abbrev pub one_bucket : {L : Type 0} → CallerMeaning L → Meaning L
one_bucket m = record {
  has = λ bucket. bucket == 0;
  cost = λ bucket kind. m.cost kind;
  reward = λ bucket. m.reward;
  books = None;
  entries = m.entries;
  limiters = m.limiter ∷ [];
  bucket_of = λ partition. Some 0;
  limiter_of = λ partition. Some 0;
}

-- the bucket makes this step and replies so, and nothing else changes
pub record Makes {L : Type 0} (m : CallerMeaning L) (step : Step) (reply : Reply) (n : CallerMeaning L) : Type 0 where
  pub cost : (kind : ErrorKind) → n.cost kind ≡ m.cost kind
  pub reward : n.reward ≡ m.reward
  pub entries : n.entries ≡ recorded m.entries step reply
  pub limiter : n.limiter ≡ m.limiter

-- the limiter is changed so, and nothing else
pub record Limits {L : Type 0} (m : CallerMeaning L) (change : L → L) (n : CallerMeaning L) : Type 0 where
  pub cost : (kind : ErrorKind) → n.cost kind ≡ m.cost kind
  pub reward : n.reward ≡ m.reward
  pub entries : n.entries ≡ m.entries
  pub limiter : n.limiter ≡ change m.limiter
