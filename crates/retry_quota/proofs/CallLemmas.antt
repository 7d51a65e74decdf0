-- No call takes a bucket away, or changes what it costs or rewards.
use Rattle.std.proofs.Common.{◌≡◌, ◌≢◌, ◌∙◌, ap, refl, sym, ℕ, Bool, true, false, IsTrue, List, [], ◌∷◌, Option, Some, None}
use Rattle.std.proofs.lemmas.Bool.{false≢true}
use Rattle.std.specs.Prelude.{MatchOption}
use Rattle.smithy_types.specs.Chain.{Chained}
use Rattle.smithy_types.specs.declared.config.RetrySpec.{RetrySpec}
use Rattle.smithy_types.specs.declared.kinds.ErrorKind.{ErrorKind}
use Rattle.smithy_types.specs.declared.partition.CustomPartition.{CustomPartition}
use Rattle.smithy_types.specs.declared.partition.RetryPartition.{RetryPartition}
use Rattle.retry_quota.specs.Book.{Book, default_book}
use Rattle.retry_quota.specs.Calls.{QuotaCall, OnBucket, Settled, AskedLimiter, ToldLimiter, FoundBucket, FoundLimiter, Limiters, Calls, KeepsThere}
use Rattle.retry_quota.specs.Meaning.{Meaning, KeepsBuckets, IsKept, Settles, AddsBucket, AddsLimiter}
use Rattle.retry_quota.specs.History.{Step}

-- a custom partition's number, or a known one, or a new one
found : (P : Type 0) (custom : Option CustomPartition) (known : Option ℕ) (A : CustomPartition → Type 0) (B : ℕ → Type 0) (N : Type 0)
    → ((c : CustomPartition) → A c → P) → ((k : ℕ) → B k → P) → (N → P) → MatchOption custom (MatchOption known N B) A → P
found P None None A B N a b n h = n h
found P None (Some k) A B N a b n h = b k h
found P (Some c) known A B N a b n h = a c h

module _ {L : Type 0} where
  pub by_buckets : (m n : Meaning L) (bucket : ℕ) → m.has bucket ≡ true → KeepsBuckets m n → KeepsThere m n bucket
  by_buckets m n bucket there k = record { has = k.has bucket ∙ there; cost = k.cost bucket; reward = k.reward bucket }

  other : (m n : Meaning L) (partition : RetryPartition) (book : Book) (number bucket : ℕ) → AddsBucket m partition book number n → m.has bucket ≡ true → bucket ≢ number
  other m n partition book number bucket adds there e = false≢true (sym adds.new ∙ ap m.has (sym e) ∙ there)

  by_adding : (m n : Meaning L) (partition : RetryPartition) (book : Book) (number bucket : ℕ) → m.has bucket ≡ true → AddsBucket m partition book number n → KeepsThere m n bucket
  by_adding m n partition book number bucket there adds =
      let differs = other m n partition book number bucket adds there in record {
        has = adds.others_there bucket differs ∙ there;
        cost = λ kind. adds.other_costs bucket kind differs;
        reward = adds.other_rewards bucket differs;
      }

  by_limiter : (m n : Meaning L) (partition : RetryPartition) (limiter : L) (number bucket : ℕ) → m.has bucket ≡ true → AddsLimiter m partition limiter number n → KeepsThere m n bucket
  by_limiter m n partition limiter number bucket there adds = record {
    has = adds.has bucket ∙ there;
    cost = adds.cost bucket;
    reward = adds.reward bucket;
  }

  settled : (m n : Meaning L) (b : ℕ) (step : Step) (bucket : ℕ) → m.has bucket ≡ true → Settles m b step n → (t : Bool) → m.has b ≡ t → KeepsThere m n bucket
  settled m n b step bucket there h true e = by_buckets m n bucket there (h.there e).buckets
  settled m n b step bucket there h false e = by_buckets m n bucket there (h.foreign e).buckets

  pub call_keeps : (means : Limiters L) (m : Meaning L) (call : QuotaCall) (n : Meaning L) (bucket : ℕ) → m.has bucket ≡ true → Calls means m call n → KeepsThere m n bucket
  call_keeps means m (OnBucket b step reply) n bucket there h = by_buckets m n bucket there h.buckets
  call_keeps means m (Settled b step) n bucket there h = settled m n b step bucket there h (m.has b) refl
  call_keeps means m (AskedLimiter limiter now reason reply) n bucket there h = by_buckets m n bucket there h.0.buckets
  call_keeps means m (ToldLimiter limiter now throttled) n bucket there h = by_buckets m n bucket there h.buckets
  call_keeps means m (FoundBucket partition spec number) n bucket there h =
      found (KeepsThere m n bucket) partition.custom (m.bucket_of partition) _ _ _ (λ c k. by_buckets m n bucket there k.1.buckets) (λ c k. by_buckets m n bucket there k.1.buckets)
      (by_adding m n partition (default_book spec) number bucket there) h
  call_keeps means m (FoundLimiter partition now number) n bucket there h =
      found (KeepsThere m n bucket) partition.custom (m.limiter_of partition) _ _ _ (λ c k. by_buckets m n bucket there k.1.buckets) (λ c k. by_buckets m n bucket there k.1.buckets)
      (by_limiter m n partition (means.at now) number bucket there) h

  pub keeps_then : (m k n : Meaning L) (bucket : ℕ) → KeepsThere m k bucket → KeepsThere k n bucket → KeepsThere m n bucket
  keeps_then m k n bucket a b = record { has = b.has; cost = λ kind. b.cost kind ∙ a.cost kind; reward = b.reward ∙ a.reward }

  pub calls_keep : (means : Limiters L) (m : Meaning L) (calls : List QuotaCall) (n : Meaning L) (bucket : ℕ) → m.has bucket ≡ true → Chained (Calls means) m calls n → KeepsThere m n bucket
  calls_keep means m [] n bucket there e = record { has = ap (λ (k : Meaning L). k.has bucket) e ∙ there; cost = λ kind. ap (λ (k : Meaning L). k.cost bucket kind) e; reward = ap (λ (k : Meaning L). k.reward bucket) e }
  calls_keep means m (call ∷ calls) n bucket there (k, made, rest) =
      let first = call_keeps means m call k bucket there made in keeps_then m k n bucket first (calls_keep means k calls n bucket first.has rest)
