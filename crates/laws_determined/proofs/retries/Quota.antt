-- The calls of a quota, made of two quotas that mean alike.
use Rattle.std.proofs.Common.{◌≡◌, ◌∙◌, refl, sym, ap, subst, ℕ, ◌<◌, ◌≤◌, Bool, true, false, arith, inl, inr, List, [], ◌∷◌, ◌++◌, Option, None, Some, Ok, length, nat_lt, zero, suc}
use Rattle.std.specs.Prelude.{IfSome, is_some, slice_get}
use Rattle.std.specs.List.{AllByRecursion}
use Rattle.std.specs.Option.{option_map_or}
use Rattle.std.proofs.lemmas.Bool.{false≢true, ltb-true}
use Rattle.std.proofs.lemmas.Option.{slice_get_cases}
use Rattle.retry_quota.specs.Book.{Book}
use Rattle.retry_quota.specs.Calls.{Calls, Limiters, QuotaCall, OnBucket, Settled, AskedLimiter, ToldLimiter, FoundBucket, FoundLimiter, limiter_reply}
use Rattle.retry_quota.specs.History.{Step, Reply, Done, after, reply_to}
use Rattle.retry_quota.specs.Meaning.{Meaning, BookSteps, ChangesLimiter, IsKept, KeepsBuckets, Settles, Steps}
use Rattle.retry_quota.specs.Place.{change_at}
use Rattle.retry_quota.specs.declared.limiter.RequestReason.{RequestReason}
use Rattle.smithy_types.specs.Chain.{Chained}
use Rattle.smithy_types.specs.declared.kinds.ErrorKind.{ErrorKind}
use Rattle.smithy_types.specs.declared.partition.RetryPartition.{RetryPartition}

pub same_some : {X : Type 0} (x y : X) → Some x ≡ Some y → x ≡ y
same_some x y is = cc

length-change_at : {X : Type 0} (f : X → X) (xs : List X) (i : ℕ) → length (change_at i f xs) ≡ length xs
length-change_at f [] i = refl
length-change_at f (x ∷ xs) zero = refl
length-change_at f (x ∷ xs) (suc i) = ap suc (length-change_at f xs i)

book_made : (o : Option (List Book)) (books : List Book) (bucket : ℕ) (step : Step) (reply : Reply) (new : Option (List Book)) → o ≡ Some books → BookSteps o bucket step reply new
    → IfSome (slice_get books bucket) (λ b. reply ≡ reply_to step b) × (new ≡ Some (change_at bucket (after step) books))
book_made o books bucket step reply new is made = subst (λ x. BookSteps x bucket step reply new) is made

is_there : (books : List Book) (bucket : ℕ) → nat_lt bucket (length books) ≡ true → is_some (slice_get books bucket) ≡ true
is_there books bucket below =
    let less : bucket < length books = ltb-true bucket (length books) below in
    elim ((slice_get_cases books bucket).1) [
      | inl found ↦ ap is_some found.2
      | inr past ↦ let more : length books ≤ bucket = past.0 in absurd (omega (arith, less, more))
    ]

one_reply : (o : Option Book) (step : Step) (reply said : Reply) → is_some o ≡ true → IfSome o (λ b. reply ≡ reply_to step b) → IfSome o (λ b. said ≡ reply_to step b) → reply ≡ said
one_reply None step reply said there p q = absurd (false≢true there)
one_reply (Some b) step reply said there p q = p ∙ sym q

-- no number is looked up
abbrev pub looks_nothing_up : QuotaCall → Bool
looks_nothing_up (OnBucket bucket step reply) = true
looks_nothing_up (Settled bucket step) = true
looks_nothing_up (AskedLimiter limiter now reason reply) = true
looks_nothing_up (ToldLimiter limiter now throttled) = true
looks_nothing_up (FoundBucket partition spec number) = false
looks_nothing_up (FoundLimiter partition now number) = false

abbrev pub ArePlain : List QuotaCall → Type 0
ArePlain calls = AllByRecursion (λ c. looks_nothing_up c ≡ true) calls

module _ {L : Type 0} where
  -- the books are told, and there are as many buckets
  pub record IsTold (m : Meaning L) : Type 0 where
    pub books : List Book
    pub told : m.books ≡ Some books
    pub there : (bucket : ℕ) → m.has bucket ≡ nat_lt bucket (length books)

  -- the quotas mean alike, and have the same limiter for each of these partitions
  pub record MeanAlike (of : RetryPartition → Type 0) (m n : Meaning L) : Type 0 where
    pub has : (bucket : ℕ) → m.has bucket ≡ n.has bucket
    pub cost : (bucket : ℕ) (kind : ErrorKind) → m.cost bucket kind ≡ n.cost bucket kind
    pub reward : (bucket : ℕ) → m.reward bucket ≡ n.reward bucket
    pub bucket_of : (partition : RetryPartition) → m.bucket_of partition ≡ n.bucket_of partition
    pub limiter_of : (partition : RetryPartition) → of partition → m.limiter_of partition ≡ n.limiter_of partition
    pub books : m.books ≡ n.books
    pub limiters : m.limiters ≡ n.limiters

  -- what is left of two such quotas
  pub record Left (of : RetryPartition → Type 0) (m n : Meaning L) : Type 0 where
    pub told : IsTold m
    pub alike : MeanAlike of m n

  module _ (of : RetryPartition → Type 0) where
    pub kept_alike : (m n left more : Meaning L) → MeanAlike of m n → KeepsBuckets m left → KeepsBuckets n more → left.books ≡ more.books → left.limiters ≡ more.limiters
        → MeanAlike of left more
    kept_alike m n left more alike k l books limiters = record {
      has = λ b. k.has b ∙ (alike.has b ∙ sym (l.has b));
      cost = λ b kind. k.cost b kind ∙ (alike.cost b kind ∙ sym (l.cost b kind));
      reward = λ b. k.reward b ∙ (alike.reward b ∙ sym (l.reward b));
      bucket_of = λ p. k.bucket_of p ∙ (alike.bucket_of p ∙ sym (l.bucket_of p));
      limiter_of = λ p w. k.limiter_of p ∙ (alike.limiter_of p w ∙ sym (l.limiter_of p));
      books = books;
      limiters = limiters;
    }

    kept_told : (m left : Meaning L) → IsTold m → KeepsBuckets m left → left.books ≡ m.books → IsTold left
    kept_told m left told k same = record { books = told.books; told = same ∙ told.told; there = λ b. k.has b ∙ told.there b }

    pub kept_left : (m n left more : Meaning L) → Left of m n → IsKept m left → IsKept n more → Left of left more
    kept_left m n left more was k l = record {
      told = kept_told m left was.told k.buckets k.books;
      alike = kept_alike m n left more was.alike k.buckets l.buckets (k.books ∙ (was.alike.books ∙ sym l.books)) (k.limiters ∙ (was.alike.limiters ∙ sym l.limiters));
    }

    -- ---- a bucket's step

    pub step_left : (m n left more : Meaning L) (bucket : ℕ) (step : Step) (reply said : Reply) → Left of m n → Steps m bucket step reply left → Steps n bucket step said more → Left of left more
    step_left m n left more bucket step reply said was s t =
        let one = book_made m.books was.told.books bucket step reply left.books was.told.told s.book in
        let two = book_made n.books was.told.books bucket step said more.books (sym was.alike.books ∙ was.told.told) t.book in
        record {
          told = record {
            books = change_at bucket (after step) was.told.books;
            told = one.1;
            there = λ b. s.buckets.has b ∙ (was.told.there b ∙ ap (nat_lt b) (sym (length-change_at (after step) was.told.books bucket)));
          };
          alike = kept_alike m n left more was.alike s.buckets t.buckets (one.1 ∙ sym two.1) (s.limiters ∙ (was.alike.limiters ∙ sym t.limiters));
        }

    -- a bucket that is there replies alike
    pub step_tells : (m n left more : Meaning L) (bucket : ℕ) (step : Step) (reply said : Reply) → Left of m n → m.has bucket ≡ true
        → Steps m bucket step reply left → Steps n bucket step said more → reply ≡ said
    step_tells m n left more bucket step reply said was there s t =
        let one = book_made m.books was.told.books bucket step reply left.books was.told.told s.book in
        let two = book_made n.books was.told.books bucket step said more.books (sym was.alike.books ∙ was.told.told) t.book in
        one_reply (slice_get was.told.books bucket) step reply said (is_there was.told.books bucket (sym (was.told.there bucket) ∙ there)) one.0 two.0

    settle_left : (m n left more : Meaning L) (bucket : ℕ) (step : Step) (there : Bool) → m.has bucket ≡ there → Left of m n → Settles m bucket step left → Settles n bucket step more → Left of left more
    settle_left m n left more bucket step true is was s t = step_left m n left more bucket step Done Done was (s.there is) (t.there (sym (was.alike.has bucket) ∙ is))
    settle_left m n left more bucket step false is was s t = kept_left m n left more was (s.foreign is) (t.foreign (sym (was.alike.has bucket) ∙ is))

    -- ---- a limiter's change

    pub change_left : (m n left more : Meaning L) (limiter : ℕ) (change : L → L) → Left of m n → ChangesLimiter m limiter change left → ChangesLimiter n limiter change more → Left of left more
    change_left m n left more limiter change was s t = record {
      told = kept_told m left was.told s.buckets s.books;
      alike = kept_alike m n left more was.alike s.buckets t.buckets (s.books ∙ (was.alike.books ∙ sym t.books))
          (s.limiters ∙ (ap (change_at limiter change) was.alike.limiters ∙ sym t.limiters));
    }

    module _ (means : Limiters L) where
      pub one_limiter_reply : (m n : Meaning L) (limiter now : ℕ) (reason : RequestReason) → Left of m n → limiter_reply means m limiter now reason ≡ limiter_reply means n limiter now reason
      one_limiter_reply m n limiter now reason was =
          ap (λ ls. option_map_or (λ l. means.reply_to l now reason) (slice_get ls limiter) (Ok tt)) was.alike.limiters

      pub call_left : (m n left more : Meaning L) (call : QuotaCall) → looks_nothing_up call ≡ true → Left of m n → Calls means m call left → Calls means n call more → Left of left more
      call_left m n left more (OnBucket bucket step reply) plain was s t = step_left m n left more bucket step reply reply was s t
      call_left m n left more (Settled bucket step) plain was s t = settle_left m n left more bucket step (m.has bucket) refl was s t
      call_left m n left more (AskedLimiter limiter now reason reply) plain was s t = change_left m n left more limiter (λ l. means.after_acquire l now reason) was s.0 t.0
      call_left m n left more (ToldLimiter limiter now throttled) plain was s t = change_left m n left more limiter (λ l. means.after_update l now throttled) was s t
      call_left m n left more (FoundBucket partition spec number) plain was s t = absurd (false≢true plain)
      call_left m n left more (FoundLimiter partition now number) plain was s t = absurd (false≢true plain)

      -- where no call is made
      pub stays_left : (m n left more : Meaning L) → Left of m n → left ≡ m → more ≡ n → Left of left more
      stays_left m n left more was s t = subst (λ x. Left of x more) (sym s) (subst (λ x. Left of m x) (sym t) was)

      -- two lists of calls are made of such quotas
      pub record Onward (from : Meaning L) (calls other : List QuotaCall) (left more : Meaning L) : Type 0 where
        pub one : Meaning L
        pub two : Meaning L
        pub left_so : Left of one two
        -- the same buckets are there
        pub has : (bucket : ℕ) → one.has bucket ≡ from.has bucket
        pub first : Chained (Calls means) one calls left
        pub second : Chained (Calls means) two other more

      call_has : (m left : Meaning L) (call : QuotaCall) → looks_nothing_up call ≡ true → Calls means m call left → (bucket : ℕ) → left.has bucket ≡ m.has bucket
      call_has m left (OnBucket bucket step reply) plain s = s.buckets.has
      call_has m left (Settled bucket step) plain s = by (m.has bucket) refl
        where
          by : (there : Bool) → m.has bucket ≡ there → (other : ℕ) → left.has other ≡ m.has other
          by true is = (s.there is).buckets.has
          by false is = (s.foreign is).buckets.has
      call_has m left (AskedLimiter limiter now reason reply) plain s = s.0.buckets.has
      call_has m left (ToldLimiter limiter now throttled) plain s = s.buckets.has
      call_has m left (FoundBucket partition spec number) plain s = absurd (false≢true plain)
      call_has m left (FoundLimiter partition now number) plain s = absurd (false≢true plain)

      pub further : (from m : Meaning L) (calls other : List QuotaCall) (left more : Meaning L) → ((bucket : ℕ) → from.has bucket ≡ m.has bucket) → Onward from calls other left more → Onward m calls other left more
      further from m calls other left more same o = record { one = o.one; two = o.two; left_so = o.left_so; has = λ b. o.has b ∙ same b; first = o.first; second = o.second }

      -- behind the same calls
      pub past : (front calls other : List QuotaCall) (m n left more : Meaning L) → ArePlain front → Left of m n
          → Chained (Calls means) m (front ++ calls) left → Chained (Calls means) n (front ++ other) more → Onward m calls other left more
      past [] calls other m n left more plain was s t = record { one = m; two = n; left_so = was; has = λ b. refl; first = s; second = t }
      past (call ∷ front) calls other m n left more plain was (mid, this, rest) (away, that, later) =
          further mid m calls other left more (call_has m mid call plain.0 this)
          (past front calls other mid away left more plain.1 (call_left m n mid away call plain.0 was this that) rest later)

      pub all_left : (calls : List QuotaCall) (m n left more : Meaning L) → ArePlain calls → Left of m n → Chained (Calls means) m calls left → Chained (Calls means) n calls more → Left of left more
      all_left [] m n left more plain was s t = stays_left m n left more was s t
      all_left (call ∷ calls) m n left more plain was (mid, this, rest) (away, that, later) =
          all_left calls mid away left more plain.1 (call_left m n mid away call plain.0 was this that) rest later
