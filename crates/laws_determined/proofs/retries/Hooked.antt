-- Hooks are determined.
use Rattle.std.proofs.Common.{◌≡◌, ◌∙◌, refl, sym, ap, subst, ℕ, ◌<◌, ◌≤◌, ◌+◌, Bool, true, false, arith, inl, inr, List, ◌++◌, ◌∷◌, [], Option, None, Some, if◌then◌else◌, map, length, length-append, nat_lt}
use Rattle.std.specs.Prelude.{MatchOption}
use Rattle.std.proofs.lemmas.Bool.{false≢true, ltb-false, ltb-true}
use Rattle.outside.specs.Calls.{OutsideCall}
use Rattle.client_retries.specs.Hooking.{Hooks, RunsHook, poisoning}
use Rattle.client_retries.specs.Meanings.{InterceptorMeans}
use Rattle.client_retries.specs.Offering.{finding_bucket, offered_bucket, standing_spec}
use Rattle.retry_policy.specs.Interceptors.{is_after_deserialization, is_before_retry_loop}
use Rattle.retry_policy.specs.Standing.{standing_partition}
use Rattle.retry_quota.specs.Book.{Book, default_book}
use Rattle.retry_quota.specs.Calls.{Calls, FoundBucket, Limiters}
use Rattle.retry_quota.specs.Meaning.{AddsBucket, IsKept}
use Rattle.retry_quota.specs.Registers.{Registers, meaning_of}
use Rattle.run_grammar.specs.declared.answer.Answer.{Answer}
use Rattle.run_grammar.specs.declared.answer.Answer.TheVariants.{Hooked}
use Rattle.smithy_base.specs.Chain.{RunsChain, Turn, Turns, seen, together}
use Rattle.smithy_context.specs.declared.intercept.HookAnswer.{HookAnswer}
use Rattle.smithy_context.specs.declared.intercept.HookView.{HookView}
use Rattle.smithy_types.specs.Chain.{Chained}
use Rattle.smithy_types.specs.Partition.{same_partition}
use Rattle.smithy_types.specs.declared.config.RetrySpec.{RetrySpec}
use Rattle.smithy_types.specs.declared.hook.Hook.{Hook}
use Rattle.smithy_types.specs.declared.notes.RetryAction.{RetryAction}
use Rattle.smithy_types.specs.declared.partition.CustomPartition.{CustomPartition}
use Rattle.smithy_types.specs.declared.partition.RetryPartition.{RetryPartition}
use Rattle.laws_determined.specs.Steady.Steady.{IsSteady}
use Rattle.laws_determined.proofs.steady.Calls.{same_calls}
use Rattle.laws_determined.specs.Retries.Alike.{AreAlike, registers_mean}
use Rattle.laws_determined.specs.Retries.Kinds as kinds
use Rattle.laws_determined.proofs.retries.Quota.{kept_left, same_some, stays_left}
use Rattle.laws_determined.proofs.retries.Limiters.{but_for, registers_alike, registers_left, same_found}

-- ---- the chain

module _ {I : Type 0} (names : I → List ℕ) (hooks : I → Hook → Bool) (runs : I → Hook → HookView → HookAnswer → I → Type 0) (alike : kinds.RunsAlike runs) (h : Hook) where
  turn_same : (v : HookView) (x : I) (given other : List HookAnswer) (y z : I) → Turn names hooks runs h v x given y → Turn names hooks runs h v x other z → (given ≡ other) × (y ≡ z)
  turn_same v x given other y z (inl p) (inl q) = (p.1 ∙ sym q.1, p.2 ∙ sym q.2)
  turn_same v x given other y z (inl p) (inr q) = absurd (false≢true (sym p.0 ∙ q.0))
  turn_same v x given other y z (inr p) (inl q) = absurd (false≢true (sym q.0 ∙ p.0))
  turn_same v x given other y z (inr p) (inr q) =
      let met = alike x y z h v p.1 q.1 p.3 q.3 in
      (p.2 ∙ (ap (λ a. a ∷ []) met.0 ∙ sym q.2), met.1)

  turns_same : (v : HookView) (xs : List I) (given other : List HookAnswer) (ys zs : List I) → Turns names hooks runs h v xs given ys → Turns names hooks runs h v xs other zs → (given ≡ other) × (ys ≡ zs)
  turns_same v [] given other ys zs p q = (p.0 ∙ sym q.0, p.1 ∙ sym q.1)
  turns_same v (x ∷ xs) given other ys zs p q =
      let one = turn_same v x p.0 q.0 p.2 q.2 p.6 q.6 in
      let tail = turns_same (seen h v q.0) xs p.1 q.1 p.3 q.3 (subst (λ f. Turns names hooks runs h (seen h v f) xs p.1 p.3) one.0 p.7) q.7 in
      (p.4 ∙ ((λ i. one.0 i ++ tail.0 i) ∙ sym q.4), p.5 ∙ ((λ i. one.1 i ∷ tail.1 i) ∙ sym q.5))

  chain_same : (v : HookView) (xs ys zs : List I) (a b : HookAnswer) → RunsChain names hooks runs h v xs a ys → RunsChain names hooks runs h v xs b zs → (a ≡ b) × (ys ≡ zs)
  chain_same v xs ys zs a b p q =
      let met = turns_same v xs p.0 q.0 ys zs p.1 q.1 in
      (p.2 ∙ (ap (together h) met.0 ∙ sym q.2), met.1)

-- ---- a bucket that is found

module _ {L : Type 0} where
  added_number : (q after : Registers L) (partition : RetryPartition) (book : Book) (number : ℕ) → AddsBucket (meaning_of q) partition book number (meaning_of after) → number ≡ length q.books
  added_number q after partition book number s =
      let books : after.books ≡ q.books ++ book ∷ [] = same_some after.books (q.books ++ book ∷ []) s.books in
      let long : length after.books ≡ length q.books + 1 = ap length books ∙ length-append q.books (book ∷ []) in
      let below : number < length after.books = ltb-true number (length after.books) s.there in
      let past : length q.books ≤ number = at_least number (length q.books) s.new in
      omega (arith, long, below, past)
    where
      at_least : (a b : ℕ) → nat_lt a b ≡ false → b ≤ a
      at_least a b is = ltb-false a b is

  added_alike : (q r after left : Registers L) (partition : RetryPartition) (book : Book) (number other : ℕ) → AreAlike q r → AddsBucket (meaning_of q) partition book number (meaning_of after)
      → AddsBucket (meaning_of r) partition book other (meaning_of left) → (number ≡ other) × AreAlike after left
  added_alike q r after left partition book number other alike s t =
      let same : number ≡ other = added_number q after partition book number s ∙ (ap length alike.books ∙ sym (added_number r left partition book other t)) in (
        same,
        record {
          books = same_some after.books (q.books ++ book ∷ []) s.books ∙ (ap (λ books. books ++ book ∷ []) alike.books ∙ sym (same_some left.books (r.books ++ book ∷ []) t.books));
          limiters = s.limiters ∙ (alike.limiters ∙ sym t.limiters);
          bucket_of = λ p. by p same (same_partition p partition) refl;
          limiter_of = λ p. s.limiter_of p ∙ (alike.limiter_of p ∙ sym (t.limiter_of p));
        },
      )
    where
      by : (p : RetryPartition) → number ≡ other → (it : Bool) → same_partition p partition ≡ it → (meaning_of after).bucket_of p ≡ (meaning_of left).bucket_of p
      by p same true is = same_found p partition after.bucket_names is ∙ (s.named ∙ (ap Some same ∙ (sym t.named ∙ sym (same_found p partition left.bucket_names is))))
      by p same false is = s.other_names p is ∙ (alike.bucket_of p ∙ sym (t.other_names p is))

  module _ (q r after left : Registers L) (alike : AreAlike q r) where
    kept_alike : IsKept (meaning_of q) (meaning_of after) → IsKept (meaning_of r) (meaning_of left) → AreAlike after left
    kept_alike s t = registers_alike None after left (kept_left (but_for None) (meaning_of q) (meaning_of r) (meaning_of after) (meaning_of left) (registers_left q r alike) s t)

    stay_alike : meaning_of after ≡ meaning_of q → meaning_of left ≡ meaning_of r → (means : Limiters L) → AreAlike after left
    stay_alike s t means = registers_alike None after left (stays_left (but_for None) means (meaning_of q) (meaning_of r) (meaning_of after) (meaning_of left) (registers_left q r alike) s t)

    by_name : (partition : RetryPartition) (book : Book) (number other : ℕ) (found : Option ℕ)
        → MatchOption found (AddsBucket (meaning_of q) partition book number (meaning_of after)) (λ known. (number ≡ known) × IsKept (meaning_of q) (meaning_of after))
        → MatchOption found (AddsBucket (meaning_of r) partition book other (meaning_of left)) (λ known. (other ≡ known) × IsKept (meaning_of r) (meaning_of left)) → (number ≡ other) × AreAlike after left
    by_name partition book number other None s t = added_alike q r after left partition book number other alike s t
    by_name partition book number other (Some known) s t = (s.0 ∙ sym t.0, kept_alike s.1 t.1)

    by_custom : (partition : RetryPartition) (book : Book) (number other : ℕ) (custom : Option CustomPartition)
        → MatchOption custom (MatchOption ((meaning_of q).bucket_of partition) (AddsBucket (meaning_of q) partition book number (meaning_of after)) (λ known. (number ≡ known) × IsKept (meaning_of q) (meaning_of after)))
        (λ numbers. (number ≡ numbers.bucket) × IsKept (meaning_of q) (meaning_of after))
        → MatchOption custom (MatchOption ((meaning_of r).bucket_of partition) (AddsBucket (meaning_of r) partition book other (meaning_of left)) (λ known. (other ≡ known) × IsKept (meaning_of r) (meaning_of left)))
        (λ numbers. (other ≡ numbers.bucket) × IsKept (meaning_of r) (meaning_of left))
        → (number ≡ other) × AreAlike after left
    by_custom partition book number other None s t =
        by_name partition book number other ((meaning_of r).bucket_of partition)
        (subst (λ found. MatchOption found (AddsBucket (meaning_of q) partition book number (meaning_of after)) (λ known. (number ≡ known) × IsKept (meaning_of q) (meaning_of after))) (alike.bucket_of partition) s) t
    by_custom partition book number other (Some numbers) s t = (s.0 ∙ sym t.0, kept_alike s.1 t.1)

    module _ {I : Type 0} (limiters : Limiters L) (means : InterceptorMeans I) where
      -- the same bucket is found and offered
      found_by : (partition : Option RetryPartition) (spec : Option RetrySpec) (number other : ℕ) (chain : List I)
          → Chained (Calls limiters) (meaning_of q) (finding_bucket partition spec number) (meaning_of after) → Chained (Calls limiters) (meaning_of r) (finding_bucket partition spec other) (meaning_of left)
          → (offered_bucket means partition number chain ≡ offered_bucket means partition other chain) × AreAlike after left
      found_by None spec number other chain s t = (refl, stay_alike s t limiters)
      found_by (Some partition) spec number other chain (mid, s, end) (away, t, stop) =
          let met = by_custom partition (default_book spec) number other partition.custom
          (subst (λ m. Calls limiters (meaning_of q) (FoundBucket partition spec number) m) (sym end) s)
          (subst (λ m. Calls limiters (meaning_of r) (FoundBucket partition spec other) m) (sym stop) t) in
          (ap (λ n. map (λ i. means.with_bucket i n) chain) met.0, met.1)

      offers_by : (first : Bool) (partition : Option RetryPartition) (spec : Option RetrySpec) (number other : ℕ) (chain more : List I)
          → Chained (Calls limiters) (meaning_of q) (if first then finding_bucket partition spec number else []) (meaning_of after)
          → Chained (Calls limiters) (meaning_of r) (if first then finding_bucket partition spec other else []) (meaning_of left)
          → ((if first then offered_bucket means partition number chain else more) ≡ (if first then offered_bucket means partition other chain else more)) × AreAlike after left
      offers_by true partition spec number other chain more s t = found_by partition spec number other chain s t
      offers_by false partition spec number other chain more s t = (refl, stay_alike s t limiters)

-- ---- a hook

module _ {X I P L : Type 0} (makes : X → OutsideCall → X → Type 0) (bucket amount : P → ℕ) (limiters : Limiters L) (means : InterceptorMeans I) (steady : IsSteady makes) (runs : kinds.RunsAlike means.runs) where
  ran_alike : (front : List OutsideCall) (verdict : RetryAction) (hook : Hook) (view : HookView) (old new other : List I) (q r after left : Registers L) (a b : Answer) (calls more : List OutsideCall) (from made also : X)
      → AreAlike q r → Chained makes from (front ++ calls) made → Chained makes from (front ++ more) also
      → RunsHook (registers_mean bucket amount limiters) means verdict hook view old q a new calls after → RunsHook (registers_mean bucket amount limiters) means verdict hook view old r b other more left
      → (a ≡ b) × (made ≡ also) × (new ≡ other) × AreAlike after left
  ran_alike front verdict hook view old new other q r after left a b calls more from made also alike did again s t =
      let found = offers_by q r after left alike limiters means (is_before_retry_loop hook) (standing_partition view.settings) (standing_spec view.settings) s.offers.number t.offers.number old
      (if is_after_deserialization hook then map (λ i. means.with_verdict i verdict) old else old) s.offers.found t.offers.found in
      let before : s.before ≡ t.before = s.offers.chain_is ∙ (found.0 ∙ sym t.offers.chain_is) in
      let met = chain_same means.names means.hooks means.runs runs hook view t.before new other s.answer t.answer
      (subst (λ xs. RunsChain means.names means.hooks means.runs hook view xs s.answer new) before s.ran) t.ran in
      let same : calls ≡ more = s.calls_are ∙ (ap (poisoning hook) met.0 ∙ sym t.calls_are) in (
        s.answer_is ∙ (ap Hooked met.0 ∙ sym t.answer_is),
        same_calls makes steady (front ++ more) from made also (subst (λ l. Chained makes from (front ++ l) made) same did) again,
        met.1,
        found.1,
      )

  hook_alike : (front : List OutsideCall) (verdict : RetryAction) (hook : Hook) (view : HookView) (old new other : List I) (q r after left : Registers L) (a b : Answer) (calls more : List OutsideCall) (from made also : X)
      → AreAlike q r → Chained makes from (front ++ calls) made → Chained makes from (front ++ more) also
      → Hooks (registers_mean bucket amount limiters) means verdict hook view old q a new calls after → Hooks (registers_mean bucket amount limiters) means verdict hook view old r b other more left
      → (a ≡ b) × (made ≡ also) × (new ≡ other) × AreAlike after left
  hook_alike front verdict hook view old new other q r after left a b calls more from made also alike did again (inl s) (inl t) = (
    s.1 ∙ sym t.1,
    same_calls makes steady (front ++ more) from made also (subst (λ l. Chained makes from (front ++ l) made) (s.3 ∙ sym t.3) did) again,
    s.2 ∙ sym t.2,
    subst (λ x. AreAlike x left) (sym s.4) (subst (λ x. AreAlike q x) (sym t.4) alike),
  )
  hook_alike front verdict hook view old new other q r after left a b calls more from made also alike did again (inl s) (inr t) = absurd (false≢true (sym t.0 ∙ s.0))
  hook_alike front verdict hook view old new other q r after left a b calls more from made also alike did again (inr s) (inl t) = absurd (false≢true (sym s.0 ∙ t.0))
  hook_alike front verdict hook view old new other q r after left a b calls more from made also alike did again (inr s) (inr t) =
      ran_alike front verdict hook view old new other q r after left a b calls more from made also alike did again s.1 t.1

module _ {X I P L : Type 0} (makes : X → OutsideCall → X → Type 0) (bucket amount : P → ℕ) (limiters : Limiters L) (means : InterceptorMeans I) (steady : IsSteady makes) where
  pub hooks : kinds.HooksAreDetermined makes bucket amount limiters means
  hooks runs front verdict hook view one two after left a b alike (calls, did, s) (more, again, t) =
      let met = hook_alike makes bucket amount limiters means steady runs front verdict hook view two.chain after.chain left.chain one.quota two.quota after.quota left.quota a b calls more
      two.outside after.outside left.outside alike.quota (subst (λ x. Chained makes x (front ++ calls) after.outside) alike.outside did) again
      (subst (λ xs. Hooks (registers_mean bucket amount limiters) means verdict hook view xs one.quota a after.chain calls after.quota) alike.chain s) t in
      (met.0, record { outside = met.1; chain = met.2; quota = met.3 })
