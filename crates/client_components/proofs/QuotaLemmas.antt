-- What an entry leaves of the quota.
use Rattle.std.proofs.Common.{◌≡◌, ap, refl, sym, subst, ℕ, Bool, true, false, List, [], ◌∷◌, Option, Some, None, inl, inr, if◌then◌else◌}
use Rattle.std.proofs.lemmas.Bool.{false≢true}
use Rattle.outside.specs.Calls.{OutsideCall}
use Rattle.client_retries.specs.Deciding.{DecidesSo, IsDecided}
use Rattle.client_retries.specs.Hooking.{Hooks, seen_context}
use Rattle.client_retries.specs.Initially.{BeginsSo, Begun}
use Rattle.client_retries.specs.Offering.{finding, finding_bucket, standing_spec}
use Rattle.client_retries.specs.declared.strategy.RetryStrategy.{RetryStrategy}
use Rattle.client_retries.specs.declared.strategy.RetryStrategy.TheVariants.{Never, Standard}
use Rattle.retry_policy.specs.Decision.{Begins, Decides, FindsLimiter}
use Rattle.retry_policy.specs.Interceptors.{is_before_retry_loop}
use Rattle.retry_policy.specs.Standing.{standing_partition, uses_limiter}
use Rattle.retry_policy.specs.declared.decision.Decision.{Decision}
use Rattle.retry_policy.specs.declared.decision.Initial.{Initial}
use Rattle.retry_policy.specs.declared.standard.StandardRetryStrategy.{StandardRetryStrategy}
use Rattle.retry_policy.specs.declared.standing.Paced.{Paced}
use Rattle.retry_quota.proofs.CallLemmas.{by_buckets, call_keeps, calls_keep, keeps_then}
use Rattle.retry_quota.specs.Calls.{Calls, FoundLimiter, KeepsThere, Limiters}
use Rattle.retry_quota.specs.Meaning.{Meaning}
use Rattle.retry_quota.specs.declared.permit.Permit.{Permit}
use Rattle.run_grammar.specs.declared.answer.Answer.{Answer}
use Rattle.run_grammar.specs.declared.answer.Answer.TheVariants as answers
use Rattle.run_grammar.specs.declared.answer.Entry.{Entry}
use Rattle.run_grammar.specs.declared.kind.Abandonable.TheVariants as abandoned
use Rattle.run_grammar.specs.declared.kind.ConfigureStage.TheVariants as stages
use Rattle.run_grammar.specs.declared.question.Question.{Question}
use Rattle.run_grammar.specs.declared.question.Question.TheVariants as questions
use Rattle.smithy_context.specs.StandingLayers.{StandingLayers}
use Rattle.smithy_context.specs.declared.context.InterceptorContext.{InterceptorContext}
use Rattle.smithy_context.specs.declared.intercept.HookView.{HookView}
use Rattle.smithy_types.specs.Chain.{Chained}
use Rattle.smithy_types.specs.declared.hook.Hook.{Hook}
use Rattle.smithy_types.specs.declared.notes.RetryAction.{RetryAction}
use Rattle.smithy_types.specs.declared.partition.RetryPartition.{RetryPartition}
use Rattle.client_components.specs.Retrying.{calls_quota, decided_view}
use Rattle.client_components.specs.Meaning.{ClientMeaning}
use Rattle.client_components.specs.Serving.{Answers, Served}
use Rattle.client_components.specs.declared.parts.Parts.{Parts}

module _ {T X Q C I A R Z D P L : Type 0} (means : ClientMeaning T X Q C I A R Z D P L) where
  abbrev pub held : Parts T X Q C I A R Z D P L → Meaning L
  held parts = means.quota.meaning parts.quota

  -- a hook finds no bucket but before the retry loop
  nothing_found : (hook : Hook) (settings : StandingLayers) (number : ℕ) (m n : Meaning L) → is_before_retry_loop hook ≡ false
      → Chained (Calls means.quota.limiters) m (finding hook settings number) n → n ≡ m
  nothing_found hook settings number m n e h =
      subst (λ b. Chained (Calls means.quota.limiters) m (if b then finding_bucket (standing_partition settings) (standing_spec settings) number else []) n) e h

  hook_stays : (verdict : RetryAction) (hook : Hook) (view : HookView) (old : List I) (q : Q) (a : Answer) (new : List I) (calls : List OutsideCall) (after : Q)
      → is_before_retry_loop hook ≡ false → Hooks means.quota means.chain verdict hook view old q a new calls after → means.quota.meaning after ≡ means.quota.meaning q
  hook_stays verdict hook view old q a new calls after e (inl h) = ap means.quota.meaning h.4
  hook_stays verdict hook view old q a new calls after e (inr h) =
      nothing_found hook view.settings h.1.offers.number (means.quota.meaning q) (means.quota.meaning after) e h.1.offers.found

  -- a question that doesn't call the quota leaves it
  pub stays : (old new : Parts T X Q C I A R Z D P L) (q : Question) (a : Answer) → Answers means old q a new → calls_quota q ≡ false → held new ≡ held old
  stays old new (questions.Configure stages.Client settings) a h e = ap held h.1.others
  stays old new (questions.Configure stages.Operation settings) a h e = ap held h.1
  stays old new (questions.Configure stages.Final settings) a h e = ap held h.1
  stays old new (questions.Hook hook view) a h e = hook_stays _ hook view old.interceptors.items old.quota a new.interceptors.items h.calls new.quota e h.hooks
  stays old new (questions.Serialize input settings) a h e = ap held h.1
  stays old new (questions.Load request) a h e = ap held h.1
  stays old new (questions.Initial settings) a h e = absurd (false≢true (sym e))
  stays old new (questions.Start role nanos) a h e = ap held h.1
  stays old new (questions.Wait role) a h e = ap held h.1
  stays old new (questions.Choose settings) a h e = ap held h.others
  stays old new (questions.Endpoint settings identity) a h e = ap held h.1
  stays old new (questions.Apply settings request endpoint) a h e = ap held h.1
  stays old new (questions.Sign settings request scheme identity endpoint) a h e = ap held h.1
  stays old new (questions.Transmit settings request) a h e = ap held h.1
  stays old new (questions.Stream settings response) a h e = ap held h.1
  stays old new (questions.Body settings response) a h e = ap held h.1
  stays old new (questions.Deserialize settings response) a h e = ap held h.1
  stays old new (questions.Decide settings request response outcome attempt) a h e = absurd (false≢true (sym e))
  stays old new (questions.Abandon abandoned.Choose) a h e = ap held h.2
  stays old new (questions.Abandon _) a h e = ap held h.2
  stays old new questions.Park a h e = ap held h.2

-- ---- a bucket that is there stays there, with its costs

module _ {L : Type 0} (limiters : Limiters L) where
  kept_same : (m n : Meaning L) (bucket : ℕ) → m.has bucket ≡ true → n ≡ m → KeepsThere m n bucket
  kept_same m n bucket there e = calls_keep limiters m [] n bucket there e

  pub found_keeps : (m : Meaning L) (uses : Bool) (now : Option ℕ) (partition : Option RetryPartition) (paced : Option Paced) (n : Meaning L) (bucket : ℕ)
      → m.has bucket ≡ true → FindsLimiter limiters m uses now partition paced n → KeepsThere m n bucket
  found_keeps m true (Some now) (Some partition) (Some paced) n bucket there h = call_keeps limiters m (FoundLimiter partition now paced.limiter) n bucket there h.1
  found_keeps m false now partition None n bucket there h = kept_same m n bucket there h
  found_keeps m _ _ _ _ n bucket there h = absurd h

  pub decided_keeps : (m : Meaning L) (settings : StandingLayers) (c : InterceptorContext) (verdict : RetryAction) (now : Option ℕ) (word : ℕ) (held : Option Permit) (d : Decision) (after : Option Permit) (n : Meaning L) (bucket : ℕ)
      → m.has bucket ≡ true → Decides limiters m settings c verdict now word held d after n → KeepsThere m n bucket
  decided_keeps m settings c verdict now word held d after n bucket there h =
      let found = found_keeps m (uses_limiter h.retry now) now (standing_partition settings) h.paced h.mid bucket there h.stands.found in
      keeps_then m h.mid n bucket found (calls_keep limiters h.mid _ n bucket found.has h.comes.made)

  begun_keeps : (m : Meaning L) (settings : StandingLayers) (now : Option ℕ) (first : Initial) (n : Meaning L) (bucket : ℕ)
      → m.has bucket ≡ true → Begins limiters m settings now first n → KeepsThere m n bucket
  begun_keeps m settings now first n bucket there h =
      let found = found_keeps m (uses_limiter h.retry now) now (standing_partition settings) h.paced h.mid bucket there h.stands.found in
      keeps_then m h.mid n bucket found (calls_keep limiters h.mid _ n bucket found.has h.made)

  begins_keeps : (m : Meaning L) (settings : StandingLayers) (now : Option ℕ) (a : Answer) (n : Meaning L) (bucket : ℕ)
      → m.has bucket ≡ true → BeginsSo limiters m settings now a n → KeepsThere m n bucket
  begins_keeps m settings now answers.Absent n bucket there h = by_buckets m n bucket there h.1.buckets
  begins_keeps m settings now answers.Go n bucket there h = begun_keeps m settings now _ n bucket there h
  begins_keeps m settings now answers.No n bucket there h = begun_keeps m settings now _ n bucket there h
  begins_keeps m settings now (answers.Delay nanos) n bucket there h = begun_keeps m settings now _ n bucket there h
  begins_keeps m settings now _ n bucket there h = absurd h

module _ {T X Q C I A R Z D P L : Type 0} (means : ClientMeaning T X Q C I A R Z D P L) where
  hook_keeps : (verdict : RetryAction) (hook : Hook) (view : HookView) (old : List I) (q : Q) (a : Answer) (new : List I) (calls : List OutsideCall) (after : Q) (bucket : ℕ)
      → (means.quota.meaning q).has bucket ≡ true → Hooks means.quota means.chain verdict hook view old q a new calls after → KeepsThere (means.quota.meaning q) (means.quota.meaning after) bucket
  hook_keeps verdict hook view old q a new calls after bucket there (inl h) =
      kept_same means.quota.limiters (means.quota.meaning q) (means.quota.meaning after) bucket there (ap means.quota.meaning h.4)
  hook_keeps verdict hook view old q a new calls after bucket there (inr h) =
      calls_keep means.quota.limiters (means.quota.meaning q) _ (means.quota.meaning after) bucket there h.1.offers.found

  initial_keeps : (time_source : Bool) (settings : StandingLayers) (old : RetryStrategy P) (q : Q) (a : Answer) (new : RetryStrategy P) (calls : List OutsideCall) (after : Q) (bucket : ℕ)
      → (means.quota.meaning q).has bucket ≡ true → Begun means.quota time_source settings old q a new calls after → KeepsThere (means.quota.meaning q) (means.quota.meaning after) bucket
  initial_keeps time_source settings (Never never) q a new calls after bucket there h =
      kept_same means.quota.limiters (means.quota.meaning q) (means.quota.meaning after) bucket there (ap means.quota.meaning h.3)
  initial_keeps time_source settings (Standard standard) q a new calls after bucket there h =
      begins_keeps means.quota.limiters (means.quota.meaning q) settings h.1.now a (means.quota.meaning after) bucket there h.1.begins

  decision_keeps : (verdict : RetryAction) (now : Option ℕ) (word : ℕ) (c : InterceptorContext) (old : StandardRetryStrategy P) (q : Q) (a : Answer) (new : StandardRetryStrategy P) (after : Q) (bucket : ℕ)
      → (means.quota.meaning q).has bucket ≡ true → DecidesSo means.quota verdict now word c old q a new after → KeepsThere (means.quota.meaning q) (means.quota.meaning after) bucket
  decision_keeps verdict now word c old q answers.Absent new after bucket there h = by_buckets (means.quota.meaning q) (means.quota.meaning after) bucket there h.2.buckets
  decision_keeps verdict now word c old q (answers.Decided choice (Some note)) new after bucket there h =
      decided_keeps means.quota.limiters (means.quota.meaning q) c.view.settings c verdict now word _ h.0 _ (means.quota.meaning after) bucket there h.1
  decision_keeps verdict now word c old q _ new after bucket there h = absurd h

  decide_keeps : (verdict : RetryAction) (time_source : Bool) (c : InterceptorContext) (old : RetryStrategy P) (q : Q) (a : Answer) (new : RetryStrategy P) (calls : List OutsideCall) (after : Q) (bucket : ℕ)
      → (means.quota.meaning q).has bucket ≡ true → IsDecided means.quota verdict time_source c old q a new calls after → KeepsThere (means.quota.meaning q) (means.quota.meaning after) bucket
  decide_keeps verdict time_source c (Never never) q a new calls after bucket there h =
      kept_same means.quota.limiters (means.quota.meaning q) (means.quota.meaning after) bucket there (ap means.quota.meaning h.3)
  decide_keeps verdict time_source c (Standard standard) q a new calls after bucket there h =
      decision_keeps verdict h.2.now h.2.word c standard q a h.0 after bucket there h.2.decides

  -- whatever is asked, a bucket that is there is kept
  pub serving_keeps : (old new : Parts T X Q C I A R Z D P L) (q : Question) (a : Answer) (bucket : ℕ) → (held means old).has bucket ≡ true → Answers means old q a new
      → KeepsThere (held means old) (held means new) bucket
  serving_keeps old new (questions.Hook hook view) a bucket there h = hook_keeps _ hook view old.interceptors.items old.quota a new.interceptors.items h.calls new.quota bucket there h.hooks
  serving_keeps old new (questions.Initial settings) a bucket there h =
      initial_keeps old.given.time_source settings old.strategy old.quota a new.strategy h.calls new.quota bucket there h.begun
  serving_keeps old new (questions.Decide settings request response outcome attempt) a bucket there h =
      decide_keeps _ old.given.time_source (seen_context (decided_view settings request response outcome attempt)) old.strategy old.quota a new.strategy h.calls new.quota bucket there h.decided
  serving_keeps old new q a bucket there h = kept_same means.quota.limiters (held means old) (held means new) bucket there (stays means old new q a h refl)

  -- so are those behind a list
  pub all_keep : (old new : Parts T X Q C I A R Z D P L) (l : List Entry) (bucket : ℕ) → (held means old).has bucket ≡ true → Served means old l new → KeepsThere (held means old) (held means new) bucket
  all_keep old new [] bucket there h = kept_same means.quota.limiters (held means old) (held means new) bucket there (ap (held means) h)
  all_keep old new (e ∷ es) bucket there (mid, serves, rest) =
      let first = serving_keeps old mid e.question e.answer bucket there serves in
      keeps_then (held means old) (held means mid) (held means new) bucket first (all_keep mid new es bucket first.has rest)
