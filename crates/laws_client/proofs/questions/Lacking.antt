-- The retry strategy answers Absent exactly where it lacks a setting.
use Rattle.std.proofs.Common.{◌≡◌, ◌∙◌, refl, sym, ap, subst, ℕ, Bool, true, false, not, ◌&&◌, ◌||◌, List, Option, None, Some, is_some}
use Rattle.std.specs.Prelude.{◌↔◌, is_none, IsSome, IsTrue}
use Rattle.outside.specs.Calls.{OutsideCall}
use Rattle.client_retries.specs.Deciding.{DecidesSo, IsDecided}
use Rattle.client_retries.specs.Initially.{Begun, BeginsSo}
use Rattle.client_retries.specs.Meanings.{QuotaMeans}
use Rattle.client_retries.specs.declared.strategy.RetryStrategy.{RetryStrategy}
use Rattle.client_retries.specs.declared.strategy.RetryStrategy.TheVariants.{Never, Standard}
use Rattle.retry_policy.specs.Decision.{FindsLimiter, Stands}
use Rattle.retry_policy.specs.Standing.{is_adaptive, lacks_bucket, lacks_for, lacks_partition, lacks_setting, standing_bucket, standing_partition, standing_retry, uses_limiter}
use Rattle.retry_policy.specs.declared.standard.StandardRetryStrategy.{StandardRetryStrategy}
use Rattle.retry_policy.specs.declared.standing.Paced.{Paced}
use Rattle.retry_quota.specs.Calls.{Limiters}
use Rattle.retry_quota.specs.Meaning.{Meaning}
use Rattle.run_grammar.specs.declared.answer.Answer.{Answer}
use Rattle.run_grammar.specs.declared.answer.Answer.TheVariants as answers
use Rattle.smithy_context.specs.StandingLayers.{StandingLayers}
use Rattle.smithy_context.specs.declared.context.InterceptorContext.{InterceptorContext}
use Rattle.smithy_types.specs.declared.config.RetryConfig.{RetryConfig}
use Rattle.smithy_types.specs.declared.partition.RetryPartition.{RetryPartition}
use Rattle.smithy_types.specs.declared.notes.RetryAction.{RetryAction}
use Rattle.laws_client.specs.Questions.Answering.{LacksSetting, StrategyLacks}

-- ---- what is lacking doesn't depend on the moment, but on whether it is known

same_truth : (a b c : Bool) → (a ≡ true) ↔ (c ≡ true) → (b ≡ true) ↔ (c ≡ true) → a ≡ b
same_truth true true c h g = refl
same_truth false false c h g = refl
same_truth true false c h g = sym (g.1 (h.0 refl))
same_truth false true c h g = h.1 (g.0 refl)

same_lack : (has : ℕ → Bool) (now later : Option ℕ) (bucket : Option ℕ) (partition : Option RetryPartition) (r : Option RetryConfig) → is_some now ≡ is_some later → lacks_for has now bucket partition r ≡ lacks_for has later bucket partition r
same_lack has now later bucket partition None e = refl
same_lack has now later bucket partition (Some retry) e = ap (λ t. lacks_bucket has bucket || ((is_adaptive retry.mode && t) && is_none partition)) e

lacking_now : (time_source : Bool) (has : ℕ → Bool) (settings : StandingLayers) (now : Option ℕ) → IsSome now ↔ IsTrue time_source → LacksSetting time_source has settings → lacks_setting settings now has ≡ true
lacking_now time_source has settings now known h =
    same_lack has now h.now (standing_bucket settings) (standing_partition settings) (standing_retry settings) (same_truth (is_some now) (is_some h.now) time_source known h.known) ∙ h.lacking

-- ---- where the strategy goes by its settings none is lacking

found_partition : {L : Type 0} (means : Limiters L) (m : Meaning L) (uses : Bool) (now : Option ℕ) (partition : Option RetryPartition) (paced : Option Paced) (n : Meaning L) → FindsLimiter means m uses now partition paced n
    → (uses && is_none partition) ≡ false
found_partition means m true (Some now) (Some partition) (Some paced) n h = refl
found_partition means m false now partition None n h = refl
found_partition means m _ _ _ _ n h = absurd h

nothing_lacks : {L : Type 0} (means : Limiters L) (m : Meaning L) (settings : StandingLayers) (now : Option ℕ) (retry : RetryConfig) (bucket : ℕ) (paced : Option Paced) (n : Meaning L) → Stands means m settings now retry bucket paced n
    → lacks_setting settings now m.has ≡ false
nothing_lacks means m settings now retry bucket paced n h =
    let partition = standing_partition settings in
    ap (λ r. lacks_for m.has now (standing_bucket settings) partition r) h.retry_stands
    ∙ (ap (λ b. lacks_for m.has now b partition (Some retry)) h.bucket_stands
    ∙ (ap (λ t. not t || lacks_partition retry now partition) h.there
    ∙ found_partition means m (uses_limiter retry now) now partition paced n h.found))

begun_so : {L : Type 0} (means : Limiters L) (m : Meaning L) (settings : StandingLayers) (now : Option ℕ) (a : Answer) (n : Meaning L) → BeginsSo means m settings now a n → lacks_setting settings now m.has ≡ true → a ≡ answers.Absent
begun_so means m settings now answers.Absent n h l = refl
begun_so means m settings now answers.Go n h l = absurd (let clash = sym l ∙ nothing_lacks means m settings now h.retry h.bucket h.paced h.mid h.stands in cc clash)
begun_so means m settings now answers.No n h l = absurd (let clash = sym l ∙ nothing_lacks means m settings now h.retry h.bucket h.paced h.mid h.stands in cc clash)
begun_so means m settings now (answers.Delay nanos) n h l = absurd (let clash = sym l ∙ nothing_lacks means m settings now h.retry h.bucket h.paced h.mid h.stands in cc clash)
begun_so means m settings now _ n h l = absurd h

module _ {Q P L : Type 0} (means : QuotaMeans Q P L) where
  decided_so : (verdict : RetryAction) (now : Option ℕ) (word : ℕ) (c : InterceptorContext) (old : StandardRetryStrategy P) (q : Q) (a : Answer) (new : StandardRetryStrategy P) (after : Q)
      → DecidesSo means verdict now word c old q a new after → lacks_setting c.view.settings now (means.meaning q).has ≡ true → a ≡ answers.Absent
  decided_so verdict now word c old q answers.Absent new after h l = refl
  decided_so verdict now word c old q (answers.Decided choice None) new after h l = absurd h
  decided_so verdict now word c old q (answers.Decided choice (Some note)) new after h l =
      let d = h.1 in
      absurd (let clash = sym l ∙ nothing_lacks means.limiters (means.meaning q) c.view.settings now d.retry d.bucket d.paced d.mid d.stands in cc clash)
  decided_so verdict now word c old q _ new after h l = absurd h

  pub begun_exactly : (time_source : Bool) (settings : StandingLayers) (old : RetryStrategy P) (q : Q) (a : Answer) (new : RetryStrategy P) (calls : List OutsideCall) (after : Q)
      → Begun means time_source settings old q a new calls after → (a ≡ answers.Absent) ↔ StrategyLacks old time_source (means.meaning q).has settings
  begun_exactly time_source settings (Never never) q a new calls after h = (λ e. let clash = sym e ∙ h.0 in cc clash, λ l. absurd l)
  begun_exactly time_source settings (Standard standard) q a new calls after h =
      let asks = h.1 in (
        λ e. record {
          now = asks.now;
          known = asks.known;
          lacking = (subst (λ b. BeginsSo means.limiters (means.meaning q) settings asks.now b (means.meaning after)) e asks.begins).0;
        },
        λ l. begun_so means.limiters (means.meaning q) settings asks.now a (means.meaning after) asks.begins (lacking_now time_source (means.meaning q).has settings asks.now asks.known l),
      )

  pub decided_exactly : (verdict : RetryAction) (time_source : Bool) (c : InterceptorContext) (old : RetryStrategy P) (q : Q) (a : Answer) (new : RetryStrategy P) (calls : List OutsideCall) (after : Q)
      → IsDecided means verdict time_source c old q a new calls after → (a ≡ answers.Absent) ↔ StrategyLacks old time_source (means.meaning q).has c.view.settings
  decided_exactly verdict time_source c (Never never) q a new calls after h = (λ e. let clash = sym e ∙ h.0 in cc clash, λ l. absurd l)
  decided_exactly verdict time_source c (Standard standard) q a new calls after h =
      let decides = h.2 in (
        λ e. record {
          now = decides.now;
          known = decides.known;
          lacking = (subst (λ b. DecidesSo means verdict decides.now decides.word c standard q b h.0 after) e decides.decides).0;
        },
        λ l. decided_so verdict decides.now decides.word c standard q a h.0 after decides.decides (lacking_now time_source (means.meaning q).has c.view.settings decides.now decides.known l),
      )
