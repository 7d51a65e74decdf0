-- Served lists pay for their further attempts.
use Rattle.std.proofs.Common.{◌≡◌, ◌<◌, ◌∙◌, ap, refl, sym, subst, ℕ, Bool, true, false, if◌then◌else◌, List, [], ◌∷◌, Option, Some, None, arith}
use Rattle.std.specs.Prelude.{Result, nat_le}
use Rattle.std.specs.List.{AllByRecursion}
use Rattle.std.proofs.lemmas.Bool.Decides.{nat_tests}
use Rattle.outside.specs.Calls.{OutsideCall}
use Rattle.smithy_context.specs.Failures.{is_failure}
use Rattle.smithy_context.specs.StandingLayers.{StandingLayers}
use Rattle.smithy_context.specs.declared.context.InterceptorContext.{InterceptorContext}
use Rattle.smithy_types.specs.declared.kinds.ErrorKind.{ErrorKind}
use Rattle.smithy_types.specs.declared.notes.Choice.{Choice}
use Rattle.smithy_types.specs.declared.notes.Choice.TheVariants.{Yes, No, NoAfter, Delay}
use Rattle.smithy_types.specs.declared.notes.DecideNote.{DecideNote}
use Rattle.smithy_types.specs.declared.notes.Reason.{Reason}
use Rattle.smithy_types.specs.declared.notes.Reason.TheVariants.{OutOfAttempts, Granted}
use Rattle.smithy_types.specs.declared.notes.RetryAction.{RetryAction}
use Rattle.smithy_types.specs.declared.notes.RetryAction.TheVariants.{NoActionIndicated, RetryIndicated, RetryForbidden}
use Rattle.retry_quota.specs.declared.permit.Permit.{Permit}
use Rattle.retry_policy.specs.Decision.{Case, case_of, cost_for, refusing, retrying, deciding, held_on}
use Rattle.retry_policy.specs.Standing.{standing_bucket, standing_partition, standing_retry, uses_limiter}
use Rattle.retry_policy.specs.declared.standard.StandardRetryStrategy.{StandardRetryStrategy}
use Rattle.retry_quota.proofs.CallLemmas.{calls_keep}
use Rattle.retry_quota.specs.Calls.{KeepsThere}
use Rattle.retry_quota.specs.Meaning.{Meaning}
use Rattle.client_retries.specs.Deciding.{DecidesSo, IsDecided, paused_for}
use Rattle.client_retries.specs.Hooking.{seen_context}
use Rattle.client_retries.specs.Strategies.{held_by}
use Rattle.client_retries.specs.declared.strategy.RetryStrategy.{RetryStrategy}
use Rattle.client_retries.specs.declared.strategy.RetryStrategy.TheVariants.{Never, Standard}
use Rattle.run_grammar.specs.declared.answer.Answer.{Answer}
use Rattle.run_grammar.specs.declared.answer.Answer.TheVariants as answers
use Rattle.run_grammar.specs.declared.answer.Entry.{Entry}
use Rattle.run_grammar.specs.declared.question.Question.{Question}
use Rattle.run_grammar.specs.declared.question.Question.TheVariants as questions
use Rattle.client_components.specs.Retrying.{decided_view}
use Rattle.client_components.proofs.QuotaLemmas.{all_keep, found_keeps, held}
use Rattle.client_components.specs.Paying.{AnswerPays, IsPaid, Pays, PaysFor, Prices, prices_of}
use Rattle.client_components.specs.Meaning.{ClientMeaning}
use Rattle.client_components.specs.Serving.{Answers, Served}
use Rattle.client_components.specs.declared.parts.Parts.{Parts}

-- what is decided for a further attempt has its reason
GoesOnPaid : Case → Choice → Reason → Type 0
GoesOnPaid c No reason = Unit {0}
GoesOnPaid c (Delay wait) reason =
    (c.attempt < c.retry.max_attempts) × (kind : ErrorKind) × (retry_after : Option ℕ) × (c.verdict ≡ RetryIndicated kind retry_after) × (reason ≡ Granted c.cost)
GoesOnPaid c Yes reason = ⊥
GoesOnPaid c (NoAfter nanos) reason = ⊥

deciding_pays : (c : Case) (verdict : RetryAction) (held : Option Permit) (reply : Result (Unit {0}) ℕ) (grant : Option ℕ) → c.verdict ≡ verdict
    → GoesOnPaid c (deciding c verdict held reply grant).choice (deciding c verdict held reply grant).reason
unfolding GoesOnPaid
deciding_pays c NoActionIndicated held reply grant is = tt
deciding_pays c RetryForbidden held reply grant is = tt
deciding_pays c (RetryIndicated kind retry_after) held reply grant is = by_test (nat_le c.retry.max_attempts c.attempt) refl grant
  where
    by_test : (t : Bool) → nat_le c.retry.max_attempts c.attempt ≡ t → (grant : Option ℕ)
        → GoesOnPaid c (if t then refusing OutOfAttempts held else retrying c kind retry_after held reply grant).choice
        (if t then refusing OutOfAttempts held else retrying c kind retry_after held reply grant).reason
    by_test true e grant = tt
    by_test false e None = tt
    by_test false e (Some amount) = (grind (arith, nat_tests), kind, retry_after, is, refl)

same_pays : (c : Case) (x y : Choice) (r s : Reason) → x ≡ y → r ≡ s → GoesOnPaid c x r → GoesOnPaid c y s
same_pays c x y r s e f h = subst (λ t. GoesOnPaid c y t) f (subst (λ d. GoesOnPaid c d r) e h)

-- the case charges what the bucket in force does
record IsCharged (prices : Prices) (settings : StandingLayers) (c : Case) : Type 0 where
  retry : standing_retry settings ≡ Some c.retry
  bucket : standing_bucket settings ≡ Some c.bucket
  there : prices.has c.bucket ≡ true
  cost : c.cost ≡ cost_for (prices.cost c.bucket) c.verdict

paid_choice : (prices : Prices) (settings : StandingLayers) (c : Case) (d : Choice) (pause : Option ℕ) (reason : Reason) (choice : Choice) (note : DecideNote)
    → IsCharged prices settings c → GoesOnPaid c d reason → choice ≡ paused_for d pause → note.reason ≡ reason → note.verdict ≡ c.verdict → PaysFor prices settings c.attempt choice (Some note)
unfolding GoesOnPaid
paid_choice prices settings c No None reason choice note charged paid is because on = rw is tt
paid_choice prices settings c (Delay wait) None reason choice note charged paid is because on =
    let (fewer, kind, retry_after, verdict, granted) = paid in
    rw is (record {
      retry = c.retry;
      stands = charged.retry;
      fewer = fewer;
      bucket = c.bucket;
      bucket_stands = charged.bucket;
      there = charged.there;
      kind = kind;
      retry_after = retry_after;
      verdict = on ∙ verdict;
      granted = because ∙ granted ∙ ap Granted (charged.cost ∙ ap (cost_for (prices.cost c.bucket)) verdict);
    })
paid_choice prices settings c Yes None reason choice note charged paid is because on = absurd paid
paid_choice prices settings c (NoAfter nanos) None reason choice note charged paid is because on = absurd paid
paid_choice prices settings c d (Some pause) reason choice note charged paid is because on = rw is tt

choice_in : Answer → Choice
choice_in (answers.Decided choice noted) = choice
choice_in _ = No

never_pays : (prices : Prices) (settings : StandingLayers) (attempt : ℕ) (choice : Choice) (note : Option DecideNote) → choice ≡ No → PaysFor prices settings attempt choice note
never_pays prices settings attempt choice noted e = rw e tt

module _ {T X Q C I A R Z D P L : Type 0} (means : ClientMeaning T X Q C I A R Z D P L) where
  abbrev prices_at : Q → Prices
  prices_at q = prices_of (means.quota.meaning q)

  -- the costs are those of the quota behind the decision
  strategy_pays : (verdict : RetryAction) (now : Option ℕ) (word : ℕ) (c : InterceptorContext) (old : StandardRetryStrategy P) (q : Q) (choice : Choice) (note : DecideNote) (new : StandardRetryStrategy P) (after : Q)
      → DecidesSo means.quota verdict now word c old q (answers.Decided choice (Some note)) new after → PaysFor (prices_at after) c.view.settings c.view.attempt choice (Some note)
  strategy_pays verdict now word c old q choice note new after (decision, decides, choice_is, note_is) =
      let case : Case = case_of decides.retry decides.bucket (is_failure c.view.outcome) c.view.attempt verdict now word decides.paced decides.mid in
      let held = held_by means.quota old in
      let found = found_keeps means.quota.limiters (means.quota.meaning q) (uses_limiter decides.retry now) now (standing_partition c.view.settings) decides.paced decides.mid decides.bucket
      decides.stands.there decides.stands.found in
      let kept = calls_keep means.quota.limiters decides.mid _ (means.quota.meaning after) decides.bucket found.has decides.comes.made in
      let told = deciding_pays case verdict (held_on case.failed held) decides.comes.reply decides.comes.grant refl in
      let paid = same_pays case _ decision.choice _ decision.reason (sym decides.comes.choice) (sym decides.comes.reason) told in
      paid_choice (prices_at after) c.view.settings case decision.choice decision.long_poll decision.reason choice note
      (record {
        retry = decides.stands.retry_stands;
        bucket = decides.stands.bucket_stands;
        there = kept.has;
        cost = costs_alike verdict (λ kind. sym (kept.cost kind));
      })
      paid choice_is (ap (λ (n : DecideNote). n.reason) note_is) (ap (λ (n : DecideNote). n.verdict) note_is)
    where
      costs_alike : {f g : ErrorKind → ℕ} (v : RetryAction) → ((kind : ErrorKind) → f kind ≡ g kind) → cost_for f v ≡ cost_for g v
      costs_alike (RetryIndicated kind retry_after) same = same kind
      costs_alike NoActionIndicated same = refl
      costs_alike RetryForbidden same = refl

  decided_pays : (verdict : RetryAction) (time_source : Bool) (c : InterceptorContext) (old : RetryStrategy P) (q : Q) (choice : Choice) (note : Option DecideNote) (new : RetryStrategy P) (calls : List OutsideCall) (after : Q)
      → IsDecided means.quota verdict time_source c old q (answers.Decided choice note) new calls after → PaysFor (prices_at after) c.view.settings c.view.attempt choice note
  unfolding choice_in
  decided_pays verdict time_source c (Never never) q choice noted new calls after h = never_pays (prices_at after) c.view.settings c.view.attempt choice noted (ap choice_in h.0)
  decided_pays verdict time_source c (Standard standard) q choice None new calls after h = absurd h.2.decides
  decided_pays verdict time_source c (Standard standard) q choice (Some note) new calls after h =
      strategy_pays verdict h.2.now h.2.word c standard q choice note h.0 after h.2.decides

  answer_pays : (verdict : RetryAction) (time_source : Bool) (c : InterceptorContext) (old : RetryStrategy P) (q : Q) (a : Answer) (new : RetryStrategy P) (calls : List OutsideCall) (after : Q)
      → IsDecided means.quota verdict time_source c old q a new calls after → AnswerPays (prices_at after) c.view.settings c.view.attempt a
  answer_pays verdict time_source c old q (answers.Decided choice noted) new calls after h = decided_pays verdict time_source c old q choice noted new calls after h
  answer_pays verdict time_source c old q _ new calls after h = tt

  pays : (old new : Parts T X Q C I A R Z D P L) (q : Question) (a : Answer) → Answers means old q a new → Pays (prices_at new.quota) q a
  pays old new (questions.Decide settings request response outcome attempt) a h =
      answer_pays _ old.given.time_source (seen_context (decided_view settings request response outcome attempt)) old.strategy old.quota a new.strategy h.calls new.quota h.decided
  pays old new _ a h = tt

-- ---- what was paid at some prices was paid at those of a quota that has the bucket still

-- each bucket that is there stays, with its costs
abbrev AreKept : Prices → Prices → Type 0
AreKept before after = (bucket : ℕ) → before.has bucket ≡ true → (after.has bucket ≡ true) × ((kind : ErrorKind) → after.cost bucket kind ≡ before.cost bucket kind)

note_later : (before after : Prices) (settings : StandingLayers) (attempt : ℕ) (note : DecideNote) → AreKept before after → IsPaid before settings attempt note → IsPaid after settings attempt note
note_later before after settings attempt note kept h =
    let (there, costs) = kept h.bucket h.there in
    record {
      retry = h.retry;
      stands = h.stands;
      fewer = h.fewer;
      bucket = h.bucket;
      bucket_stands = h.bucket_stands;
      there = there;
      kind = h.kind;
      retry_after = h.retry_after;
      verdict = h.verdict;
      granted = h.granted ∙ ap Granted (sym (costs h.kind));
    }

choice_later : (before after : Prices) (settings : StandingLayers) (attempt : ℕ) (choice : Choice) (noted : Option DecideNote) → AreKept before after → PaysFor before settings attempt choice noted → PaysFor after settings attempt choice noted
choice_later before after settings attempt No noted kept h = tt
choice_later before after settings attempt (NoAfter nanos) noted kept h = tt
choice_later before after settings attempt Yes noted kept h = h
choice_later before after settings attempt (Delay nanos) None kept h = h
choice_later before after settings attempt (Delay nanos) (Some note) kept h = note_later before after settings attempt note kept h

answer_later : (before after : Prices) (settings : StandingLayers) (attempt : ℕ) (a : Answer) → AreKept before after → AnswerPays before settings attempt a → AnswerPays after settings attempt a
answer_later before after settings attempt (answers.Decided choice noted) kept h = choice_later before after settings attempt choice noted kept h
answer_later before after settings attempt _ kept h = tt

pays_later : (before after : Prices) (q : Question) (a : Answer) → AreKept before after → Pays before q a → Pays after q a
pays_later before after (questions.Decide settings request response outcome attempt) a kept h = answer_later before after settings attempt a kept h
pays_later before after _ a kept h = tt

pub all_later : (before after : Prices) (l : List Entry) → AreKept before after → AllByRecursion (λ e. Pays before e.question e.answer) l → AllByRecursion (λ e. Pays after e.question e.answer) l
all_later before after [] kept h = tt
all_later before after (e ∷ es) kept h = (pays_later before after e.question e.answer kept h.0, all_later before after es kept h.1)

-- what the quota's steps keep
pub kept_prices : {L : Type 0} (m n : Meaning L) → ((bucket : ℕ) → m.has bucket ≡ true → KeepsThere m n bucket) → AreKept (prices_of m) (prices_of n)
kept_prices m n keeps = λ bucket there. let k = keeps bucket there in (k.has, k.cost)

module _ {T X Q C I A R Z D P L : Type 0} (means : ClientMeaning T X Q C I A R Z D P L) where
  pub all_paid : (old new : Parts T X Q C I A R Z D P L) (l : List Entry) → Served means old l new → AllByRecursion (λ e. Pays (prices_of (held means new)) e.question e.answer) l
  all_paid old new [] h = tt
  all_paid old new (e ∷ es) (mid, serves, rest) = (
    pays_later (prices_of (held means mid)) (prices_of (held means new)) e.question e.answer
        (kept_prices (held means mid) (held means new) (λ bucket there. all_keep means mid new es bucket there rest))
        (pays means old mid e.question e.answer serves),
    all_paid mid new es rest,
  )
