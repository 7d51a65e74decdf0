-- Decide.
use Rattle.std.specs.Prelude.{◌≡◌, ◌⊎◌, ℕ, Bool, IsSome, IsTrue, ◌↔◌, List, [], ◌∷◌, ◌++◌, Option, None, Some}
use Rattle.std.specs.Prelude.{option_map}
use Rattle.outside.specs.Calls.{OutsideCall, Word}
use Rattle.outside.specs.Clock.{clock_calls}
use Rattle.retry_policy.specs.Decision.{Decides}
use Rattle.retry_policy.specs.Standing.{lacks_setting, standing_bucket}
use Rattle.retry_policy.specs.declared.decision.Decision.{Decision}
use Rattle.retry_policy.specs.declared.standard.StandardRetryStrategy.{StandardRetryStrategy}
use Rattle.retry_quota.specs.Book.{sums_of}
use Rattle.retry_quota.specs.Meaning.{Meaning, IsKept, book_at}
use Rattle.run_grammar.specs.declared.answer.Answer.{Answer}
use Rattle.run_grammar.specs.declared.answer.Answer.TheVariants as answers
use Rattle.smithy_context.specs.declared.context.InterceptorContext.{InterceptorContext}
use Rattle.smithy_types.specs.declared.notes.Choice.{Choice}
use Rattle.smithy_types.specs.declared.notes.Choice.TheVariants.{No, NoAfter}
use Rattle.smithy_types.specs.declared.notes.RetryAction.{RetryAction}
use Rattle.smithy_types.specs.declared.sums.Sums.{Sums}
use Rattle.client_retries.specs.Meanings.{QuotaMeans}
use Rattle.client_retries.specs.Strategies.{held_by}
use Rattle.client_retries.specs.declared.strategy.RetryStrategy.{RetryStrategy}
use Rattle.client_retries.specs.declared.strategy.RetryStrategy.TheVariants.{Never, Standard}

-- a choice, or no further attempt after a pause where there is one
abbrev pub paused_for : Choice → Option ℕ → Choice
paused_for choice None = choice
paused_for choice (Some nanos) = NoAfter nanos

-- the choice, with the pause of an operation that polls for long
abbrev pub paused : Decision → Choice
paused decision = paused_for decision.choice decision.long_poll

-- the sums of the bucket in force, where they are told
abbrev pub sums_in : {L : Type 0} → Meaning L → Option ℕ → Option Sums
sums_in m None = None
sums_in m (Some bucket) = option_map sums_of (book_at m bucket)

module _ {Q P L : Type 0} (means : QuotaMeans Q P L) where
  -- what is decided on a verdict at a moment with a word; it is absent exactly where a setting is missing
  abbrev pub DecidesSo : RetryAction → Option ℕ → ℕ → InterceptorContext → StandardRetryStrategy P → Q → Answer
      → StandardRetryStrategy P → Q → Type 0
  DecidesSo verdict now word c old q answers.Absent new after =
      IsTrue (lacks_setting c.view.settings now (means.meaning q).has) × (new ≡ old)
      × IsKept (means.meaning q) (means.meaning after)
  DecidesSo verdict now word c old q (answers.Decided choice (Some note)) new after =
      (decision : Decision)
      × Decides means.limiters (means.meaning q) c.view.settings c verdict now word (held_by means old) decision
      (held_by means new) (means.meaning after)
      × (choice ≡ paused decision)
      × (note ≡ record {
        verdict = verdict;
        moment = now;
        word = word;
        reason = decision.reason;
        sums = sums_in (means.meaning after) (standing_bucket c.view.settings);
      })
  DecidesSo verdict now word c old q _ new after = ⊥

  -- the clock is asked where there is a time source, a word is drawn, and then the strategy decides
  pub record StandardDecides (verdict : RetryAction) (time_source : Bool) (c : InterceptorContext)
      (old : StandardRetryStrategy P) (q : Q) (a : Answer) (new : StandardRetryStrategy P) (calls : List OutsideCall)
      (after : Q) : Type 0 where
    pub now : Option ℕ
    pub word : ℕ
    pub known : IsSome now ↔ IsTrue time_source
    pub calls_are : calls ≡ clock_calls now ++ Word word ∷ []
    pub decides : DecidesSo verdict now word c old q a new after

  -- a strategy that never retries says so without a note, and asks nothing
  abbrev pub IsDecided : RetryAction → Bool → InterceptorContext → RetryStrategy P → Q → Answer → RetryStrategy P
      → List OutsideCall → Q → Type 0
  IsDecided verdict time_source c (Never never) q a new calls after =
      (a ≡ answers.Decided No None) × (new ≡ Never never) × (calls ≡ []) × (after ≡ q)
  IsDecided verdict time_source c (Standard standard) q a new calls after =
      (kept : StandardRetryStrategy P) × (new ≡ Standard kept)
      × StandardDecides verdict time_source c standard q a kept calls after

  -- where memory is wanting, nothing was decided, or the note of what was decided is lost
  abbrev pub StopsDeciding : RetryAction → InterceptorContext → StandardRetryStrategy P → Q → StandardRetryStrategy P
      → Q → Type 0
  StopsDeciding verdict c old q new after =
      ((new ≡ old) × IsKept (means.meaning q) (means.meaning after))
      ⊎ ((now : Option ℕ) × (word : ℕ) × (decision : Decision)
      × Decides means.limiters (means.meaning q) c.view.settings c verdict now word (held_by means old) decision
      (held_by means new) (means.meaning after))

  -- a strategy that never retries wants none
  abbrev pub DecisionStops : RetryAction → InterceptorContext → RetryStrategy P → Q → RetryStrategy P → Q → Type 0
  DecisionStops verdict c (Never never) q new after = ⊥
  DecisionStops verdict c (Standard standard) q new after =
      (kept : StandardRetryStrategy P) × (new ≡ Standard kept) × StopsDeciding verdict c standard q kept after
