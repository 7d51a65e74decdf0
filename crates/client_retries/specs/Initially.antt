-- Initial.
use Rattle.std.specs.Prelude.{◌≡◌, ℕ, Bool, IsSome, IsTrue, ◌↔◌, List, [], Option}
use Rattle.outside.specs.Calls.{OutsideCall}
use Rattle.outside.specs.Clock.{clock_calls}
use Rattle.retry_policy.specs.Decision.{Begins}
use Rattle.retry_policy.specs.Standing.{lacks_setting}
use Rattle.retry_policy.specs.declared.decision.Initial.{Initial}
use Rattle.retry_policy.specs.declared.decision.Initial.TheVariants as initial
use Rattle.retry_quota.specs.Calls.{Limiters}
use Rattle.retry_quota.specs.Meaning.{Meaning, IsKept}
use Rattle.run_grammar.specs.declared.answer.Answer.{Answer}
use Rattle.run_grammar.specs.declared.answer.Answer.TheVariants as answers
use Rattle.smithy_context.specs.StandingLayers.{StandingLayers}
use Rattle.client_retries.specs.Meanings.{QuotaMeans}
use Rattle.client_retries.specs.declared.strategy.RetryStrategy.{RetryStrategy}
use Rattle.client_retries.specs.declared.strategy.RetryStrategy.TheVariants.{Never, Standard}

-- whether the attempt is made, as it is answered
abbrev pub answer_of : Initial → Answer
answer_of initial.Go = answers.Go
answer_of initial.No = answers.No
answer_of (initial.Delay nanos) = answers.Delay nanos

-- what the strategy says at a moment; it is absent exactly where a setting is missing
abbrev pub BeginsSo : {L : Type 0} → Limiters L → Meaning L → StandingLayers → Option ℕ → Answer → Meaning L → Type 0
BeginsSo means m settings now answers.Absent n = IsTrue (lacks_setting settings now m.has) × IsKept m n
BeginsSo means m settings now answers.Go n = Begins means m settings now initial.Go n
BeginsSo means m settings now answers.No n = Begins means m settings now initial.No n
BeginsSo means m settings now (answers.Delay nanos) n = Begins means m settings now (initial.Delay nanos) n
BeginsSo means m settings now _ n = ⊥

-- the clock is asked where there is a time source, and then the strategy
pub record AsksStrategy {Q P L : Type 0} (means : QuotaMeans Q P L) (time_source : Bool) (settings : StandingLayers)
    (q : Q) (a : Answer) (calls : List OutsideCall) (after : Q) : Type 0 where
  pub now : Option ℕ
  pub known : IsSome now ↔ IsTrue time_source
  pub calls_are : calls ≡ clock_calls now
  pub begins : BeginsSo means.limiters (means.meaning q) settings now a (means.meaning after)

-- a strategy that never retries begins at once; none is changed by this
abbrev pub Begun : {Q P L : Type 0} → QuotaMeans Q P L → Bool → StandingLayers → RetryStrategy P → Q → Answer
    → RetryStrategy P → List OutsideCall → Q → Type 0
Begun means time_source settings (Never never) q a new calls after =
    (a ≡ answers.Go) × (new ≡ Never never) × (calls ≡ []) × (after ≡ q)
Begun means time_source settings (Standard standard) q a new calls after =
    (new ≡ Standard standard) × AsksStrategy means time_source settings q a calls after
