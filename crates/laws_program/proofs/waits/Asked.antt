-- What a poll of a script means for its waiter, whatever the parts of its answer that no script tells.
use Rattle.std.proofs.Common.{◌≡◌, ◌⊎◌, ◌<◌, ◌-◌, ℕ, Bool, true, List, Option, None, Some, Result, Ok, Err, refl, sym, ap, ◌∙◌}
use Rattle.smithy_types.specs.declared.acceptor.AcceptorState.{AcceptorState}
use Rattle.smithy_types.specs.declared.acceptor.AcceptorState.TheVariants.{NoAcceptorsMatched, Success, Failure, Retry}
use Rattle.smithy_types.specs.declared.fault.SdkError.{SdkError}
use Rattle.smithy_types.specs.declared.fault.SdkError.TheVariants.{ConstructionFailure, TimeoutError, DispatchFailure, ResponseError, ServiceError}
use Rattle.waiters.specs.declared.backoff.Backoff.{Backoff}
use Rattle.waiters.specs.declared.outcome.WaiterError.TheVariants as end
use Rattle.waiters.specs.Walk.{Accepts, End, EndsAt, Poll, Shows, Turn, Verdict, fails, goes_on, is_failure, number_after, succeeds, verdict, zero_used}
use Rattle.cli_wait.specs.declared.ending.WaitEnding.{WaitEnding}
use Rattle.cli_wait.specs.declared.ending.WaitEnding.TheVariants as endings
use Rattle.cli_wait.specs.declared.polls.PolledValue.{PolledValue}
use Rattle.cli_wait.specs.declared.polls.PollResult.{PollResult}
use Rattle.cli_wait.specs.declared.polls.PollResult.TheVariants.{Output, Service, Timeout}
use Rattle.cli_wait.specs.declared.polls.ScriptedPoll.{ScriptedPoll}
use Rattle.cli_wait.specs.Endings.{ending_of, final_ending}
use Rattle.cli_wait.specs.Polls.{Answers, IsAnswer}
use Rattle.cli_wait.specs.Walk.{Says}

abbrev pub verdict_by : PollResult → AcceptorState → Verdict
verdict_by Timeout state = fails
verdict_by (Output payload) Success = succeeds
verdict_by (Output payload) Failure = is_failure
verdict_by (Output payload) Retry = goes_on
verdict_by (Output payload) NoAcceptorsMatched = goes_on
verdict_by (Service payload) Success = succeeds
verdict_by (Service payload) Failure = is_failure
verdict_by (Service payload) Retry = goes_on
verdict_by (Service payload) NoAcceptorsMatched = fails

-- what a poll means, by what the script says of it
abbrev pub verdict_of : Option ScriptedPoll → Verdict
verdict_of None = fails
verdict_of (Some poll) = verdict_by poll.result poll.state

-- what a waiter that found this ends with
abbrev pub found_by : PollResult → WaitEnding
found_by (Output payload) = endings.Output payload
found_by (Service payload) = endings.Service payload
found_by Timeout = endings.Unfinished

abbrev pub found_of : Option ScriptedPoll → WaitEnding
found_of None = endings.Unfinished
found_of (Some poll) = found_by poll.result

-- how a poll ends its waiter, if it does
abbrev pub ended_by : Verdict → WaitEnding → WaitEnding → WaitEnding
ended_by succeeds found late = found
ended_by fails found late = endings.OperationFailed
ended_by is_failure found late = endings.FailureState
ended_by goes_on found late = late

output_verdict : (payload : _) (output : PolledValue) (state : AcceptorState) → verdict {E = PolledValue} (Ok output) state ≡ verdict_by (Output payload) state
output_verdict payload output Success = refl
output_verdict payload output Failure = refl
output_verdict payload output Retry = refl
output_verdict payload output NoAcceptorsMatched = refl

service_verdict : (payload response : _) (error : PolledValue) (state : AcceptorState) → verdict {O = PolledValue} (Err (ServiceError error response)) state ≡ verdict_by (Service payload) state
service_verdict payload response error Success = refl
service_verdict payload response error Failure = refl
service_verdict payload response error Retry = refl
service_verdict payload response error NoAcceptorsMatched = refl

answer_verdict : (result : PollResult) (own : AcceptorState) (answer : Result PolledValue (SdkError PolledValue)) (state : AcceptorState) →
    IsAnswer result own answer → Accepts Says answer state → verdict answer state ≡ verdict_by result own
answer_verdict (Output payload) own (Ok output) state is (seen, shows, says) =
    output_verdict payload output state ∙ ap (verdict_by (Output payload)) (says ∙ ap (λ (v : PolledValue). v.state) shows ∙ ap (λ (v : PolledValue). v.state) is)
answer_verdict (Output payload) own (Err error) state is accepts = absurd is
answer_verdict (Service payload) own (Ok output) state is accepts = absurd is
answer_verdict (Service payload) own (Err (ServiceError error response)) state is (seen, shows, says) =
    service_verdict payload response error state ∙ ap (verdict_by (Service payload)) (says ∙ ap (λ (v : PolledValue). v.state) shows ∙ ap (λ (v : PolledValue). v.state) is)
answer_verdict (Service payload) own (Err (ConstructionFailure fault)) state is accepts = absurd is
answer_verdict (Service payload) own (Err (TimeoutError fault)) state is accepts = absurd is
answer_verdict (Service payload) own (Err (DispatchFailure fault)) state is accepts = absurd is
answer_verdict (Service payload) own (Err (ResponseError fault response)) state is accepts = absurd is
answer_verdict Timeout own (Ok output) state is accepts = absurd is
answer_verdict Timeout own (Err (TimeoutError fault)) state is accepts = refl
answer_verdict Timeout own (Err (ConstructionFailure fault)) state is accepts = absurd is
answer_verdict Timeout own (Err (DispatchFailure fault)) state is accepts = absurd is
answer_verdict Timeout own (Err (ResponseError fault response)) state is accepts = absurd is
answer_verdict Timeout own (Err (ServiceError error response)) state is accepts = absurd is

pub told_verdict : (found : Option ScriptedPoll) (answer : Result PolledValue (SdkError PolledValue)) (state : AcceptorState) →
    Answers found answer → Accepts Says answer state → verdict answer state ≡ verdict_of found
told_verdict None answer state is accepts = answer_verdict Timeout NoAcceptorsMatched answer state is accepts
told_verdict (Some poll) answer state is accepts = answer_verdict poll.result poll.state answer state is accepts

answer_found : (result : PollResult) (own : AcceptorState) (answer : Result PolledValue (SdkError PolledValue)) (final : Result PolledValue PolledValue) →
    IsAnswer result own answer → Shows final answer → final_ending final ≡ found_by result
answer_found (Output payload) own (Ok answered) (Ok output) is shows = ap (λ (v : PolledValue). endings.Output v.payload) (shows ∙ is)
answer_found (Output payload) own (Ok answered) (Err error) is shows = absurd shows
answer_found (Output payload) own (Err error) final is shows = absurd is
answer_found (Service payload) own (Ok answered) final is shows = absurd is
answer_found (Service payload) own (Err (ServiceError answered response)) (Ok output) is shows = absurd shows
answer_found (Service payload) own (Err (ServiceError answered response)) (Err error) is shows = ap (λ (v : PolledValue). endings.Service v.payload) (shows ∙ is)
answer_found (Service payload) own (Err (ConstructionFailure fault)) final is shows = absurd is
answer_found (Service payload) own (Err (TimeoutError fault)) final is shows = absurd is
answer_found (Service payload) own (Err (DispatchFailure fault)) final is shows = absurd is
answer_found (Service payload) own (Err (ResponseError fault response)) final is shows = absurd is
answer_found Timeout own (Ok answered) final is shows = absurd is
answer_found Timeout own (Err (TimeoutError fault)) (Ok output) is shows = absurd shows
answer_found Timeout own (Err (TimeoutError fault)) (Err error) is shows = absurd shows
answer_found Timeout own (Err (ConstructionFailure fault)) final is shows = absurd is
answer_found Timeout own (Err (DispatchFailure fault)) final is shows = absurd is
answer_found Timeout own (Err (ResponseError fault response)) final is shows = absurd is
answer_found Timeout own (Err (ServiceError answered response)) final is shows = absurd is

told_found : (found : Option ScriptedPoll) (answer : Result PolledValue (SdkError PolledValue)) (final : Result PolledValue PolledValue) →
    Answers found answer → Shows final answer → final_ending final ≡ found_of found
told_found None answer final is shows = answer_found Timeout NoAcceptorsMatched answer final is shows
told_found (Some poll) answer final is shows = answer_found poll.result poll.state answer final is shows

same_some : {A : Type 0} (a b : A) → Some a ≡ Some b → a ≡ b
same_some a b is = cc

-- a poll ends its waiter so, and one that goes on does it only where the waiter is late
pub record EndedAt (found : Option ScriptedPoll) (most number elapsed : ℕ) (used : Bool) (ending : WaitEnding) : Type 0 where
  pub is : ending ≡ ended_by (verdict_of found) (found_of found) (endings.ExceededMaxWait most elapsed number)
  pub late : verdict_of found ≡ goes_on → (used ≡ true) ⊎ (most < elapsed)

-- such a verdict alone ends it so
ended : (found : Option ScriptedPoll) (most number elapsed : ℕ) (used : Bool) (ending : WaitEnding) (v : Verdict) → verdict_of found ≡ v →
    ending ≡ ended_by v (found_of found) (endings.ExceededMaxWait most elapsed number) → (v ≡ goes_on → (used ≡ true) ⊎ (most < elapsed)) →
    EndedAt found most number elapsed used ending
ended found most number elapsed used ending v at is late = record {
  is = is ∙ ap (λ w. ended_by w (found_of found) (endings.ExceededMaxWait most elapsed number)) (sym at);
  late = λ goes. late (sym at ∙ goes);
}

pub told_end : (backoff : Backoff) (start : ℕ) (before : List (Turn PolledValue PolledValue)) (poll : Poll PolledValue PolledValue) (final : End PolledValue PolledValue)
    (found : Option ScriptedPoll) (ending : WaitEnding) → Answers found poll.result → Accepts Says poll.result poll.state → EndsAt backoff Says start before poll final →
    ending_of final ≡ Some ending → EndedAt found backoff.max_wait (number_after before) (poll.moment - start) (zero_used before) ending
told_end backoff start before poll (Ok final) found ending is accepts ends told =
    ended found backoff.max_wait (number_after before) (poll.moment - start) (zero_used before) ending succeeds
    (sym (told_verdict found poll.result poll.state is accepts) ∙ ends.0)
    (sym (same_some _ _ told) ∙ told_found found poll.result final.result is ends.1) (λ no. absurd (cc no))
told_end backoff start before poll (Err (end.OperationFailed error)) found ending is accepts ends told =
    ended found backoff.max_wait (number_after before) (poll.moment - start) (zero_used before) ending fails
    (sym (told_verdict found poll.result poll.state is accepts) ∙ ends.0) (sym (same_some _ _ told)) (λ no. absurd (cc no))
told_end backoff start before poll (Err (end.FailureState final)) found ending is accepts ends told =
    ended found backoff.max_wait (number_after before) (poll.moment - start) (zero_used before) ending is_failure
    (sym (told_verdict found poll.result poll.state is accepts) ∙ ends.0) (sym (same_some _ _ told)) (λ no. absurd (cc no))
told_end backoff start before poll (Err (end.ExceededMaxWait max_wait elapsed poll_count)) found ending is accepts ends told =
    ended found backoff.max_wait (number_after before) (poll.moment - start) (zero_used before) ending goes_on
    (sym (told_verdict found poll.result poll.state is accepts) ∙ ends.0)
    (sym (same_some _ _ told) ∙ (λ i. endings.ExceededMaxWait (ends.2 i) (ends.3 i) (ends.4 i))) (λ goes. ends.1)
told_end backoff start before poll (Err end.Unfinished) found ending is accepts ends told = absurd ends
told_end backoff start before poll (Err end.OutOfMemory) found ending is accepts ends told = absurd ends
