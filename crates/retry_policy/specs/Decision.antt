-- What a strategy decides, and the calls on the quota that it makes for it. Nothing here asks what the quota tells: the
-- replies of the limiter and of the bucket are handed in, and the quota's own meaning says which replies may come.
use Rattle.std.specs.Prelude.{◌≡◌, ℕ, ◌/◌, Bool, true, false, ◌&&◌, if◌then◌else◌, nat_le, nat_lt, List, [], ◌∷◌, ◌++◌}
use Rattle.std.specs.Prelude.{Option, None, Some, IfSome, Result, Ok, Err}
use Rattle.smithy_context.specs.StandingLayers.{StandingLayers}
use Rattle.smithy_context.specs.declared.context.InterceptorContext.{InterceptorContext}
use Rattle.smithy_context.specs.Failures.{is_failure}
use Rattle.smithy_types.specs.Chain.{Chained}
use Rattle.smithy_types.specs.declared.config.RetryConfig.{RetryConfig}
use Rattle.smithy_types.specs.declared.kinds.ErrorKind.{ErrorKind}
use Rattle.smithy_types.specs.declared.notes.Choice.{Choice}
use Rattle.smithy_types.specs.declared.notes.Choice.TheVariants.{No, Delay}
use Rattle.smithy_types.specs.declared.notes.Reason.{Reason}
use Rattle.smithy_types.specs.declared.notes.Reason.TheVariants.{NotIndicated, OutOfAttempts, NoQuota, Granted}
use Rattle.smithy_types.specs.declared.notes.RetryAction.{RetryAction}
use Rattle.smithy_types.specs.declared.notes.RetryAction.TheVariants.{NoActionIndicated, RetryIndicated, RetryForbidden}
use Rattle.smithy_types.specs.declared.partition.RetryPartition.{RetryPartition}
use Rattle.retry_quota.specs.declared.limiter.RequestReason.{RequestReason}
use Rattle.retry_quota.specs.declared.limiter.RequestReason.TheVariants.{Retry, RetryTimeout, InitialRequest}
use Rattle.retry_quota.specs.declared.permit.Permit.{Permit}
use Rattle.retry_quota.specs.Calls.{QuotaCall, OnBucket, Settled, AskedLimiter, ToldLimiter, FoundLimiter, Limiters}
use Rattle.retry_quota.specs.Calls.{Calls}
use Rattle.retry_quota.specs.History.{Acquire, Release, Forget, Reward, Regenerate, Done, acquire_reply}
use Rattle.retry_quota.specs.Meaning.{Meaning}
use Rattle.retry_policy.specs.Backoff.{is_throttling, is_v2_1, polls_for_long, own_backoff, backoff_of}
use Rattle.retry_policy.specs.Standing.{standing_retry, standing_bucket, standing_partition, uses_limiter}
use Rattle.retry_policy.specs.declared.standing.Paced.{Paced}
use Rattle.retry_policy.specs.declared.decision.Decision.{Decision}
use Rattle.retry_policy.specs.declared.decision.Initial.{Initial}
use Rattle.retry_policy.specs.declared.decision.Initial.TheVariants as initial

-- what a decision goes by beside the quota
pub record Case : Type 0 where
  pub retry : RetryConfig
  pub bucket : ℕ
  pub failed : Bool
  pub attempt : ℕ
  pub verdict : RetryAction
  pub now : Option ℕ
  pub word : ℕ
  -- the limiter, where one is asked and told
  pub paced : Option Paced
  -- what the bucket in force charges for the verdict's kind, and what it rewards
  pub cost : ℕ
  pub reward : ℕ

-- what was decided, the calls behind it, and what the permit stands for that is held afterwards
pub record Decided : Type 0 where
  pub choice : Choice
  pub reason : Reason
  pub long_poll : Option ℕ
  pub calls : List QuotaCall
  pub held : Option Permit

-- whether the verdict is a retry after throttling, which lowers the limiter's rate
abbrev pub verdict_throttles : RetryAction → Bool
verdict_throttles (RetryIndicated kind retry_after) = is_throttling kind
verdict_throttles NoActionIndicated = false
verdict_throttles RetryForbidden = false

-- the limiter is told of the response
abbrev pub telling : Option Paced → RetryAction → List QuotaCall
telling None verdict = []
telling (Some paced) verdict = ToldLimiter paced.limiter paced.now (verdict_throttles verdict) ∷ []

-- a held permit is given up: its tokens don't come back to the bucket
abbrev pub forgetting : Option Permit → List QuotaCall
forgetting None = []
forgetting (Some permit) = Settled permit.bucket (Forget permit.amount) ∷ []

-- a held permit is given back: its tokens are available again
abbrev pub releasing : Option Permit → List QuotaCall
releasing None = []
releasing (Some permit) = Settled permit.bucket (Release permit.amount) ∷ []

-- a success gives the held permit back; with none held the bucket in force regenerates a token
abbrev pub giving_back : ℕ → Option Permit → List QuotaCall
giving_back bucket None = OnBucket bucket Regenerate Done ∷ []
giving_back bucket (Some permit) = Settled permit.bucket (Release permit.amount) ∷ []

-- where the bucket in force rewards successes, it is credited with the reward in place of that,
-- and the permit is given up
abbrev pub settling : ℕ → ℕ → Option Permit → List QuotaCall
settling bucket reward held =
    if nat_lt 0 reward then OnBucket bucket Reward Done ∷ forgetting held else giving_back bucket held

-- what a success does at the buckets; a failure settles nothing yet
abbrev pub settled : Bool → ℕ → ℕ → Option Permit → List QuotaCall
settled true bucket reward held = []
settled false bucket reward held = settling bucket reward held

-- the permit that is still held: a failure keeps it for the next attempt, a success has settled it
abbrev pub held_on : Bool → Option Permit → Option Permit
held_on true held = held
held_on false held = None

-- the reason by which the limiter charges a retry after an error of this kind
abbrev pub reason_for : ErrorKind → RequestReason
reason_for kind = if is_throttling kind then RetryTimeout else Retry

-- the limiter is asked, but not under version 2.1
abbrev pub asking : Bool → Option Paced → RequestReason → Result (Unit {0}) ℕ → List QuotaCall
asking true paced reason reply = []
asking false None reason reply = []
asking false (Some paced) reason reply = AskedLimiter paced.limiter paced.now reason reply ∷ []

-- how long the limiter wants a request to wait
abbrev pub delay_in : Result (Unit {0}) ℕ → Option ℕ
delay_in (Ok granted) = None
delay_in (Err delay) = Some delay

-- the delay that the limiter asks for, where it was asked
abbrev pub limited : Bool → Option Paced → Result (Unit {0}) ℕ → Option ℕ
limited true paced reply = None
limited false None reply = None
limited false (Some paced) reply = delay_in reply

-- the second of a moment, as a bucket counts the time; 0 without a time source
abbrev pub second_of : Option ℕ → ℕ
second_of None = 0
second_of (Some now) = now / 1000000000

-- no retry, for this reason; the quota isn't called and the permit stays as it was
abbrev pub refusing : Reason → Option Permit → Decided
refusing reason held = record { choice = No; reason = reason; long_poll = None; calls = []; held = held }

-- an acquire of this kind with its reply: without a grant an operation that polls for long pauses all the same
abbrev pub paying : Case → ErrorKind → ℕ → Option Permit → Option ℕ → Decided
paying c kind backoff held None = record {
  choice = No;
  reason = NoQuota c.cost;
  long_poll = if polls_for_long c.retry.spec then Some backoff else None;
  calls = OnBucket c.bucket (Acquire kind (second_of c.now)) (acquire_reply None) ∷ [];
  held = held;
}
paying c kind backoff held (Some amount) = record {
  choice = Delay backoff;
  reason = Granted c.cost;
  long_poll = None;
  calls = OnBucket c.bucket (Acquire kind (second_of c.now)) (acquire_reply (Some amount)) ∷ forgetting held;
  held = Some (record { bucket = c.bucket; amount = amount });
}

-- the limiter is asked first, and then the bucket
abbrev pub retrying : Case → ErrorKind → Option ℕ → Option Permit → Result (Unit {0}) ℕ → Option ℕ → Decided
retrying c kind retry_after held reply grant =
    let version = is_v2_1 c.retry.spec in
    let backoff =
    backoff_of c.retry (limited version c.paced reply) retry_after (own_backoff c.retry kind c.attempt c.word) in
    let paid = paying c kind backoff held grant in
    record paid { calls = asking version c.paced (reason_for kind) reply ++ paid.calls }

-- by the verdict, and by the attempts that were made
abbrev pub deciding : Case → RetryAction → Option Permit → Result (Unit {0}) ℕ → Option ℕ → Decided
deciding c (RetryIndicated kind retry_after) held reply grant =
    if nat_le c.retry.max_attempts c.attempt then refusing OutOfAttempts held
    else retrying c kind retry_after held reply grant
deciding c NoActionIndicated held reply grant = refusing NotIndicated held
deciding c RetryForbidden held reply grant = refusing NotIndicated held

-- the limiter is told, a success is settled, and then the verdict counts
abbrev pub decision : Case → Option Permit → Result (Unit {0}) ℕ → Option ℕ → Decided
decision c held reply grant =
    let d = deciding c c.verdict (held_on c.failed held) reply grant in
    record d { calls = telling c.paced c.verdict ++ (settled c.failed c.bucket c.reward held ++ d.calls) }

-- whether a limiter is used, which one: that of the standing partition
abbrev pub FindsLimiter : {L : Type 0} → Limiters L → Meaning L → Bool → Option ℕ → Option RetryPartition →
    Option Paced → Meaning L → Type 0
FindsLimiter means m true (Some now) (Some partition) (Some paced) n =
    (paced.now ≡ now) × Calls means m (FoundLimiter partition now paced.limiter) n
FindsLimiter means m false now partition None n = n ≡ m
FindsLimiter means m _ _ _ _ n = ⊥

-- what a verdict's kind costs
abbrev pub cost_for : (ErrorKind → ℕ) → RetryAction → ℕ
cost_for cost (RetryIndicated kind retry_after) = cost kind
cost_for cost NoActionIndicated = 0
cost_for cost RetryForbidden = 0

-- what a decision goes by, with the cost and the reward of the bucket in force
abbrev pub case_of : {L : Type 0} → RetryConfig → ℕ → Bool → ℕ → RetryAction → Option ℕ → ℕ → Option Paced → Meaning L →
    Case
case_of retry bucket failed attempt verdict now word paced m = record {
  retry = retry;
  bucket = bucket;
  failed = failed;
  attempt = attempt;
  verdict = verdict;
  now = now;
  word = word;
  paced = paced;
  cost = cost_for (m.cost bucket) verdict;
  reward = m.reward bucket;
}

-- the standing settings that a strategy goes by, and what became of the quota as their limiter was found
pub record Stands {L : Type 0} (means : Limiters L) (m : Meaning L) (settings : StandingLayers) (now : Option ℕ)
    (retry : RetryConfig) (bucket : ℕ) (paced : Option Paced) (n : Meaning L) : Type 0 where
  pub retry_stands : standing_retry settings ≡ Some retry
  pub bucket_stands : standing_bucket settings ≡ Some bucket
  pub there : m.has bucket ≡ true
  pub found : FindsLimiter means m (uses_limiter retry now) now (standing_partition settings) paced n

-- with some replies of the limiter and of the bucket it is so decided, and the quota makes the calls of it;
-- a bucket that grants gives just the tokens that the reason shows
pub record Comes {L : Type 0} (means : Limiters L) (m : Meaning L) (decided : Result (Unit {0}) ℕ → Option ℕ → Decided)
    (d : Decision) (held_after : Option Permit) (n : Meaning L) : Type 0 where
  pub reply : Result (Unit {0}) ℕ
  pub grant : Option ℕ
  pub shown : IfSome grant (λ amount. d.reason ≡ Granted amount)
  pub choice : d.choice ≡ (decided reply grant).choice
  pub reason : d.reason ≡ (decided reply grant).reason
  pub long_poll : d.long_poll ≡ (decided reply grant).long_poll
  pub holds : held_after ≡ (decided reply grant).held
  pub made : Chained (Calls means) m (decided reply grant).calls n

-- the strategy decides so
pub record Decides {L : Type 0} (means : Limiters L) (m : Meaning L) (settings : StandingLayers)
    (c : InterceptorContext) (verdict : RetryAction) (now : Option ℕ) (word : ℕ) (held : Option Permit) (d : Decision)
    (held_after : Option Permit) (n : Meaning L) : Type 0 where
  pub retry : RetryConfig
  pub bucket : ℕ
  pub paced : Option Paced
  -- what the quota means once the limiter is found
  pub mid : Meaning L
  pub stands : Stands means m settings now retry bucket paced mid
  pub comes : Comes means mid
      (decision (case_of retry bucket (is_failure c.view.outcome) c.view.attempt verdict now word paced mid) held) d
      held_after n

-- the first attempt waits as long as the limiter asks
abbrev pub initially : Option Paced → Result (Unit {0}) ℕ → Initial
initially None reply = initial.Go
initially (Some paced) (Ok granted) = initial.Go
initially (Some paced) (Err delay) = initial.Delay delay

-- the strategy answers the question for the first attempt: it may go, or waits as the limiter asks
pub record Begins {L : Type 0} (means : Limiters L) (m : Meaning L) (settings : StandingLayers) (now : Option ℕ)
    (first : Initial) (n : Meaning L) : Type 0 where
  pub retry : RetryConfig
  pub bucket : ℕ
  pub paced : Option Paced
  pub mid : Meaning L
  pub stands : Stands means m settings now retry bucket paced mid
  pub reply : Result (Unit {0}) ℕ
  pub answer : first ≡ initially paced reply
  pub made : Chained (Calls means) mid (asking false paced InitialRequest reply) n

-- what a limiter's answer is, and the call for it
pub record Asks {L : Type 0} (means : Limiters L) (m : Meaning L) (version : Bool) (paced : Option Paced)
    (reason : RequestReason) (delay : Option ℕ) (n : Meaning L) : Type 0 where
  pub reply : Result (Unit {0}) ℕ
  pub answer : delay ≡ limited version paced reply
  pub made : Chained (Calls means) m (asking version paced reason reply) n

-- what a held permit stands for
abbrev pub permit_of : {P : Type 0} → (P → ℕ) → (P → ℕ) → Option P → Option Permit
permit_of bucket amount None = None
permit_of bucket amount (Some p) = Some (record { bucket = bucket p; amount = amount p })
