-- Downloads that fail where they stall.
use Rattle.std.specs.Prelude.{◌≡◌, ℕ, ◌/◌, Bool, true, false, List, [], ◌∷◌, None, Result, Ok, Err}
use Rattle.smithy_types.specs.declared.memory.OutOfMemory.{OutOfMemory}
use Rattle.smithy_types.specs.declared.timers.TimersCall.{TimersCall}
use Rattle.smithy_types.specs.declared.timers.TimersCall.TheVariants.{Now}
use Rattle.stream_guard.specs.Logs.{Keeps}
use Rattle.stream_guard.specs.declared.options.MinimumThroughputBodyOptions.{MinimumThroughputBodyOptions}
use Rattle.stream_guard.specs.declared.report.ThroughputReport.{ThroughputReport}
use Rattle.body_guard.specs.Events.{Sees}
use Rattle.smithy_types.specs.Frames.{ends}
use Rattle.body_guard.specs.Grace.{Grants}
use Rattle.body_guard.specs.Rates.{download_rate, violation}
use Rattle.body_guard.specs.Texts.{no_sleep, response_fault}
use Rattle.body_guard.specs.declared.download.MinimumThroughputDownloadBody.{MinimumThroughputDownloadBody}
use Rattle.body_guard.specs.declared.grace.GraceAnswer.{GraceAnswer}
use Rattle.body_guard.specs.declared.grace.GraceAnswer.TheVariants.{InTime, NoSleep, Over}
use Rattle.smithy_types.specs.declared.polled.Polled.{Polled}
use Rattle.smithy_types.specs.declared.polled.Polled.TheVariants.{Failed}

-- what is answered: the inner body's answer, or a failure in its place
abbrev pub passed : Polled → Result GraceAnswer OutOfMemory → Result Polled OutOfMemory
passed inner (Ok InTime) = Ok inner
passed inner (Ok NoSleep) = Ok (Failed no_sleep)
passed inner (Ok (Over text)) = Ok (Failed (response_fault text))
passed inner (Err e) = Err e

module _ {B : Type 0} where
  -- nothing came yet, and no violation
  pub record Starts (body : B) (options : MinimumThroughputBodyOptions) (made : MinimumThroughputDownloadBody B)
      (calls : List TimersCall) : Type 0 where
    pub now : ℕ
    pub start : made.logs.start ≡ now
    pub resolution : made.logs.resolution ≡ options.check_window / 10
    pub complete : made.logs.complete ≡ false
    pub kept : Keeps made.logs []
    pub grace : made.grace ≡ record { options = options; sleep = None }
    pub body_is : made.body ≡ body
    pub calls_are : calls ≡ Now now ∷ []

  -- an answer that doesn't end the body: its event and a look at this moment, and what the look makes of it
  pub record LooksAt (sleeps : Bool) (old : MinimumThroughputDownloadBody B) (inner : Polled)
      (answer : Result Polled OutOfMemory) (new : MinimumThroughputDownloadBody B)
      (calls : List TimersCall) : Type 0 where
    pub now : ℕ
    pub report : ThroughputReport
    pub sees : Sees old.logs inner now report new.logs
    pub said : Result GraceAnswer OutOfMemory
    pub granting : List TimersCall
    pub grants : Grants sleeps (violation old.grace.options.minimum_throughput (download_rate report)) old.grace said
        new.grace granting
    pub answered : answer ≡ passed inner said
    pub body : new.body ≡ old.body
    pub calls_are : calls ≡ Now now ∷ granting

  -- by whether the answer ends the body: the end and failures pass at once
  abbrev pub JudgesBy : Bool → Bool → MinimumThroughputDownloadBody B → Polled → Result Polled OutOfMemory →
      MinimumThroughputDownloadBody B → List TimersCall → Type 0
  JudgesBy true sleeps old inner answer new calls = (answer ≡ Ok inner) × (new ≡ old) × (calls ≡ [])
  JudgesBy false sleeps old inner answer new calls = LooksAt sleeps old inner answer new calls

  -- what becomes of an answer of the inner body, where there are sleeps or none, and which calls of the timers are made
  abbrev pub Judges : Bool → MinimumThroughputDownloadBody B → Polled → Result Polled OutOfMemory →
      MinimumThroughputDownloadBody B → List TimersCall → Type 0
  Judges sleeps old inner answer new calls = JudgesBy (ends inner) sleeps old inner answer new calls

  -- what follows from the inner body's answer, or from its want of memory
  abbrev pub FollowsGuarded : Bool → Result Polled OutOfMemory → MinimumThroughputDownloadBody B →
      Result Polled OutOfMemory → MinimumThroughputDownloadBody B → List TimersCall → Type 0
  FollowsGuarded sleeps (Ok inner) old answer new calls = Judges sleeps old inner answer new calls
  FollowsGuarded sleeps (Err e) old answer new calls = (answer ≡ Err e) × (new ≡ old) × (calls ≡ [])

  -- one poll: the inner body is polled, and its answer judged
  pub record PollsGuarded (polls : B → Result Polled OutOfMemory → B → Type 0) (sleeps : Bool)
      (old : MinimumThroughputDownloadBody B) (answer : Result Polled OutOfMemory)
      (new : MinimumThroughputDownloadBody B) (calls : List TimersCall) : Type 0 where
    pub inner : Result Polled OutOfMemory
    pub body : B
    pub polled : polls old.body inner body
    pub follows : FollowsGuarded sleeps inner (record old { body = body }) answer new calls
