-- A request's body is read to its end, and looked at.
use Rattle.std.proofs.Common.{◌≡◌, ℕ, ◌/◌, Bool, true, false, ◌∷◌, [], ◌++◌, List, map, Option, None, Result, Ok, Err, IfOk, refl, ap, subst, ◌∙◌}
use Rattle.smithy_types.specs.Chain.{Chained, ByCalls}
use Rattle.smithy_types.specs.declared.fault.Fault.{Fault}
use Rattle.smithy_types.specs.declared.memory.OutOfMemory.{OutOfMemory}
use Rattle.smithy_types.specs.declared.timers.TimersCall.{TimersCall}
use Rattle.smithy_types.specs.declared.timers.TimersCall.TheVariants.{Now}
use Rattle.outside.specs.Calls.{OutsideCall, OfTimers}
use Rattle.stream_guard.specs.Logs.{Keeps, Log, empty_log}
use Rattle.stream_guard.specs.declared.options.MinimumThroughputBodyOptions.{MinimumThroughputBodyOptions}
use Rattle.body_guard.specs.Upload.{Checks, FollowsNoted, PollsNoted}
use Rattle.smithy_types.specs.declared.polled.Polled.{Polled}
use Rattle.body_guard.specs.declared.upload.ThroughputReadingBody.{ThroughputReadingBody}
use Rattle.body_guard.specs.declared.upload.UploadThroughputCheck.{UploadThroughputCheck}
use Rattle.client_call.specs.declared.upload.Upload.{Upload}
use Rattle.client_call.specs.declared.whole_body.WholeBody.{WholeBody}
use Rattle.client_call.specs.Uploading.{Looks, PollsWhole, Watches, at_whole_end, came_calls, came_of, whole_frame}
use Rattle.client_call.proofs.ChainLemmas.{timed}

-- a whole body was noted
pub record Noted (bytes : List ℕ) (start resolution : ℕ) (log : Log) (calls : List TimersCall) : Type 0 where
  pub now : ℕ
  pub started : log.start ≡ start
  pub resolution_is : log.resolution ≡ resolution
  pub complete : log.complete ≡ true
  pub kept : Keeps log (came_of bytes now)
  pub calls_are : calls ≡ came_calls bytes now

noted : (bytes : List ℕ) (at_end : Bool) (start resolution : ℕ) (before after : Log) (answer : Result Polled OutOfMemory) (calls : List TimersCall) → at_end ≡ true →
    before ≡ empty_log start resolution → Keeps before [] → FollowsNoted at_end (Ok (whole_frame bytes)) before answer after calls → Noted bytes start resolution after calls
noted [] at_end start resolution before after answer calls e b k h = record {
  now = h.1.now;
  started = rw b at h.1.start;
  resolution_is = rw b at h.1.resolution;
  complete = rw b at h.1.complete;
  kept = h.1.kept [] k;
  calls_are = h.1.calls_are;
}
noted (x ∷ xs) at_end start resolution before after answer calls e b k h = record {
  now = h.1.now;
  started = rw b at h.1.start;
  resolution_is = rw b at h.1.resolution;
  complete = rw (b, e) at h.1.complete;
  kept = h.1.kept [] k;
  calls_are = h.1.calls_are;
}

module _ {X : Type 0} (makes : X → OutsideCall → X → Type 0) (relates : X → TimersCall → X → Type 0)
    (lift : (o : X) (c : TimersCall) (n : X) → relates o c n → makes o (OfTimers c) n) where
  pub watched : (options : MinimumThroughputBodyOptions) (bytes : List ℕ) (whole : WholeBody) (start : ℕ) (before after : Log) (check : UploadThroughputCheck)
      (old new : ThroughputReadingBody WholeBody) (answer : Result Polled OutOfMemory) (x y z : X) →
      relates x (Now start) y → whole ≡ record { bytes = bytes } → old.body ≡ whole → before ≡ empty_log start (options.check_window / 10) → Keeps before [] →
      ByCalls relates y (PollsNoted PollsWhole at_whole_end old before answer new after) z → check.grace ≡ record { options = options; sleep = None } →
      ByCalls makes x (Watches options bytes (record { log = after; check = check })) z
  watched options bytes whole start before after check old new answer x y z now w o b k by grace =
      let frame : whole_frame old.body.bytes ≡ whole_frame bytes = ap (λ (t : WholeBody). whole_frame t.bytes) (o ∙ w) in
      let n = noted bytes (at_whole_end new.body) start (options.check_window / 10) before after answer by.calls (ap at_whole_end by.these.polled.1) b k
      (subst (λ r. FollowsNoted (at_whole_end new.body) r before answer after by.calls) (by.these.polled.0 ∙ ap Ok frame) by.these.follows) in
      record {
        calls = map OfTimers (Now start ∷ by.calls);
        these = record {
          start = start;
          now = n.now;
          started = n.started;
          resolution = n.resolution_is;
          complete = n.complete;
          kept = n.kept;
          check = grace;
          calls_are = ap (λ l. map OfTimers (Now start ∷ l)) n.calls_are;
        };
        made = timed makes relates lift x z (Now start ∷ by.calls) (y, now, by.made);
      }

  pub looked : (sleeps : Bool) (old : Upload) (check : UploadThroughputCheck) (log : Log) (r : Result (Option Fault) OutOfMemory) (x y : X) →
      ByCalls relates x (Checks sleeps old.check old.log r check log) y → IfOk r (λ fault. ByCalls makes x (Looks sleeps old fault (record { log = log; check = check })) y)
  looked sleeps old check log (Ok fault) x y by = record {
    calls = map OfTimers by.calls;
    these = record { checking = by.calls; checks = by.these; calls_are = refl };
    made = timed makes relates lift x y by.calls by.made;
  }
  looked sleeps old check log (Err e) x y by = tt
