-- A frame goes through the guards.
use Rattle.std.proofs.Common.{◌≡◌, Bool, List, map, Option, None, Some, Result, Ok, Err, IfOk, refl}
use Rattle.smithy_types.specs.Chain.{Chained, ByCalls}
use Rattle.smithy_types.specs.declared.memory.OutOfMemory.{OutOfMemory}
use Rattle.smithy_types.specs.declared.timers.TimersCall.{TimersCall}
use Rattle.outside.specs.Calls.{OutsideCall, OfTimers}
use Rattle.stream_guard.specs.declared.options.MinimumThroughputBodyOptions.{MinimumThroughputBodyOptions}
use Rattle.body_guard.specs.Download.{Judges, Starts}
use Rattle.body_guard.specs.Length.{Enforces}
use Rattle.body_guard.specs.declared.polled.NoBody.{NoBody}
use Rattle.smithy_types.specs.declared.polled.Polled.{Polled}
use Rattle.client_call.specs.declared.guards.Guards.{Guards}
use Rattle.client_call.specs.Guarding.{GuardsThroughput, LengthGuard, LengthPasses, Passes, ThroughputGuard, ThroughputPasses}
use Rattle.client_call.proofs.ChainLemmas.{timed}

pub enforced_by : (old new : LengthGuard) (frame : Polled) (r : Result Polled OutOfMemory) → Enforces old frame r new → IfOk r (λ passed. LengthPasses (Some old) frame passed (Some new))
enforced_by old new frame (Ok passed) h = h
enforced_by old new frame (Err e) h = tt

module _ {X : Type 0} (makes : X → OutsideCall → X → Type 0) where
  module _ (relates : X → TimersCall → X → Type 0) (lift : (o : X) (c : TimersCall) (n : X) → relates o c n → makes o (OfTimers c) n) where
    pub judged_by : (sleeps : Bool) (old new : ThroughputGuard) (frame : Polled) (r : Result Polled OutOfMemory) (x y : X) → ByCalls relates x (Judges sleeps old frame r new) y →
        IfOk r (λ passed. ByCalls makes x (ThroughputPasses sleeps (Some old) frame passed (Some new)) y)
    judged_by sleeps old new frame (Ok passed) x y by = record {
      calls = map OfTimers by.calls;
      these = (by.calls, by.these, refl);
      made = timed makes relates lift x y by.calls by.made;
    }
    judged_by sleeps old new frame (Err e) x y by = tt

    pub started_by : (options : MinimumThroughputBodyOptions) (body : NoBody) (made : ThroughputGuard) (x y : X) → ByCalls relates x (Starts body options made) y →
        ByCalls makes x (GuardsThroughput (Some options) (Some made)) y
    started_by options body made x y by = record {
      calls = map OfTimers by.calls;
      these = (body, by.calls, by.these, refl);
      made = timed makes relates lift x y by.calls by.made;
    }

  -- that of the length first
  pub passed_on : (sleeps : Bool) (old : Guards) (frame enforced : Polled) (length : Option LengthGuard) (throughput : Option ThroughputGuard) (r : Result Polled OutOfMemory) (x y : X) →
      LengthPasses old.length frame enforced length → IfOk r (λ passed. ByCalls makes x (ThroughputPasses sleeps old.throughput enforced passed throughput) y) →
      IfOk r (λ passed. ByCalls makes x (Passes sleeps old frame passed (record { length = length; throughput = throughput })) y)
  passed_on sleeps old frame enforced length throughput (Ok passed) x y l by = record {
    calls = by.calls;
    these = record { enforced = enforced; length = l; throughput = by.these };
    made = by.made;
  }
  passed_on sleeps old frame enforced length throughput (Err e) x y l by = tt
