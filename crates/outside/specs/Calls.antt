-- The calls of an outside as data.
use Rattle.std.specs.Prelude.{ℕ, List, Result}
use Rattle.smithy_context.specs.StandingLayers.{StandingLayers}
use Rattle.smithy_types.specs.declared.http.HttpRequest.{HttpRequest}
use Rattle.smithy_types.specs.declared.memory.OutOfMemory.{OutOfMemory}
use Rattle.smithy_types.specs.declared.timers.TimersCall.{TimersCall}
use Rattle.outside.specs.declared.answers.IdentityPoll.{IdentityPoll}
use Rattle.smithy_types.specs.declared.polled.Polled.{Polled}
use Rattle.outside.specs.declared.answers.Sent.{Sent}

-- each with what it was handed and what it answered
pub data OutsideCall : Type 0 where
  OfTimers : TimersCall → OutsideCall
  Begin : HttpRequest → StandingLayers → Result (Unit {0}) OutOfMemory → OutsideCall
  Poll : Result Sent OutOfMemory → OutsideCall
  Frame : Result Polled OutOfMemory → OutsideCall
  DropCall : OutsideCall
  Resolve : List ℕ → Result IdentityPoll OutOfMemory → OutsideCall
  DropResolve : OutsideCall
  Word : ℕ → OutsideCall
  Poison : ℕ → OutsideCall
  Park : OutsideCall
