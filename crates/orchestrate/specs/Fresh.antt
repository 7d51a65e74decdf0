-- An invocation that has asked nothing.
use Rattle.std.specs.Prelude.{false}
use Rattle.smithy_types.specs.declared.kinds.StopPoint.{StopPoint}
use Rattle.smithy_types.specs.declared.payload.Payload.{Payload}
use Rattle.run_grammar.specs.Standing.{starting}
use Rattle.orchestrate.specs.declared.point.Point.TheVariants.{AtConfigureClient}
use Rattle.orchestrate.specs.declared.stage.Waiting.TheVariants.{NotWaiting}
use Rattle.orchestrate.specs.declared.invocation.Invocation.{Invocation}
use Rattle.orchestrate.specs.Points.{here, none_armed}

-- an invocation with this input that has asked nothing
abbrev pub fresh : Payload → StopPoint → Invocation
fresh p stop = record {
  stop = stop;
  standing = starting p;
  stage = record { place = here none_armed AtConfigureClient; waiting = NotWaiting };
  lost = false;
}
