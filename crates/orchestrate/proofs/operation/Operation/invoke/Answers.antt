use Rattle.std.proofs.Common.{inl}
use Rattle.orchestrate.proofs.Answering.{read_ok, read_err}
use Rattle.orchestrate.proofs.operation.Operation.invoke.Goals as goal

pub returns-in-Ok-clause-answered : goal.returns-in-Ok-clause-answered
returns-in-Ok-clause-answered g c = inl (
  c.in_ok-payload.payload,
  c.in_ok-payload.ensures.accepted,
  c.in_ok-payload.ensures.same,
  read_ok g.O.Wire.accepts g.O.Wire.reads_as g.E.Wire.accepts g.E.Wire.reads_as c.in_ok-payload.payload c.in-Ok.output c.args.fuel c.read_output.result
      (g.W.World.calls c.args.world.now) (g.W.World.calls c.invoke-answer.new.world) c.in-Ok.ensures.answered c.read_output.ensures,
)

pub returns-clause-answered : goal.returns-clause-answered
returns-clause-answered g c = inl (
  c.in_ok-payload.payload,
  c.in_ok-payload.ensures.accepted,
  c.in_ok-payload.ensures.same,
  read_err g.O.Wire.accepts g.O.Wire.reads_as g.E.Wire.accepts g.E.Wire.reads_as c.in_ok-payload.payload c.in-Err.error c.args.fuel c.read_error.result
      (g.W.World.calls c.args.world.now) (g.W.World.calls c.invoke-answer.new.world) c.in-Err.ensures.answered c.read_error.ensures,
)
