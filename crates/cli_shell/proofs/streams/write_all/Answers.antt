use Rattle.std.proofs.Common.{arith}
use Rattle.cli_shell.proofs.Pieces.{gone_more}
use Rattle.cli_shell.proofs.streams.write_all.Goals as goal

pub loop-rest-preserved : goal.loop-rest-preserved
loop-rest-preserved g c =
    let view = g.K.Sink.view in (
      omega (arith, c.loop-rest.invariant.0, c.in-Took.ensures.3),
      gone_more (view c.args.sink.now) (view c.loop-rest.sink) (view c.write.new.self) c.args.text.now c.loop-rest.rest.now c.in-Took.count c.loop-rest.invariant.1 c.in-Took.ensures.2,
    )
