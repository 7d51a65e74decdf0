use Rattle.cli_client.proofs.Markings.{more_marked}
use Rattle.cli_client.proofs.marks.with_moments.Goals as goal

pub loop-line-preserved : goal.loop-line-preserved
loop-line-preserved c =
    more_marked c.args.print.now c.loop-line.out.items c.loop-line.rest.now c.write_line.new.out.items c.in-Some.behind.now c.in-Some.line.now c.before-in-Some.result
    c.loop-line.invariant c.in-Some.ensures c.in_ok-write_line.ensures
