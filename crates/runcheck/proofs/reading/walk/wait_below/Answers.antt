use Rattle.runcheck.specs.Reading.Frames.{armed}
use Rattle.std.proofs.Common.{take, sym, ap, ◌∙◌}
use Rattle.runcheck.proofs.reading.Below.{is_armed, not_armed, none_left}
use Rattle.runcheck.proofs.reading.walk.wait_below.Goals as goal

pub frames-preserved : goal.frames-preserved
frames-preserved c = c.frames.invariant ∙ not_armed c.args.left.now c.frames.rest c.armed_at-armed.result c.frames-test.true c.armed_at-armed.ensures.none c.in_default.is

pub returns-in-Some : goal.returns-in-Some
returns-in-Some c = sym (c.frames.invariant ∙ is_armed c.args.left.now c.frames.rest c.in-Some.role c.frames-test.true c.in-Some.ensures.some)

pub returns : goal.returns
returns c = sym (c.frames.invariant ∙ ap (λ m. armed (take m c.args.left.now)) (none_left c.frames.rest c.frames-test.false))
