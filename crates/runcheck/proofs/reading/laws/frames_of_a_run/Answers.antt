use Rattle.runcheck.proofs.reading.Depth.{run_within}
use Rattle.runcheck.proofs.reading.laws.frames_of_a_run.Goals as goal

pub returns : goal.returns
returns c = run_within
