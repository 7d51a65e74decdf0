use Rattle.runcheck.proofs.reading.Depth.{few_frames}
use Rattle.runcheck.proofs.reading.laws.frames_are_few.Goals as goal

pub returns : goal.returns
returns c = few_frames
