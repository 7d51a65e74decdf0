use Rattle.outside_hosted.proofs.ParkLemmas.{waits}
use Rattle.outside_hosted.proofs.laws.parks_wait.Goals as goal

pub returns : goal.returns
returns c = waits
