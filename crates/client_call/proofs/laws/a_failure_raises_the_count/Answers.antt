use Rattle.client_call.proofs.FaultProofs.{raised}
use Rattle.client_call.proofs.laws.a_failure_raises_the_count.Goals as goal

pub returns : goal.returns
returns g c = raised g.X.Outside.makes g.X.Outside.faults g.met.X.Outside.counts
