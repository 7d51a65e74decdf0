use Rattle.laws_determined.proofs.steady.Hosts.{hosts_steady}
use Rattle.laws_determined.proofs.steady.hosts_are_steady.Goals as goal

pub returns : goal.returns
returns c = hosts_steady
