use Rattle.rate_limit.proofs.CubeRootLemmas.{Narrows}
use Rattle.rate_limit.proofs.root.cube_root.Given as goal

abbrev pub invariant-loop-round : goal.invariant-loop-round
invariant-loop-round l = Narrows l.n l.root l.width l._round
