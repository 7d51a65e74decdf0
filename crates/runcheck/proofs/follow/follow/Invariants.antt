use Rattle.std.proofs.Common.{drop}
use Rattle.runcheck.proofs.Following.{Along}
use Rattle.runcheck.proofs.follow.follow.Given as goal

abbrev pub invariant-loop-call : goal.invariant-loop-call
invariant-loop-call l = Along l.fn.stop l.fn.input l.calls l.walk l.standing l.entries.items (drop l.call-index l.calls)
