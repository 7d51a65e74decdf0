use Rattle.std.proofs.Common.{IsTrue}
use Rattle.bench_quota.proofs.rounds.pay.Given as goal

abbrev pub invariant-loop : goal.invariant-loop
invariant-loop g l = IsTrue ((g.Q.Quota.meaning l.quota).has 0)
