use Rattle.std.proofs.Common.{refl}
use Rattle.stream_guard.specs.Report.{Pending}
use Rattle.stream_guard.proofs.LogLemmas.{pushed}
use Rattle.stream_guard.proofs.logs.ThroughputLogs.push_pending.Goals as goal

pub returns-clause-kept : goal.returns-clause-kept
returns-clause-kept c came kept = pushed c.args.self.now c.catch_up.new.self c.add.new.self came (Pending c.args.now) _ (λ bin. refl) kept c.catch_up.ensures c.add.ensures
