use Rattle.std.proofs.Common.{refl}
use Rattle.stream_guard.specs.Report.{Pending}
use Rattle.stream_guard.proofs.LogLemmas.{pushed}
use Rattle.stream_guard.proofs.logs.ThroughputLogs.push_pending_counted.Goals as goal

pub returns-clause-kept : goal.returns-clause-kept
returns-clause-kept g c came kept = pushed c.args.self.now c.catch_up_counted.new.self c.add.new.self came (Pending c.args.now) _ (λ bin. refl) kept c.catch_up_counted.ensures.caught_up c.add.ensures
