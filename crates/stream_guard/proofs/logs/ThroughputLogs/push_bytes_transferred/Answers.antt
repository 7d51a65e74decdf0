use Rattle.std.proofs.Common.{refl}
use Rattle.stream_guard.specs.Report.{Transferred}
use Rattle.stream_guard.proofs.LogLemmas.{pushed}
use Rattle.stream_guard.proofs.logs.ThroughputLogs.push_bytes_transferred.Goals as goal

pub returns-clause-kept : goal.returns-clause-kept
returns-clause-kept c came kept = pushed c.args.self.now c.catch_up.new.self c.add.new.self came (Transferred c.args.now c.args.bytes) _ (λ bin. refl) kept c.catch_up.ensures (rw c.transferred.ensures at c.add.ensures)
