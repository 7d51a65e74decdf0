use Rattle.stream_guard.proofs.LogLemmas.{looked, reported}
use Rattle.stream_guard.proofs.logs.ThroughputLogs.report_counted.Goals as goal

pub returns-clause-kept : goal.returns-clause-kept
returns-clause-kept g c came kept = looked c.args.self.now c.catch_up_counted.new.self came c.args.now kept c.catch_up_counted.ensures.caught_up

pub returns-clause-report : goal.returns-clause-report
returns-clause-report g c came kept = reported c.args.self.now c.catch_up_counted.new.self came c.args.now c.current_report.result kept c.catch_up_counted.ensures.caught_up c.current_report.ensures.ten c.current_report.ensures.shown
