use Rattle.body_guard.proofs.EventLemmas.{seen}
use Rattle.body_guard.proofs.events.see.Goals as goal

pub returns : goal.returns
returns c = seen _ _ _ _ _ _ c.push_event.ensures.settings c.push_event.ensures.kept c.report.ensures.settings c.report.ensures.kept c.report.ensures.report
