use Rattle.std.proofs.Common.{sym, ◌∙◌}
use Rattle.host_session.proofs.Adding.{ended}
use Rattle.host_session.proofs.service.classifier.push_own.Goals as goal

pub returns-clause-items : goal.returns-clause-items
returns-clause-items g c =
    let left = c.loop-classifier.left.rest in
    ended c.loop-classifier.classifiers.items _ left.items (sym left.ok.0 ∙ c.in_default.ensures.cases.0) c.loop-classifier.invariant.0
