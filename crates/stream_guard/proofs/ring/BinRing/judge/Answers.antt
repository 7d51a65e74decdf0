use Rattle.std.proofs.Common.{◌∙◌, ap}
use Rattle.stream_guard.proofs.RingLemmas.{judged_by_totals}
use Rattle.stream_guard.specs.Judged.{judged_bins}
use Rattle.stream_guard.proofs.ring.BinRing.judge.Goals as goal

pub returns-clause-judged : goal.returns-clause-judged
returns-clause-judged c =
    c.judge.ensures ∙ judged_by_totals c.args.resolution c.self.inside.head c.self.inside.slots c.self.inside.totals c.self.invariant.1.totals_are
    ∙ ap (judged_bins c.args.resolution) c.self.view_is
