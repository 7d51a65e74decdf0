use Rattle.std.proofs.Common.{rules, ap, ◌∙◌}
use Rattle.retry_quota_cell.specs.View.{View}
use Rattle.retry_quota_cell.proofs.Moves.{counts, takes_in}
use Rattle.retry_quota_cell.proofs.steps.take_in.Goals as goal

pub load_as-found-requires : goal.load_as-found-requires
load_as-found-requires g c =
    let i = c.loop.invariant in
    (search rules, (search rules, (i.2 ∙ c.requires.own, counts _ _ (ap (λ (v : View). v.stage) i.3 ∙ c.requires.live))))

pub compare_exchange_as-requires : goal.compare_exchange_as-requires
compare_exchange_as-requires g c =
    let i = c.loop.invariant in
    let l = c.load_as-found.ensures in
    let same = l.rule.0 ∙ i.3 in
    (search rules, (search rules, (l.cell.0 ∙ i.2 ∙ c.requires.own, takes_in _ _ c.load_as-found.result _ (ap (λ (v : View). v.stage) same ∙ c.requires.live) (search rules) c.repool-new.ensures)))
