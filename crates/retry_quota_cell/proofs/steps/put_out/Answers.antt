use Rattle.std.proofs.Common.{◌<◌, rules, ap, sym, ◌∙◌, subst, ℕ}
use Rattle.retry_quota_cell.specs.View.{View}
use Rattle.retry_quota_cell.proofs.Moves.{counts, puts_out}
use Rattle.retry_quota_cell.proofs.steps.put_out.Goals as goal

pub load_as-found-requires : goal.load_as-found-requires
load_as-found-requires g c =
    let i = c.loop.invariant in
    (search rules, (search rules, (i.2 ∙ c.requires.own, counts _ _ (ap (λ (v : View). v.stage) i.3 ∙ c.requires.live))))

pub compare_exchange_as-requires : goal.compare_exchange_as-requires
compare_exchange_as-requires g c =
    let i = c.loop.invariant in
    let l = c.load_as-found.ensures in
    let same = l.rule.0 ∙ i.3 in
    (search rules, (search rules, (l.cell.0 ∙ i.2 ∙ c.requires.own, puts_out _ _ c.load_as-found.result _ (ap (λ (v : View). v.stage) same ∙ c.requires.live) (subst (λ (n : ℕ). 1 < n) (sym (ap (λ (v : View). v.parts) same)) c.requires.parts) c.repool-new.ensures)))
