use Rattle.std.proofs.Common.{◌∙◌, sym, ap, subst, rules, ◌+◌}
use Rattle.crossbeam_utils.specs.Seq.{cell_view}
use Rattle.retry_quota_cell.specs.View.{View}
use Rattle.retry_quota_cell.specs.Rule.{united}
use Rattle.retry_quota_cell.specs.Known.{Known, Place, IsWorking}
use Rattle.retry_quota_cell.proofs.Moves.{unites, counts}
use Rattle.retry_quota_cell.proofs.Works.{united_works}
use Rattle.retry_quota_cell.proofs.cell_bucket.CellBucket.join.Goals as goal

pub join_pass-requires : goal.join_pass-requires
join_pass-requires g c =
    let mine = ap (λ (k : Known). k.cell) c.pass.view_is ∙ c.requires.0.cell ∙ sym (ap (λ (b : Place). b.cell) c.self.view_is) in
    let theirs = ap (λ (k : Known). k.cell) c.other.view_is ∙ c.requires.1.cell ∙ sym (ap (λ (b : Place). b.cell) c.self.view_is) in
    let f = c.fresh_seat-seat.ensures in
    (search rules, (search rules, ((mine, f.cell ∙ theirs ∙ sym mine, f.free), unites _ _ _ _ c.pass.invariant.0.live)))

pub load_as-requires : goal.load_as-requires
load_as-requires g c =
    let mine = ap (λ (k : Known). k.cell) c.pass.view_is ∙ c.requires.0.cell ∙ sym (ap (λ (b : Place). b.cell) c.self.view_is) in
    let j = c.join_pass.ensures in
    (search rules, (search rules, (j.0.0 ∙ mine, counts _ _ (ap (λ (v : View). v.stage) j.1 ∙ c.pass.invariant.0.live))))

pub invariant_of-pass : goal.invariant_of-pass
invariant_of-pass g c =
    let v = cell_view c.pass.inside.seat in
    let u = cell_view c.other.inside.seat in
    let is = c.load_as.ensures.rule.0 ∙ c.join_pass.ensures.1 ∙ ap (united v) c.fresh_seat-seat.ensures.view in (
      subst IsWorking (sym is) (united_works v u c.pass.invariant.0 c.other.invariant.0),
      (λ i. c.pass.invariant.1 i + c.other.invariant.1 i) ∙ sym (ap (λ (k : View). k.parts) is),
    )
