use Rattle.std.proofs.Common.{◌∙◌, sym, ap}
use Rattle.retry_quota_cell.specs.View.{View}
use Rattle.retry_quota_cell.proofs.Works.{adds_works}
use Rattle.retry_quota_cell.proofs.cell_bucket.CellBucket.is_full.Goals as goal

pub invariant_of-pass : goal.invariant_of-pass
invariant_of-pass g c =
    let made = c.make.ensures.made in
    (adds_works _ _ _ _ made c.pass.invariant.0, c.pass.invariant.1 ∙ sym (ap (λ (v : View). v.parts) made.same))
