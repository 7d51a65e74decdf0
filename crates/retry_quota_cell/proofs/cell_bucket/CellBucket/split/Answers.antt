use Rattle.std.proofs.Common.{◌∙◌, sym, ap, rules}
use Rattle.retry_quota_cell.specs.View.{View}
use Rattle.retry_quota_cell.specs.Known.{Known, Place}
use Rattle.retry_quota_cell.proofs.Moves.{tells}
use Rattle.retry_quota_cell.proofs.cell_bucket.CellBucket.split.Goals as goal

pub split_pass-seat-requires : goal.split_pass-seat-requires
split_pass-seat-requires g c =
    (search rules, (search rules, (c.put_out.ensures.cell ∙ ap (λ (k : Known). k.cell) c.pass.view_is ∙ c.requires.own.cell ∙ sym (ap (λ (b : Place). b.cell) c.self.view_is), tells _ _ (ap (λ (v : View). v.stage) c.put_out.ensures.view ∙ c.pass.invariant.0.live))))
