use Rattle.std.proofs.Common.{◌∙◌, sym, ap, rules, subst, slice_index}
use Rattle.crossbeam_utils.specs.Seq.{cell_view}
use Rattle.retry_quota_cell.specs.View.{View, Opening}
use Rattle.retry_quota.specs.Book.{sums_of, terms_in}
use Rattle.retry_quota_cell.specs.Rule.{book_in}
use Rattle.retry_quota_cell.specs.Known.{Known, Place, Sees}
use Rattle.retry_quota_cell.proofs.Moves.{loads}
use Rattle.retry_quota_cell.proofs.Works.{looks_works}
use Rattle.retry_quota_cell.proofs.Grants.{sees}
use Rattle.retry_quota_cell.proofs.cell_bucket.CellBucket.sums_and_length.Goals as goal

pub load_as-found-requires : goal.load_as-found-requires
load_as-found-requires g c = (search rules, (search rules, (ap (λ (k : Known). k.cell) c.pass.view_is ∙ c.requires.cell ∙ sym (ap (λ (b : Place). b.cell) c.self.view_is), loads _ _ c.pass.invariant.0.live)))

pub invariant_of-pass : goal.invariant_of-pass
invariant_of-pass g c =
    let l = c.load_as-found.ensures.rule in
    (looks_works _ _ _ l c.pass.invariant.0, c.pass.invariant.1 ∙ sym (ap (λ (v : View). v.parts) l.same))

pub returns-clause-look : goal.returns-clause-look
returns-clause-look g c =
    let v = cell_view c.pass.inside.seat in
    let w = cell_view c.load_as-found.new.pass in
    let same = ap (λ (b : Place). b.opening) c.self.view_is ∙ sym c.requires.opening ∙ sym (ap (λ (k : Known). k.view.opening) c.pass.view_is) in
    let look = sees v w c.terms.result c.load_as-found.result (c.terms.ensures ∙ ap (λ (o : Opening). terms_in o.book) same) c.load_as-found.ensures.rule in
    subst (λ (k : Known). Sees k.view (sums_of (book_in c.terms.result c.load_as-found.result)) (slice_index c.load_as-found.result 6) w) c.pass.view_is look
