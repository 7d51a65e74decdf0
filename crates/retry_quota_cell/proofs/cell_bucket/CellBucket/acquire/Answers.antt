use Rattle.std.proofs.Common.{◌≡◌, ◌∙◌, sym, ap, subst, ℕ, Option, IfSome}
use Rattle.retry_quota.specs.declared.permit.Permit.{Permit}
use Rattle.crossbeam_utils.specs.Seq.{cell_view}
use Rattle.retry_quota.specs.Book.{cost_of}
use Rattle.retry_quota.specs.History.{Acquire, acquire_reply}
use Rattle.retry_quota_cell.specs.View.{View, Opening}
use Rattle.retry_quota_cell.specs.Rule.{Adds}
use Rattle.retry_quota_cell.specs.Known.{Known}
use Rattle.retry_quota_cell.proofs.Works.{adds_works}
use Rattle.retry_quota_cell.proofs.Grants.{granted_cost}
use Rattle.retry_quota_cell.proofs.cell_bucket.CellBucket.acquire.Goals.{in-Some, in-None}
use Rattle.retry_quota_cell.proofs.cell_bucket.CellBucket.acquire.Goals as goal

pub invariant_of-pass : goal.invariant_of-pass
invariant_of-pass g c =
    let made = c.make-cost.ensures.made in
    (adds_works _ _ _ _ made c.pass.invariant.0, c.pass.invariant.1 ∙ sym (ap (λ (v : View). v.parts) made.same))

pub returns-clause-permit : goal.returns-clause-permit
returns-clause-permit g c =
    let v = cell_view c.pass.inside.seat in
    let u = cell_view c.make-cost.new.seat in
    let kind = c.args.kind in
    let seconds = c.args.now_secs in
    let same = ap (λ (k : Known). k.view.opening) c.pass.view_is ∙ c.requires.opening in
    elim c.match-cost.branch [
      | in-Some w ↦
          let made = subst (λ r. Adds (Acquire kind seconds) v (acquire_reply r) u) w.in-Some.is c.make-cost.ensures.made in
          let cost : w.in-Some.amount ≡ cost_of kind c.args.self.now.opening.book =
          granted_cost kind seconds v u w.in-Some.amount made ∙ ap (λ (o : Opening). cost_of kind o.book) same in
          subst (λ (r : Option Permit). IfSome r (λ p. p ≡ record { bucket = 0; amount = cost_of kind c.args.self.now.opening.book })) (sym w.result-is) (ap (λ (n : ℕ). record { bucket = 0; amount = n }) cost)
      | in-None w ↦ subst (λ (r : Option Permit). IfSome r (λ p. p ≡ record { bucket = 0; amount = cost_of kind c.args.self.now.opening.book })) (sym w.result-is) tt
    ]
