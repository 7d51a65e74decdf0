use Rattle.std.proofs.Common.{refl, subst}
use Rattle.retry_quota.specs.History.{Done, Release}
use Rattle.retry_quota_cell.specs.Known.{Place, IsOf}
use Rattle.retry_quota_cell.proofs.Callings.{alone_more, made_told}
use Rattle.retry_quota_cell.proofs.cell_quota.CellQuotaCallerQuota.give_back.Goals as goal

pub invariant_of-self : goal.invariant_of-self
invariant_of-self g c =
    let own = subst (λ (p : Place). IsOf p c.release.new.pass) c.self.invariant.0 c.release.ensures.cell in
    (c.self.invariant.0, alone_more g.B.At.place c.self.inside.pass c.release.new.pass _ _ own c.self.invariant.1 c.release.ensures.made)

pub returns : goal.returns
returns g c =
    made_told g.B.At.place (record { pass = c.self.inside.pass; limiter = c.self.inside.limiter }) c.args.self.now (record { pass = c.release.new.pass; limiter = c.self.inside.limiter })
    (Release c.args.permit.amount) Done c.self.view_is refl c.self.invariant.1.ordered c.release.ensures.made
