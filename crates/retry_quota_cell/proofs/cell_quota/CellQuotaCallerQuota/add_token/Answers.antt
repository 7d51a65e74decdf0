use Rattle.std.proofs.Common.{refl, subst}
use Rattle.retry_quota.specs.History.{Done, Regenerate}
use Rattle.retry_quota_cell.specs.Known.{Place, IsOf}
use Rattle.retry_quota_cell.proofs.Callings.{alone_more, made_told}
use Rattle.retry_quota_cell.proofs.cell_quota.CellQuotaCallerQuota.add_token.Goals as goal

pub invariant_of-self : goal.invariant_of-self
invariant_of-self g c =
    let own = subst (λ (p : Place). IsOf p c.regenerate_a_token.new.pass) c.self.invariant.0 c.regenerate_a_token.ensures.cell in
    (c.self.invariant.0, alone_more g.B.At.place c.self.inside.pass c.regenerate_a_token.new.pass _ _ own c.self.invariant.1 c.regenerate_a_token.ensures.made)

pub returns : goal.returns
returns g c =
    made_told g.B.At.place (record { pass = c.self.inside.pass; limiter = c.self.inside.limiter }) c.args.self.now (record { pass = c.regenerate_a_token.new.pass; limiter = c.self.inside.limiter })
    Regenerate Done c.self.view_is refl c.self.invariant.1.ordered c.regenerate_a_token.ensures.made
