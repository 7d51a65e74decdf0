use Rattle.std.proofs.Common.{refl, subst, option_map}
use Rattle.retry_quota.specs.declared.permit.Permit.{Permit}
use Rattle.retry_quota.specs.History.{Acquire, acquire_reply}
use Rattle.retry_quota_cell.specs.Known.{Place, IsOf}
use Rattle.retry_quota_cell.proofs.Callings.{alone_more, made_told}
use Rattle.retry_quota_cell.proofs.cell_quota.CellQuotaCallerQuota.pay.Goals as goal

pub invariant_of-self : goal.invariant_of-self
invariant_of-self g c =
    let own = subst (λ (p : Place). IsOf p c.acquire.new.pass) c.self.invariant.0 c.acquire.ensures.cell in
    (c.self.invariant.0, alone_more g.B.At.place c.self.inside.pass c.acquire.new.pass _ _ own c.self.invariant.1 c.acquire.ensures.made)

pub returns-clause-made : goal.returns-clause-made
returns-clause-made g c =
    made_told g.B.At.place (record { pass = c.self.inside.pass; limiter = c.self.inside.limiter }) c.args.self.now (record { pass = c.acquire.new.pass; limiter = c.self.inside.limiter })
    (Acquire c.args.kind c.args.now_secs) (acquire_reply (option_map (λ (p : Permit). p.amount) c.acquire.result)) c.self.view_is refl c.self.invariant.1.ordered c.acquire.ensures.made
