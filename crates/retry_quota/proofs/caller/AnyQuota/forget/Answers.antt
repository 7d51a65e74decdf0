use Rattle.retry_quota.specs.History.{Forget}
use Rattle.retry_quota.proofs.CallerLemmas.{settled, settled_nothing}
use Rattle.retry_quota.proofs.caller.AnyQuota.forget.Goals as goal

pub returns-then-permit-eq0 : goal.returns-then-permit-eq0
returns-then-permit-eq0 g c =
    let means = g.C.CallerQuota.means in
    settled (means c.args.self.now) (means c.give_up.new.self) c.args.permit.bucket (Forget c.args.permit.amount) c.if-permit-eq0.true c.give_up.ensures

pub returns-else-permit-eq0 : goal.returns-else-permit-eq0
returns-else-permit-eq0 g c = settled_nothing (g.C.CallerQuota.means c.args.self.now) c.args.permit.bucket (Forget c.args.permit.amount) c.if-permit-eq0.false
