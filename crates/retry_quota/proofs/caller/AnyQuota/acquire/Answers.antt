use Rattle.std.specs.Prelude.{option_map}
use Rattle.retry_quota.specs.History.{Acquire, acquire_reply}
use Rattle.retry_quota.specs.declared.permit.Permit.{Permit}
use Rattle.retry_quota.proofs.CallerLemmas.{granted, made}
use Rattle.retry_quota.proofs.caller.AnyQuota.acquire.Goals as goal

pub returns-clause-step : goal.returns-clause-step
returns-clause-step g c =
    let means = g.C.CallerQuota.means in
    made (means c.args.self.now) (means c.pay.new.self) c.args._bucket (Acquire c.args.kind c.args.now_secs) (acquire_reply (option_map (λ (p : Permit). p.amount) c.pay.result)) c.pay.ensures.made

pub returns-clause-permit : goal.returns-clause-permit
returns-clause-permit g c = granted c.pay.result c.args._bucket ((g.C.CallerQuota.means c.args.self.now).cost c.args.kind) c.requires c.pay.ensures.permit
