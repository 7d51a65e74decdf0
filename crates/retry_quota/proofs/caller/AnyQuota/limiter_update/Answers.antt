use Rattle.retry_quota.proofs.CallerLemmas.{limited, limited_nothing}
use Rattle.retry_quota.proofs.caller.AnyQuota.limiter_update.Goals as goal

pub returns-then-limiter-eq0 : goal.returns-then-limiter-eq0
returns-then-limiter-eq0 g c =
    let means = g.C.CallerQuota.means in
    limited (means c.args.self.now) (means c.tell_limiter.new.self) c.args.limiter (λ l. g.C.Limiter.Limiter.after_update l c.args.now c.args.throttled) c.if-limiter-eq0.true c.tell_limiter.ensures

pub returns-else-limiter-eq0 : goal.returns-else-limiter-eq0
returns-else-limiter-eq0 g c =
    limited_nothing (g.C.CallerQuota.means c.args.self.now) c.args.limiter (λ l. g.C.Limiter.Limiter.after_update l c.args.now c.args.throttled) c.if-limiter-eq0.false
