use Rattle.std.specs.Prelude.{Ok}
use Rattle.retry_quota.proofs.CallerLemmas.{limited, limited_nothing, replied, replied_nothing}
use Rattle.retry_quota.proofs.caller.AnyQuota.limiter_acquire.Goals as goal

pub returns-then-limiter-eq0-clause-limiter : goal.returns-then-limiter-eq0-clause-limiter
returns-then-limiter-eq0-clause-limiter g c =
    let means = g.C.CallerQuota.means in
    limited (means c.args.self.now) (means c.ask_limiter.new.self) c.args.limiter (λ l. g.C.Limiter.Limiter.after_acquire l c.args.now c.args.reason) c.if-limiter-eq0.true c.ask_limiter.ensures.limiter

pub returns-then-limiter-eq0-clause-reply : goal.returns-then-limiter-eq0-clause-reply
returns-then-limiter-eq0-clause-reply g c =
    replied (g.C.CallerQuota.means c.args.self.now) c.args.limiter (λ l. g.C.Limiter.Limiter.reply_to l c.args.now c.args.reason) (Ok tt) c.ask_limiter.result c.if-limiter-eq0.true c.ask_limiter.ensures.reply

pub returns-else-limiter-eq0-clause-limiter : goal.returns-else-limiter-eq0-clause-limiter
returns-else-limiter-eq0-clause-limiter g c =
    limited_nothing (g.C.CallerQuota.means c.args.self.now) c.args.limiter (λ l. g.C.Limiter.Limiter.after_acquire l c.args.now c.args.reason) c.if-limiter-eq0.false

pub returns-else-limiter-eq0-clause-reply : goal.returns-else-limiter-eq0-clause-reply
returns-else-limiter-eq0-clause-reply g c =
    replied_nothing (g.C.CallerQuota.means c.args.self.now) c.args.limiter (λ l. g.C.Limiter.Limiter.reply_to l c.args.now c.args.reason) (Ok tt) c.if-limiter-eq0.false
