use Rattle.std.proofs.Common.{◌∙◌, arith}
use Rattle.retry_quota.proofs.RegisterLemmas.{limiter_written, limiter_past, limiter_reply, limiter_reply_past}
use Rattle.retry_quota.proofs.registry.RegistryQuota.limiter_acquire.Goals as goal

pub returns-then-limiter-len-clause-limiter : goal.returns-then-limiter-len-clause-limiter
returns-then-limiter-len-clause-limiter g c =
    limiter_past _ _ _ _ c.self.view_is (omega (arith, c.self.inside.limiters.ok.0))

pub returns-then-limiter-len-clause-reply : goal.returns-then-limiter-len-clause-reply
returns-then-limiter-len-clause-reply g c =
    limiter_reply_past _ _ _ _ _ c.self.view_is (omega (arith, c.self.inside.limiters.ok.0))

pub returns-clause-limiter : goal.returns-clause-limiter
returns-clause-limiter g c =
    limiter_written _ _ c.args.limiter _ _ _ c.self.view_is (omega (arith, c.self.inside.limiters.ok.0))
    c.index_mut-limiter.ensures.value c.acquire.ensures.limiter

pub returns-clause-reply : goal.returns-clause-reply
returns-clause-reply g c =
    c.acquire.ensures.reply
    ∙ limiter_reply _ _ c.args.limiter (λ l. g.L.Limiter.reply_to l c.args.now c.args.reason) _ _ c.self.view_is
    (omega (arith, c.self.inside.limiters.ok.0)) c.index_mut-limiter.ensures.value
