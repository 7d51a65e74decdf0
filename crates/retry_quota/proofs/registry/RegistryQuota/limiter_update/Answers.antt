use Rattle.std.proofs.Common.{arith}
use Rattle.retry_quota.proofs.RegisterLemmas.{limiter_written, limiter_past}
use Rattle.retry_quota.proofs.registry.RegistryQuota.limiter_update.Goals as goal

pub returns-then-limiter-len : goal.returns-then-limiter-len
returns-then-limiter-len g c =
    limiter_written _ _ c.args.limiter _ _ _ c.self.view_is (omega (arith, c.self.inside.limiters.ok.0))
    c.index_mut-limiter.ensures.value c.update.ensures

pub returns-else-limiter-len : goal.returns-else-limiter-len
returns-else-limiter-len g c =
    limiter_past _ _ _ _ c.self.view_is (omega (arith, c.self.inside.limiters.ok.0))
