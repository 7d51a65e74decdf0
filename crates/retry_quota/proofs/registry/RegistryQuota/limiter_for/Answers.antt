use Rattle.std.proofs.Common.{◌∙◌, ap, sym, ◌++◌, ◌∷◌, []}
use Rattle.retry_quota.proofs.RegisterLemmas.{limiter_answered, limiter_known, limiter_there}
use Rattle.retry_quota.proofs.registry.RegistryQuota.limiter_for.Goals as goal

pub returns-in-Some-2-clause-ok : goal.returns-in-Some-2-clause-ok
returns-in-Some-2-clause-ok g c =
    limiter_known _ _ c.args.partition.now _ c.in-Some-2.number c.self.view_is c.in_default.is
    (sym c.in_ok-number.ensures ∙ c.in-Some-2.is)

pub returns-in-Some-2-clause-there : goal.returns-in-Some-2-clause-there
returns-in-Some-2-clause-there g c =
    limiter_there _ _ c.args.partition.now c.in-Some-2.number c.self.view_is c.self.invariant.1
    (sym c.in_ok-number.ensures ∙ c.in-Some-2.is)

pub returns-clause-ok : goal.returns-clause-ok
returns-clause-ok g c =
    limiter_answered _ _ c.args.partition.now (g.L.Limiter.at c.args.now) c.in_ok-number-2.number _ _ c.self.view_is c.in_default.is
    (sym c.in_ok-number.ensures ∙ c.in_default-2.is) c.in_ok-number-2.ensures.number
    (c.in_ok-number-2.ensures.items ∙ ap (λ l. c.self.inside.limiters.items ++ l ∷ []) c.at-limiter.ensures)
    c.in_ok-number-2.ensures.names
