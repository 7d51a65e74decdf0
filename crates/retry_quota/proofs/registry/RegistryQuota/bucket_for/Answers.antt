use Rattle.std.proofs.Common.{◌∙◌, ap, sym, ◌++◌, ◌∷◌, []}
use Rattle.retry_quota.proofs.RegisterLemmas.{bucket_answered, bucket_there}
use Rattle.retry_quota.proofs.registry.RegistryQuota.bucket_for.Goals as goal

pub returns-in-Some-2-clause-there : goal.returns-in-Some-2-clause-there
returns-in-Some-2-clause-there g c =
    bucket_there _ _ c.args.partition.now c.in-Some-2.number c.self.view_is c.self.invariant.0
    (sym c.in_ok-number.ensures ∙ c.in-Some-2.is)

pub returns-clause-ok : goal.returns-clause-ok
returns-clause-ok g c =
    bucket_answered _ _ c.args.partition.now _ c.in_ok-number-2.number _ _ c.self.view_is c.in_default.is
    (sym c.in_ok-number.ensures ∙ c.in_default-2.is) c.in_ok-number-2.ensures.number
    (c.in_ok-number-2.ensures.items ∙ ap (λ b. c.self.inside.buckets.items ++ b ∷ []) c.default_bucket-bucket.ensures)
    c.in_ok-number-2.ensures.names
