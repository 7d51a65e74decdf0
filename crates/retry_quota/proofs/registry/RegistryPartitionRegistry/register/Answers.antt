use Rattle.std.proofs.Common.{◌∙◌}
use Rattle.retry_quota.proofs.RegisterLemmas.{new_popped}
use Rattle.retry_quota.proofs.registry.RegistryPartitionRegistry.register.Goals as goal

pub invariant_of-self : goal.invariant_of-self
invariant_of-self g c = (
  new_popped c.args.bucket _ _ _ _ _ c.if-is_none.ensures c.in_ok-bucket_number.ensures.unnamed c.in_ok-bucket_number.ensures.ok
      (c.self.view_is ∙ c.in-Err.ensures.err) c.pop.ensures.items,
  c.self.invariant.1,
)
