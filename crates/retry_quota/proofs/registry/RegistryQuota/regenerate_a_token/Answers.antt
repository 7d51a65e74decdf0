use Rattle.std.proofs.Common.{refl}
use Rattle.retry_quota.specs.History.{Regenerate, Done}
use Rattle.retry_quota.proofs.RegisterLemmas.{step_written}
use Rattle.retry_quota.proofs.registry.RegistryQuota.regenerate_a_token.Goals as goal

pub returns : goal.returns
returns g c = step_written _ _ c.args.bucket Regenerate Done _ _ c.self.view_is c.requires c.index_mut-book.ensures.value c.regenerate_a_token.ensures refl
