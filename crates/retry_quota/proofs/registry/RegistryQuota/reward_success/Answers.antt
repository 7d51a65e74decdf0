use Rattle.std.proofs.Common.{refl}
use Rattle.retry_quota.specs.History.{Reward, Done}
use Rattle.retry_quota.proofs.RegisterLemmas.{step_written}
use Rattle.retry_quota.proofs.registry.RegistryQuota.reward_success.Goals as goal

pub returns : goal.returns
returns g c = step_written _ _ c.args.bucket Reward Done _ _ c.self.view_is c.requires c.index_mut-book.ensures.value c.reward_success.ensures refl
