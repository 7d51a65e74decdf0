use Rattle.retry_quota.specs.History.{Done, Reward}
use Rattle.retry_quota.proofs.CallerLemmas.{made}
use Rattle.retry_quota.proofs.caller.AnyQuota.reward_success.Goals as goal

pub returns : goal.returns
returns g c =
    let means = g.C.CallerQuota.means in
    made (means c.args.self.now) (means c.credit.new.self) c.args._bucket Reward Done c.credit.ensures
