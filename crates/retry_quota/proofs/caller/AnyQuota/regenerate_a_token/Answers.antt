use Rattle.retry_quota.specs.History.{Done, Regenerate}
use Rattle.retry_quota.proofs.CallerLemmas.{made}
use Rattle.retry_quota.proofs.caller.AnyQuota.regenerate_a_token.Goals as goal

pub returns : goal.returns
returns g c =
    let means = g.C.CallerQuota.means in
    made (means c.args.self.now) (means c.add_token.new.self) c.args._bucket Regenerate Done c.add_token.ensures
