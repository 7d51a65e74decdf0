use Rattle.laws_client.proofs.retries.Told.{all_told}
use Rattle.laws_client.proofs.retries.decisions_tell_the_bucket.Goals as goal

pub returns : goal.returns
returns g c = all_told _
