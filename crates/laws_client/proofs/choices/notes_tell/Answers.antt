use Rattle.laws_client.proofs.choices.Noted.{noted}
use Rattle.laws_client.proofs.choices.notes_tell.Goals as goal

pub returns : goal.returns
returns g c = noted g.A.AuthScheme.names g.R.ResolveIdentity.polls
