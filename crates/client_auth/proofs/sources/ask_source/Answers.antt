use Rattle.client_auth.proofs.Asked.{by_outside}
use Rattle.client_auth.proofs.Lacking.{called_once}
use Rattle.client_auth.proofs.sources.ask_source.Goals as goal

pub returns-in-Outside-clause-ok : goal.returns-in-Outside-clause-ok
returns-in-Outside-clause-ok g c = by_outside g.X.Outside.makes g.R.ResolveIdentity.polls _ _ c.args.id.now c.args.source.now c.resolve.result c.in-Outside.is (rw c.as_str.ensures at c.resolve.ensures)

pub returns-in-Outside-clause-err : goal.returns-in-Outside-clause-err
returns-in-Outside-clause-err g c = called_once g.X.Outside.makes c.resolve.result _ _ _ c.resolve.ensures
