use Rattle.client_auth.proofs.Lacking.{called_once}
use Rattle.client_auth.proofs.cached.begin_load.Goals as goal

pub returns-in_err-begun-clause-err : goal.returns-in_err-begun-clause-err
returns-in_err-begun-clause-err g c = called_once g.X.Outside.makes _ _ _ _ (g.met.X.Outside.timers_make _ _ _ c.in_err-begun.ensures.refused)
