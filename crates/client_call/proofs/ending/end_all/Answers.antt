use Rattle.smithy_types.proofs.ChainLemmas.{chained_join}
use Rattle.client_call.proofs.ending.end_all.Goals as goal

pub returns-clause-calls : goal.returns-clause-calls
returns-clause-calls g c = chained_join g.X.Outside.makes _ _ _ _ _ c.end_call.ensures.calls c.end_all_sleeps.ensures.calls
