use Rattle.smithy_types.proofs.ChainLemmas.{chained_join}
use Rattle.client_call.proofs.sleeping.end_all_sleeps.Goals as goal

pub returns-clause-calls : goal.returns-clause-calls
returns-clause-calls g c =
    chained_join g.X.Outside.makes _ _ _ _ _ c.give_up.ensures (chained_join g.X.Outside.makes _ _ _ _ _ c.give_up-2.ensures
    (chained_join g.X.Outside.makes _ _ _ _ _ c.give_up-3.ensures (chained_join g.X.Outside.makes _ _ _ _ _ c.give_up-4.ensures c.give_up-5.ensures)))
