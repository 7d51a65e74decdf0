use Rattle.std.proofs.Common.{[], ◌∷◌, Err, refl}
use Rattle.std.proofs.lemmas.Result.{err_from_is_err_and}
use Rattle.smithy_types.specs.declared.timers.TimersCall.TheVariants.{Start}
use Rattle.smithy_types.proofs.ChainLemmas.{chained_one}
use Rattle.waiter_fleet.specs.Calls.{timed}
use Rattle.waiter_fleet.proofs.Exits.{refused_exit}
use Rattle.waiter_fleet.proofs.pausing.started.Goals as goal

pub returns-in_err-start-clause-calls : goal.returns-in_err-start-clause-calls
returns-in_err-start-clause-calls g c =
    let p = err_from_is_err_and c.from_residual.result c.from_residual.ensures.1 in
    refused_exit c.from_residual.result _ _ p.0 p.1 (
      timed (Start c.args.nanos (Err c.in_err-start.field-0.0)) ∷ [],
      chained_one g.W.FleetWorld.does _ _ _
          (g.met.W.FleetWorld.made _ (timed (Start c.args.nanos (Err _))) _ refl (g.met.W.WaiterTimers.timers_make _ _ _ c.in_err-start.ensures.related)),
    )
