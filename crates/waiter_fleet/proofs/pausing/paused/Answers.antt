use Rattle.std.proofs.Common.{◌∷◌, refl}
use Rattle.std.proofs.lemmas.Result.{err_from_is_err_and}
use Rattle.waiter_fleet.specs.Calls.{drew}
use Rattle.waiter_fleet.proofs.Exits.{refused_exit}
use Rattle.waiter_fleet.proofs.pausing.paused.Goals as goal

pub returns-in_err-sleep-clause-calls : goal.returns-in_err-sleep-clause-calls
returns-in_err-sleep-clause-calls g c =
    let p = err_from_is_err_and c.from_residual.result c.from_residual.ensures.1 in
    refused_exit c.from_residual.result _ _ p.0 p.1 (
      drew c.word-word.result ∷ c.in_err-sleep.ensures.calls.0,
      (c.word-word.new.self, g.met.W.FleetWorld.made _ (drew c.word-word.result) _ refl c.word-word.ensures, c.in_err-sleep.ensures.calls.1),
    )
