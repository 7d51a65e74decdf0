use Rattle.std.proofs.Common.{Err, inr, refl}
use Rattle.std.proofs.lemmas.Result.{err_from_is_err_and}
use Rattle.orchestrate.specs.declared.execution.InvokeError.TheVariants.{OutOfMemory}
use Rattle.client_operations.proofs.watching.Watch.poll.Goals as goal

pub returns-in_err-input : goal.returns-in_err-input
returns-in_err-input g c =
    let p = err_from_is_err_and c.from_residual.result c.from_residual.ensures.1 in
    record { answer = Err OutOfMemory; tells = p.1; asks = inr (refl, refl); others = refl }
