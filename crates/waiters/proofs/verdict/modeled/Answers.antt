use Rattle.std.proofs.Common.{refl}
use Rattle.waiters.proofs.Seeing.{sees-modeled}
use Rattle.waiters.proofs.verdict.modeled.Goals as goal

pub returns-in-Ok : goal.returns-in-Ok
returns-in-Ok g c = rw c.in-Ok.is (_, refl, refl)

pub returns-in-ServiceError : goal.returns-in-ServiceError
returns-in-ServiceError g c =
    sees-modeled c.args.polled.now _ _ _ _ c.in-Err.is c.in-ServiceError.is refl
