use Rattle.client_auth.proofs.PickedOnes.{refused_among}
use Rattle.client_auth.proofs.choose.pick_among.Goals as goal

pub returns-in-Err : goal.returns-in-Err
returns-in-Err c = refused_among _ _ c.choose.result c.in-Err.error c.refused.result c.in-Err.is c.refused.ensures (rw c.lent.ensures at c.choose.ensures.refused)
