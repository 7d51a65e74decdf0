use Rattle.std.proofs.Common.{refl}
use Rattle.client_auth.specs.declared.choose.Picked.TheVariants.{Refused}
use Rattle.client_auth.proofs.choose.choose.Goals as goal

pub returns-in-Refused-clause-ok : goal.returns-in-Refused-clause-ok
returns-in-Refused-clause-ok g c = (
  _,
  refl,
  record {
    picked = Refused c.in-Refused.text;
    picks = rw (c.in_ok-before.ensures, c.in-Refused.is) at c.in_ok-id.ensures;
    goes_on = (refl, refl, refl, refl);
  },
)
