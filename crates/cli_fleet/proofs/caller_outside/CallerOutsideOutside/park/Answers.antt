use Rattle.std.proofs.Common.{subst}
use Rattle.outside.specs.Calls.{Park}
use Rattle.outside_scripted.specs.Makes.{Makes}
use Rattle.cli_fleet.proofs.caller_outside.CallerOutsideOutside.park.Goals as goal

pub returns : goal.returns
returns g c = subst (λ o. Makes o Park c.park.new.self.outside) c.self.view_is c.park.ensures.made
