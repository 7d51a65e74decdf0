use Rattle.std.proofs.Common.{◌≡◌, sym, subst, true}
use Rattle.json_scripts.specs.Client.Limits.{client_script_fits}
use Rattle.json_scripts.specs.Client.Placed.{IsPlaced}
use Rattle.json_scripts.proofs.workload.Limits.{made_fits, made_placed}
use Rattle.json_scripts.proofs.workload.script.made_script.Goals as goal

pub returns-clause-placed : goal.returns-clause-placed
returns-clause-placed c = subst IsPlaced (sym c.in_ok-script.ensures) (made_placed c.args.count c.args.seed)

pub returns-clause-fits : goal.returns-clause-fits
returns-clause-fits c = λ h. subst (λ s. client_script_fits s ≡ true) (sym c.in_ok-script.ensures) (made_fits c.args.count c.args.seed h)
