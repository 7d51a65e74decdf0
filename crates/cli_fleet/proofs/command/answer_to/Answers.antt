use Rattle.std.proofs.Common.{◌∙◌, sym}
use Rattle.cli_fleet.proofs.Playing.{few_callers}
use Rattle.cli_fleet.proofs.command.answer_to.Goals as goal

pub play_fleet-requires-clause-few : goal.play_fleet-requires-clause-few
play_fleet-requires-clause-few g c κs within = few_callers c.args.script (sym c.fleet_script_fits.ensures ∙ c.if-not-fleet_script_fits.false)
