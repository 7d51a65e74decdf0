-- The callers of a script before they begin.
use Rattle.std.specs.Prelude.{◌≡◌, List, map}
use Rattle.cli_fleet.specs.declared.caller.CallerState.{CallerState}
use Rattle.cli_fleet.specs.declared.caller.CallerState.TheVariants.{Ready}
use Rattle.cli_fleet.specs.declared.work.CallerWork.{CallerWork}

-- each has its work before it
abbrev pub AreReady : List CallerWork → List CallerState → Type 0
AreReady works states = states ≡ map Ready works
