-- A run that its caller keeps going.
use Rattle.std.specs.Prelude.{◌≡◌, ◌⊎◌, ◌-◌, ◌≤◌, List}
use Rattle.smithy_types.specs.declared.kinds.StopPoint.{StopPoint}
use Rattle.smithy_types.specs.declared.payload.Payload.{Payload}
use Rattle.run_grammar.specs.declared.answer.Entry.{Entry}
use Rattle.orchestrate.specs.Stands.{Progress}
use Rattle.run_driver.specs.Driving.{IsDone}
use Rattle.run_driver.specs.declared.running.DrivenRun.{DrivenRun}

-- the run of this input has made its calls, by which the log grew
pub record Goes (p : Payload) (stop : StopPoint) (run : DrivenRun) (before log : List Entry) : Type 0 where
  pub progress : Progress p stop run.invocation before log (run.fuel - run.left)
  pub fits : run.left ≤ run.fuel

-- the run is whole, or made all calls that it was allowed
abbrev pub IsOver : DrivenRun → Type 0
IsOver run = (run.left ≡ 0) ⊎ IsDone run.invocation
