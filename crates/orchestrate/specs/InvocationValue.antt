-- What a contract sees of an invocation.
use Rattle.std.specs.Prelude.{Bool}
use Rattle.smithy_types.specs.declared.kinds.StopPoint.{StopPoint}
use Rattle.run_grammar.specs.declared.standing.Standing.{Standing}
use Rattle.orchestrate.specs.declared.stage.Stage.{Stage}

-- where it is to stop, what stands in it, where it stands between two questions, and whether memory ran out in it
pub record InvocationValue : Type 0 where
  pub stop : StopPoint
  pub standing : Standing
  pub stage : Stage
  pub lost : Bool
