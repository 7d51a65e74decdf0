-- What the ending of a run comes to.
use Rattle.json_print.specs.declared.ending.Ending.{Ending}
use Rattle.json_print.specs.declared.ending.Ending.TheVariants as endings
use Rattle.cli_shell.specs.declared.status.PrintStatus.{PrintStatus}
use Rattle.cli_shell.specs.declared.status.PrintStatus.TheVariants as outcomes

-- an output and a stopped run are Ok, and each other ending has an outcome of its own
abbrev pub came_to : Ending → PrintStatus
came_to (endings.Output payload) = outcomes.Ok
came_to (endings.Stopped request) = outcomes.Ok
came_to (endings.Error error) = outcomes.SdkError
came_to endings.Unfinished = outcomes.Unfinished
came_to (endings.WrongType payload) = outcomes.WrongType
