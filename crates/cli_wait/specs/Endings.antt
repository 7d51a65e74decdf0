-- How a waiter over a script ended, and what that comes to.
use Rattle.std.specs.Prelude.{Option, Some, None, Result, Ok, Err}
use Rattle.cli_shell.specs.declared.status.PrintStatus.{PrintStatus}
use Rattle.cli_shell.specs.declared.status.PrintStatus.TheVariants as statuses
use Rattle.cli_wait.specs.declared.polls.PolledValue.{PolledValue}
use Rattle.waiters.specs.Walk.{End}
use Rattle.waiters.specs.declared.outcome.WaiterError.TheVariants as end
use Rattle.cli_wait.specs.declared.ending.WaitEnding.{WaitEnding}
use Rattle.cli_wait.specs.declared.ending.WaitEnding.TheVariants as endings

-- the final poll gave an output, or an error of the model
abbrev pub final_ending : Result PolledValue PolledValue → WaitEnding
final_ending (Ok output) = endings.Output output.payload
final_ending (Err error) = endings.Service error.payload

-- the ending that a waiter's answer tells; there is none without memory
abbrev pub ending_of : End PolledValue PolledValue → Option WaitEnding
ending_of (Ok final) = Some (final_ending final.result)
ending_of (Err (end.OperationFailed error)) = Some endings.OperationFailed
ending_of (Err (end.FailureState final)) = Some endings.FailureState
ending_of (Err (end.ExceededMaxWait max_wait elapsed poll_count)) =
    Some (endings.ExceededMaxWait max_wait elapsed poll_count)
ending_of (Err end.Unfinished) = Some endings.Unfinished
ending_of (Err end.OutOfMemory) = None

-- the waiter failed, or found what it waits for
abbrev pub came_to : WaitEnding → PrintStatus
came_to (endings.Output payload) = statuses.Ok
came_to (endings.Service payload) = statuses.Ok
came_to endings.OperationFailed = statuses.WaiterFailed
came_to endings.FailureState = statuses.WaiterFailed
came_to (endings.ExceededMaxWait max_wait elapsed poll_count) = statuses.WaiterFailed
came_to endings.Unfinished = statuses.WaiterFailed
