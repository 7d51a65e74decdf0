-- Exit statuses.
use Rattle.std.specs.Prelude.{ℕ}
use Rattle.cli_shell.specs.declared.status.Ended.{Ended}
use Rattle.cli_shell.specs.declared.status.Ended.TheVariants.{Printed, Refused, Shell}
use Rattle.cli_shell.specs.declared.status.PrintStatus.{PrintStatus}
use Rattle.cli_shell.specs.declared.status.PrintStatus.TheVariants as prints
use Rattle.cli_shell.specs.declared.status.Refusal.{Refusal}
use Rattle.cli_shell.specs.declared.status.Refusal.TheVariants as refusals
use Rattle.cli_shell.specs.declared.status.ShellStatus.{ShellStatus}
use Rattle.cli_shell.specs.declared.status.ShellStatus.TheVariants as shells
use Rattle.cli_shell.specs.declared.status.Status.{Status}
use Rattle.cli_shell.specs.declared.status.Status.TheVariants as statuses

-- the exit status of a process
abbrev pub number_of : Status → ℕ
number_of statuses.Ok = 0
number_of statuses.BadWords = 1
number_of statuses.BadScript = 2
number_of statuses.ReadFault = 3
number_of statuses.WriteFault = 4
number_of statuses.OutOfMemory = 5
number_of statuses.TooLarge = 6
number_of statuses.NotBuilt = 7
number_of statuses.SdkError = 10
number_of statuses.Unfinished = 11
number_of statuses.WrongType = 12
number_of statuses.CheckNo = 13
number_of statuses.WaiterFailed = 20

-- the status of a command that printed
abbrev pub printed_status : PrintStatus → Status
printed_status prints.Ok = statuses.Ok
printed_status prints.SdkError = statuses.SdkError
printed_status prints.Unfinished = statuses.Unfinished
printed_status prints.WrongType = statuses.WrongType
printed_status prints.CheckNo = statuses.CheckNo
printed_status prints.WaiterFailed = statuses.WaiterFailed

-- the status of a command that refused its input
abbrev pub refused_status : Refusal → Status
refused_status refusals.BadScript = statuses.BadScript
refused_status refusals.TooLarge = statuses.TooLarge
refused_status refusals.NotBuilt = statuses.NotBuilt

-- an input that is too long is too large
abbrev pub shell_status : ShellStatus → Status
shell_status shells.BadWords = statuses.BadWords
shell_status shells.ReadFault = statuses.ReadFault
shell_status shells.WriteFault = statuses.WriteFault
shell_status shells.OutOfMemory = statuses.OutOfMemory
shell_status shells.LongInput = statuses.TooLarge

-- the status of a command, however it ended
abbrev pub status_of : Ended → Status
status_of (Printed status) = printed_status status
status_of (Refused refusal) = refused_status refusal
status_of (Shell status) = shell_status status
