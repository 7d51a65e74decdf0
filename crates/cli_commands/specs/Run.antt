-- What the program does for each command.
use Rattle.std.specs.Prelude.{ℕ, ◌≡◌, ◌≤◌, List, Option, Some, None}
use Rattle.cli_shell.specs.Fixed.{tells_text}
use Rattle.cli_shell.specs.Said.{Said}
use Rattle.cli_shell.specs.Shell.{Gives, Served}
use Rattle.cli_shell.specs.Sink.{SinkView}
use Rattle.cli_shell.specs.Source.{SourceView}
use Rattle.cli_shell.specs.Status.{status_of}
use Rattle.cli_shell.specs.declared.status.Ended.{Ended}
use Rattle.cli_shell.specs.declared.status.Ended.TheVariants.{Shell}
use Rattle.cli_shell.specs.declared.status.ShellStatus.TheVariants as shells
use Rattle.cli_shell.specs.declared.status.Status.{Status}
use Rattle.cli_wait.specs.Wait.{wait_says}
use Rattle.cli_client.specs.Client.{client_says, make_says}
use Rattle.cli_client.specs.Moments.{moments_says}
use Rattle.cli_fleet.specs.Fleet.{fleet_says}
use Rattle.cli_waiters.specs.Waiters.{waiters_says}
use Rattle.runcheck.specs.Check.{check_says}
use Rattle.cli_replay.specs.Replay.{replay_says}
use Rattle.cli_serve.specs.Conversing.{Converses}
use Rattle.cli_commands.specs.declared.help.TheConstants.{HELP, VERSION}
use Rattle.cli_commands.specs.declared.words.Command.{Command}
use Rattle.cli_commands.specs.declared.words.Command.TheVariants as commands

-- The source is as it was, and this was told.
abbrev pub Shows : {S K : Type 0} → (K → SinkView) → (Said → Type 0) → Ended → S → S → K → K → Type 0
Shows sees tells ended before after old new = (after ≡ before) × Gives sees tells ended old new

-- The input was read, and this was said of it.
abbrev pub Serves : {S K : Type 0} → (S → SourceView) → (K → SinkView) → (List ℕ → Said → Type 0) → Ended
    → S → S → K → K → Type 0
Serves reads sees says ended before after old new = Served sees says ended (reads before) (reads after) old new

-- one line for each command
abbrev pub Does : {S K : Type 0} → (S → SourceView) → (K → SinkView) → Option Command → Ended → S → S → K → K → Type 0
Does reads sees None ended before after old new = (ended ≡ Shell shells.BadWords) × (after ≡ before) × (new ≡ old)
Does reads sees (Some commands.Help) ended before after old new =
    Shows sees (tells_text HELP.now) ended before after old new
Does reads sees (Some commands.Version) ended before after old new =
    Shows sees (tells_text VERSION.now) ended before after old new
Does reads sees (Some commands.Replay) ended before after old new =
    Serves reads sees replay_says ended before after old new
Does reads sees (Some commands.Client) ended before after old new =
    Serves reads sees client_says ended before after old new
Does reads sees (Some commands.Moments) ended before after old new =
    Serves reads sees moments_says ended before after old new
Does reads sees (Some commands.Wait) ended before after old new =
    Serves reads sees wait_says ended before after old new
Does reads sees (Some commands.Waiters) ended before after old new =
    Serves reads sees waiters_says ended before after old new
Does reads sees (Some commands.Fleet) ended before after old new =
    Serves reads sees fleet_says ended before after old new
Does reads sees (Some commands.Serve) ended before after old new =
    Converses ended (reads before) (reads after) (sees old) (sees new)
Does reads sees (Some commands.Check) ended before after old new =
    Serves reads sees check_says ended before after old new
Does reads sees (Some (commands.Make count seed)) ended before after old new =
    Shows sees (make_says count seed) ended before after old new

-- The command was done, and no count of faults fell.
abbrev pub Did : {S K : Type 0} → (S → SourceView) → (K → SinkView) → Option Command → Ended → S → S → K → K → Type 0
Did reads sees command ended before after old new =
    Does reads sees command ended before after old new
    × ((reads before).faults ≤ (reads after).faults) × ((sees old).faults ≤ (sees new).faults)

-- The same, with the status of how it ended.
abbrev pub Ran : {S K : Type 0} → (S → SourceView) → (K → SinkView) → Option Command → Status → S → S → K → K → Type 0
Ran reads sees command status before after old new =
    (ended : Ended) × (status ≡ status_of ended) × Did reads sees command ended before after old new
