-- What the bytes of a script determine.
use Rattle.std.specs.Prelude.{ℕ, ◌≡◌, ◌≤◌, Bool, true, false, List, Some, codes, length}
use Rattle.runcheck.specs.Reach.{Reach}
use Rattle.cli_replay.specs.Script.Replay.{IsScript, is_within}
use Rattle.cli_replay.specs.declared.script.replay.Script.{Script}
use Rattle.cli_shell.specs.Determined.{is_answer}
use Rattle.cli_shell.specs.Said.{Said, prints}
use Rattle.cli_shell.specs.Shell.{Served}
use Rattle.cli_shell.specs.Sink.{SinkView}
use Rattle.cli_shell.specs.Source.{SourceView}
use Rattle.cli_shell.specs.declared.status.Ended.{Ended}
use Rattle.cli_shell.specs.declared.status.Ended.TheVariants.{Printed, Refused, Shell}
use Rattle.cli_shell.specs.declared.status.PrintStatus.{PrintStatus}
use Rattle.cli_shell.specs.declared.status.PrintStatus.TheVariants as outcomes
use Rattle.runcheck.specs.Check.{check_says, line_of}
use Rattle.cli_replay.specs.Replay.{replay_says}

-- a whole print was written
abbrev pub is_printed : Ended → Bool
is_printed (Printed outcome) = true
is_printed (Refused refusal) = false
is_printed (Shell status) = false

-- A script within its limits is replayed, faults and want of memory aside.
abbrev pub EachScriptIsReplayed : {K : Type 0} → (K → SinkView) → Type 0
EachScriptIsReplayed {K} view =
    (bytes : List ℕ) (s : Script) (ended : Ended) (before after : SourceView) (old new : K) →
    before.left ≡ Some bytes → length bytes ≤ 16777216 →
    IsScript bytes s → is_within s ≡ true → is_answer ended ≡ true →
    Served view replay_says ended before after old new → is_printed ended ≡ true

-- What `replay` prints is the print of a whole run, unless the fuel was used up: `check` says Yes of it, or No.
abbrev pub ReplaysAreReached : Type 0
ReplaysAreReached = (bytes text : List ℕ) (outcome : PrintStatus) → replay_says bytes (prints outcome text) →
    ((outcome ≡ outcomes.Unfinished → ⊥) → Reach text) × (outcome ≡ outcomes.Unfinished → Reach text → ⊥)

-- What `replay` prints is answered by `check`: Yes where it has an output, an error, a stop or a payload
-- of another type, and No where it is Unfinished.
abbrev pub ReplaysAreChecked : Type 0
ReplaysAreChecked =
    (bytes text : List ℕ) (outcome : PrintStatus) (said : Said) →
    replay_says bytes (prints outcome text) → check_says text said →
    ((outcome ≡ outcomes.Unfinished → ⊥) → said ≡ prints outcomes.Ok (line_of (codes "yes")))
    × (outcome ≡ outcomes.Unfinished → said ≡ prints outcomes.CheckNo (line_of (codes "no")))
