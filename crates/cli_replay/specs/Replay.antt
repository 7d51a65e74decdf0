-- What `replay` says of its input.
use Rattle.std.specs.Prelude.{ℕ, ◌≡◌, true, List, [], IsUtf8}
use Rattle.json_forms.specs.Lines.{are_readable}
use Rattle.orchestrate.specs.Script.{Spelled}
use Rattle.orchestrate.specs.declared.script.ScriptAnswer.{ScriptAnswer}
use Rattle.run_grammar.specs.declared.answer.Entry.{Entry}
use Rattle.json_print.specs.Endings.{Ends}
use Rattle.json_print.specs.Print.{run_data, run_text}
use Rattle.json_print.specs.declared.ending.Ending.{Ending}
use Rattle.cli_replay.specs.Script.Replay.{IsScript, is_within, script_spellable}
use Rattle.cli_replay.specs.declared.script.replay.Script.{Script}
use Rattle.cli_shell.specs.Said.{Said}
use Rattle.cli_shell.specs.Scripts.{ScriptMeaning, bytes_say}
use Rattle.cli_shell.specs.declared.status.PrintStatus.{PrintStatus}
use Rattle.json_print.specs.World.Outcome.{came_to}

-- The script's operation ends so over this log, and each answer of the log is what the script gives to its question.
abbrev pub Replays : Script → List Entry → Ending → Type 0
Replays s log e = Ends s.head [] log e × (left_over : List ScriptAnswer) × Spelled s.answers log left_over

-- The text is the print of the script's run and of its ending, and this is what the ending comes to.
-- Each line is data that JSON carries, and the text is of characters.
abbrev pub IsReplay : Script → List ℕ → PrintStatus → Type 0
IsReplay s text outcome =
    (log : List Entry) × (e : Ending) × Replays s log e × (text ≡ run_text s.head log e) × (outcome ≡ came_to e)
    × (are_readable (run_data s.head log e) ≡ true) × IsUtf8 (run_text s.head log e)

-- what the scripts of `replay` are, and what is printed of each; JSON spells what is replayed
abbrev pub replay_means : ScriptMeaning Script
replay_means = record {
  is_script = IsScript;
  is_sound = λ s. script_spellable s ≡ true;
  fits = is_within;
  is_print = IsReplay;
}

-- The bytes are a script, of which this is its print or which is past its limits; or they are none.
abbrev pub replay_says : List ℕ → Said → Type 0
replay_says = bytes_say replay_means
