use Rattle.std.proofs.Common.{◌≡◌, drop}
use Rattle.json_forms.proofs.ReadLists.{behind}
use Rattle.json_forms.specs.Lists.{list_of}
use Rattle.json_forms.specs.View.{items_view}
use Rattle.cli_replay.specs.Script.Replay.{script_answer_at}
use Rattle.cli_replay.proofs.script.replay.read_answers.Given as goal

abbrev pub invariant-loop-value : goal.invariant-loop-value
invariant-loop-value l = behind l.answers (list_of script_answer_at (items_view (drop l.value-index l.list))) ≡ list_of script_answer_at (items_view l.list)
