use Rattle.std.proofs.Common.{◌≡◌, drop}
use Rattle.json_forms.specs.View.{items_view}
use Rattle.json_forms.specs.Lists.{list_of}
use Rattle.json_forms.proofs.ReadLists.{behind}
use Rattle.cli_wait.specs.Script.{poll_at}
use Rattle.cli_wait.proofs.script.polls_in.Given as goal

abbrev pub invariant-loop-value : goal.invariant-loop-value
invariant-loop-value l = behind l.polls (list_of poll_at (items_view (drop l.value-index l.list))) ≡ list_of poll_at (items_view l.list)
