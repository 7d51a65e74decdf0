use Rattle.std.proofs.Common.{◌≡◌, drop}
use Rattle.json_forms.specs.View.{items_view}
use Rattle.json_forms.specs.Lists.{list_of}
use Rattle.json_forms.proofs.ReadLists.{behind}
use Rattle.cli_waiters.specs.Script.Script.{waiter_at}
use Rattle.cli_waiters.proofs.script.script.waiters_in.Given as goal

abbrev pub invariant-loop-value : goal.invariant-loop-value
invariant-loop-value l = behind l.waiters (list_of waiter_at (items_view (drop l.value-index l.list))) ≡ list_of waiter_at (items_view l.list)
