use Rattle.std.proofs.Common.{◌≡◌, drop}
use Rattle.cli_replay.specs.Script.Limits.{layer_keys, with_keys}
use Rattle.cli_replay.proofs.script.limits.add_entries.Given as goal

abbrev pub invariant-loop-entry : goal.invariant-loop-entry
invariant-loop-entry l = with_keys l.keys (layer_keys (drop l.entry-index l.entries)) ≡ with_keys l.initial.keys (layer_keys l.entries)
