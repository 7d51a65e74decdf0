use Rattle.std.proofs.Common.{◌≡◌, drop}
use Rattle.smithy_context.specs.Layer.{merged}
use Rattle.client_builder.proofs.layer.put_entries.Given as goal

-- putting what is left gives what putting all gives
abbrev pub invariant-loop-entry : goal.invariant-loop-entry
invariant-loop-entry l = merged l.layer (drop l.entry-index l.entries) ≡ merged l.fn.layer l.entries
