use Rattle.std.proofs.Common.{◌≡◌, drop}
use Rattle.smithy_context.specs.Layer.{merged}
use Rattle.smithy_base.proofs.walk.merge_layer.Given as goal

-- putting what is left into the layer gives what putting all gives
abbrev pub invariant-loop-entry : goal.invariant-loop-entry
invariant-loop-entry l = merged l.layer (drop l.entry-index l.other) ≡ merged l.fn.layer l.other
