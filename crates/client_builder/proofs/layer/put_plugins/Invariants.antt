use Rattle.std.proofs.Common.{◌≡◌, drop, flat_map}
use Rattle.smithy_context.specs.Layer.{merged}
use Rattle.client_builder.specs.Plugins.{entries_of}
use Rattle.client_builder.proofs.layer.put_plugins.Given as goal

-- putting what is left gives what putting all gives
abbrev pub invariant-loop-plugin : goal.invariant-loop-plugin
invariant-loop-plugin l =
    merged l.layer (flat_map entries_of (drop l.plugin-index l.plugins)) ≡ merged l.fn.layer (flat_map entries_of l.plugins)
