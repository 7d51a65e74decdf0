use Rattle.std.proofs.Common.{◌≡◌, ◌++◌, drop, flat_map}
use Rattle.client_builder.specs.Plugins.{options_added}
use Rattle.client_builder.proofs.prepared.add_options.Given as goal

-- what is left adds what all add
abbrev pub invariant-loop-plugin : goal.invariant-loop-plugin
invariant-loop-plugin l =
    l.options ++ flat_map options_added (drop l.plugin-index l.plugins) ≡ l.fn.options ++ flat_map options_added l.plugins
