use Rattle.client_builder.proofs.Merging.{plugin_more}
use Rattle.client_builder.proofs.layer.put_plugins.Goals as goal

pub loop-plugin-preserved : goal.loop-plugin-preserved
loop-plugin-preserved c =
    plugin_more c.args.plugins.now c.loop-plugin.plugin-index c.plugin-item.result c.loop-plugin.layer c.put_entries.new.layer
    c.entries_of.result.now _ c.loop-plugin-test.true c.plugin-item.is c.entries_of.ensures c.in_ok-put_entries.ensures
    c.loop-plugin.invariant
