use Rattle.client_builder.specs.ClientLayer.{first_placed}
use Rattle.client_builder.proofs.Merging.{placed_more}
use Rattle.client_builder.proofs.ordered.in_order.Goals as goal

pub loop-place-init : goal.loop-place-init
unfolding first_placed
loop-place-init c = c.new-ordered.ensures

pub loop-place-preserved : goal.loop-place-preserved
loop-place-preserved c =
    placed_more c.loop-place.place c.args.layer.now c.loop-place.ordered c.put_placed.new.ordered c.entries.result.now
    c.entries.ensures.value c.loop-place.invariant c.in_ok-put_placed.ensures
