use Rattle.std.proofs.Common.{◌∙◌, ◌++◌, ◌∷◌, [], ap}
use Rattle.client_scripted.proofs.Built.{none_built, one_built}
use Rattle.client_scripted.proofs.clients.build_clients.Goals as goal

pub loop-object-init : goal.loop-object-init
loop-object-init g c = none_built _ c.args.registry.now c.args.clients.now.items

pub loop-object-preserved : goal.loop-object-preserved
loop-object-preserved g c =
    one_built _ c.args.registry.now c.loop-object.registry c.build_client.new.registry c.loop-object.yielded c.args.clients.now.items c.loop-object.clients.items c.push_reserved.new.self.items
    c.in-Some.object c.in_ok-build_client.field-0 c.loop-object.invariant c.in_ok-build_client.ensures
    (c.push_reserved.ensures.items ∙ ap (λ l. l ++ c.in_ok-build_client.field-0 ∷ []) c.in_ok-reserve.ensures.items)
