use Rattle.std.proofs.Common.{◌≡◌, []}
use Rattle.smithy_context.specs.Layer.{merged}
use Rattle.client_builder.specs.ClientLayer.{first_placed}
use Rattle.client_builder.proofs.ordered.in_order.Given as goal

-- the entries of the places before this one were put
abbrev pub invariant-loop-place : goal.invariant-loop-place
invariant-loop-place l = l.ordered ≡ merged [] (first_placed l.place l.layer)
