use Rattle.std.proofs.Common.{◌≡◌, drop, filter}
use Rattle.smithy_context.specs.Layer.{merged}
use Rattle.client_builder.specs.ClientLayer.{is_placed}
use Rattle.client_builder.proofs.ordered.put_placed.Given as goal

-- putting what is left gives what putting all gives
abbrev pub invariant-loop-entry : goal.invariant-loop-entry
invariant-loop-entry l =
    merged l.ordered (filter (is_placed l.place) (drop l.entry-index l.entries)) ≡ merged l.fn.ordered (filter (is_placed l.place) l.entries)
