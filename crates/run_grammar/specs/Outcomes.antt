-- What stands at the end of a whole run.
use Rattle.std.specs.Prelude.{true, is_some, List, ◌≡◌, ◌⊎◌}
use Rattle.smithy_types.specs.declared.kinds.StopPoint.{StopPoint}
use Rattle.smithy_types.specs.declared.kinds.StopPoint.TheVariants as stops
use Rattle.smithy_types.specs.declared.payload.Payload.{Payload}
use Rattle.run_grammar.specs.declared.answer.Entry.{Entry}
use Rattle.run_grammar.specs.Standing.{standing, start}
use Rattle.run_grammar.specs.Laws.{IsWhole}

-- at the end of a whole run without a stop point an output or a failure stands
abbrev pub OutcomeStands : Type 0
OutcomeStands =
    (p : Payload) (l : List Entry) → IsWhole stops.None (start p) l →
    is_some (standing (start p) l).context.context.view.outcome ≡ true

-- at the end of a whole run, to its stop point too, a request stands, or an output or a failure
abbrev pub RequestOrOutcomeStands : Type 0
RequestOrOutcomeStands = (stop : StopPoint) (p : Payload) (l : List Entry) → IsWhole stop (start p) l →
    (is_some (standing (start p) l).context.context.view.request ≡ true)
    ⊎ (is_some (standing (start p) l).context.context.view.outcome ≡ true)
