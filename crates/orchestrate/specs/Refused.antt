-- A configuration that fails refuses the operation.
use Rattle.std.specs.Prelude.{true, false, Err, List, ◌∷◌, ◌++◌, ◌≡◌}
use Rattle.smithy_types.specs.declared.fault.Fault.{Fault}
use Rattle.smithy_types.specs.declared.fault.SdkError.TheVariants.{ConstructionFailure}
use Rattle.smithy_types.specs.declared.kinds.StopPoint.{StopPoint}
use Rattle.smithy_types.specs.declared.payload.Payload.{Payload}
use Rattle.run_grammar.specs.declared.answer.Entry.{Entry}
use Rattle.run_grammar.specs.Entry.{kind_of}
use Rattle.run_grammar.specs.Standing.{standing, start}
use Rattle.run_grammar.specs.Laws.{IsWhole}
use Rattle.run_grammar.specs.Finals.{is_configure, is_layer}
use Rattle.orchestrate.specs.Finish.{answer_of}

-- a whole list with a Configure that is not answered Layer has a ConstructionFailure for its answer
abbrev pub ConfigurationsAreRefused : Type 0
ConfigurationsAreRefused =
    (stop : StopPoint) (p : Payload) (before : List Entry) (e : Entry) (after : List Entry) →
    IsWhole stop (start p) (before ++ e ∷ after) →
    is_configure (kind_of e) ≡ true → is_layer e.answer ≡ false →
    (f : Fault) × (answer_of (standing (start p) (before ++ e ∷ after)).context.context ≡ Err (ConstructionFailure f))
