-- A configuration that fails ends the run.
use Rattle.std.specs.Prelude.{true, false, ℕ, Some, List, [], ◌∷◌, ◌++◌, ◌≡◌}
use Rattle.smithy_types.specs.declared.fault.FaultKind.TheVariants as faults
use Rattle.smithy_types.specs.declared.fault.Outcome.TheVariants as outcomes
use Rattle.smithy_types.specs.declared.kinds.Phase.TheVariants as phases
use Rattle.smithy_types.specs.declared.kinds.StopPoint.{StopPoint}
use Rattle.smithy_types.specs.declared.payload.Payload.{Payload}
use Rattle.run_grammar.specs.declared.answer.Entry.{Entry}
use Rattle.run_grammar.specs.Entry.{kind_of}
use Rattle.run_grammar.specs.Standing.{State, standing, start}
use Rattle.run_grammar.specs.Laws.{IsWhole}
use Rattle.run_grammar.specs.Finals.{is_configure, is_layer}

-- an untyped failure stands, and no request was ever asked for
abbrev pub FailedUnmade : State → Type 0
FailedUnmade s =
    (t : List ℕ) × (s.context.context.view.outcome ≡ Some (outcomes.Failed (record { kind = faults.Other; text = t })))
    × (s.context.context.phase ≡ phases.BeforeSerialization)

-- a Configure that is not answered Layer is the last entry of a whole list
abbrev pub ConfigurationsEnd : Type 0
ConfigurationsEnd =
    (stop : StopPoint) (p : Payload) (before : List Entry) (e : Entry) (after : List Entry) →
    IsWhole stop (start p) (before ++ e ∷ after) →
    is_configure (kind_of e) ≡ true → is_layer e.answer ≡ false →
    (after ≡ []) × FailedUnmade (standing (start p) (before ++ e ∷ []))
