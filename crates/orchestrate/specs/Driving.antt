-- What an Invocation stands for.
use Rattle.std.specs.Prelude.{Bool, true, false, Option, None, Some, cond, [], ◌∷◌}
use Rattle.run_grammar.specs.declared.kind.Role.TheVariants.{Attempt, Operation}
use Rattle.run_grammar.specs.declared.kind.Kind.{Kind}
use Rattle.run_grammar.specs.declared.kind.Kind.TheVariants as kinds
use Rattle.smithy_types.specs.declared.kinds.StopPoint.{StopPoint}
use Rattle.orchestrate.specs.declared.point.Point.{Point}
use Rattle.orchestrate.specs.declared.point.Point.TheVariants.{AtChoose, AtEndpoint, AtApply, AtSign, AtTransmit}
use Rattle.orchestrate.specs.declared.point.Point.TheVariants.{AtStream, AtBody, AtDeserialize}
use Rattle.orchestrate.specs.declared.point.Point.TheVariants.{AtCutModifyBeforeAttemptCompletion, AtConfigureClient}
use Rattle.orchestrate.specs.declared.point.Point.TheVariants.{AtConfigureOperation, AtConfigureFinal}
use Rattle.orchestrate.specs.declared.point.Point.TheVariants.{AtStartOperationFailed, AtStartOperation}
use Rattle.orchestrate.specs.declared.point.Point.TheVariants.{AtCutReadAfterAttempt}
use Rattle.orchestrate.specs.declared.point.Point.TheVariants as points
use Rattle.smithy_types.specs.Hooks.{of_attempt, of_operation, part_of}
use Rattle.orchestrate.specs.declared.stage.Armed.{Armed}
use Rattle.orchestrate.specs.declared.stage.Place.{Place}
use Rattle.run_grammar.specs.declared.answer.Entry.{Entry}
use Rattle.orchestrate.specs.declared.stage.Waiting.{Waiting}
use Rattle.orchestrate.specs.declared.stage.Waiting.TheVariants.{NotWaiting, ForAttempt, ForOperation, ForPark}
use Rattle.orchestrate.specs.declared.stage.Waiting.TheVariants.{CutByAttempt, CutByOperation}
use Rattle.orchestrate.specs.declared.stage.Stage.{Stage}
use Rattle.run_grammar.specs.Entry.{pending, abandon_of}
use Rattle.run_grammar.specs.Standing.{State}
use Rattle.run_grammar.specs.Machine.{Position, Whole, Asking}
use Rattle.run_grammar.specs.Machine.{Waiting as Waits, Cutting}
use Rattle.orchestrate.specs.Points.{kind_at, left_at, scope_at, operation_scope, here, next_point, finishing_at}
use Rattle.orchestrate.specs.Points.{settling_at}

-- the position before the next question at the point, by what is waited for there
abbrev pub waiting_at : StopPoint → Armed → Point → Waiting → Position
waiting_at stop m p NotWaiting = Asking (kind_at p) (scope_at m p) (left_at stop m p)
waiting_at stop m p ForAttempt = Waits (kind_at p) (scope_at m p) (Attempt ∷ operation_scope m) (left_at stop m p)
waiting_at stop m p ForOperation = Waits (kind_at p) (scope_at m p) (Operation ∷ []) (left_at stop m p)
waiting_at stop m p ForPark = Waits (kind_at p) (scope_at m p) [] (left_at stop m p)
waiting_at stop m p CutByAttempt = Cutting (kind_at p) Attempt (left_at stop m p)
waiting_at stop m p CutByOperation = Cutting (kind_at p) Operation (left_at stop m p)

-- the position at the point; without a point the run is whole
abbrev pub position_of : StopPoint → Armed → Option Point → Waiting → Position
position_of stop m None w = Whole
position_of stop m (Some p) w = waiting_at stop m p w

-- the position of a stage
abbrev pub stage_position : StopPoint → Stage → Position
stage_position stop g = position_of stop g.place.armed g.place.point g.waiting

-- the question of a point
abbrev pub asks_at : Point → Waiting → Kind
asks_at p NotWaiting = kind_at p
asks_at p ForAttempt = kinds.Wait Attempt
asks_at p ForOperation = kinds.Wait Operation
asks_at p ForPark = kinds.Park
asks_at p CutByAttempt = abandon_of (kind_at p)
asks_at p CutByOperation = abandon_of (kind_at p)

-- whether the point lies where the attempt's deadline can cut
abbrev pub is_in_attempt : Point → Bool
is_in_attempt (points.Hook h) = of_attempt (part_of h)
is_in_attempt AtChoose = true
is_in_attempt AtEndpoint = true
is_in_attempt AtApply = true
is_in_attempt AtSign = true
is_in_attempt AtTransmit = true
is_in_attempt AtStream = true
is_in_attempt AtBody = true
is_in_attempt AtDeserialize = true
is_in_attempt _ = false

-- whether the point lies where the operation's deadline can cut
abbrev pub is_in_operation : Point → Bool
is_in_operation (points.Hook h) = of_operation (part_of h)
is_in_operation AtConfigureClient = false
is_in_operation AtConfigureOperation = false
is_in_operation AtConfigureFinal = false
is_in_operation AtStartOperationFailed = false
is_in_operation AtStartOperation = false
is_in_operation AtCutModifyBeforeAttemptCompletion = false
is_in_operation AtCutReadAfterAttempt = false
is_in_operation _ = true

-- what is asked first after Pending: the innermost deadline that is armed there, and a park where none is
abbrev pub first_wait : Armed → Point → Waiting
first_wait m p =
    cond (cond m.attempt (is_in_attempt p) false) ForAttempt
    (cond (cond m.operation (is_in_operation p) false) ForOperation ForPark)

-- the stage at this place, with what is waited for there
abbrev pub stage : Place → Waiting → Stage
stage q w = record { place = q; waiting = w }

-- the stage after an entry; s stands after it
abbrev pub moved_at : StopPoint → Armed → Point → Waiting → State → Entry → Stage
moved_at stop m p NotWaiting s e =
    cond (pending e) (stage (here m p) (first_wait m p)) (stage (next_point stop m p s) NotWaiting)
moved_at stop m p ForAttempt s e =
    stage (here m p) (cond (pending e) (cond m.operation ForOperation ForPark) CutByAttempt)
moved_at stop m p ForOperation s e = stage (here m p) (cond (pending e) ForPark CutByOperation)
moved_at stop m p ForPark s e = stage (here m p) NotWaiting
moved_at stop m p CutByAttempt s e = stage (settling_at m) NotWaiting
moved_at stop m p CutByOperation s e =
    stage (cond (is_in_attempt p) (here m AtCutModifyBeforeAttemptCompletion) (finishing_at m)) NotWaiting
