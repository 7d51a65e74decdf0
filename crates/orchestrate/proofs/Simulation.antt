-- The next point is the machine's next position.
use Rattle.std.proofs.Common.{false, ◌≡◌, arith}
use Rattle.orchestrate.specs.declared.point.Point.{Point}
use Rattle.smithy_types.specs.declared.kinds.StopPoint.{StopPoint}
use Rattle.orchestrate.specs.declared.stage.Armed.{Armed}
use Rattle.orchestrate.specs.declared.point.Point.TheVariants.{AtApply, AtBody, AtChoose, AtConfigureClient, AtConfigureFinal, AtConfigureOperation, AtCutModifyBeforeAttemptCompletion, AtCutReadAfterAttempt, AtDecide, AtDeserialize, AtEndpoint, AtInitial, AtLoad, AtSerialize, AtSign, AtStartAttempt, AtStartLongPoll, AtStartOperation, AtStartOperationFailed, AtStartRetry, AtStartSend, AtStream, AtTokenInitial, AtTokenStartSend, AtTokenWaitSend, AtTransmit, AtWaitLongPoll, AtWaitRetry, AtWaitSend}
use Rattle.orchestrate.specs.declared.point.Point.TheVariants as points
use Rattle.smithy_types.specs.declared.hook.Hook.TheVariants as hooks
use Rattle.run_grammar.specs.declared.kind.Role.TheVariants.{Attempt, Operation}
use Rattle.run_grammar.specs.Standing.{State}
use Rattle.run_grammar.specs.Tests.{started, went, went_on}
use Rattle.orchestrate.specs.Points.{next_point, placed, left_at}
use Rattle.run_grammar.specs.Machine.{begin}

abbrev pub Follows : StopPoint → Armed → Point → State → Type 0
Follows stop m p s = begin (left_at stop m p) s ≡ placed stop (next_point stop m p s)

pub follows_AtConfigureClient : (stop : StopPoint) (m : Armed) (s : State) → Follows stop m AtConfigureClient s
follows_AtConfigureClient stop m s = grind arith

pub follows_AtHookClient : (stop : StopPoint) (m : Armed) (s : State) → Follows stop m (points.Hook hooks.ReadBeforeExecutionClient) s
follows_AtHookClient stop m s = grind arith

pub follows_AtConfigureOperation : (stop : StopPoint) (m : Armed) (s : State) → Follows stop m AtConfigureOperation s
follows_AtConfigureOperation stop m s = grind arith

pub follows_AtHookOperation : (stop : StopPoint) (m : Armed) (s : State) → Follows stop m (points.Hook hooks.ReadBeforeExecutionOperation) s
follows_AtHookOperation stop m s = grind arith

pub follows_AtConfigureFinal : (stop : StopPoint) (m : Armed) (s : State) → started Operation s ≡ false → Follows stop m AtConfigureFinal s
follows_AtConfigureFinal stop m s h = grind arith

pub follows_AtStartOperationFailed : (stop : StopPoint) (m : Armed) (s : State) → Follows stop m AtStartOperationFailed s
follows_AtStartOperationFailed stop m s = grind arith

pub follows_AtStartOperation : (stop : StopPoint) (m : Armed) (s : State) → Follows stop m AtStartOperation s
follows_AtStartOperation stop m s = grind arith

pub follows_AtModifyBeforeSerialization : (stop : StopPoint) (m : Armed) (s : State) → Follows stop m (points.Hook hooks.ModifyBeforeSerialization) s
follows_AtModifyBeforeSerialization stop m s = grind arith

pub follows_AtReadBeforeSerialization : (stop : StopPoint) (m : Armed) (s : State) → Follows stop m (points.Hook hooks.ReadBeforeSerialization) s
follows_AtReadBeforeSerialization stop m s = grind arith

pub follows_AtSerialize : (stop : StopPoint) (m : Armed) (s : State) → Follows stop m AtSerialize s
follows_AtSerialize stop m s = grind arith

pub follows_AtLoad : (stop : StopPoint) (m : Armed) (s : State) → Follows stop m AtLoad s
follows_AtLoad stop m s = grind arith

pub follows_AtReadAfterSerialization : (stop : StopPoint) (m : Armed) (s : State) → Follows stop m (points.Hook hooks.ReadAfterSerialization) s
follows_AtReadAfterSerialization stop m s = grind arith

pub follows_AtModifyBeforeRetryLoop : (stop : StopPoint) (m : Armed) (s : State) → Follows stop m (points.Hook hooks.ModifyBeforeRetryLoop) s
follows_AtModifyBeforeRetryLoop stop m s = grind arith

pub follows_AtInitial : (stop : StopPoint) (m : Armed) (s : State) → started Attempt s ≡ false → Follows stop m AtInitial s
follows_AtInitial stop m s h = grind arith

pub follows_AtStartSend : (stop : StopPoint) (m : Armed) (s : State) → went s ≡ false → Follows stop m AtStartSend s
follows_AtStartSend stop m s h = grind arith

pub follows_AtWaitSend : (stop : StopPoint) (m : Armed) (s : State) → Follows stop m AtWaitSend s
follows_AtWaitSend stop m s = grind arith

pub follows_AtStartAttempt : (stop : StopPoint) (m : Armed) (s : State) → Follows stop m AtStartAttempt s
follows_AtStartAttempt stop m s = grind arith

pub follows_AtReadBeforeAttempt : (stop : StopPoint) (m : Armed) (s : State) → Follows stop m (points.Hook hooks.ReadBeforeAttempt) s
follows_AtReadBeforeAttempt stop m s = grind arith

pub follows_AtChoose : (stop : StopPoint) (m : Armed) (s : State) → Follows stop m AtChoose s
follows_AtChoose stop m s = grind arith

pub follows_AtEndpoint : (stop : StopPoint) (m : Armed) (s : State) → Follows stop m AtEndpoint s
follows_AtEndpoint stop m s = grind arith

pub follows_AtApply : (stop : StopPoint) (m : Armed) (s : State) → Follows stop m AtApply s
follows_AtApply stop m s = grind arith

pub follows_AtModifyBeforeSigning : (stop : StopPoint) (m : Armed) (s : State) → Follows stop m (points.Hook hooks.ModifyBeforeSigning) s
follows_AtModifyBeforeSigning stop m s = grind arith

pub follows_AtReadBeforeSigning : (stop : StopPoint) (m : Armed) (s : State) → Follows stop m (points.Hook hooks.ReadBeforeSigning) s
follows_AtReadBeforeSigning stop m s = grind arith

pub follows_AtSign : (stop : StopPoint) (m : Armed) (s : State) → Follows stop m AtSign s
follows_AtSign stop m s = grind arith

pub follows_AtReadAfterSigning : (stop : StopPoint) (m : Armed) (s : State) → Follows stop m (points.Hook hooks.ReadAfterSigning) s
follows_AtReadAfterSigning stop m s = grind arith

pub follows_AtModifyBeforeTransmit : (stop : StopPoint) (m : Armed) (s : State) → Follows stop m (points.Hook hooks.ModifyBeforeTransmit) s
follows_AtModifyBeforeTransmit stop m s = grind arith

pub follows_AtReadBeforeTransmit : (stop : StopPoint) (m : Armed) (s : State) → Follows stop m (points.Hook hooks.ReadBeforeTransmit) s
follows_AtReadBeforeTransmit stop m s = grind arith

pub follows_AtTransmit : (stop : StopPoint) (m : Armed) (s : State) → Follows stop m AtTransmit s
follows_AtTransmit stop m s = grind arith

pub follows_AtReadAfterTransmit : (stop : StopPoint) (m : Armed) (s : State) → Follows stop m (points.Hook hooks.ReadAfterTransmit) s
follows_AtReadAfterTransmit stop m s = grind arith

pub follows_AtModifyBeforeDeserialization : (stop : StopPoint) (m : Armed) (s : State) → Follows stop m (points.Hook hooks.ModifyBeforeDeserialization) s
follows_AtModifyBeforeDeserialization stop m s = grind arith

pub follows_AtReadBeforeDeserialization : (stop : StopPoint) (m : Armed) (s : State) → Follows stop m (points.Hook hooks.ReadBeforeDeserialization) s
follows_AtReadBeforeDeserialization stop m s = grind arith

pub follows_AtStream : (stop : StopPoint) (m : Armed) (s : State) → Follows stop m AtStream s
follows_AtStream stop m s = grind arith

pub follows_AtBody : (stop : StopPoint) (m : Armed) (s : State) → Follows stop m AtBody s
follows_AtBody stop m s = grind arith

pub follows_AtDeserialize : (stop : StopPoint) (m : Armed) (s : State) → Follows stop m AtDeserialize s
follows_AtDeserialize stop m s = grind arith

pub follows_AtReadAfterDeserialization : (stop : StopPoint) (m : Armed) (s : State) → Follows stop m (points.Hook hooks.ReadAfterDeserialization) s
follows_AtReadAfterDeserialization stop m s = grind arith

pub follows_AtModifyBeforeAttemptCompletion : (stop : StopPoint) (m : Armed) (s : State) → Follows stop m (points.Hook hooks.ModifyBeforeAttemptCompletion) s
follows_AtModifyBeforeAttemptCompletion stop m s = grind arith

pub follows_AtReadAfterAttempt : (stop : StopPoint) (m : Armed) (s : State) → Follows stop m (points.Hook hooks.ReadAfterAttempt) s
follows_AtReadAfterAttempt stop m s = grind arith

pub follows_AtDecide : (stop : StopPoint) (m : Armed) (s : State) → started Attempt s ≡ false → Follows stop m AtDecide s
follows_AtDecide stop m s h = grind arith

pub follows_AtStartRetry : (stop : StopPoint) (m : Armed) (s : State) → Follows stop m AtStartRetry s
follows_AtStartRetry stop m s = grind arith

pub follows_AtWaitRetry : (stop : StopPoint) (m : Armed) (s : State) → started Attempt s ≡ false → Follows stop m AtWaitRetry s
follows_AtWaitRetry stop m s h = grind arith

pub follows_AtCutModifyBeforeAttemptCompletion : (stop : StopPoint) (m : Armed) (s : State) → Follows stop m AtCutModifyBeforeAttemptCompletion s
follows_AtCutModifyBeforeAttemptCompletion stop m s = grind arith

pub follows_AtCutReadAfterAttempt : (stop : StopPoint) (m : Armed) (s : State) → Follows stop m AtCutReadAfterAttempt s
follows_AtCutReadAfterAttempt stop m s = grind arith

pub follows_AtModifyBeforeCompletion : (stop : StopPoint) (m : Armed) (s : State) → Follows stop m (points.Hook hooks.ModifyBeforeCompletion) s
follows_AtModifyBeforeCompletion stop m s = grind arith

pub follows_AtReadAfterExecution : (stop : StopPoint) (m : Armed) (s : State) → Follows stop m (points.Hook hooks.ReadAfterExecution) s
follows_AtReadAfterExecution stop m s = grind arith

pub follows_AtStartLongPoll : (stop : StopPoint) (m : Armed) (s : State) → Follows stop m AtStartLongPoll s
follows_AtStartLongPoll stop m s = grind arith

pub follows_AtWaitLongPoll : (stop : StopPoint) (m : Armed) (s : State) → Follows stop m AtWaitLongPoll s
follows_AtWaitLongPoll stop m s = grind arith

pub follows_AtTokenInitial : (stop : StopPoint) (m : Armed) (s : State) → started Attempt s ≡ false → Follows stop m AtTokenInitial s
follows_AtTokenInitial stop m s h = grind arith

pub follows_AtTokenStartSend : (stop : StopPoint) (m : Armed) (s : State) → went_on s ≡ false → Follows stop m AtTokenStartSend s
follows_AtTokenStartSend stop m s h = grind arith

pub follows_AtTokenWaitSend : (stop : StopPoint) (m : Armed) (s : State) → Follows stop m AtTokenWaitSend s
follows_AtTokenWaitSend stop m s = grind arith
