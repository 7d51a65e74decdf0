-- What drive does is what the machine does.
use Rattle.std.proofs.Common.{Bool, true, false, cond, ◌≡◌, refl, sym, subst, arith}
use Rattle.run_grammar.specs.declared.kind.Role.{Role}
use Rattle.run_grammar.specs.declared.kind.Role.TheVariants.{Attempt, Operation, Send, Retry}
use Rattle.run_grammar.specs.declared.kind.Kind.{Kind}
use Rattle.run_grammar.specs.declared.kind.Kind.TheVariants as kinds
use Rattle.run_grammar.specs.declared.kind.ConfigureStage.TheVariants as stages
use Rattle.run_grammar.specs.declared.answer.Answer.{Answer}
use Rattle.run_grammar.specs.declared.answer.Answer.TheVariants.{Started, Absent}
use Rattle.run_grammar.specs.declared.answer.Entry.{Entry}
use Rattle.smithy_types.specs.declared.kinds.StopPoint.{StopPoint}
use Rattle.orchestrate.specs.declared.stage.Armed.{Armed}
use Rattle.orchestrate.specs.declared.point.Point.{Point}
use Rattle.orchestrate.specs.declared.point.Point.TheVariants.{AtConfigureClient, AtConfigureOperation, AtConfigureFinal, AtStartOperationFailed, AtStartOperation, AtSerialize, AtLoad, AtInitial, AtStartSend, AtWaitSend, AtStartAttempt, AtChoose, AtEndpoint, AtApply, AtSign, AtTransmit, AtStream, AtBody, AtDeserialize, AtDecide, AtStartRetry, AtWaitRetry, AtStartLongPoll, AtWaitLongPoll, AtTokenInitial, AtTokenStartSend, AtTokenWaitSend, AtCutModifyBeforeAttemptCompletion, AtCutReadAfterAttempt}
use Rattle.orchestrate.specs.declared.point.Point.TheVariants as points
use Rattle.smithy_types.specs.declared.hook.Hook.TheVariants as hooks
use Rattle.run_grammar.specs.Entry.{kind_of}
use Rattle.run_grammar.specs.Fits.{fits, fits_start}
use Rattle.run_grammar.specs.Standing.{State, step}
use Rattle.run_grammar.specs.Tests.{started, went, went_on, is_start_of, answers_started, answers_go, answers_go_or_no}
use Rattle.run_grammar.specs.Machine.{Rest, Left, Out, cut, after_cut}
use Rattle.run_grammar.specs.Machine.{Waiting as Waits}
use Rattle.orchestrate.specs.Points.{kind_at, left_at, scope_at, here, finishing_at, settling_at, placed}
use Rattle.orchestrate.specs.Driving.{waiting_at, is_in_attempt, first_wait}
use Rattle.orchestrate.proofs.Simulation.{Follows, follows_AtConfigureClient, follows_AtHookClient, follows_AtConfigureOperation, follows_AtHookOperation, follows_AtConfigureFinal, follows_AtStartOperationFailed, follows_AtStartOperation, follows_AtModifyBeforeSerialization, follows_AtReadBeforeSerialization, follows_AtSerialize, follows_AtLoad, follows_AtReadAfterSerialization, follows_AtModifyBeforeRetryLoop, follows_AtInitial, follows_AtStartSend, follows_AtWaitSend, follows_AtStartAttempt, follows_AtReadBeforeAttempt, follows_AtChoose, follows_AtEndpoint, follows_AtApply, follows_AtModifyBeforeSigning, follows_AtReadBeforeSigning, follows_AtSign, follows_AtReadAfterSigning, follows_AtModifyBeforeTransmit, follows_AtReadBeforeTransmit, follows_AtTransmit, follows_AtReadAfterTransmit, follows_AtModifyBeforeDeserialization, follows_AtReadBeforeDeserialization, follows_AtStream, follows_AtBody, follows_AtDeserialize, follows_AtReadAfterDeserialization, follows_AtModifyBeforeAttemptCompletion, follows_AtReadAfterAttempt, follows_AtDecide, follows_AtStartRetry, follows_AtWaitRetry, follows_AtStartLongPoll, follows_AtWaitLongPoll, follows_AtTokenInitial, follows_AtTokenStartSend, follows_AtTokenWaitSend, follows_AtCutModifyBeforeAttemptCompletion, follows_AtCutReadAfterAttempt, follows_AtModifyBeforeCompletion, follows_AtReadAfterExecution}
use Rattle.run_grammar.proofs.Going.{IsLeft}

-- the last entry is not of that kind
not_started : (r : Role) (s : State) (e : Entry) (k : Kind) → is_start_of r k ≡ false → kind_of e ≡ k → started r (step s e) ≡ false
unfolding started step
not_started r s e k h g = subst (λ j. cond (is_start_of r j) (answers_started e.answer) false ≡ false) (sym g) (subst (λ b. cond b (answers_started e.answer) false ≡ false) (sym h) refl)

start_not_go : (a : Answer) → fits_start a ≡ true → answers_go a ≡ false
start_not_go Started h = refl
start_not_go Absent h = refl
start_not_go _ h = absurd (cc)

not_went : (s : State) (e : Entry) → kind_of e ≡ kinds.Start Send → fits (kind_of e) e.answer ≡ true → went (step s e) ≡ false
unfolding went step fits
not_went s e k h = start_not_go e.answer (subst (λ j. fits j e.answer ≡ true) k h)

start_not_go_on : (a : Answer) → fits_start a ≡ true → answers_go_or_no a ≡ false
start_not_go_on Started h = refl
start_not_go_on Absent h = refl
start_not_go_on _ h = absurd (cc)

not_went_on : (s : State) (e : Entry) → kind_of e ≡ kinds.Start Send → fits (kind_of e) e.answer ≡ true → went_on (step s e) ≡ false
unfolding went_on step fits
not_went_on s e k h = start_not_go_on e.answer (subst (λ j. fits j e.answer ≡ true) k h)

pub follows : (stop : StopPoint) (m : Armed) (p : Point) (s : State) (e : Entry) → kind_of e ≡ kind_at p → fits (kind_of e) e.answer ≡ true → Follows stop m p (step s e)
follows stop m AtConfigureClient s e k h = follows_AtConfigureClient stop m (step s e)
follows stop m (points.Hook hooks.ReadBeforeExecutionClient) s e k h = follows_AtHookClient stop m (step s e)
follows stop m AtConfigureOperation s e k h = follows_AtConfigureOperation stop m (step s e)
follows stop m (points.Hook hooks.ReadBeforeExecutionOperation) s e k h = follows_AtHookOperation stop m (step s e)
follows stop m AtConfigureFinal s e k h = follows_AtConfigureFinal stop m (step s e) (not_started Operation s e (kinds.Configure stages.Final) refl k)
follows stop m AtStartOperationFailed s e k h = follows_AtStartOperationFailed stop m (step s e)
follows stop m AtStartOperation s e k h = follows_AtStartOperation stop m (step s e)
follows stop m (points.Hook hooks.ModifyBeforeSerialization) s e k h = follows_AtModifyBeforeSerialization stop m (step s e)
follows stop m (points.Hook hooks.ReadBeforeSerialization) s e k h = follows_AtReadBeforeSerialization stop m (step s e)
follows stop m AtSerialize s e k h = follows_AtSerialize stop m (step s e)
follows stop m AtLoad s e k h = follows_AtLoad stop m (step s e)
follows stop m (points.Hook hooks.ReadAfterSerialization) s e k h = follows_AtReadAfterSerialization stop m (step s e)
follows stop m (points.Hook hooks.ModifyBeforeRetryLoop) s e k h = follows_AtModifyBeforeRetryLoop stop m (step s e)
follows stop m AtInitial s e k h = follows_AtInitial stop m (step s e) (not_started Attempt s e kinds.Initial refl k)
follows stop m AtStartSend s e k h = follows_AtStartSend stop m (step s e) (not_went s e k h)
follows stop m AtWaitSend s e k h = follows_AtWaitSend stop m (step s e)
follows stop m AtStartAttempt s e k h = follows_AtStartAttempt stop m (step s e)
follows stop m (points.Hook hooks.ReadBeforeAttempt) s e k h = follows_AtReadBeforeAttempt stop m (step s e)
follows stop m AtChoose s e k h = follows_AtChoose stop m (step s e)
follows stop m AtEndpoint s e k h = follows_AtEndpoint stop m (step s e)
follows stop m AtApply s e k h = follows_AtApply stop m (step s e)
follows stop m (points.Hook hooks.ModifyBeforeSigning) s e k h = follows_AtModifyBeforeSigning stop m (step s e)
follows stop m (points.Hook hooks.ReadBeforeSigning) s e k h = follows_AtReadBeforeSigning stop m (step s e)
follows stop m AtSign s e k h = follows_AtSign stop m (step s e)
follows stop m (points.Hook hooks.ReadAfterSigning) s e k h = follows_AtReadAfterSigning stop m (step s e)
follows stop m (points.Hook hooks.ModifyBeforeTransmit) s e k h = follows_AtModifyBeforeTransmit stop m (step s e)
follows stop m (points.Hook hooks.ReadBeforeTransmit) s e k h = follows_AtReadBeforeTransmit stop m (step s e)
follows stop m AtTransmit s e k h = follows_AtTransmit stop m (step s e)
follows stop m (points.Hook hooks.ReadAfterTransmit) s e k h = follows_AtReadAfterTransmit stop m (step s e)
follows stop m (points.Hook hooks.ModifyBeforeDeserialization) s e k h = follows_AtModifyBeforeDeserialization stop m (step s e)
follows stop m (points.Hook hooks.ReadBeforeDeserialization) s e k h = follows_AtReadBeforeDeserialization stop m (step s e)
follows stop m AtStream s e k h = follows_AtStream stop m (step s e)
follows stop m AtBody s e k h = follows_AtBody stop m (step s e)
follows stop m AtDeserialize s e k h = follows_AtDeserialize stop m (step s e)
follows stop m (points.Hook hooks.ReadAfterDeserialization) s e k h = follows_AtReadAfterDeserialization stop m (step s e)
follows stop m (points.Hook hooks.ModifyBeforeAttemptCompletion) s e k h = follows_AtModifyBeforeAttemptCompletion stop m (step s e)
follows stop m (points.Hook hooks.ReadAfterAttempt) s e k h = follows_AtReadAfterAttempt stop m (step s e)
follows stop m AtDecide s e k h = follows_AtDecide stop m (step s e) (not_started Attempt s e kinds.Decide refl k)
follows stop m AtStartRetry s e k h = follows_AtStartRetry stop m (step s e)
follows stop m AtWaitRetry s e k h = follows_AtWaitRetry stop m (step s e) (not_started Attempt s e (kinds.Wait Retry) refl k)
follows stop m AtStartLongPoll s e k h = follows_AtStartLongPoll stop m (step s e)
follows stop m AtWaitLongPoll s e k h = follows_AtWaitLongPoll stop m (step s e)
follows stop m AtTokenInitial s e k h = follows_AtTokenInitial stop m (step s e) (not_started Attempt s e kinds.Initial refl k)
follows stop m AtTokenStartSend s e k h = follows_AtTokenStartSend stop m (step s e) (not_went_on s e k h)
follows stop m AtTokenWaitSend s e k h = follows_AtTokenWaitSend stop m (step s e)
follows stop m AtCutModifyBeforeAttemptCompletion s e k h = follows_AtCutModifyBeforeAttemptCompletion stop m (step s e)
follows stop m AtCutReadAfterAttempt s e k h = follows_AtCutReadAfterAttempt stop m (step s e)
follows stop m (points.Hook hooks.ModifyBeforeCompletion) s e k h = follows_AtModifyBeforeCompletion stop m (step s e)
follows stop m (points.Hook hooks.ReadAfterExecution) s e k h = follows_AtReadAfterExecution stop m (step s e)

waits_AtConfigureClient : (stop : StopPoint) (m : Armed) → Waits (kind_at AtConfigureClient) (scope_at m AtConfigureClient) (scope_at m AtConfigureClient) (left_at stop m AtConfigureClient) ≡ waiting_at stop m AtConfigureClient (first_wait m AtConfigureClient)
waits_AtConfigureClient stop m = grind arith

waits_AtHookClient : (stop : StopPoint) (m : Armed) → Waits (kind_at (points.Hook hooks.ReadBeforeExecutionClient)) (scope_at m (points.Hook hooks.ReadBeforeExecutionClient)) (scope_at m (points.Hook hooks.ReadBeforeExecutionClient)) (left_at stop m (points.Hook hooks.ReadBeforeExecutionClient)) ≡ waiting_at stop m (points.Hook hooks.ReadBeforeExecutionClient) (first_wait m (points.Hook hooks.ReadBeforeExecutionClient))
waits_AtHookClient stop m = grind arith

waits_AtConfigureOperation : (stop : StopPoint) (m : Armed) → Waits (kind_at AtConfigureOperation) (scope_at m AtConfigureOperation) (scope_at m AtConfigureOperation) (left_at stop m AtConfigureOperation) ≡ waiting_at stop m AtConfigureOperation (first_wait m AtConfigureOperation)
waits_AtConfigureOperation stop m = grind arith

waits_AtHookOperation : (stop : StopPoint) (m : Armed) → Waits (kind_at (points.Hook hooks.ReadBeforeExecutionOperation)) (scope_at m (points.Hook hooks.ReadBeforeExecutionOperation)) (scope_at m (points.Hook hooks.ReadBeforeExecutionOperation)) (left_at stop m (points.Hook hooks.ReadBeforeExecutionOperation)) ≡ waiting_at stop m (points.Hook hooks.ReadBeforeExecutionOperation) (first_wait m (points.Hook hooks.ReadBeforeExecutionOperation))
waits_AtHookOperation stop m = grind arith

waits_AtConfigureFinal : (stop : StopPoint) (m : Armed) → Waits (kind_at AtConfigureFinal) (scope_at m AtConfigureFinal) (scope_at m AtConfigureFinal) (left_at stop m AtConfigureFinal) ≡ waiting_at stop m AtConfigureFinal (first_wait m AtConfigureFinal)
waits_AtConfigureFinal stop m = grind arith

waits_AtStartOperationFailed : (stop : StopPoint) (m : Armed) → Waits (kind_at AtStartOperationFailed) (scope_at m AtStartOperationFailed) (scope_at m AtStartOperationFailed) (left_at stop m AtStartOperationFailed) ≡ waiting_at stop m AtStartOperationFailed (first_wait m AtStartOperationFailed)
waits_AtStartOperationFailed stop m = grind arith

waits_AtStartOperation : (stop : StopPoint) (m : Armed) → Waits (kind_at AtStartOperation) (scope_at m AtStartOperation) (scope_at m AtStartOperation) (left_at stop m AtStartOperation) ≡ waiting_at stop m AtStartOperation (first_wait m AtStartOperation)
waits_AtStartOperation stop m = grind arith

waits_AtModifyBeforeSerialization : (stop : StopPoint) (m : Armed) → Waits (kind_at (points.Hook hooks.ModifyBeforeSerialization)) (scope_at m (points.Hook hooks.ModifyBeforeSerialization)) (scope_at m (points.Hook hooks.ModifyBeforeSerialization)) (left_at stop m (points.Hook hooks.ModifyBeforeSerialization)) ≡ waiting_at stop m (points.Hook hooks.ModifyBeforeSerialization) (first_wait m (points.Hook hooks.ModifyBeforeSerialization))
waits_AtModifyBeforeSerialization stop m = grind arith

waits_AtReadBeforeSerialization : (stop : StopPoint) (m : Armed) → Waits (kind_at (points.Hook hooks.ReadBeforeSerialization)) (scope_at m (points.Hook hooks.ReadBeforeSerialization)) (scope_at m (points.Hook hooks.ReadBeforeSerialization)) (left_at stop m (points.Hook hooks.ReadBeforeSerialization)) ≡ waiting_at stop m (points.Hook hooks.ReadBeforeSerialization) (first_wait m (points.Hook hooks.ReadBeforeSerialization))
waits_AtReadBeforeSerialization stop m = grind arith

waits_AtSerialize : (stop : StopPoint) (m : Armed) → Waits (kind_at AtSerialize) (scope_at m AtSerialize) (scope_at m AtSerialize) (left_at stop m AtSerialize) ≡ waiting_at stop m AtSerialize (first_wait m AtSerialize)
waits_AtSerialize stop m = grind arith

waits_AtLoad : (stop : StopPoint) (m : Armed) → Waits (kind_at AtLoad) (scope_at m AtLoad) (scope_at m AtLoad) (left_at stop m AtLoad) ≡ waiting_at stop m AtLoad (first_wait m AtLoad)
waits_AtLoad stop m = grind arith

waits_AtReadAfterSerialization : (stop : StopPoint) (m : Armed) → Waits (kind_at (points.Hook hooks.ReadAfterSerialization)) (scope_at m (points.Hook hooks.ReadAfterSerialization)) (scope_at m (points.Hook hooks.ReadAfterSerialization)) (left_at stop m (points.Hook hooks.ReadAfterSerialization)) ≡ waiting_at stop m (points.Hook hooks.ReadAfterSerialization) (first_wait m (points.Hook hooks.ReadAfterSerialization))
waits_AtReadAfterSerialization stop m = grind arith

waits_AtModifyBeforeRetryLoop : (stop : StopPoint) (m : Armed) → Waits (kind_at (points.Hook hooks.ModifyBeforeRetryLoop)) (scope_at m (points.Hook hooks.ModifyBeforeRetryLoop)) (scope_at m (points.Hook hooks.ModifyBeforeRetryLoop)) (left_at stop m (points.Hook hooks.ModifyBeforeRetryLoop)) ≡ waiting_at stop m (points.Hook hooks.ModifyBeforeRetryLoop) (first_wait m (points.Hook hooks.ModifyBeforeRetryLoop))
waits_AtModifyBeforeRetryLoop stop m = grind arith

waits_AtInitial : (stop : StopPoint) (m : Armed) → Waits (kind_at AtInitial) (scope_at m AtInitial) (scope_at m AtInitial) (left_at stop m AtInitial) ≡ waiting_at stop m AtInitial (first_wait m AtInitial)
waits_AtInitial stop m = grind arith

waits_AtStartSend : (stop : StopPoint) (m : Armed) → Waits (kind_at AtStartSend) (scope_at m AtStartSend) (scope_at m AtStartSend) (left_at stop m AtStartSend) ≡ waiting_at stop m AtStartSend (first_wait m AtStartSend)
waits_AtStartSend stop m = grind arith

waits_AtWaitSend : (stop : StopPoint) (m : Armed) → Waits (kind_at AtWaitSend) (scope_at m AtWaitSend) (scope_at m AtWaitSend) (left_at stop m AtWaitSend) ≡ waiting_at stop m AtWaitSend (first_wait m AtWaitSend)
waits_AtWaitSend stop m = grind arith

waits_AtStartAttempt : (stop : StopPoint) (m : Armed) → Waits (kind_at AtStartAttempt) (scope_at m AtStartAttempt) (scope_at m AtStartAttempt) (left_at stop m AtStartAttempt) ≡ waiting_at stop m AtStartAttempt (first_wait m AtStartAttempt)
waits_AtStartAttempt stop m = grind arith

waits_AtReadBeforeAttempt : (stop : StopPoint) (m : Armed) → Waits (kind_at (points.Hook hooks.ReadBeforeAttempt)) (scope_at m (points.Hook hooks.ReadBeforeAttempt)) (scope_at m (points.Hook hooks.ReadBeforeAttempt)) (left_at stop m (points.Hook hooks.ReadBeforeAttempt)) ≡ waiting_at stop m (points.Hook hooks.ReadBeforeAttempt) (first_wait m (points.Hook hooks.ReadBeforeAttempt))
waits_AtReadBeforeAttempt stop m = grind arith

waits_AtChoose : (stop : StopPoint) (m : Armed) → Waits (kind_at AtChoose) (scope_at m AtChoose) (scope_at m AtChoose) (left_at stop m AtChoose) ≡ waiting_at stop m AtChoose (first_wait m AtChoose)
waits_AtChoose stop m = grind arith

waits_AtEndpoint : (stop : StopPoint) (m : Armed) → Waits (kind_at AtEndpoint) (scope_at m AtEndpoint) (scope_at m AtEndpoint) (left_at stop m AtEndpoint) ≡ waiting_at stop m AtEndpoint (first_wait m AtEndpoint)
waits_AtEndpoint stop m = grind arith

waits_AtApply : (stop : StopPoint) (m : Armed) → Waits (kind_at AtApply) (scope_at m AtApply) (scope_at m AtApply) (left_at stop m AtApply) ≡ waiting_at stop m AtApply (first_wait m AtApply)
waits_AtApply stop m = grind arith

waits_AtModifyBeforeSigning : (stop : StopPoint) (m : Armed) → Waits (kind_at (points.Hook hooks.ModifyBeforeSigning)) (scope_at m (points.Hook hooks.ModifyBeforeSigning)) (scope_at m (points.Hook hooks.ModifyBeforeSigning)) (left_at stop m (points.Hook hooks.ModifyBeforeSigning)) ≡ waiting_at stop m (points.Hook hooks.ModifyBeforeSigning) (first_wait m (points.Hook hooks.ModifyBeforeSigning))
waits_AtModifyBeforeSigning stop m = grind arith

waits_AtReadBeforeSigning : (stop : StopPoint) (m : Armed) → Waits (kind_at (points.Hook hooks.ReadBeforeSigning)) (scope_at m (points.Hook hooks.ReadBeforeSigning)) (scope_at m (points.Hook hooks.ReadBeforeSigning)) (left_at stop m (points.Hook hooks.ReadBeforeSigning)) ≡ waiting_at stop m (points.Hook hooks.ReadBeforeSigning) (first_wait m (points.Hook hooks.ReadBeforeSigning))
waits_AtReadBeforeSigning stop m = grind arith

waits_AtSign : (stop : StopPoint) (m : Armed) → Waits (kind_at AtSign) (scope_at m AtSign) (scope_at m AtSign) (left_at stop m AtSign) ≡ waiting_at stop m AtSign (first_wait m AtSign)
waits_AtSign stop m = grind arith

waits_AtReadAfterSigning : (stop : StopPoint) (m : Armed) → Waits (kind_at (points.Hook hooks.ReadAfterSigning)) (scope_at m (points.Hook hooks.ReadAfterSigning)) (scope_at m (points.Hook hooks.ReadAfterSigning)) (left_at stop m (points.Hook hooks.ReadAfterSigning)) ≡ waiting_at stop m (points.Hook hooks.ReadAfterSigning) (first_wait m (points.Hook hooks.ReadAfterSigning))
waits_AtReadAfterSigning stop m = grind arith

waits_AtModifyBeforeTransmit : (stop : StopPoint) (m : Armed) → Waits (kind_at (points.Hook hooks.ModifyBeforeTransmit)) (scope_at m (points.Hook hooks.ModifyBeforeTransmit)) (scope_at m (points.Hook hooks.ModifyBeforeTransmit)) (left_at stop m (points.Hook hooks.ModifyBeforeTransmit)) ≡ waiting_at stop m (points.Hook hooks.ModifyBeforeTransmit) (first_wait m (points.Hook hooks.ModifyBeforeTransmit))
waits_AtModifyBeforeTransmit stop m = grind arith

waits_AtReadBeforeTransmit : (stop : StopPoint) (m : Armed) → Waits (kind_at (points.Hook hooks.ReadBeforeTransmit)) (scope_at m (points.Hook hooks.ReadBeforeTransmit)) (scope_at m (points.Hook hooks.ReadBeforeTransmit)) (left_at stop m (points.Hook hooks.ReadBeforeTransmit)) ≡ waiting_at stop m (points.Hook hooks.ReadBeforeTransmit) (first_wait m (points.Hook hooks.ReadBeforeTransmit))
waits_AtReadBeforeTransmit stop m = grind arith

waits_AtTransmit : (stop : StopPoint) (m : Armed) → Waits (kind_at AtTransmit) (scope_at m AtTransmit) (scope_at m AtTransmit) (left_at stop m AtTransmit) ≡ waiting_at stop m AtTransmit (first_wait m AtTransmit)
waits_AtTransmit stop m = grind arith

waits_AtReadAfterTransmit : (stop : StopPoint) (m : Armed) → Waits (kind_at (points.Hook hooks.ReadAfterTransmit)) (scope_at m (points.Hook hooks.ReadAfterTransmit)) (scope_at m (points.Hook hooks.ReadAfterTransmit)) (left_at stop m (points.Hook hooks.ReadAfterTransmit)) ≡ waiting_at stop m (points.Hook hooks.ReadAfterTransmit) (first_wait m (points.Hook hooks.ReadAfterTransmit))
waits_AtReadAfterTransmit stop m = grind arith

waits_AtModifyBeforeDeserialization : (stop : StopPoint) (m : Armed) → Waits (kind_at (points.Hook hooks.ModifyBeforeDeserialization)) (scope_at m (points.Hook hooks.ModifyBeforeDeserialization)) (scope_at m (points.Hook hooks.ModifyBeforeDeserialization)) (left_at stop m (points.Hook hooks.ModifyBeforeDeserialization)) ≡ waiting_at stop m (points.Hook hooks.ModifyBeforeDeserialization) (first_wait m (points.Hook hooks.ModifyBeforeDeserialization))
waits_AtModifyBeforeDeserialization stop m = grind arith

waits_AtReadBeforeDeserialization : (stop : StopPoint) (m : Armed) → Waits (kind_at (points.Hook hooks.ReadBeforeDeserialization)) (scope_at m (points.Hook hooks.ReadBeforeDeserialization)) (scope_at m (points.Hook hooks.ReadBeforeDeserialization)) (left_at stop m (points.Hook hooks.ReadBeforeDeserialization)) ≡ waiting_at stop m (points.Hook hooks.ReadBeforeDeserialization) (first_wait m (points.Hook hooks.ReadBeforeDeserialization))
waits_AtReadBeforeDeserialization stop m = grind arith

waits_AtStream : (stop : StopPoint) (m : Armed) → Waits (kind_at AtStream) (scope_at m AtStream) (scope_at m AtStream) (left_at stop m AtStream) ≡ waiting_at stop m AtStream (first_wait m AtStream)
waits_AtStream stop m = grind arith

waits_AtBody : (stop : StopPoint) (m : Armed) → Waits (kind_at AtBody) (scope_at m AtBody) (scope_at m AtBody) (left_at stop m AtBody) ≡ waiting_at stop m AtBody (first_wait m AtBody)
waits_AtBody stop m = grind arith

waits_AtDeserialize : (stop : StopPoint) (m : Armed) → Waits (kind_at AtDeserialize) (scope_at m AtDeserialize) (scope_at m AtDeserialize) (left_at stop m AtDeserialize) ≡ waiting_at stop m AtDeserialize (first_wait m AtDeserialize)
waits_AtDeserialize stop m = grind arith

waits_AtReadAfterDeserialization : (stop : StopPoint) (m : Armed) → Waits (kind_at (points.Hook hooks.ReadAfterDeserialization)) (scope_at m (points.Hook hooks.ReadAfterDeserialization)) (scope_at m (points.Hook hooks.ReadAfterDeserialization)) (left_at stop m (points.Hook hooks.ReadAfterDeserialization)) ≡ waiting_at stop m (points.Hook hooks.ReadAfterDeserialization) (first_wait m (points.Hook hooks.ReadAfterDeserialization))
waits_AtReadAfterDeserialization stop m = grind arith

waits_AtModifyBeforeAttemptCompletion : (stop : StopPoint) (m : Armed) → Waits (kind_at (points.Hook hooks.ModifyBeforeAttemptCompletion)) (scope_at m (points.Hook hooks.ModifyBeforeAttemptCompletion)) (scope_at m (points.Hook hooks.ModifyBeforeAttemptCompletion)) (left_at stop m (points.Hook hooks.ModifyBeforeAttemptCompletion)) ≡ waiting_at stop m (points.Hook hooks.ModifyBeforeAttemptCompletion) (first_wait m (points.Hook hooks.ModifyBeforeAttemptCompletion))
waits_AtModifyBeforeAttemptCompletion stop m = grind arith

waits_AtReadAfterAttempt : (stop : StopPoint) (m : Armed) → Waits (kind_at (points.Hook hooks.ReadAfterAttempt)) (scope_at m (points.Hook hooks.ReadAfterAttempt)) (scope_at m (points.Hook hooks.ReadAfterAttempt)) (left_at stop m (points.Hook hooks.ReadAfterAttempt)) ≡ waiting_at stop m (points.Hook hooks.ReadAfterAttempt) (first_wait m (points.Hook hooks.ReadAfterAttempt))
waits_AtReadAfterAttempt stop m = grind arith

waits_AtDecide : (stop : StopPoint) (m : Armed) → Waits (kind_at AtDecide) (scope_at m AtDecide) (scope_at m AtDecide) (left_at stop m AtDecide) ≡ waiting_at stop m AtDecide (first_wait m AtDecide)
waits_AtDecide stop m = grind arith

waits_AtStartRetry : (stop : StopPoint) (m : Armed) → Waits (kind_at AtStartRetry) (scope_at m AtStartRetry) (scope_at m AtStartRetry) (left_at stop m AtStartRetry) ≡ waiting_at stop m AtStartRetry (first_wait m AtStartRetry)
waits_AtStartRetry stop m = grind arith

waits_AtWaitRetry : (stop : StopPoint) (m : Armed) → Waits (kind_at AtWaitRetry) (scope_at m AtWaitRetry) (scope_at m AtWaitRetry) (left_at stop m AtWaitRetry) ≡ waiting_at stop m AtWaitRetry (first_wait m AtWaitRetry)
waits_AtWaitRetry stop m = grind arith

waits_AtStartLongPoll : (stop : StopPoint) (m : Armed) → Waits (kind_at AtStartLongPoll) (scope_at m AtStartLongPoll) (scope_at m AtStartLongPoll) (left_at stop m AtStartLongPoll) ≡ waiting_at stop m AtStartLongPoll (first_wait m AtStartLongPoll)
waits_AtStartLongPoll stop m = grind arith

waits_AtWaitLongPoll : (stop : StopPoint) (m : Armed) → Waits (kind_at AtWaitLongPoll) (scope_at m AtWaitLongPoll) (scope_at m AtWaitLongPoll) (left_at stop m AtWaitLongPoll) ≡ waiting_at stop m AtWaitLongPoll (first_wait m AtWaitLongPoll)
waits_AtWaitLongPoll stop m = grind arith

waits_AtTokenInitial : (stop : StopPoint) (m : Armed) → Waits (kind_at AtTokenInitial) (scope_at m AtTokenInitial) (scope_at m AtTokenInitial) (left_at stop m AtTokenInitial) ≡ waiting_at stop m AtTokenInitial (first_wait m AtTokenInitial)
waits_AtTokenInitial stop m = grind arith

waits_AtTokenStartSend : (stop : StopPoint) (m : Armed) → Waits (kind_at AtTokenStartSend) (scope_at m AtTokenStartSend) (scope_at m AtTokenStartSend) (left_at stop m AtTokenStartSend) ≡ waiting_at stop m AtTokenStartSend (first_wait m AtTokenStartSend)
waits_AtTokenStartSend stop m = grind arith

waits_AtTokenWaitSend : (stop : StopPoint) (m : Armed) → Waits (kind_at AtTokenWaitSend) (scope_at m AtTokenWaitSend) (scope_at m AtTokenWaitSend) (left_at stop m AtTokenWaitSend) ≡ waiting_at stop m AtTokenWaitSend (first_wait m AtTokenWaitSend)
waits_AtTokenWaitSend stop m = grind arith

waits_AtCutModifyBeforeAttemptCompletion : (stop : StopPoint) (m : Armed) → Waits (kind_at AtCutModifyBeforeAttemptCompletion) (scope_at m AtCutModifyBeforeAttemptCompletion) (scope_at m AtCutModifyBeforeAttemptCompletion) (left_at stop m AtCutModifyBeforeAttemptCompletion) ≡ waiting_at stop m AtCutModifyBeforeAttemptCompletion (first_wait m AtCutModifyBeforeAttemptCompletion)
waits_AtCutModifyBeforeAttemptCompletion stop m = grind arith

waits_AtCutReadAfterAttempt : (stop : StopPoint) (m : Armed) → Waits (kind_at AtCutReadAfterAttempt) (scope_at m AtCutReadAfterAttempt) (scope_at m AtCutReadAfterAttempt) (left_at stop m AtCutReadAfterAttempt) ≡ waiting_at stop m AtCutReadAfterAttempt (first_wait m AtCutReadAfterAttempt)
waits_AtCutReadAfterAttempt stop m = grind arith

waits_AtModifyBeforeCompletion : (stop : StopPoint) (m : Armed) → Waits (kind_at (points.Hook hooks.ModifyBeforeCompletion)) (scope_at m (points.Hook hooks.ModifyBeforeCompletion)) (scope_at m (points.Hook hooks.ModifyBeforeCompletion)) (left_at stop m (points.Hook hooks.ModifyBeforeCompletion)) ≡ waiting_at stop m (points.Hook hooks.ModifyBeforeCompletion) (first_wait m (points.Hook hooks.ModifyBeforeCompletion))
waits_AtModifyBeforeCompletion stop m = grind arith

waits_AtReadAfterExecution : (stop : StopPoint) (m : Armed) → Waits (kind_at (points.Hook hooks.ReadAfterExecution)) (scope_at m (points.Hook hooks.ReadAfterExecution)) (scope_at m (points.Hook hooks.ReadAfterExecution)) (left_at stop m (points.Hook hooks.ReadAfterExecution)) ≡ waiting_at stop m (points.Hook hooks.ReadAfterExecution) (first_wait m (points.Hook hooks.ReadAfterExecution))
waits_AtReadAfterExecution stop m = grind arith

pub waits_first : (stop : StopPoint) (m : Armed) (p : Point) → Waits (kind_at p) (scope_at m p) (scope_at m p) (left_at stop m p) ≡ waiting_at stop m p (first_wait m p)
waits_first stop m AtConfigureClient = waits_AtConfigureClient stop m
waits_first stop m (points.Hook hooks.ReadBeforeExecutionClient) = waits_AtHookClient stop m
waits_first stop m AtConfigureOperation = waits_AtConfigureOperation stop m
waits_first stop m (points.Hook hooks.ReadBeforeExecutionOperation) = waits_AtHookOperation stop m
waits_first stop m AtConfigureFinal = waits_AtConfigureFinal stop m
waits_first stop m AtStartOperationFailed = waits_AtStartOperationFailed stop m
waits_first stop m AtStartOperation = waits_AtStartOperation stop m
waits_first stop m (points.Hook hooks.ModifyBeforeSerialization) = waits_AtModifyBeforeSerialization stop m
waits_first stop m (points.Hook hooks.ReadBeforeSerialization) = waits_AtReadBeforeSerialization stop m
waits_first stop m AtSerialize = waits_AtSerialize stop m
waits_first stop m AtLoad = waits_AtLoad stop m
waits_first stop m (points.Hook hooks.ReadAfterSerialization) = waits_AtReadAfterSerialization stop m
waits_first stop m (points.Hook hooks.ModifyBeforeRetryLoop) = waits_AtModifyBeforeRetryLoop stop m
waits_first stop m AtInitial = waits_AtInitial stop m
waits_first stop m AtStartSend = waits_AtStartSend stop m
waits_first stop m AtWaitSend = waits_AtWaitSend stop m
waits_first stop m AtStartAttempt = waits_AtStartAttempt stop m
waits_first stop m (points.Hook hooks.ReadBeforeAttempt) = waits_AtReadBeforeAttempt stop m
waits_first stop m AtChoose = waits_AtChoose stop m
waits_first stop m AtEndpoint = waits_AtEndpoint stop m
waits_first stop m AtApply = waits_AtApply stop m
waits_first stop m (points.Hook hooks.ModifyBeforeSigning) = waits_AtModifyBeforeSigning stop m
waits_first stop m (points.Hook hooks.ReadBeforeSigning) = waits_AtReadBeforeSigning stop m
waits_first stop m AtSign = waits_AtSign stop m
waits_first stop m (points.Hook hooks.ReadAfterSigning) = waits_AtReadAfterSigning stop m
waits_first stop m (points.Hook hooks.ModifyBeforeTransmit) = waits_AtModifyBeforeTransmit stop m
waits_first stop m (points.Hook hooks.ReadBeforeTransmit) = waits_AtReadBeforeTransmit stop m
waits_first stop m AtTransmit = waits_AtTransmit stop m
waits_first stop m (points.Hook hooks.ReadAfterTransmit) = waits_AtReadAfterTransmit stop m
waits_first stop m (points.Hook hooks.ModifyBeforeDeserialization) = waits_AtModifyBeforeDeserialization stop m
waits_first stop m (points.Hook hooks.ReadBeforeDeserialization) = waits_AtReadBeforeDeserialization stop m
waits_first stop m AtStream = waits_AtStream stop m
waits_first stop m AtBody = waits_AtBody stop m
waits_first stop m AtDeserialize = waits_AtDeserialize stop m
waits_first stop m (points.Hook hooks.ReadAfterDeserialization) = waits_AtReadAfterDeserialization stop m
waits_first stop m (points.Hook hooks.ModifyBeforeAttemptCompletion) = waits_AtModifyBeforeAttemptCompletion stop m
waits_first stop m (points.Hook hooks.ReadAfterAttempt) = waits_AtReadAfterAttempt stop m
waits_first stop m AtDecide = waits_AtDecide stop m
waits_first stop m AtStartRetry = waits_AtStartRetry stop m
waits_first stop m AtWaitRetry = waits_AtWaitRetry stop m
waits_first stop m AtStartLongPoll = waits_AtStartLongPoll stop m
waits_first stop m AtWaitLongPoll = waits_AtWaitLongPoll stop m
waits_first stop m AtTokenInitial = waits_AtTokenInitial stop m
waits_first stop m AtTokenStartSend = waits_AtTokenStartSend stop m
waits_first stop m AtTokenWaitSend = waits_AtTokenWaitSend stop m
waits_first stop m AtCutModifyBeforeAttemptCompletion = waits_AtCutModifyBeforeAttemptCompletion stop m
waits_first stop m AtCutReadAfterAttempt = waits_AtCutReadAfterAttempt stop m
waits_first stop m (points.Hook hooks.ModifyBeforeCompletion) = waits_AtModifyBeforeCompletion stop m
waits_first stop m (points.Hook hooks.ReadAfterExecution) = waits_AtReadAfterExecution stop m

abbrev pub is_left : Rest → Bool
is_left (Left r) = true
is_left (Out i) = false

pub left_is : (r : Rest) → IsLeft r → is_left r ≡ true
left_is (Left r) h = refl
left_is (Out i) h = absurd h

cut_attempt_AtConfigureClient : (stop : StopPoint) (m : Armed) (s : State) → is_left (cut (left_at stop m AtConfigureClient) Attempt) ≡ true → after_cut (cut (left_at stop m AtConfigureClient) Attempt) s ≡ placed stop (settling_at m)
cut_attempt_AtConfigureClient stop m s h = grind arith

cut_attempt_AtHookClient : (stop : StopPoint) (m : Armed) (s : State) → is_left (cut (left_at stop m (points.Hook hooks.ReadBeforeExecutionClient)) Attempt) ≡ true → after_cut (cut (left_at stop m (points.Hook hooks.ReadBeforeExecutionClient)) Attempt) s ≡ placed stop (settling_at m)
cut_attempt_AtHookClient stop m s h = grind arith

cut_attempt_AtConfigureOperation : (stop : StopPoint) (m : Armed) (s : State) → is_left (cut (left_at stop m AtConfigureOperation) Attempt) ≡ true → after_cut (cut (left_at stop m AtConfigureOperation) Attempt) s ≡ placed stop (settling_at m)
cut_attempt_AtConfigureOperation stop m s h = grind arith

cut_attempt_AtHookOperation : (stop : StopPoint) (m : Armed) (s : State) → is_left (cut (left_at stop m (points.Hook hooks.ReadBeforeExecutionOperation)) Attempt) ≡ true → after_cut (cut (left_at stop m (points.Hook hooks.ReadBeforeExecutionOperation)) Attempt) s ≡ placed stop (settling_at m)
cut_attempt_AtHookOperation stop m s h = grind arith

cut_attempt_AtConfigureFinal : (stop : StopPoint) (m : Armed) (s : State) → is_left (cut (left_at stop m AtConfigureFinal) Attempt) ≡ true → after_cut (cut (left_at stop m AtConfigureFinal) Attempt) s ≡ placed stop (settling_at m)
cut_attempt_AtConfigureFinal stop m s h = grind arith

cut_attempt_AtStartOperationFailed : (stop : StopPoint) (m : Armed) (s : State) → is_left (cut (left_at stop m AtStartOperationFailed) Attempt) ≡ true → after_cut (cut (left_at stop m AtStartOperationFailed) Attempt) s ≡ placed stop (settling_at m)
cut_attempt_AtStartOperationFailed stop m s h = grind arith

cut_attempt_AtStartOperation : (stop : StopPoint) (m : Armed) (s : State) → is_left (cut (left_at stop m AtStartOperation) Attempt) ≡ true → after_cut (cut (left_at stop m AtStartOperation) Attempt) s ≡ placed stop (settling_at m)
cut_attempt_AtStartOperation stop m s h = grind arith

cut_attempt_AtModifyBeforeSerialization : (stop : StopPoint) (m : Armed) (s : State) → is_left (cut (left_at stop m (points.Hook hooks.ModifyBeforeSerialization)) Attempt) ≡ true → after_cut (cut (left_at stop m (points.Hook hooks.ModifyBeforeSerialization)) Attempt) s ≡ placed stop (settling_at m)
cut_attempt_AtModifyBeforeSerialization stop m s h = grind arith

cut_attempt_AtReadBeforeSerialization : (stop : StopPoint) (m : Armed) (s : State) → is_left (cut (left_at stop m (points.Hook hooks.ReadBeforeSerialization)) Attempt) ≡ true → after_cut (cut (left_at stop m (points.Hook hooks.ReadBeforeSerialization)) Attempt) s ≡ placed stop (settling_at m)
cut_attempt_AtReadBeforeSerialization stop m s h = grind arith

cut_attempt_AtSerialize : (stop : StopPoint) (m : Armed) (s : State) → is_left (cut (left_at stop m AtSerialize) Attempt) ≡ true → after_cut (cut (left_at stop m AtSerialize) Attempt) s ≡ placed stop (settling_at m)
cut_attempt_AtSerialize stop m s h = grind arith

cut_attempt_AtLoad : (stop : StopPoint) (m : Armed) (s : State) → is_left (cut (left_at stop m AtLoad) Attempt) ≡ true → after_cut (cut (left_at stop m AtLoad) Attempt) s ≡ placed stop (settling_at m)
cut_attempt_AtLoad stop m s h = grind arith

cut_attempt_AtReadAfterSerialization : (stop : StopPoint) (m : Armed) (s : State) → is_left (cut (left_at stop m (points.Hook hooks.ReadAfterSerialization)) Attempt) ≡ true → after_cut (cut (left_at stop m (points.Hook hooks.ReadAfterSerialization)) Attempt) s ≡ placed stop (settling_at m)
cut_attempt_AtReadAfterSerialization stop m s h = grind arith

cut_attempt_AtModifyBeforeRetryLoop : (stop : StopPoint) (m : Armed) (s : State) → is_left (cut (left_at stop m (points.Hook hooks.ModifyBeforeRetryLoop)) Attempt) ≡ true → after_cut (cut (left_at stop m (points.Hook hooks.ModifyBeforeRetryLoop)) Attempt) s ≡ placed stop (settling_at m)
cut_attempt_AtModifyBeforeRetryLoop stop m s h = grind arith

cut_attempt_AtInitial : (stop : StopPoint) (m : Armed) (s : State) → is_left (cut (left_at stop m AtInitial) Attempt) ≡ true → after_cut (cut (left_at stop m AtInitial) Attempt) s ≡ placed stop (settling_at m)
cut_attempt_AtInitial stop m s h = grind arith

cut_attempt_AtStartSend : (stop : StopPoint) (m : Armed) (s : State) → is_left (cut (left_at stop m AtStartSend) Attempt) ≡ true → after_cut (cut (left_at stop m AtStartSend) Attempt) s ≡ placed stop (settling_at m)
cut_attempt_AtStartSend stop m s h = grind arith

cut_attempt_AtWaitSend : (stop : StopPoint) (m : Armed) (s : State) → is_left (cut (left_at stop m AtWaitSend) Attempt) ≡ true → after_cut (cut (left_at stop m AtWaitSend) Attempt) s ≡ placed stop (settling_at m)
cut_attempt_AtWaitSend stop m s h = grind arith

cut_attempt_AtStartAttempt : (stop : StopPoint) (m : Armed) (s : State) → is_left (cut (left_at stop m AtStartAttempt) Attempt) ≡ true → after_cut (cut (left_at stop m AtStartAttempt) Attempt) s ≡ placed stop (settling_at m)
cut_attempt_AtStartAttempt stop m s h = grind arith

cut_attempt_AtReadBeforeAttempt : (stop : StopPoint) (m : Armed) (s : State) → is_left (cut (left_at stop m (points.Hook hooks.ReadBeforeAttempt)) Attempt) ≡ true → after_cut (cut (left_at stop m (points.Hook hooks.ReadBeforeAttempt)) Attempt) s ≡ placed stop (settling_at m)
cut_attempt_AtReadBeforeAttempt stop m s h = grind arith

cut_attempt_AtChoose : (stop : StopPoint) (m : Armed) (s : State) → is_left (cut (left_at stop m AtChoose) Attempt) ≡ true → after_cut (cut (left_at stop m AtChoose) Attempt) s ≡ placed stop (settling_at m)
cut_attempt_AtChoose stop m s h = grind arith

cut_attempt_AtEndpoint : (stop : StopPoint) (m : Armed) (s : State) → is_left (cut (left_at stop m AtEndpoint) Attempt) ≡ true → after_cut (cut (left_at stop m AtEndpoint) Attempt) s ≡ placed stop (settling_at m)
cut_attempt_AtEndpoint stop m s h = grind arith

cut_attempt_AtApply : (stop : StopPoint) (m : Armed) (s : State) → is_left (cut (left_at stop m AtApply) Attempt) ≡ true → after_cut (cut (left_at stop m AtApply) Attempt) s ≡ placed stop (settling_at m)
cut_attempt_AtApply stop m s h = grind arith

cut_attempt_AtModifyBeforeSigning : (stop : StopPoint) (m : Armed) (s : State) → is_left (cut (left_at stop m (points.Hook hooks.ModifyBeforeSigning)) Attempt) ≡ true → after_cut (cut (left_at stop m (points.Hook hooks.ModifyBeforeSigning)) Attempt) s ≡ placed stop (settling_at m)
cut_attempt_AtModifyBeforeSigning stop m s h = grind arith

cut_attempt_AtReadBeforeSigning : (stop : StopPoint) (m : Armed) (s : State) → is_left (cut (left_at stop m (points.Hook hooks.ReadBeforeSigning)) Attempt) ≡ true → after_cut (cut (left_at stop m (points.Hook hooks.ReadBeforeSigning)) Attempt) s ≡ placed stop (settling_at m)
cut_attempt_AtReadBeforeSigning stop m s h = grind arith

cut_attempt_AtSign : (stop : StopPoint) (m : Armed) (s : State) → is_left (cut (left_at stop m AtSign) Attempt) ≡ true → after_cut (cut (left_at stop m AtSign) Attempt) s ≡ placed stop (settling_at m)
cut_attempt_AtSign stop m s h = grind arith

cut_attempt_AtReadAfterSigning : (stop : StopPoint) (m : Armed) (s : State) → is_left (cut (left_at stop m (points.Hook hooks.ReadAfterSigning)) Attempt) ≡ true → after_cut (cut (left_at stop m (points.Hook hooks.ReadAfterSigning)) Attempt) s ≡ placed stop (settling_at m)
cut_attempt_AtReadAfterSigning stop m s h = grind arith

cut_attempt_AtModifyBeforeTransmit : (stop : StopPoint) (m : Armed) (s : State) → is_left (cut (left_at stop m (points.Hook hooks.ModifyBeforeTransmit)) Attempt) ≡ true → after_cut (cut (left_at stop m (points.Hook hooks.ModifyBeforeTransmit)) Attempt) s ≡ placed stop (settling_at m)
cut_attempt_AtModifyBeforeTransmit stop m s h = grind arith

cut_attempt_AtReadBeforeTransmit : (stop : StopPoint) (m : Armed) (s : State) → is_left (cut (left_at stop m (points.Hook hooks.ReadBeforeTransmit)) Attempt) ≡ true → after_cut (cut (left_at stop m (points.Hook hooks.ReadBeforeTransmit)) Attempt) s ≡ placed stop (settling_at m)
cut_attempt_AtReadBeforeTransmit stop m s h = grind arith

cut_attempt_AtTransmit : (stop : StopPoint) (m : Armed) (s : State) → is_left (cut (left_at stop m AtTransmit) Attempt) ≡ true → after_cut (cut (left_at stop m AtTransmit) Attempt) s ≡ placed stop (settling_at m)
cut_attempt_AtTransmit stop m s h = grind arith

cut_attempt_AtReadAfterTransmit : (stop : StopPoint) (m : Armed) (s : State) → is_left (cut (left_at stop m (points.Hook hooks.ReadAfterTransmit)) Attempt) ≡ true → after_cut (cut (left_at stop m (points.Hook hooks.ReadAfterTransmit)) Attempt) s ≡ placed stop (settling_at m)
cut_attempt_AtReadAfterTransmit stop m s h = grind arith

cut_attempt_AtModifyBeforeDeserialization : (stop : StopPoint) (m : Armed) (s : State) → is_left (cut (left_at stop m (points.Hook hooks.ModifyBeforeDeserialization)) Attempt) ≡ true → after_cut (cut (left_at stop m (points.Hook hooks.ModifyBeforeDeserialization)) Attempt) s ≡ placed stop (settling_at m)
cut_attempt_AtModifyBeforeDeserialization stop m s h = grind arith

cut_attempt_AtReadBeforeDeserialization : (stop : StopPoint) (m : Armed) (s : State) → is_left (cut (left_at stop m (points.Hook hooks.ReadBeforeDeserialization)) Attempt) ≡ true → after_cut (cut (left_at stop m (points.Hook hooks.ReadBeforeDeserialization)) Attempt) s ≡ placed stop (settling_at m)
cut_attempt_AtReadBeforeDeserialization stop m s h = grind arith

cut_attempt_AtStream : (stop : StopPoint) (m : Armed) (s : State) → is_left (cut (left_at stop m AtStream) Attempt) ≡ true → after_cut (cut (left_at stop m AtStream) Attempt) s ≡ placed stop (settling_at m)
cut_attempt_AtStream stop m s h = grind arith

cut_attempt_AtBody : (stop : StopPoint) (m : Armed) (s : State) → is_left (cut (left_at stop m AtBody) Attempt) ≡ true → after_cut (cut (left_at stop m AtBody) Attempt) s ≡ placed stop (settling_at m)
cut_attempt_AtBody stop m s h = grind arith

cut_attempt_AtDeserialize : (stop : StopPoint) (m : Armed) (s : State) → is_left (cut (left_at stop m AtDeserialize) Attempt) ≡ true → after_cut (cut (left_at stop m AtDeserialize) Attempt) s ≡ placed stop (settling_at m)
cut_attempt_AtDeserialize stop m s h = grind arith

cut_attempt_AtReadAfterDeserialization : (stop : StopPoint) (m : Armed) (s : State) → is_left (cut (left_at stop m (points.Hook hooks.ReadAfterDeserialization)) Attempt) ≡ true → after_cut (cut (left_at stop m (points.Hook hooks.ReadAfterDeserialization)) Attempt) s ≡ placed stop (settling_at m)
cut_attempt_AtReadAfterDeserialization stop m s h = grind arith

cut_attempt_AtModifyBeforeAttemptCompletion : (stop : StopPoint) (m : Armed) (s : State) → is_left (cut (left_at stop m (points.Hook hooks.ModifyBeforeAttemptCompletion)) Attempt) ≡ true → after_cut (cut (left_at stop m (points.Hook hooks.ModifyBeforeAttemptCompletion)) Attempt) s ≡ placed stop (settling_at m)
cut_attempt_AtModifyBeforeAttemptCompletion stop m s h = grind arith

cut_attempt_AtReadAfterAttempt : (stop : StopPoint) (m : Armed) (s : State) → is_left (cut (left_at stop m (points.Hook hooks.ReadAfterAttempt)) Attempt) ≡ true → after_cut (cut (left_at stop m (points.Hook hooks.ReadAfterAttempt)) Attempt) s ≡ placed stop (settling_at m)
cut_attempt_AtReadAfterAttempt stop m s h = grind arith

cut_attempt_AtDecide : (stop : StopPoint) (m : Armed) (s : State) → is_left (cut (left_at stop m AtDecide) Attempt) ≡ true → after_cut (cut (left_at stop m AtDecide) Attempt) s ≡ placed stop (settling_at m)
cut_attempt_AtDecide stop m s h = grind arith

cut_attempt_AtStartRetry : (stop : StopPoint) (m : Armed) (s : State) → is_left (cut (left_at stop m AtStartRetry) Attempt) ≡ true → after_cut (cut (left_at stop m AtStartRetry) Attempt) s ≡ placed stop (settling_at m)
cut_attempt_AtStartRetry stop m s h = grind arith

cut_attempt_AtWaitRetry : (stop : StopPoint) (m : Armed) (s : State) → is_left (cut (left_at stop m AtWaitRetry) Attempt) ≡ true → after_cut (cut (left_at stop m AtWaitRetry) Attempt) s ≡ placed stop (settling_at m)
cut_attempt_AtWaitRetry stop m s h = grind arith

cut_attempt_AtStartLongPoll : (stop : StopPoint) (m : Armed) (s : State) → is_left (cut (left_at stop m AtStartLongPoll) Attempt) ≡ true → after_cut (cut (left_at stop m AtStartLongPoll) Attempt) s ≡ placed stop (settling_at m)
cut_attempt_AtStartLongPoll stop m s h = grind arith

cut_attempt_AtWaitLongPoll : (stop : StopPoint) (m : Armed) (s : State) → is_left (cut (left_at stop m AtWaitLongPoll) Attempt) ≡ true → after_cut (cut (left_at stop m AtWaitLongPoll) Attempt) s ≡ placed stop (settling_at m)
cut_attempt_AtWaitLongPoll stop m s h = grind arith

cut_attempt_AtTokenInitial : (stop : StopPoint) (m : Armed) (s : State) → is_left (cut (left_at stop m AtTokenInitial) Attempt) ≡ true → after_cut (cut (left_at stop m AtTokenInitial) Attempt) s ≡ placed stop (settling_at m)
cut_attempt_AtTokenInitial stop m s h = grind arith

cut_attempt_AtTokenStartSend : (stop : StopPoint) (m : Armed) (s : State) → is_left (cut (left_at stop m AtTokenStartSend) Attempt) ≡ true → after_cut (cut (left_at stop m AtTokenStartSend) Attempt) s ≡ placed stop (settling_at m)
cut_attempt_AtTokenStartSend stop m s h = grind arith

cut_attempt_AtTokenWaitSend : (stop : StopPoint) (m : Armed) (s : State) → is_left (cut (left_at stop m AtTokenWaitSend) Attempt) ≡ true → after_cut (cut (left_at stop m AtTokenWaitSend) Attempt) s ≡ placed stop (settling_at m)
cut_attempt_AtTokenWaitSend stop m s h = grind arith

cut_attempt_AtCutModifyBeforeAttemptCompletion : (stop : StopPoint) (m : Armed) (s : State) → is_left (cut (left_at stop m AtCutModifyBeforeAttemptCompletion) Attempt) ≡ true → after_cut (cut (left_at stop m AtCutModifyBeforeAttemptCompletion) Attempt) s ≡ placed stop (settling_at m)
cut_attempt_AtCutModifyBeforeAttemptCompletion stop m s h = grind arith

cut_attempt_AtCutReadAfterAttempt : (stop : StopPoint) (m : Armed) (s : State) → is_left (cut (left_at stop m AtCutReadAfterAttempt) Attempt) ≡ true → after_cut (cut (left_at stop m AtCutReadAfterAttempt) Attempt) s ≡ placed stop (settling_at m)
cut_attempt_AtCutReadAfterAttempt stop m s h = grind arith

cut_attempt_AtModifyBeforeCompletion : (stop : StopPoint) (m : Armed) (s : State) → is_left (cut (left_at stop m (points.Hook hooks.ModifyBeforeCompletion)) Attempt) ≡ true → after_cut (cut (left_at stop m (points.Hook hooks.ModifyBeforeCompletion)) Attempt) s ≡ placed stop (settling_at m)
cut_attempt_AtModifyBeforeCompletion stop m s h = grind arith

cut_attempt_AtReadAfterExecution : (stop : StopPoint) (m : Armed) (s : State) → is_left (cut (left_at stop m (points.Hook hooks.ReadAfterExecution)) Attempt) ≡ true → after_cut (cut (left_at stop m (points.Hook hooks.ReadAfterExecution)) Attempt) s ≡ placed stop (settling_at m)
cut_attempt_AtReadAfterExecution stop m s h = grind arith

pub cut_by_attempt : (stop : StopPoint) (m : Armed) (p : Point) (s : State) → is_left (cut (left_at stop m p) Attempt) ≡ true → after_cut (cut (left_at stop m p) Attempt) s ≡ placed stop (settling_at m)
cut_by_attempt stop m AtConfigureClient s h = cut_attempt_AtConfigureClient stop m s h
cut_by_attempt stop m (points.Hook hooks.ReadBeforeExecutionClient) s h = cut_attempt_AtHookClient stop m s h
cut_by_attempt stop m AtConfigureOperation s h = cut_attempt_AtConfigureOperation stop m s h
cut_by_attempt stop m (points.Hook hooks.ReadBeforeExecutionOperation) s h = cut_attempt_AtHookOperation stop m s h
cut_by_attempt stop m AtConfigureFinal s h = cut_attempt_AtConfigureFinal stop m s h
cut_by_attempt stop m AtStartOperationFailed s h = cut_attempt_AtStartOperationFailed stop m s h
cut_by_attempt stop m AtStartOperation s h = cut_attempt_AtStartOperation stop m s h
cut_by_attempt stop m (points.Hook hooks.ModifyBeforeSerialization) s h = cut_attempt_AtModifyBeforeSerialization stop m s h
cut_by_attempt stop m (points.Hook hooks.ReadBeforeSerialization) s h = cut_attempt_AtReadBeforeSerialization stop m s h
cut_by_attempt stop m AtSerialize s h = cut_attempt_AtSerialize stop m s h
cut_by_attempt stop m AtLoad s h = cut_attempt_AtLoad stop m s h
cut_by_attempt stop m (points.Hook hooks.ReadAfterSerialization) s h = cut_attempt_AtReadAfterSerialization stop m s h
cut_by_attempt stop m (points.Hook hooks.ModifyBeforeRetryLoop) s h = cut_attempt_AtModifyBeforeRetryLoop stop m s h
cut_by_attempt stop m AtInitial s h = cut_attempt_AtInitial stop m s h
cut_by_attempt stop m AtStartSend s h = cut_attempt_AtStartSend stop m s h
cut_by_attempt stop m AtWaitSend s h = cut_attempt_AtWaitSend stop m s h
cut_by_attempt stop m AtStartAttempt s h = cut_attempt_AtStartAttempt stop m s h
cut_by_attempt stop m (points.Hook hooks.ReadBeforeAttempt) s h = cut_attempt_AtReadBeforeAttempt stop m s h
cut_by_attempt stop m AtChoose s h = cut_attempt_AtChoose stop m s h
cut_by_attempt stop m AtEndpoint s h = cut_attempt_AtEndpoint stop m s h
cut_by_attempt stop m AtApply s h = cut_attempt_AtApply stop m s h
cut_by_attempt stop m (points.Hook hooks.ModifyBeforeSigning) s h = cut_attempt_AtModifyBeforeSigning stop m s h
cut_by_attempt stop m (points.Hook hooks.ReadBeforeSigning) s h = cut_attempt_AtReadBeforeSigning stop m s h
cut_by_attempt stop m AtSign s h = cut_attempt_AtSign stop m s h
cut_by_attempt stop m (points.Hook hooks.ReadAfterSigning) s h = cut_attempt_AtReadAfterSigning stop m s h
cut_by_attempt stop m (points.Hook hooks.ModifyBeforeTransmit) s h = cut_attempt_AtModifyBeforeTransmit stop m s h
cut_by_attempt stop m (points.Hook hooks.ReadBeforeTransmit) s h = cut_attempt_AtReadBeforeTransmit stop m s h
cut_by_attempt stop m AtTransmit s h = cut_attempt_AtTransmit stop m s h
cut_by_attempt stop m (points.Hook hooks.ReadAfterTransmit) s h = cut_attempt_AtReadAfterTransmit stop m s h
cut_by_attempt stop m (points.Hook hooks.ModifyBeforeDeserialization) s h = cut_attempt_AtModifyBeforeDeserialization stop m s h
cut_by_attempt stop m (points.Hook hooks.ReadBeforeDeserialization) s h = cut_attempt_AtReadBeforeDeserialization stop m s h
cut_by_attempt stop m AtStream s h = cut_attempt_AtStream stop m s h
cut_by_attempt stop m AtBody s h = cut_attempt_AtBody stop m s h
cut_by_attempt stop m AtDeserialize s h = cut_attempt_AtDeserialize stop m s h
cut_by_attempt stop m (points.Hook hooks.ReadAfterDeserialization) s h = cut_attempt_AtReadAfterDeserialization stop m s h
cut_by_attempt stop m (points.Hook hooks.ModifyBeforeAttemptCompletion) s h = cut_attempt_AtModifyBeforeAttemptCompletion stop m s h
cut_by_attempt stop m (points.Hook hooks.ReadAfterAttempt) s h = cut_attempt_AtReadAfterAttempt stop m s h
cut_by_attempt stop m AtDecide s h = cut_attempt_AtDecide stop m s h
cut_by_attempt stop m AtStartRetry s h = cut_attempt_AtStartRetry stop m s h
cut_by_attempt stop m AtWaitRetry s h = cut_attempt_AtWaitRetry stop m s h
cut_by_attempt stop m AtStartLongPoll s h = cut_attempt_AtStartLongPoll stop m s h
cut_by_attempt stop m AtWaitLongPoll s h = cut_attempt_AtWaitLongPoll stop m s h
cut_by_attempt stop m AtTokenInitial s h = cut_attempt_AtTokenInitial stop m s h
cut_by_attempt stop m AtTokenStartSend s h = cut_attempt_AtTokenStartSend stop m s h
cut_by_attempt stop m AtTokenWaitSend s h = cut_attempt_AtTokenWaitSend stop m s h
cut_by_attempt stop m AtCutModifyBeforeAttemptCompletion s h = cut_attempt_AtCutModifyBeforeAttemptCompletion stop m s h
cut_by_attempt stop m AtCutReadAfterAttempt s h = cut_attempt_AtCutReadAfterAttempt stop m s h
cut_by_attempt stop m (points.Hook hooks.ModifyBeforeCompletion) s h = cut_attempt_AtModifyBeforeCompletion stop m s h
cut_by_attempt stop m (points.Hook hooks.ReadAfterExecution) s h = cut_attempt_AtReadAfterExecution stop m s h

cut_operation_AtConfigureClient : (stop : StopPoint) (m : Armed) (s : State) → is_left (cut (left_at stop m AtConfigureClient) Operation) ≡ true → after_cut (cut (left_at stop m AtConfigureClient) Operation) s ≡ placed stop (cond (is_in_attempt AtConfigureClient) (here m AtCutModifyBeforeAttemptCompletion) (finishing_at m))
cut_operation_AtConfigureClient stop m s h = grind arith

cut_operation_AtHookClient : (stop : StopPoint) (m : Armed) (s : State) → is_left (cut (left_at stop m (points.Hook hooks.ReadBeforeExecutionClient)) Operation) ≡ true → after_cut (cut (left_at stop m (points.Hook hooks.ReadBeforeExecutionClient)) Operation) s ≡ placed stop (cond (is_in_attempt (points.Hook hooks.ReadBeforeExecutionClient)) (here m AtCutModifyBeforeAttemptCompletion) (finishing_at m))
cut_operation_AtHookClient stop m s h = grind arith

cut_operation_AtConfigureOperation : (stop : StopPoint) (m : Armed) (s : State) → is_left (cut (left_at stop m AtConfigureOperation) Operation) ≡ true → after_cut (cut (left_at stop m AtConfigureOperation) Operation) s ≡ placed stop (cond (is_in_attempt AtConfigureOperation) (here m AtCutModifyBeforeAttemptCompletion) (finishing_at m))
cut_operation_AtConfigureOperation stop m s h = grind arith

cut_operation_AtHookOperation : (stop : StopPoint) (m : Armed) (s : State) → is_left (cut (left_at stop m (points.Hook hooks.ReadBeforeExecutionOperation)) Operation) ≡ true → after_cut (cut (left_at stop m (points.Hook hooks.ReadBeforeExecutionOperation)) Operation) s ≡ placed stop (cond (is_in_attempt (points.Hook hooks.ReadBeforeExecutionOperation)) (here m AtCutModifyBeforeAttemptCompletion) (finishing_at m))
cut_operation_AtHookOperation stop m s h = grind arith

cut_operation_AtConfigureFinal : (stop : StopPoint) (m : Armed) (s : State) → is_left (cut (left_at stop m AtConfigureFinal) Operation) ≡ true → after_cut (cut (left_at stop m AtConfigureFinal) Operation) s ≡ placed stop (cond (is_in_attempt AtConfigureFinal) (here m AtCutModifyBeforeAttemptCompletion) (finishing_at m))
cut_operation_AtConfigureFinal stop m s h = grind arith

cut_operation_AtStartOperationFailed : (stop : StopPoint) (m : Armed) (s : State) → is_left (cut (left_at stop m AtStartOperationFailed) Operation) ≡ true → after_cut (cut (left_at stop m AtStartOperationFailed) Operation) s ≡ placed stop (cond (is_in_attempt AtStartOperationFailed) (here m AtCutModifyBeforeAttemptCompletion) (finishing_at m))
cut_operation_AtStartOperationFailed stop m s h = grind arith

cut_operation_AtStartOperation : (stop : StopPoint) (m : Armed) (s : State) → is_left (cut (left_at stop m AtStartOperation) Operation) ≡ true → after_cut (cut (left_at stop m AtStartOperation) Operation) s ≡ placed stop (cond (is_in_attempt AtStartOperation) (here m AtCutModifyBeforeAttemptCompletion) (finishing_at m))
cut_operation_AtStartOperation stop m s h = grind arith

cut_operation_AtModifyBeforeSerialization : (stop : StopPoint) (m : Armed) (s : State) → is_left (cut (left_at stop m (points.Hook hooks.ModifyBeforeSerialization)) Operation) ≡ true → after_cut (cut (left_at stop m (points.Hook hooks.ModifyBeforeSerialization)) Operation) s ≡ placed stop (cond (is_in_attempt (points.Hook hooks.ModifyBeforeSerialization)) (here m AtCutModifyBeforeAttemptCompletion) (finishing_at m))
cut_operation_AtModifyBeforeSerialization stop m s h = grind arith

cut_operation_AtReadBeforeSerialization : (stop : StopPoint) (m : Armed) (s : State) → is_left (cut (left_at stop m (points.Hook hooks.ReadBeforeSerialization)) Operation) ≡ true → after_cut (cut (left_at stop m (points.Hook hooks.ReadBeforeSerialization)) Operation) s ≡ placed stop (cond (is_in_attempt (points.Hook hooks.ReadBeforeSerialization)) (here m AtCutModifyBeforeAttemptCompletion) (finishing_at m))
cut_operation_AtReadBeforeSerialization stop m s h = grind arith

cut_operation_AtSerialize : (stop : StopPoint) (m : Armed) (s : State) → is_left (cut (left_at stop m AtSerialize) Operation) ≡ true → after_cut (cut (left_at stop m AtSerialize) Operation) s ≡ placed stop (cond (is_in_attempt AtSerialize) (here m AtCutModifyBeforeAttemptCompletion) (finishing_at m))
cut_operation_AtSerialize stop m s h = grind arith

cut_operation_AtLoad : (stop : StopPoint) (m : Armed) (s : State) → is_left (cut (left_at stop m AtLoad) Operation) ≡ true → after_cut (cut (left_at stop m AtLoad) Operation) s ≡ placed stop (cond (is_in_attempt AtLoad) (here m AtCutModifyBeforeAttemptCompletion) (finishing_at m))
cut_operation_AtLoad stop m s h = grind arith

cut_operation_AtReadAfterSerialization : (stop : StopPoint) (m : Armed) (s : State) → is_left (cut (left_at stop m (points.Hook hooks.ReadAfterSerialization)) Operation) ≡ true → after_cut (cut (left_at stop m (points.Hook hooks.ReadAfterSerialization)) Operation) s ≡ placed stop (cond (is_in_attempt (points.Hook hooks.ReadAfterSerialization)) (here m AtCutModifyBeforeAttemptCompletion) (finishing_at m))
cut_operation_AtReadAfterSerialization stop m s h = grind arith

cut_operation_AtModifyBeforeRetryLoop : (stop : StopPoint) (m : Armed) (s : State) → is_left (cut (left_at stop m (points.Hook hooks.ModifyBeforeRetryLoop)) Operation) ≡ true → after_cut (cut (left_at stop m (points.Hook hooks.ModifyBeforeRetryLoop)) Operation) s ≡ placed stop (cond (is_in_attempt (points.Hook hooks.ModifyBeforeRetryLoop)) (here m AtCutModifyBeforeAttemptCompletion) (finishing_at m))
cut_operation_AtModifyBeforeRetryLoop stop m s h = grind arith

cut_operation_AtInitial : (stop : StopPoint) (m : Armed) (s : State) → is_left (cut (left_at stop m AtInitial) Operation) ≡ true → after_cut (cut (left_at stop m AtInitial) Operation) s ≡ placed stop (cond (is_in_attempt AtInitial) (here m AtCutModifyBeforeAttemptCompletion) (finishing_at m))
cut_operation_AtInitial stop m s h = grind arith

cut_operation_AtStartSend : (stop : StopPoint) (m : Armed) (s : State) → is_left (cut (left_at stop m AtStartSend) Operation) ≡ true → after_cut (cut (left_at stop m AtStartSend) Operation) s ≡ placed stop (cond (is_in_attempt AtStartSend) (here m AtCutModifyBeforeAttemptCompletion) (finishing_at m))
cut_operation_AtStartSend stop m s h = grind arith

cut_operation_AtWaitSend : (stop : StopPoint) (m : Armed) (s : State) → is_left (cut (left_at stop m AtWaitSend) Operation) ≡ true → after_cut (cut (left_at stop m AtWaitSend) Operation) s ≡ placed stop (cond (is_in_attempt AtWaitSend) (here m AtCutModifyBeforeAttemptCompletion) (finishing_at m))
cut_operation_AtWaitSend stop m s h = grind arith

cut_operation_AtStartAttempt : (stop : StopPoint) (m : Armed) (s : State) → is_left (cut (left_at stop m AtStartAttempt) Operation) ≡ true → after_cut (cut (left_at stop m AtStartAttempt) Operation) s ≡ placed stop (cond (is_in_attempt AtStartAttempt) (here m AtCutModifyBeforeAttemptCompletion) (finishing_at m))
cut_operation_AtStartAttempt stop m s h = grind arith

cut_operation_AtReadBeforeAttempt : (stop : StopPoint) (m : Armed) (s : State) → is_left (cut (left_at stop m (points.Hook hooks.ReadBeforeAttempt)) Operation) ≡ true → after_cut (cut (left_at stop m (points.Hook hooks.ReadBeforeAttempt)) Operation) s ≡ placed stop (cond (is_in_attempt (points.Hook hooks.ReadBeforeAttempt)) (here m AtCutModifyBeforeAttemptCompletion) (finishing_at m))
cut_operation_AtReadBeforeAttempt stop m s h = grind arith

cut_operation_AtChoose : (stop : StopPoint) (m : Armed) (s : State) → is_left (cut (left_at stop m AtChoose) Operation) ≡ true → after_cut (cut (left_at stop m AtChoose) Operation) s ≡ placed stop (cond (is_in_attempt AtChoose) (here m AtCutModifyBeforeAttemptCompletion) (finishing_at m))
cut_operation_AtChoose stop m s h = grind arith

cut_operation_AtEndpoint : (stop : StopPoint) (m : Armed) (s : State) → is_left (cut (left_at stop m AtEndpoint) Operation) ≡ true → after_cut (cut (left_at stop m AtEndpoint) Operation) s ≡ placed stop (cond (is_in_attempt AtEndpoint) (here m AtCutModifyBeforeAttemptCompletion) (finishing_at m))
cut_operation_AtEndpoint stop m s h = grind arith

cut_operation_AtApply : (stop : StopPoint) (m : Armed) (s : State) → is_left (cut (left_at stop m AtApply) Operation) ≡ true → after_cut (cut (left_at stop m AtApply) Operation) s ≡ placed stop (cond (is_in_attempt AtApply) (here m AtCutModifyBeforeAttemptCompletion) (finishing_at m))
cut_operation_AtApply stop m s h = grind arith

cut_operation_AtModifyBeforeSigning : (stop : StopPoint) (m : Armed) (s : State) → is_left (cut (left_at stop m (points.Hook hooks.ModifyBeforeSigning)) Operation) ≡ true → after_cut (cut (left_at stop m (points.Hook hooks.ModifyBeforeSigning)) Operation) s ≡ placed stop (cond (is_in_attempt (points.Hook hooks.ModifyBeforeSigning)) (here m AtCutModifyBeforeAttemptCompletion) (finishing_at m))
cut_operation_AtModifyBeforeSigning stop m s h = grind arith

cut_operation_AtReadBeforeSigning : (stop : StopPoint) (m : Armed) (s : State) → is_left (cut (left_at stop m (points.Hook hooks.ReadBeforeSigning)) Operation) ≡ true → after_cut (cut (left_at stop m (points.Hook hooks.ReadBeforeSigning)) Operation) s ≡ placed stop (cond (is_in_attempt (points.Hook hooks.ReadBeforeSigning)) (here m AtCutModifyBeforeAttemptCompletion) (finishing_at m))
cut_operation_AtReadBeforeSigning stop m s h = grind arith

cut_operation_AtSign : (stop : StopPoint) (m : Armed) (s : State) → is_left (cut (left_at stop m AtSign) Operation) ≡ true → after_cut (cut (left_at stop m AtSign) Operation) s ≡ placed stop (cond (is_in_attempt AtSign) (here m AtCutModifyBeforeAttemptCompletion) (finishing_at m))
cut_operation_AtSign stop m s h = grind arith

cut_operation_AtReadAfterSigning : (stop : StopPoint) (m : Armed) (s : State) → is_left (cut (left_at stop m (points.Hook hooks.ReadAfterSigning)) Operation) ≡ true → after_cut (cut (left_at stop m (points.Hook hooks.ReadAfterSigning)) Operation) s ≡ placed stop (cond (is_in_attempt (points.Hook hooks.ReadAfterSigning)) (here m AtCutModifyBeforeAttemptCompletion) (finishing_at m))
cut_operation_AtReadAfterSigning stop m s h = grind arith

cut_operation_AtModifyBeforeTransmit : (stop : StopPoint) (m : Armed) (s : State) → is_left (cut (left_at stop m (points.Hook hooks.ModifyBeforeTransmit)) Operation) ≡ true → after_cut (cut (left_at stop m (points.Hook hooks.ModifyBeforeTransmit)) Operation) s ≡ placed stop (cond (is_in_attempt (points.Hook hooks.ModifyBeforeTransmit)) (here m AtCutModifyBeforeAttemptCompletion) (finishing_at m))
cut_operation_AtModifyBeforeTransmit stop m s h = grind arith

cut_operation_AtReadBeforeTransmit : (stop : StopPoint) (m : Armed) (s : State) → is_left (cut (left_at stop m (points.Hook hooks.ReadBeforeTransmit)) Operation) ≡ true → after_cut (cut (left_at stop m (points.Hook hooks.ReadBeforeTransmit)) Operation) s ≡ placed stop (cond (is_in_attempt (points.Hook hooks.ReadBeforeTransmit)) (here m AtCutModifyBeforeAttemptCompletion) (finishing_at m))
cut_operation_AtReadBeforeTransmit stop m s h = grind arith

cut_operation_AtTransmit : (stop : StopPoint) (m : Armed) (s : State) → is_left (cut (left_at stop m AtTransmit) Operation) ≡ true → after_cut (cut (left_at stop m AtTransmit) Operation) s ≡ placed stop (cond (is_in_attempt AtTransmit) (here m AtCutModifyBeforeAttemptCompletion) (finishing_at m))
cut_operation_AtTransmit stop m s h = grind arith

cut_operation_AtReadAfterTransmit : (stop : StopPoint) (m : Armed) (s : State) → is_left (cut (left_at stop m (points.Hook hooks.ReadAfterTransmit)) Operation) ≡ true → after_cut (cut (left_at stop m (points.Hook hooks.ReadAfterTransmit)) Operation) s ≡ placed stop (cond (is_in_attempt (points.Hook hooks.ReadAfterTransmit)) (here m AtCutModifyBeforeAttemptCompletion) (finishing_at m))
cut_operation_AtReadAfterTransmit stop m s h = grind arith

cut_operation_AtModifyBeforeDeserialization : (stop : StopPoint) (m : Armed) (s : State) → is_left (cut (left_at stop m (points.Hook hooks.ModifyBeforeDeserialization)) Operation) ≡ true → after_cut (cut (left_at stop m (points.Hook hooks.ModifyBeforeDeserialization)) Operation) s ≡ placed stop (cond (is_in_attempt (points.Hook hooks.ModifyBeforeDeserialization)) (here m AtCutModifyBeforeAttemptCompletion) (finishing_at m))
cut_operation_AtModifyBeforeDeserialization stop m s h = grind arith

cut_operation_AtReadBeforeDeserialization : (stop : StopPoint) (m : Armed) (s : State) → is_left (cut (left_at stop m (points.Hook hooks.ReadBeforeDeserialization)) Operation) ≡ true → after_cut (cut (left_at stop m (points.Hook hooks.ReadBeforeDeserialization)) Operation) s ≡ placed stop (cond (is_in_attempt (points.Hook hooks.ReadBeforeDeserialization)) (here m AtCutModifyBeforeAttemptCompletion) (finishing_at m))
cut_operation_AtReadBeforeDeserialization stop m s h = grind arith

cut_operation_AtStream : (stop : StopPoint) (m : Armed) (s : State) → is_left (cut (left_at stop m AtStream) Operation) ≡ true → after_cut (cut (left_at stop m AtStream) Operation) s ≡ placed stop (cond (is_in_attempt AtStream) (here m AtCutModifyBeforeAttemptCompletion) (finishing_at m))
cut_operation_AtStream stop m s h = grind arith

cut_operation_AtBody : (stop : StopPoint) (m : Armed) (s : State) → is_left (cut (left_at stop m AtBody) Operation) ≡ true → after_cut (cut (left_at stop m AtBody) Operation) s ≡ placed stop (cond (is_in_attempt AtBody) (here m AtCutModifyBeforeAttemptCompletion) (finishing_at m))
cut_operation_AtBody stop m s h = grind arith

cut_operation_AtDeserialize : (stop : StopPoint) (m : Armed) (s : State) → is_left (cut (left_at stop m AtDeserialize) Operation) ≡ true → after_cut (cut (left_at stop m AtDeserialize) Operation) s ≡ placed stop (cond (is_in_attempt AtDeserialize) (here m AtCutModifyBeforeAttemptCompletion) (finishing_at m))
cut_operation_AtDeserialize stop m s h = grind arith

cut_operation_AtReadAfterDeserialization : (stop : StopPoint) (m : Armed) (s : State) → is_left (cut (left_at stop m (points.Hook hooks.ReadAfterDeserialization)) Operation) ≡ true → after_cut (cut (left_at stop m (points.Hook hooks.ReadAfterDeserialization)) Operation) s ≡ placed stop (cond (is_in_attempt (points.Hook hooks.ReadAfterDeserialization)) (here m AtCutModifyBeforeAttemptCompletion) (finishing_at m))
cut_operation_AtReadAfterDeserialization stop m s h = grind arith

cut_operation_AtModifyBeforeAttemptCompletion : (stop : StopPoint) (m : Armed) (s : State) → is_left (cut (left_at stop m (points.Hook hooks.ModifyBeforeAttemptCompletion)) Operation) ≡ true → after_cut (cut (left_at stop m (points.Hook hooks.ModifyBeforeAttemptCompletion)) Operation) s ≡ placed stop (cond (is_in_attempt (points.Hook hooks.ModifyBeforeAttemptCompletion)) (here m AtCutModifyBeforeAttemptCompletion) (finishing_at m))
cut_operation_AtModifyBeforeAttemptCompletion stop m s h = grind arith

cut_operation_AtReadAfterAttempt : (stop : StopPoint) (m : Armed) (s : State) → is_left (cut (left_at stop m (points.Hook hooks.ReadAfterAttempt)) Operation) ≡ true → after_cut (cut (left_at stop m (points.Hook hooks.ReadAfterAttempt)) Operation) s ≡ placed stop (cond (is_in_attempt (points.Hook hooks.ReadAfterAttempt)) (here m AtCutModifyBeforeAttemptCompletion) (finishing_at m))
cut_operation_AtReadAfterAttempt stop m s h = grind arith

cut_operation_AtDecide : (stop : StopPoint) (m : Armed) (s : State) → is_left (cut (left_at stop m AtDecide) Operation) ≡ true → after_cut (cut (left_at stop m AtDecide) Operation) s ≡ placed stop (cond (is_in_attempt AtDecide) (here m AtCutModifyBeforeAttemptCompletion) (finishing_at m))
cut_operation_AtDecide stop m s h = grind arith

cut_operation_AtStartRetry : (stop : StopPoint) (m : Armed) (s : State) → is_left (cut (left_at stop m AtStartRetry) Operation) ≡ true → after_cut (cut (left_at stop m AtStartRetry) Operation) s ≡ placed stop (cond (is_in_attempt AtStartRetry) (here m AtCutModifyBeforeAttemptCompletion) (finishing_at m))
cut_operation_AtStartRetry stop m s h = grind arith

cut_operation_AtWaitRetry : (stop : StopPoint) (m : Armed) (s : State) → is_left (cut (left_at stop m AtWaitRetry) Operation) ≡ true → after_cut (cut (left_at stop m AtWaitRetry) Operation) s ≡ placed stop (cond (is_in_attempt AtWaitRetry) (here m AtCutModifyBeforeAttemptCompletion) (finishing_at m))
cut_operation_AtWaitRetry stop m s h = grind arith

cut_operation_AtStartLongPoll : (stop : StopPoint) (m : Armed) (s : State) → is_left (cut (left_at stop m AtStartLongPoll) Operation) ≡ true → after_cut (cut (left_at stop m AtStartLongPoll) Operation) s ≡ placed stop (cond (is_in_attempt AtStartLongPoll) (here m AtCutModifyBeforeAttemptCompletion) (finishing_at m))
cut_operation_AtStartLongPoll stop m s h = grind arith

cut_operation_AtWaitLongPoll : (stop : StopPoint) (m : Armed) (s : State) → is_left (cut (left_at stop m AtWaitLongPoll) Operation) ≡ true → after_cut (cut (left_at stop m AtWaitLongPoll) Operation) s ≡ placed stop (cond (is_in_attempt AtWaitLongPoll) (here m AtCutModifyBeforeAttemptCompletion) (finishing_at m))
cut_operation_AtWaitLongPoll stop m s h = grind arith

cut_operation_AtTokenInitial : (stop : StopPoint) (m : Armed) (s : State) → is_left (cut (left_at stop m AtTokenInitial) Operation) ≡ true → after_cut (cut (left_at stop m AtTokenInitial) Operation) s ≡ placed stop (cond (is_in_attempt AtTokenInitial) (here m AtCutModifyBeforeAttemptCompletion) (finishing_at m))
cut_operation_AtTokenInitial stop m s h = grind arith

cut_operation_AtTokenStartSend : (stop : StopPoint) (m : Armed) (s : State) → is_left (cut (left_at stop m AtTokenStartSend) Operation) ≡ true → after_cut (cut (left_at stop m AtTokenStartSend) Operation) s ≡ placed stop (cond (is_in_attempt AtTokenStartSend) (here m AtCutModifyBeforeAttemptCompletion) (finishing_at m))
cut_operation_AtTokenStartSend stop m s h = grind arith

cut_operation_AtTokenWaitSend : (stop : StopPoint) (m : Armed) (s : State) → is_left (cut (left_at stop m AtTokenWaitSend) Operation) ≡ true → after_cut (cut (left_at stop m AtTokenWaitSend) Operation) s ≡ placed stop (cond (is_in_attempt AtTokenWaitSend) (here m AtCutModifyBeforeAttemptCompletion) (finishing_at m))
cut_operation_AtTokenWaitSend stop m s h = grind arith

cut_operation_AtCutModifyBeforeAttemptCompletion : (stop : StopPoint) (m : Armed) (s : State) → is_left (cut (left_at stop m AtCutModifyBeforeAttemptCompletion) Operation) ≡ true → after_cut (cut (left_at stop m AtCutModifyBeforeAttemptCompletion) Operation) s ≡ placed stop (cond (is_in_attempt AtCutModifyBeforeAttemptCompletion) (here m AtCutModifyBeforeAttemptCompletion) (finishing_at m))
cut_operation_AtCutModifyBeforeAttemptCompletion stop m s h = grind arith

cut_operation_AtCutReadAfterAttempt : (stop : StopPoint) (m : Armed) (s : State) → is_left (cut (left_at stop m AtCutReadAfterAttempt) Operation) ≡ true → after_cut (cut (left_at stop m AtCutReadAfterAttempt) Operation) s ≡ placed stop (cond (is_in_attempt AtCutReadAfterAttempt) (here m AtCutModifyBeforeAttemptCompletion) (finishing_at m))
cut_operation_AtCutReadAfterAttempt stop m s h = grind arith

cut_operation_AtModifyBeforeCompletion : (stop : StopPoint) (m : Armed) (s : State) → is_left (cut (left_at stop m (points.Hook hooks.ModifyBeforeCompletion)) Operation) ≡ true → after_cut (cut (left_at stop m (points.Hook hooks.ModifyBeforeCompletion)) Operation) s ≡ placed stop (cond (is_in_attempt (points.Hook hooks.ModifyBeforeCompletion)) (here m AtCutModifyBeforeAttemptCompletion) (finishing_at m))
cut_operation_AtModifyBeforeCompletion stop m s h = grind arith

cut_operation_AtReadAfterExecution : (stop : StopPoint) (m : Armed) (s : State) → is_left (cut (left_at stop m (points.Hook hooks.ReadAfterExecution)) Operation) ≡ true → after_cut (cut (left_at stop m (points.Hook hooks.ReadAfterExecution)) Operation) s ≡ placed stop (cond (is_in_attempt (points.Hook hooks.ReadAfterExecution)) (here m AtCutModifyBeforeAttemptCompletion) (finishing_at m))
cut_operation_AtReadAfterExecution stop m s h = grind arith

pub cut_by_operation : (stop : StopPoint) (m : Armed) (p : Point) (s : State) → is_left (cut (left_at stop m p) Operation) ≡ true →
    after_cut (cut (left_at stop m p) Operation) s ≡ placed stop (cond (is_in_attempt p) (here m AtCutModifyBeforeAttemptCompletion) (finishing_at m))
cut_by_operation stop m AtConfigureClient s h = cut_operation_AtConfigureClient stop m s h
cut_by_operation stop m (points.Hook hooks.ReadBeforeExecutionClient) s h = cut_operation_AtHookClient stop m s h
cut_by_operation stop m AtConfigureOperation s h = cut_operation_AtConfigureOperation stop m s h
cut_by_operation stop m (points.Hook hooks.ReadBeforeExecutionOperation) s h = cut_operation_AtHookOperation stop m s h
cut_by_operation stop m AtConfigureFinal s h = cut_operation_AtConfigureFinal stop m s h
cut_by_operation stop m AtStartOperationFailed s h = cut_operation_AtStartOperationFailed stop m s h
cut_by_operation stop m AtStartOperation s h = cut_operation_AtStartOperation stop m s h
cut_by_operation stop m (points.Hook hooks.ModifyBeforeSerialization) s h = cut_operation_AtModifyBeforeSerialization stop m s h
cut_by_operation stop m (points.Hook hooks.ReadBeforeSerialization) s h = cut_operation_AtReadBeforeSerialization stop m s h
cut_by_operation stop m AtSerialize s h = cut_operation_AtSerialize stop m s h
cut_by_operation stop m AtLoad s h = cut_operation_AtLoad stop m s h
cut_by_operation stop m (points.Hook hooks.ReadAfterSerialization) s h = cut_operation_AtReadAfterSerialization stop m s h
cut_by_operation stop m (points.Hook hooks.ModifyBeforeRetryLoop) s h = cut_operation_AtModifyBeforeRetryLoop stop m s h
cut_by_operation stop m AtInitial s h = cut_operation_AtInitial stop m s h
cut_by_operation stop m AtStartSend s h = cut_operation_AtStartSend stop m s h
cut_by_operation stop m AtWaitSend s h = cut_operation_AtWaitSend stop m s h
cut_by_operation stop m AtStartAttempt s h = cut_operation_AtStartAttempt stop m s h
cut_by_operation stop m (points.Hook hooks.ReadBeforeAttempt) s h = cut_operation_AtReadBeforeAttempt stop m s h
cut_by_operation stop m AtChoose s h = cut_operation_AtChoose stop m s h
cut_by_operation stop m AtEndpoint s h = cut_operation_AtEndpoint stop m s h
cut_by_operation stop m AtApply s h = cut_operation_AtApply stop m s h
cut_by_operation stop m (points.Hook hooks.ModifyBeforeSigning) s h = cut_operation_AtModifyBeforeSigning stop m s h
cut_by_operation stop m (points.Hook hooks.ReadBeforeSigning) s h = cut_operation_AtReadBeforeSigning stop m s h
cut_by_operation stop m AtSign s h = cut_operation_AtSign stop m s h
cut_by_operation stop m (points.Hook hooks.ReadAfterSigning) s h = cut_operation_AtReadAfterSigning stop m s h
cut_by_operation stop m (points.Hook hooks.ModifyBeforeTransmit) s h = cut_operation_AtModifyBeforeTransmit stop m s h
cut_by_operation stop m (points.Hook hooks.ReadBeforeTransmit) s h = cut_operation_AtReadBeforeTransmit stop m s h
cut_by_operation stop m AtTransmit s h = cut_operation_AtTransmit stop m s h
cut_by_operation stop m (points.Hook hooks.ReadAfterTransmit) s h = cut_operation_AtReadAfterTransmit stop m s h
cut_by_operation stop m (points.Hook hooks.ModifyBeforeDeserialization) s h = cut_operation_AtModifyBeforeDeserialization stop m s h
cut_by_operation stop m (points.Hook hooks.ReadBeforeDeserialization) s h = cut_operation_AtReadBeforeDeserialization stop m s h
cut_by_operation stop m AtStream s h = cut_operation_AtStream stop m s h
cut_by_operation stop m AtBody s h = cut_operation_AtBody stop m s h
cut_by_operation stop m AtDeserialize s h = cut_operation_AtDeserialize stop m s h
cut_by_operation stop m (points.Hook hooks.ReadAfterDeserialization) s h = cut_operation_AtReadAfterDeserialization stop m s h
cut_by_operation stop m (points.Hook hooks.ModifyBeforeAttemptCompletion) s h = cut_operation_AtModifyBeforeAttemptCompletion stop m s h
cut_by_operation stop m (points.Hook hooks.ReadAfterAttempt) s h = cut_operation_AtReadAfterAttempt stop m s h
cut_by_operation stop m AtDecide s h = cut_operation_AtDecide stop m s h
cut_by_operation stop m AtStartRetry s h = cut_operation_AtStartRetry stop m s h
cut_by_operation stop m AtWaitRetry s h = cut_operation_AtWaitRetry stop m s h
cut_by_operation stop m AtStartLongPoll s h = cut_operation_AtStartLongPoll stop m s h
cut_by_operation stop m AtWaitLongPoll s h = cut_operation_AtWaitLongPoll stop m s h
cut_by_operation stop m AtTokenInitial s h = cut_operation_AtTokenInitial stop m s h
cut_by_operation stop m AtTokenStartSend s h = cut_operation_AtTokenStartSend stop m s h
cut_by_operation stop m AtTokenWaitSend s h = cut_operation_AtTokenWaitSend stop m s h
cut_by_operation stop m AtCutModifyBeforeAttemptCompletion s h = cut_operation_AtCutModifyBeforeAttemptCompletion stop m s h
cut_by_operation stop m AtCutReadAfterAttempt s h = cut_operation_AtCutReadAfterAttempt stop m s h
cut_by_operation stop m (points.Hook hooks.ModifyBeforeCompletion) s h = cut_operation_AtModifyBeforeCompletion stop m s h
cut_by_operation stop m (points.Hook hooks.ReadAfterExecution) s h = cut_operation_AtReadAfterExecution stop m s h
