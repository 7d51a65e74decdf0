-- Where the code of a run may stand, and the position that this is.
use Rattle.run_grammar.specs.declared.production.Test.TheVariants as tests
use Rattle.std.specs.Prelude.{false, Option, None, Some, cond, List, [], ◌∷◌}
use Rattle.run_grammar.specs.declared.kind.Role.{Role}
use Rattle.run_grammar.specs.declared.kind.Kind.{Kind}
use Rattle.orchestrate.specs.declared.point.Point.{Point}
use Rattle.smithy_types.specs.declared.kinds.StopPoint.{StopPoint}
use Rattle.orchestrate.specs.declared.stage.Armed.{Armed}
use Rattle.orchestrate.specs.declared.stage.Place.{Place}
use Rattle.smithy_types.specs.declared.hook.Hook.TheVariants.{ModifyBeforeAttemptCompletion, ModifyBeforeCompletion}
use Rattle.smithy_types.specs.declared.hook.Hook.TheVariants.{ModifyBeforeDeserialization, ModifyBeforeRetryLoop}
use Rattle.smithy_types.specs.declared.hook.Hook.TheVariants.{ModifyBeforeSerialization, ModifyBeforeSigning}
use Rattle.smithy_types.specs.declared.hook.Hook.TheVariants.{ModifyBeforeTransmit, ReadAfterAttempt}
use Rattle.smithy_types.specs.declared.hook.Hook.TheVariants.{ReadAfterDeserialization, ReadAfterExecution}
use Rattle.smithy_types.specs.declared.hook.Hook.TheVariants.{ReadAfterSerialization, ReadAfterSigning}
use Rattle.smithy_types.specs.declared.hook.Hook.TheVariants.{ReadAfterTransmit, ReadBeforeAttempt}
use Rattle.smithy_types.specs.declared.hook.Hook.TheVariants.{ReadBeforeDeserialization, ReadBeforeExecutionClient}
use Rattle.smithy_types.specs.declared.hook.Hook.TheVariants.{ReadBeforeExecutionOperation, ReadBeforeSerialization}
use Rattle.smithy_types.specs.declared.hook.Hook.TheVariants.{ReadBeforeSigning, ReadBeforeTransmit}
use Rattle.run_grammar.specs.declared.kind.Kind.TheVariants as kinds
use Rattle.orchestrate.specs.declared.point.Point.TheVariants.{AtApply, AtBody, AtChoose, AtConfigureClient}
use Rattle.orchestrate.specs.declared.point.Point.TheVariants.{AtConfigureFinal, AtConfigureOperation}
use Rattle.orchestrate.specs.declared.point.Point.TheVariants.{AtCutModifyBeforeAttemptCompletion}
use Rattle.orchestrate.specs.declared.point.Point.TheVariants.{AtCutReadAfterAttempt, AtDecide, AtDeserialize}
use Rattle.orchestrate.specs.declared.point.Point.TheVariants.{AtEndpoint, AtInitial, AtLoad, AtSerialize, AtSign}
use Rattle.orchestrate.specs.declared.point.Point.TheVariants.{AtStartAttempt, AtStartLongPoll, AtStartOperation}
use Rattle.orchestrate.specs.declared.point.Point.TheVariants.{AtStartOperationFailed, AtStartRetry, AtStartSend}
use Rattle.orchestrate.specs.declared.point.Point.TheVariants.{AtStream, AtTokenInitial, AtTokenStartSend}
use Rattle.orchestrate.specs.declared.point.Point.TheVariants.{AtTokenWaitSend, AtTransmit, AtWaitLongPoll, AtWaitRetry}
use Rattle.orchestrate.specs.declared.point.Point.TheVariants.{AtWaitSend}
use Rattle.orchestrate.specs.declared.point.Point.TheVariants as points
use Rattle.smithy_types.specs.declared.hook.Hook.TheVariants as hooks
use Rattle.smithy_types.specs.declared.hook.RunPart.{RunPart}
use Rattle.smithy_types.specs.declared.hook.RunPart.TheVariants as parts
use Rattle.smithy_types.specs.Hooks.{part_of}
use Rattle.run_grammar.specs.declared.kind.Role.TheVariants.{Attempt, LongPoll, Operation, Retry, Send}
use Rattle.run_grammar.specs.declared.kind.ConfigureStage.TheVariants as stages
use Rattle.smithy_types.specs.declared.kinds.StopPoint.TheVariants as stops
use Rattle.run_grammar.specs.Standing.{State}
use Rattle.run_grammar.specs.Grammar.{hook, halted, arm, armed, sending, streaming, attempt, settle, again, round, loop}
use Rattle.run_grammar.specs.Grammar.{grant_round, grant, op, finish}
use Rattle.run_grammar.specs.Tests.{failed, delayed, went, went_on, started, not_streaming, body_read, decided_yes}
use Rattle.run_grammar.specs.Tests.{decided_no_after, decided_delay, endpoint_stands, load_body, checkpoint_stands}
use Rattle.run_grammar.specs.Tests.{failure_stands, timeout_stands, token_needed}
use Rattle.run_grammar.specs.Production.{Production, Nothing, Work, ◌⨟◌, Where, Rounds, Again, InAttempt, Under}
use Rattle.run_grammar.specs.Machine.{Position, Whole, Asking}

-- the question that is asked there
abbrev pub kind_at : Point → Kind
kind_at AtConfigureClient = kinds.Configure stages.Client
kind_at (points.Hook h) = kinds.Hook h
kind_at AtConfigureOperation = kinds.Configure stages.Operation
kind_at AtConfigureFinal = kinds.Configure stages.Final
kind_at AtStartOperationFailed = kinds.Start Operation
kind_at AtStartOperation = kinds.Start Operation
kind_at AtSerialize = kinds.Serialize
kind_at AtLoad = kinds.Load
kind_at AtInitial = kinds.Initial
kind_at AtStartSend = kinds.Start Send
kind_at AtWaitSend = kinds.Wait Send
kind_at AtStartAttempt = kinds.Start Attempt
kind_at AtChoose = kinds.Choose
kind_at AtEndpoint = kinds.Endpoint
kind_at AtApply = kinds.Apply
kind_at AtSign = kinds.Sign
kind_at AtTransmit = kinds.Transmit
kind_at AtStream = kinds.Stream
kind_at AtBody = kinds.Body
kind_at AtDeserialize = kinds.Deserialize
kind_at AtDecide = kinds.Decide
kind_at AtStartRetry = kinds.Start Retry
kind_at AtWaitRetry = kinds.Wait Retry
kind_at AtStartLongPoll = kinds.Start LongPoll
kind_at AtWaitLongPoll = kinds.Wait LongPoll
kind_at AtTokenInitial = kinds.Initial
kind_at AtTokenStartSend = kinds.Start Send
kind_at AtTokenWaitSend = kinds.Wait Send
kind_at AtCutModifyBeforeAttemptCompletion = kinds.Hook ModifyBeforeAttemptCompletion
kind_at AtCutReadAfterAttempt = kinds.Hook ReadAfterAttempt

-- no deadline is armed
abbrev pub none_armed : Armed
none_armed = record { operation = false; attempt = false }

-- the part in which a point lies
abbrev pub in_operation : Armed → Production → Production
in_operation m r = cond m.operation (Under Operation r settle) r ⨟ finish

-- r in an attempt, under the attempt's deadline where that is armed
abbrev pub in_attempt : Armed → Production → Production
in_attempt m r = cond m.attempt (Under Attempt (InAttempt r) Nothing) (InAttempt r)

-- what follows the serialization and its hooks: the first grant, and the loop of attempts
abbrev pub after_front : StopPoint → Production
after_front stop = Where tests.Failed Nothing (grant ⨟ Where tests.Went (loop stop) Nothing)

-- what is left of a run with r left up to the loop of attempts
abbrev pub in_front : StopPoint → Armed → Production → Production
in_front stop m r = in_operation m (r ⨟ after_front stop)

-- what is left of a run with r left of the round that asks for the first attempt
abbrev pub in_grant : StopPoint → Armed → Production → Production
in_grant stop m r = in_operation m (Rounds r grant_round ⨟ Where tests.Went (loop stop) Nothing)

-- what follows a turn of the loop, by the strategy's decision
abbrev pub after_turn : Production
after_turn =
    Where tests.DecidedYes (Where tests.CheckpointStands again Nothing)
    (Where tests.DecidedNoAfter
    (Work (kinds.Start LongPoll) ⨟ Where (tests.HasStarted LongPoll) (Work (kinds.Wait LongPoll)) Nothing)
    (Where tests.DecidedDelay
    (Work (kinds.Start Retry)
    ⨟ Where (tests.HasStarted Retry)
    (Where tests.CheckpointStands (Work (kinds.Wait Retry) ⨟ again) Nothing) Nothing)
    Nothing))

-- what is left of a run with r left of a round of the loop of attempts
abbrev pub in_round : StopPoint → Armed → Production → Production
in_round stop m r = in_operation m (Rounds r (round stop))

-- what is left of a run with r left of the round that asks for a further attempt's token
abbrev pub in_token : StopPoint → Armed → Production → Production
in_token stop m r = in_round stop m (Rounds r grant_round ⨟ Where tests.WentOn Again Nothing)

-- what is left of a run with r left of a turn of the loop
abbrev pub in_turn : StopPoint → Armed → Production → Production
in_turn stop m r = in_round stop m (r ⨟ after_turn)

-- what is left of a run with r left of an attempt before its completion hooks
abbrev pub in_try : StopPoint → Armed → Production → Production
in_try stop m r = in_turn stop m (in_attempt m r ⨟ settle ⨟ Work kinds.Decide)

-- r, and what follows an attempt's opening where the run goes past the stop point
abbrev pub after_opening : StopPoint → Production → Production
after_opening stops.None r = r ⨟ Where tests.Failed Nothing (halted (sending ∷ streaming ∷ []))
after_opening stops.BeforeTransmit r = r

-- what is left of a run with r left of an attempt's opening
abbrev pub in_opening : StopPoint → Armed → Production → Production
in_opening stop m r = in_try stop m (after_opening stop r)

-- after a step of a halted word: the rest of it, where the step did not fail
abbrev pub and_then : List Production → Production
and_then [] = Nothing
and_then (p ∷ ps) = Nothing ⨟ Where tests.Failed Nothing (halted (p ∷ ps))

-- what is left of a run with r left of an attempt's transmission and its hooks
abbrev pub in_sending : StopPoint → Armed → Production → Production
in_sending stop m r = in_try stop m (r ⨟ Where tests.Failed Nothing streaming)

-- what is left after a configuration: p, where it didn't fail
abbrev pub configuring : Production → Production
configuring p = Nothing ⨟ Where tests.Failed Nothing p

-- what follows the last configuration: the operation and the finalizers, or these alone where a failure stands
abbrev pub after_config : StopPoint → Production
after_config stop = Where tests.FailureStands (arm Operation ⨟ finish) (armed Operation (op stop) settle ⨟ finish)

-- what follows the second configuration
abbrev pub hooked_third : StopPoint → Production
hooked_third stop =
    hook ReadBeforeExecutionOperation ⨟ Work (kinds.Configure stages.Final)
    ⨟ Where tests.Failed Nothing (after_config stop)

-- what follows the first configuration
abbrev pub hooked_second : StopPoint → Production
hooked_second stop =
    hook ReadBeforeExecutionClient ⨟ Work (kinds.Configure stages.Operation)
    ⨟ Where tests.Failed Nothing (hooked_third stop)

-- what is left after the question at the point
abbrev pub left_at : StopPoint → Armed → Point → Production
left_at stop m AtConfigureClient = configuring (hooked_second stop)
left_at stop m (points.Hook hooks.ReadBeforeExecutionClient) =
    Nothing ⨟ Work (kinds.Configure stages.Operation) ⨟ Where tests.Failed Nothing (hooked_third stop)
left_at stop m AtConfigureOperation = configuring (hooked_third stop)
left_at stop m (points.Hook hooks.ReadBeforeExecutionOperation) =
    Nothing ⨟ Work (kinds.Configure stages.Final) ⨟ Where tests.Failed Nothing (after_config stop)
left_at stop m AtConfigureFinal = configuring (after_config stop)
left_at stop m AtStartOperationFailed = Nothing ⨟ finish
left_at stop m AtStartOperation =
    (Nothing ⨟ Where (tests.HasStarted Operation) (Under Operation (op stop) settle) (op stop)) ⨟ finish
left_at stop m (points.Hook hooks.ModifyBeforeSerialization) =
    in_front stop m
    (and_then (hook ReadBeforeSerialization ∷ Work kinds.Serialize ∷ Where tests.LoadBody (Work kinds.Load) Nothing
    ∷ hook ReadAfterSerialization ∷ hook ModifyBeforeRetryLoop ∷ []))
left_at stop m (points.Hook hooks.ReadBeforeSerialization) =
    in_front stop m
    (and_then (Work kinds.Serialize ∷ Where tests.LoadBody (Work kinds.Load) Nothing ∷ hook ReadAfterSerialization
    ∷ hook ModifyBeforeRetryLoop ∷ []))
left_at stop m AtSerialize =
    in_front stop m
    (and_then (Where tests.LoadBody (Work kinds.Load) Nothing ∷ hook ReadAfterSerialization
    ∷ hook ModifyBeforeRetryLoop ∷ []))
left_at stop m AtLoad = in_front stop m (and_then (hook ReadAfterSerialization ∷ hook ModifyBeforeRetryLoop ∷ []))
left_at stop m (points.Hook hooks.ReadAfterSerialization) = in_front stop m (and_then (hook ModifyBeforeRetryLoop ∷ []))
left_at stop m (points.Hook hooks.ModifyBeforeRetryLoop) = in_front stop m Nothing
left_at stop m AtInitial =
    in_grant stop m
    (Nothing
    ⨟ Where tests.Delayed
    (Work (kinds.Start Send) ⨟ Where (tests.HasStarted Send) (Work (kinds.Wait Send) ⨟ Again) Nothing) Nothing)
left_at stop m AtStartSend =
    in_grant stop m (Nothing ⨟ Where (tests.HasStarted Send) (Work (kinds.Wait Send) ⨟ Again) Nothing)
left_at stop m AtWaitSend = in_grant stop m (Nothing ⨟ Again)
left_at stop m AtStartAttempt =
    in_turn stop m
    ((Nothing
    ⨟ Where (tests.HasStarted Attempt) (Under Attempt (InAttempt (attempt stop)) Nothing)
    (InAttempt (attempt stop)))
    ⨟ settle ⨟ Work kinds.Decide)
left_at stop m (points.Hook hooks.ReadBeforeAttempt) =
    in_opening stop m
    (and_then (Work kinds.Choose ∷ Where tests.EndpointStands Nothing (Work kinds.Endpoint) ∷ Work kinds.Apply
    ∷ hook ModifyBeforeSigning ∷ hook ReadBeforeSigning ∷ Work kinds.Sign ∷ hook ReadAfterSigning
    ∷ hook ModifyBeforeTransmit ∷ hook ReadBeforeTransmit ∷ []))
left_at stop m AtChoose =
    in_opening stop m
    (and_then (Where tests.EndpointStands Nothing (Work kinds.Endpoint) ∷ Work kinds.Apply ∷ hook ModifyBeforeSigning
    ∷ hook ReadBeforeSigning ∷ Work kinds.Sign ∷ hook ReadAfterSigning ∷ hook ModifyBeforeTransmit
    ∷ hook ReadBeforeTransmit ∷ []))
left_at stop m AtEndpoint =
    in_opening stop m
    (and_then (Work kinds.Apply ∷ hook ModifyBeforeSigning ∷ hook ReadBeforeSigning ∷ Work kinds.Sign
    ∷ hook ReadAfterSigning ∷ hook ModifyBeforeTransmit ∷ hook ReadBeforeTransmit ∷ []))
left_at stop m AtApply =
    in_opening stop m
    (and_then (hook ModifyBeforeSigning ∷ hook ReadBeforeSigning ∷ Work kinds.Sign ∷ hook ReadAfterSigning
    ∷ hook ModifyBeforeTransmit ∷ hook ReadBeforeTransmit ∷ []))
left_at stop m (points.Hook hooks.ModifyBeforeSigning) =
    in_opening stop m
    (and_then (hook ReadBeforeSigning ∷ Work kinds.Sign ∷ hook ReadAfterSigning ∷ hook ModifyBeforeTransmit
    ∷ hook ReadBeforeTransmit ∷ []))
left_at stop m (points.Hook hooks.ReadBeforeSigning) =
    in_opening stop m
    (and_then (Work kinds.Sign ∷ hook ReadAfterSigning ∷ hook ModifyBeforeTransmit ∷ hook ReadBeforeTransmit ∷ []))
left_at stop m AtSign =
    in_opening stop m (and_then (hook ReadAfterSigning ∷ hook ModifyBeforeTransmit ∷ hook ReadBeforeTransmit ∷ []))
left_at stop m (points.Hook hooks.ReadAfterSigning) =
    in_opening stop m (and_then (hook ModifyBeforeTransmit ∷ hook ReadBeforeTransmit ∷ []))
left_at stop m (points.Hook hooks.ModifyBeforeTransmit) = in_opening stop m (and_then (hook ReadBeforeTransmit ∷ []))
left_at stop m (points.Hook hooks.ReadBeforeTransmit) = in_opening stop m Nothing
left_at stop m AtTransmit =
    in_sending stop m
    (and_then (hook ReadAfterTransmit ∷ hook ModifyBeforeDeserialization ∷ hook ReadBeforeDeserialization ∷ []))
left_at stop m (points.Hook hooks.ReadAfterTransmit) =
    in_sending stop m (and_then (hook ModifyBeforeDeserialization ∷ hook ReadBeforeDeserialization ∷ []))
left_at stop m (points.Hook hooks.ModifyBeforeDeserialization) =
    in_sending stop m (and_then (hook ReadBeforeDeserialization ∷ []))
left_at stop m (points.Hook hooks.ReadBeforeDeserialization) = in_sending stop m Nothing
left_at stop m AtStream =
    in_try stop m
    (Nothing
    ⨟ Where tests.NotStreaming (Work kinds.Body ⨟ Where tests.BodyRead (Work kinds.Deserialize) Nothing) Nothing
    ⨟ hook ReadAfterDeserialization)
left_at stop m AtBody =
    in_try stop m ((Nothing ⨟ Where tests.BodyRead (Work kinds.Deserialize) Nothing) ⨟ hook ReadAfterDeserialization)
left_at stop m AtDeserialize = in_try stop m (Nothing ⨟ hook ReadAfterDeserialization)
left_at stop m (points.Hook hooks.ReadAfterDeserialization) = in_try stop m Nothing
left_at stop m (points.Hook hooks.ModifyBeforeAttemptCompletion) =
    in_turn stop m ((Nothing ⨟ hook ReadAfterAttempt) ⨟ Work kinds.Decide)
left_at stop m (points.Hook hooks.ReadAfterAttempt) = in_turn stop m (Nothing ⨟ Work kinds.Decide)
left_at stop m AtDecide = in_turn stop m Nothing
left_at stop m AtStartRetry =
    in_round stop m
    (Nothing
    ⨟ Where (tests.HasStarted Retry)
    (Where tests.CheckpointStands (Work (kinds.Wait Retry) ⨟ again) Nothing) Nothing)
left_at stop m AtWaitRetry = in_round stop m (Nothing ⨟ again)
left_at stop m AtStartLongPoll =
    in_round stop m (Nothing ⨟ Where (tests.HasStarted LongPoll) (Work (kinds.Wait LongPoll)) Nothing)
left_at stop m AtWaitLongPoll = in_round stop m Nothing
left_at stop m AtTokenInitial =
    in_token stop m
    (Nothing
    ⨟ Where tests.Delayed
    (Work (kinds.Start Send) ⨟ Where (tests.HasStarted Send) (Work (kinds.Wait Send) ⨟ Again) Nothing) Nothing)
left_at stop m AtTokenStartSend =
    in_token stop m (Nothing ⨟ Where (tests.HasStarted Send) (Work (kinds.Wait Send) ⨟ Again) Nothing)
left_at stop m AtTokenWaitSend = in_token stop m (Nothing ⨟ Again)
left_at stop m AtCutModifyBeforeAttemptCompletion = (Nothing ⨟ hook ReadAfterAttempt) ⨟ finish
left_at stop m AtCutReadAfterAttempt = Nothing ⨟ finish
left_at stop m (points.Hook hooks.ModifyBeforeCompletion) = Nothing ⨟ hook ReadAfterExecution
left_at stop m (points.Hook hooks.ReadAfterExecution) = Nothing

-- whether a point lies in the operation's scope, and in the attempt's
abbrev pub in_scope : Armed → List Role
in_scope m = cond m.attempt (Attempt ∷ cond m.operation (Operation ∷ []) []) (cond m.operation (Operation ∷ []) [])

-- the deadlines that are armed in the operation around its attempts
abbrev pub operation_scope : Armed → List Role
operation_scope m = cond m.operation (Operation ∷ []) []

-- the deadlines that are armed in an attempt, the innermost first
abbrev pub attempt_scope : Armed → List Role
attempt_scope m = cond m.attempt (Attempt ∷ operation_scope m) (operation_scope m)

-- the deadlines that are armed in a part of a run
abbrev pub part_scope : Armed → RunPart → List Role
part_scope m parts.Configuration = []
part_scope m parts.Attempt = attempt_scope m
part_scope m parts.Finish = []
part_scope m _ = operation_scope m

-- the deadlines that are armed at the point
abbrev pub scope_at : Armed → Point → List Role
scope_at m (points.Hook h) = part_scope m (part_of h)
scope_at m AtConfigureClient = []
scope_at m AtConfigureOperation = []
scope_at m AtConfigureFinal = []
scope_at m AtStartOperationFailed = []
scope_at m AtStartOperation = []
scope_at m AtChoose = attempt_scope m
scope_at m AtEndpoint = attempt_scope m
scope_at m AtApply = attempt_scope m
scope_at m AtSign = attempt_scope m
scope_at m AtTransmit = attempt_scope m
scope_at m AtStream = attempt_scope m
scope_at m AtBody = attempt_scope m
scope_at m AtDeserialize = attempt_scope m
scope_at m AtCutModifyBeforeAttemptCompletion = []
scope_at m AtCutReadAfterAttempt = []
scope_at m _ = operation_scope m

-- the place at this point
abbrev pub here : Armed → Point → Place
here m p = record { armed = m; point = Some p }

-- the place at a run's end
abbrev pub ended : Armed → Place
ended m = record { armed = m; point = None }

-- the next point after an answer that is not Pending, where s stands after it
abbrev pub begin_turn : Armed → State → Place
begin_turn m s =
    cond (timeout_stands Attempt s) (here m AtStartAttempt)
    (here (record { operation = m.operation; attempt = false }) (points.Hook hooks.ReadBeforeAttempt))

-- a further attempt begins, or asks for its token
abbrev pub go_again : Armed → State → Place
go_again m s = cond (token_needed s) (here m AtTokenInitial) (begin_turn m s)

-- the first place where the last entry failed, else the second
abbrev pub unless_failed : State → Place → Place → Place
unless_failed s p q = cond (failed s) p q

-- the place before the finalizers
abbrev pub finishing_at : Armed → Place
finishing_at m = here m (points.Hook hooks.ModifyBeforeCompletion)

-- the place before the completion hooks of an attempt
abbrev pub settling_at : Armed → Place
settling_at m = here m (points.Hook hooks.ModifyBeforeAttemptCompletion)

-- the place behind an attempt's opening
abbrev pub after_opened : StopPoint → State → Armed → Place
after_opened stops.None s m = cond (failed s) (settling_at m) (here m AtTransmit)
after_opened stops.BeforeTransmit s m = settling_at m

-- the place after an answer at this point that isn't Pending, where s stands after it
abbrev pub next_point : StopPoint → Armed → Point → State → Place
next_point stop m AtConfigureClient s = cond (failed s) (ended m) (here m (points.Hook hooks.ReadBeforeExecutionClient))
next_point stop m (points.Hook hooks.ReadBeforeExecutionClient) s = here m AtConfigureOperation
next_point stop m AtConfigureOperation s =
    cond (failed s) (ended m) (here m (points.Hook hooks.ReadBeforeExecutionOperation))
next_point stop m (points.Hook hooks.ReadBeforeExecutionOperation) s = here m AtConfigureFinal
next_point stop m AtConfigureFinal s =
    cond (failed s) (ended m)
    (cond (failure_stands s)
    (cond (timeout_stands Operation s) (here m AtStartOperationFailed) (finishing_at m))
    (cond (timeout_stands Operation s) (here m AtStartOperation)
    (here none_armed (points.Hook hooks.ModifyBeforeSerialization))))
next_point stop m AtStartOperationFailed s = finishing_at m
next_point stop m AtStartOperation s =
    here (record { operation = started Operation s; attempt = false }) (points.Hook hooks.ModifyBeforeSerialization)
next_point stop m (points.Hook hooks.ModifyBeforeSerialization) s =
    cond (failed s) (finishing_at m) (here m (points.Hook hooks.ReadBeforeSerialization))
next_point stop m (points.Hook hooks.ReadBeforeSerialization) s = cond (failed s) (finishing_at m) (here m AtSerialize)
next_point stop m AtSerialize s =
    cond (failed s) (finishing_at m)
    (cond (load_body s) (here m AtLoad) (here m (points.Hook hooks.ReadAfterSerialization)))
next_point stop m AtLoad s = cond (failed s) (finishing_at m) (here m (points.Hook hooks.ReadAfterSerialization))
next_point stop m (points.Hook hooks.ReadAfterSerialization) s =
    cond (failed s) (finishing_at m) (here m (points.Hook hooks.ModifyBeforeRetryLoop))
next_point stop m (points.Hook hooks.ModifyBeforeRetryLoop) s = cond (failed s) (finishing_at m) (here m AtInitial)
next_point stop m AtInitial s = cond (delayed s) (here m AtStartSend) (cond (went s) (begin_turn m s) (finishing_at m))
next_point stop m AtStartSend s = cond (started Send s) (here m AtWaitSend) (finishing_at m)
next_point stop m AtWaitSend s = here m AtInitial
next_point stop m AtStartAttempt s =
    here (record { operation = m.operation; attempt = started Attempt s }) (points.Hook hooks.ReadBeforeAttempt)
next_point stop m (points.Hook hooks.ReadBeforeAttempt) s = cond (failed s) (settling_at m) (here m AtChoose)
next_point stop m AtChoose s =
    cond (failed s) (settling_at m) (cond (endpoint_stands s) (here m AtApply) (here m AtEndpoint))
next_point stop m AtEndpoint s = cond (failed s) (settling_at m) (here m AtApply)
next_point stop m AtApply s = cond (failed s) (settling_at m) (here m (points.Hook hooks.ModifyBeforeSigning))
next_point stop m (points.Hook hooks.ModifyBeforeSigning) s =
    cond (failed s) (settling_at m) (here m (points.Hook hooks.ReadBeforeSigning))
next_point stop m (points.Hook hooks.ReadBeforeSigning) s = cond (failed s) (settling_at m) (here m AtSign)
next_point stop m AtSign s = cond (failed s) (settling_at m) (here m (points.Hook hooks.ReadAfterSigning))
next_point stop m (points.Hook hooks.ReadAfterSigning) s =
    cond (failed s) (settling_at m) (here m (points.Hook hooks.ModifyBeforeTransmit))
next_point stop m (points.Hook hooks.ModifyBeforeTransmit) s =
    cond (failed s) (settling_at m) (here m (points.Hook hooks.ReadBeforeTransmit))
next_point stop m (points.Hook hooks.ReadBeforeTransmit) s = after_opened stop s m
next_point stop m AtTransmit s = cond (failed s) (settling_at m) (here m (points.Hook hooks.ReadAfterTransmit))
next_point stop m (points.Hook hooks.ReadAfterTransmit) s =
    cond (failed s) (settling_at m) (here m (points.Hook hooks.ModifyBeforeDeserialization))
next_point stop m (points.Hook hooks.ModifyBeforeDeserialization) s =
    cond (failed s) (settling_at m) (here m (points.Hook hooks.ReadBeforeDeserialization))
next_point stop m (points.Hook hooks.ReadBeforeDeserialization) s = cond (failed s) (settling_at m) (here m AtStream)
next_point stop m AtStream s =
    cond (not_streaming s) (here m AtBody) (here m (points.Hook hooks.ReadAfterDeserialization))
next_point stop m AtBody s =
    cond (body_read s) (here m AtDeserialize) (here m (points.Hook hooks.ReadAfterDeserialization))
next_point stop m AtDeserialize s = here m (points.Hook hooks.ReadAfterDeserialization)
next_point stop m (points.Hook hooks.ReadAfterDeserialization) s = settling_at m
next_point stop m (points.Hook hooks.ModifyBeforeAttemptCompletion) s = here m (points.Hook hooks.ReadAfterAttempt)
next_point stop m (points.Hook hooks.ReadAfterAttempt) s = here m AtDecide
next_point stop m AtDecide s =
    cond (decided_yes s) (cond (checkpoint_stands s) (go_again m s) (finishing_at m))
    (cond (decided_no_after s) (here m AtStartLongPoll) (cond (decided_delay s) (here m AtStartRetry) (finishing_at m)))
next_point stop m AtStartRetry s =
    cond (started Retry s) (cond (checkpoint_stands s) (here m AtWaitRetry) (finishing_at m)) (finishing_at m)
next_point stop m AtWaitRetry s = go_again m s
next_point stop m AtStartLongPoll s = cond (started LongPoll s) (here m AtWaitLongPoll) (finishing_at m)
next_point stop m AtWaitLongPoll s = finishing_at m
next_point stop m AtTokenInitial s =
    cond (delayed s) (here m AtTokenStartSend) (cond (went_on s) (begin_turn m s) (finishing_at m))
next_point stop m AtTokenStartSend s = cond (started Send s) (here m AtTokenWaitSend) (finishing_at m)
next_point stop m AtTokenWaitSend s = here m AtTokenInitial
next_point stop m AtCutModifyBeforeAttemptCompletion s = here m AtCutReadAfterAttempt
next_point stop m AtCutReadAfterAttempt s = finishing_at m
next_point stop m (points.Hook hooks.ModifyBeforeCompletion) s = here m (points.Hook hooks.ReadAfterExecution)
next_point stop m (points.Hook hooks.ReadAfterExecution) s = ended m

-- the position before the question of a point; without a point the run is whole
abbrev pub asking_at : StopPoint → Armed → Option Point → Position
asking_at stop m None = Whole
asking_at stop m (Some p) = Asking (kind_at p) (scope_at m p) (left_at stop m p)

-- the position of a place
abbrev pub placed : StopPoint → Place → Position
placed stop q = asking_at stop q.armed q.point
