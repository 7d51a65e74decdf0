-- The phase grammar of a run. A name in brackets is the function or macro of the Rust crate's
-- orchestrator.rs from which the rule below it comes, where no other file is named.
use Rattle.run_grammar.specs.declared.production.Test.TheVariants as tests
use Rattle.std.specs.Prelude.{List, [], ◌∷◌}
use Rattle.run_grammar.specs.declared.kind.Role.{Role}
use Rattle.smithy_types.specs.declared.hook.Hook.{Hook}
use Rattle.smithy_types.specs.declared.kinds.StopPoint.{StopPoint}
use Rattle.run_grammar.specs.Production.{Production, Nothing, Work, ◌⨟◌, Where, Rounds, Again, InAttempt, Under}
use Rattle.run_grammar.specs.declared.kind.Kind.TheVariants as kinds
use Rattle.run_grammar.specs.declared.kind.Role.TheVariants as roles
use Rattle.run_grammar.specs.declared.kind.ConfigureStage.TheVariants as stages
use Rattle.smithy_types.specs.declared.hook.Hook.TheVariants as hooks
use Rattle.smithy_types.specs.declared.kinds.StopPoint.TheVariants as stops

-- the grammar
abbrev pub hook : Hook → Production
hook h = Work (kinds.Hook h)

-- a halted word of the steps (`halt_on_err!`)
abbrev pub halted : List Production → Production
halted [] = Nothing
halted (p ∷ []) = p
halted (p ∷ q ∷ ps) = p ⨟ Where tests.Failed Nothing (halted (q ∷ ps))

-- (timeout.rs, `MaybeTimeoutConfig::new`)
abbrev pub arm : Role → Production
arm d = Where (tests.TimeoutStands d) (Work (kinds.Start d)) Nothing

-- p with d armed where its kinds.Start was answered Started; where d cuts p inside an attempt, after follows
-- (timeout.rs, `MaybeTimeoutFuture::poll`; `invoke_with_stop_point`, its `attempt_in_flight`)
abbrev pub armed : Role → Production → Production → Production
armed d p after = arm d ⨟ Where (tests.HasStarted d) (Under d p after) p

-- (`try_attempt`, up to its stop point; orchestrator/auth.rs, `resolve_identity`;
-- orchestrator/endpoints.rs, `orchestrate_endpoint`)
abbrev pub opening : Production
opening = halted (
    hook hooks.ReadBeforeAttempt
    ∷ Work kinds.Choose
    ∷ Where tests.EndpointStands Nothing (Work kinds.Endpoint)
    ∷ Work kinds.Apply
    ∷ hook hooks.ModifyBeforeSigning
    ∷ hook hooks.ReadBeforeSigning
    ∷ Work kinds.Sign
    ∷ hook hooks.ReadAfterSigning
    ∷ hook hooks.ModifyBeforeTransmit
    ∷ hook hooks.ReadBeforeTransmit
    ∷ [])

-- (`try_attempt`, from its stop point to the deserialization)
abbrev pub sending : Production
sending = halted (
    Work kinds.Transmit
    ∷ hook hooks.ReadAfterTransmit
    ∷ hook hooks.ModifyBeforeDeserialization
    ∷ hook hooks.ReadBeforeDeserialization
    ∷ [])

-- (`try_attempt`, the deserialization; orchestrator/http.rs, `read_body`)
abbrev pub streaming : Production
streaming =
    Work kinds.Stream
    ⨟ Where tests.NotStreaming (Work kinds.Body ⨟ Where tests.BodyRead (Work kinds.Deserialize) Nothing) Nothing
    ⨟ hook hooks.ReadAfterDeserialization

-- (`try_attempt`)
abbrev pub attempt : StopPoint → Production
attempt stops.None = halted (opening ∷ sending ∷ streaming ∷ [])
attempt stops.BeforeTransmit = opening

-- (`finally_attempt`, whose hooks `continue_on_err!` runs)
abbrev pub settle : Production
settle = hook hooks.ModifyBeforeAttemptCompletion ⨟ hook hooks.ReadAfterAttempt

-- (`try_op`, one turn of its loop of attempts, up to `should_attempt_retry`)
abbrev pub turn : StopPoint → Production
turn stop = armed roles.Attempt (InAttempt (attempt stop)) Nothing ⨟ settle ⨟ Work kinds.Decide

-- (`try_op`, its loop by `should_attempt_initial_request`)
abbrev pub grant_round : Production
grant_round =
    Work kinds.Initial ⨟ Where tests.Delayed
    (Work (kinds.Start roles.Send) ⨟ Where (tests.HasStarted roles.Send) (Work (kinds.Wait roles.Send) ⨟ Again) Nothing)
    Nothing

-- the strategy is asked until it asks for no further delay
abbrev pub grant : Production
grant = Rounds grant_round grant_round

-- a further turn; where the standing Retry has a spec of version 2.1 a token comes before it, which is a grant
abbrev pub again : Production
again = Where tests.NeedsToken (grant ⨟ Where tests.WentOn Again Nothing) Again

-- (`try_op`, what a turn does by `ShouldAttempt`, and the rewind at the next one's start). A refusal that asks for a
-- pause waits so long, where there is a sleep, and ends the loop.
abbrev pub round : StopPoint → Production
round stop =
    turn stop
    ⨟ Where tests.DecidedYes (Where tests.CheckpointStands again Nothing)
    (Where tests.DecidedNoAfter
    (Work (kinds.Start roles.LongPoll)
    ⨟ Where (tests.HasStarted roles.LongPoll) (Work (kinds.Wait roles.LongPoll)) Nothing)
    (Where tests.DecidedDelay
    (Work (kinds.Start roles.Retry)
    ⨟ Where (tests.HasStarted roles.Retry)
    (Where tests.CheckpointStands (Work (kinds.Wait roles.Retry) ⨟ again) Nothing) Nothing)
    Nothing))

-- (`try_op`, its loop of attempts)
abbrev pub loop : StopPoint → Production
loop stop = Rounds (round stop) (round stop)

-- (`try_op`, up to the first send token)
abbrev pub front : Production
front = halted (
    hook hooks.ModifyBeforeSerialization
    ∷ hook hooks.ReadBeforeSerialization
    ∷ Work kinds.Serialize
    ∷ Where tests.LoadBody (Work kinds.Load) Nothing
    ∷ hook hooks.ReadAfterSerialization
    ∷ hook hooks.ModifyBeforeRetryLoop
    ∷ [])

-- (`try_op`)
abbrev pub op : StopPoint → Production
op stop = front ⨟ Where tests.Failed Nothing (grant ⨟ Where tests.Went (loop stop) Nothing)

-- (`finally_op`, whose hooks `continue_on_err!` runs)
abbrev pub finish : Production
finish = hook hooks.ModifyBeforeCompletion ⨟ hook hooks.ReadAfterExecution

-- Config, and then p where each kinds.Configure was answered Layer (`apply_configuration`)
abbrev pub configured : Production → Production
configured p =
    Work (kinds.Configure stages.Client) ⨟ Where tests.Failed Nothing
    (hook hooks.ReadBeforeExecutionClient ⨟ Work (kinds.Configure stages.Operation) ⨟ Where tests.Failed Nothing
    (hook hooks.ReadBeforeExecutionOperation ⨟ Work (kinds.Configure stages.Final) ⨟ Where tests.Failed Nothing p))

-- (`invoke_with_stop_point`)
unfoldable pub run : StopPoint → Production
run stop =
    configured
    (Where tests.FailureStands (arm roles.Operation ⨟ finish) (armed roles.Operation (op stop) settle ⨟ finish))
