-- How an entry changes what stands. A name in brackets is the function of the Rust crate's
-- orchestrator.rs from which the rule below it comes, where no other file is named; context.rs is that of
-- aws-smithy-runtime-api's interceptors.
use Rattle.std.specs.Prelude.{Bool, true, false, ℕ, ◌+◌, ◌-◌, ◌^◌, ◌==◌, min, Option, None, Some, List, ◌++◌, codes}
use Rattle.std.specs.Prelude.{cond}
use Rattle.std.specs.Fmt.{decimal}
use Rattle.smithy_types.specs.declared.config.RetrySpec.{RetrySpec}
use Rattle.smithy_types.specs.declared.config.RetrySpecVersion.{RetrySpecVersion}
use Rattle.smithy_types.specs.declared.config.RetrySpecVersion.TheVariants as versions
use Rattle.smithy_types.specs.declared.config.TimeoutConfig.{TimeoutConfig}
use Rattle.smithy_context.specs.declared.context.InterceptorContext.{InterceptorContext}
use Rattle.smithy_types.specs.declared.fault.FaultKind.{FaultKind}
use Rattle.smithy_types.specs.declared.fault.FaultKind.TheVariants as faults
use Rattle.smithy_types.specs.declared.fault.Outcome.{Outcome}
use Rattle.smithy_types.specs.declared.fault.Outcome.TheVariants as outcomes
use Rattle.smithy_types.specs.declared.hook.Hook.{Hook}
use Rattle.smithy_context.specs.Hooks.{writes_input, writes_request, writes_response, writes_outcome}
use Rattle.smithy_types.specs.declared.http.Body.TheVariants as bodies
use Rattle.smithy_types.specs.declared.http.HttpRequest.{HttpRequest}
use Rattle.smithy_types.specs.declared.http.HttpResponse.{HttpResponse}
use Rattle.smithy_context.specs.declared.intercept.Change.{Change}
use Rattle.smithy_context.specs.declared.intercept.Change.TheVariants as changes
use Rattle.smithy_context.specs.declared.intercept.HookAnswer.{HookAnswer}
use Rattle.smithy_context.specs.declared.intercept.HookView.{HookView}
use Rattle.smithy_types.specs.declared.kinds.Phase.{Phase}
use Rattle.smithy_types.specs.declared.kinds.Phase.TheVariants as phases
use Rattle.smithy_context.specs.declared.layer.LayerEntry.{LayerEntry}
use Rattle.smithy_types.specs.declared.notes.Choice.{Choice}
use Rattle.smithy_types.specs.declared.notes.Choice.TheVariants as choices
use Rattle.smithy_types.specs.declared.payload.Payload.{Payload}
use Rattle.smithy_context.specs.declared.setting.Setting.{Setting}
use Rattle.smithy_context.specs.declared.setting.Setting.TheVariants as settings
use Rattle.smithy_context.specs.declared.setting.SettingKey.TheVariants as keys
use Rattle.smithy_context.specs.StandingLayers.{StandingLayers}
use Rattle.smithy_context.specs.Settings.{loaded, with_layer, with_merged}
use Rattle.smithy_context.specs.Context.{checkpointed, failed_with, restored}
use Rattle.run_grammar.specs.declared.kind.ConfigureStage.{ConfigureStage}
use Rattle.run_grammar.specs.declared.kind.ConfigureStage.TheVariants as stages
use Rattle.run_grammar.specs.declared.kind.Role.{Role}
use Rattle.run_grammar.specs.declared.kind.Role.TheVariants as roles
use Rattle.run_grammar.specs.declared.kind.Kind.{Kind}
use Rattle.run_grammar.specs.declared.kind.Kind.TheVariants as kinds
use Rattle.run_grammar.specs.declared.answer.Answer.{Answer}
use Rattle.run_grammar.specs.declared.answer.Answer.TheVariants as answers
use Rattle.run_grammar.specs.declared.answer.Chosen.{Chosen}
use Rattle.run_grammar.specs.declared.standing.Standing.{Standing}

-- ---- what the settings say

-- the timeouts in a setting
abbrev pub timeouts_of_setting : Option Setting → Option TimeoutConfig
timeouts_of_setting (Some (settings.Timeouts t)) = Some t
timeouts_of_setting _ = None

-- the timeouts that stand
abbrev pub timeouts : StandingLayers → Option TimeoutConfig
timeouts s = timeouts_of_setting (loaded s keys.Timeouts)

-- how long the operation may take with all its attempts, where that is set
abbrev pub operation_timeout : Option TimeoutConfig → Option ℕ
operation_timeout None = None
operation_timeout (Some t) = t.operation

-- how long one attempt may take, where that is set
abbrev pub attempt_timeout : Option TimeoutConfig → Option ℕ
attempt_timeout None = None
attempt_timeout (Some t) = t.attempt

-- whether the setting says that the request's body is loaded
abbrev pub is_load_body : Option Setting → Bool
is_load_body (Some (settings.LoadBody b)) = b
is_load_body _ = false

-- whether the request's body is loaded before the first attempt
abbrev pub loads_body : StandingLayers → Bool
loads_body s = is_load_body (loaded s keys.LoadBody)

-- whether the version is 2.1
abbrev pub is_version_2_1 : RetrySpecVersion → Bool
is_version_2_1 versions.V2_0 = false
is_version_2_1 versions.V2_1 = true

-- whether there is a spec, and it is of version 2.1
abbrev pub is_spec_2_1 : Option RetrySpec → Bool
is_spec_2_1 None = false
is_spec_2_1 (Some r) = is_version_2_1 r.version

-- whether the setting is a retry configuration whose spec is of version 2.1
abbrev pub is_retry_2_1 : Option Setting → Bool
is_retry_2_1 (Some (settings.Retry r)) = is_spec_2_1 r.spec
is_retry_2_1 _ = false

-- the standing Retry has a spec of version 2.1: each further attempt has a token of its own
abbrev pub needs_token : StandingLayers → Bool
needs_token s = is_retry_2_1 (loaded s keys.Retry)

-- how long the sleep of a role is: the standing timeout of that name (timeout.rs, `MaybeTimeoutConfig::new`),
-- or the standing delay
abbrev pub nanos_for : Role → Standing → Option ℕ
nanos_for roles.Operation s = operation_timeout (timeouts s.context.view.settings)
nanos_for roles.Attempt s = attempt_timeout (timeouts s.context.view.settings)
nanos_for roles.Send s = s.delay
nanos_for roles.Retry s = s.delay
nanos_for roles.LongPoll s = s.delay

-- ---- parts

-- this context stands
abbrev pub with_context : Standing → InterceptorContext → Standing
with_context s c = record s { context = c }

-- this view stands
abbrev pub with_view : Standing → HookView → Standing
with_view s v = record s { context = record s.context { view = v } }

-- the run is in this phase
abbrev pub with_phase : Standing → Phase → Standing
with_phase s p = record s { context = record s.context { phase = p } }

-- these settings stand
abbrev pub with_settings : Standing → StandingLayers → Standing
with_settings s l = with_view s (record s.context.view { settings = l })

-- this request stands
abbrev pub with_request : Standing → HttpRequest → Standing
with_request s r = with_view s (record s.context.view { request = Some r })

-- this response stands
abbrev pub with_response : Standing → HttpResponse → Standing
with_response s r = with_view s (record s.context.view { response = Some r })

-- this outcome stands
abbrev pub with_outcome : Standing → Outcome → Standing
with_outcome s o = with_view s (record s.context.view { outcome = Some o })

-- this delay stands, for the sleep that comes next
abbrev pub with_delay : Standing → ℕ → Standing
with_delay s n = record s { delay = Some n }

-- a failure of this kind with this text stands as the outcome
abbrev pub fails_with : Standing → FaultKind → List ℕ → Standing
fails_with s k t = with_context s (failed_with s.context (record { kind = k; text = t }))

-- the text of the failure where a part is absent
abbrev pub absent_text : List ℕ
absent_text = codes "absent"

-- the failure of an absent part stands as the outcome
abbrev pub absent : Standing → Standing
absent s = fails_with s faults.Other absent_text

-- failed as an untyped failure (`OrchestratorError::other`), or absent
abbrev pub or_fails : Standing → Answer → Standing
or_fails s (answers.Failed t) = fails_with s faults.Other t
or_fails s answers.Absent = absent s
or_fails s _ = s

-- ---- by kind

-- (`apply_configuration`)
abbrev pub configured_by : ConfigureStage → Standing → List LayerEntry → Standing
configured_by stages.Client s l = with_settings s (with_layer s.context.view.settings l)
configured_by stages.Operation s l = with_settings s (with_layer s.context.view.settings l)
configured_by stages.Final s l = with_settings s (with_merged s.context.view.settings l)

-- what stands after a configuration: its layer among the settings, or its failure
abbrev pub on_configure : ConfigureStage → Standing → Answer → Standing
on_configure stage s (answers.Layer l) = configured_by stage s l
on_configure stage s a = or_fails s a

-- this input stands
abbrev pub with_input : Standing → Payload → Standing
with_input s p = with_view s (record s.context.view { input = Some p })

-- the change that a hook may write; any other is ignored
abbrev pub written : Hook → Standing → Change → Standing
written h s (changes.Input p) = cond (writes_input h) (with_input s p) s
written h s (changes.Request r) = cond (writes_request h) (with_request s r) s
written h s (changes.Response r) = cond (writes_response h) (with_response s r) s
written h s (changes.Outcome o) = cond (writes_outcome h) (with_outcome s o) s

-- what stands once a hook wrote its change, if it answered one
abbrev pub written_by : Hook → Standing → Option Change → Standing
written_by h s None = s
written_by h s (Some c) = written h s c

-- what stands once a hook failed with this text, if it did
abbrev pub hook_failed : Hook → Standing → Option (List ℕ) → Standing
hook_failed h s None = s
hook_failed h s (Some t) = fails_with s (faults.Interceptor h) t

-- the settings stand with the layer merged into their state layer
abbrev pub merged_into : Standing → List LayerEntry → Standing
merged_into s l = with_settings s (with_merged s.context.view.settings l)

-- the outcome that a hook's failure makes
abbrev pub hook_failure : Hook → Option (List ℕ) → Option Outcome
hook_failure h None = None
hook_failure h (Some t) = Some (outcomes.Failed (record { kind = faults.Interceptor h; text = t }))

-- the allowed change, then the layer, then the failure (interceptors.rs)
abbrev pub hooked_by : Hook → Standing → HookAnswer → Standing
hooked_by h s a = hook_failed h (merged_into (written_by h s a.change) a.settings) a.failure

-- what stands after a hook
abbrev pub on_hook : Hook → Standing → Answer → Standing
on_hook h s (answers.Hooked a) = hooked_by h s a
on_hook h s _ = s

-- the input is gone, and the phase is Serialization (`try_op`; context.rs, `enter_serialization_phase`)
abbrev pub serializing : Standing → Standing
serializing s = with_phase (with_view s (record s.context.view { input = None })) phases.Serialization

-- (`try_op`; context.rs, `enter_before_transmit_phase`)
abbrev pub unless_loading : Standing → Standing
unless_loading s = cond (loads_body s.context.view.settings) s (with_phase s phases.BeforeTransmit)

-- what stands after the serialization: a request or a failure, and no input
abbrev pub on_serialize : Standing → Answer → Standing
on_serialize s (answers.Request r) = unless_loading (with_request (serializing s) r)
on_serialize s a = or_fails (serializing s) a

-- the request with these bytes for a body
abbrev pub with_body : Option HttpRequest → List ℕ → Option HttpRequest
with_body None b = None
with_body (Some r) b = Some (record r { body = bodies.Bytes b })

-- (`try_op`, the load of the request's body)
abbrev pub on_load : Standing → Answer → Standing
on_load s (answers.Loaded b) =
    with_phase (with_view s (record s.context.view { request = with_body s.context.view.request b }))
    phases.BeforeTransmit
on_load s a = or_fails s a

-- the text of the failure where the strategy refuses the first attempt
abbrev pub refused_text : List ℕ
refused_text = codes "the retry strategy indicates that an initial request shouldn't be made, but it didn't specify why"

-- the first attempt begins (`try_op`; context.rs, `save_checkpoint`)
abbrev pub granted : Standing → Standing
granted s = let c = checkpointed s.context in with_context s (record c { view = record c.view { attempt = 1 } })

-- no attempt is made so far
abbrev pub is_unbegun : Standing → Bool
is_unbegun s = s.context.view.attempt == 0

-- Go and No say of the first attempt whether it is made; of a later one neither changes anything
abbrev pub on_initial : Standing → Answer → Standing
on_initial s answers.Go = cond (is_unbegun s) (granted s) s
on_initial s answers.No = cond (is_unbegun s) (fails_with s faults.Other refused_text) s
on_initial s (answers.Delay n) = with_delay s n
on_initial s a = or_fails s a

-- a further attempt begins: the checkpoint's request stands again, and what was chosen is gone
-- (`try_op`; context.rs, `rewind`)
abbrev pub next_attempt : ℕ → ℕ
next_attempt n = min (n + 1) (2 ^ 64 - 1)

-- the context with the number of the next attempt
abbrev pub numbered : InterceptorContext → InterceptorContext
numbered c = record c { view = record c.view { attempt = next_attempt c.view.attempt } }

-- a further attempt begins where a checkpoint stands; without one nothing changes
abbrev pub rewound_to : Option HttpRequest → Standing → Standing
rewound_to None s = s
rewound_to (Some r) s =
    record s { context = numbered (restored s.context); scheme = None; identity = None; endpoint = None }

-- a further attempt begins with the checkpoint's request, where one stands
abbrev pub rewound : Standing → Standing
rewound s = rewound_to s.context.checkpoint s

-- what stands once a sleep was asked for: its deadline, a further attempt, or a failure for want of a sleep
abbrev pub on_start : Role → Option ℕ → Standing → Answer → Standing
on_start roles.Operation n s answers.Started = record s { operation_deadline = n }
on_start roles.Attempt n s answers.Started = record s { attempt_deadline = n }
on_start roles.Retry n s answers.Started = rewound s
on_start roles.Send n s answers.Absent = absent s
on_start roles.Retry n s answers.Absent = absent s
on_start _ n s _ = s

-- the number, or 0 where there is none
abbrev pub number_or_zero : Option ℕ → ℕ
number_or_zero None = 0
number_or_zero (Some n) = n

-- (timeout.rs, `TimeoutError`)
abbrev pub operation_timeout_text : ℕ → List ℕ
operation_timeout_text n =
    codes "operation timeout (all attempts including retries) occurred after " ++ decimal n ++ codes " ns"

-- the text of an attempt's timeout
abbrev pub attempt_timeout_text : ℕ → List ℕ
attempt_timeout_text n = codes "operation attempt timeout (single attempt) occurred after " ++ decimal n ++ codes " ns"

-- what stands once a sleep was asked: a deadline that is over leaves its timeout as the outcome
abbrev pub on_wait : Role → Standing → Answer → Standing
on_wait roles.Operation s answers.Ready =
    fails_with s faults.Timeout (operation_timeout_text (number_or_zero s.operation_deadline))
on_wait roles.Attempt s answers.Ready =
    fails_with s faults.Timeout (attempt_timeout_text (number_or_zero s.attempt_deadline))
on_wait _ s _ = s

-- (`try_attempt`; orchestrator/auth.rs, `resolve_identity`)
abbrev pub chosen_by : Standing → Chosen → Standing
chosen_by s c =
    merged_into (record s { scheme = Some c.scheme; identity = Some c.identity; endpoint = c.endpoint }) c.settings

-- what stands once an auth scheme was chosen with its identity, or the choice failed
abbrev pub on_choose : Standing → Answer → Standing
on_choose s (answers.Chosen c) = chosen_by s c
on_choose s a = or_fails s a

-- (orchestrator/endpoints.rs, `orchestrate_endpoint`)
abbrev pub on_endpoint : Standing → Answer → Standing
on_endpoint s (answers.Endpoint e) = record s { endpoint = Some e }
on_endpoint s a = or_fails s a

-- (orchestrator/endpoints.rs, `apply_endpoint`; orchestrator/auth.rs, `sign_request`)
abbrev pub on_request : Standing → Answer → Standing
on_request s (answers.Request r) = with_request s r
on_request s a = or_fails s a

-- (`try_attempt`, the transmission)
abbrev pub on_transmit : Standing → Answer → Standing
on_transmit s answers.Pending = s
on_transmit s (answers.Response r) = with_phase (with_response s r) phases.BeforeDeserialization
on_transmit s (answers.ConnectorFailed k t) = fails_with (with_phase s phases.Transmit) (faults.Connector k) t
on_transmit s a = or_fails (with_phase s phases.Transmit) a

-- the outcome of the response stands (`try_attempt`, the deserialization)
abbrev pub settled : Standing → Outcome → Standing
settled s o = with_phase (with_outcome s o) phases.AfterDeserialization

-- the failure of an absent part is the outcome of the response
abbrev pub settled_absent : Standing → Standing
settled_absent s = with_phase (absent s) phases.AfterDeserialization

-- what stands once the response was offered as a stream: an outcome, or its body is to be read
abbrev pub on_stream : Standing → Answer → Standing
on_stream s (answers.Outcome o) = settled s o
on_stream s answers.Absent = settled_absent s
on_stream s _ = with_phase s phases.Deserialization

-- the response with these bytes for a body
abbrev pub with_response_body : Option HttpResponse → List ℕ → Option HttpResponse
with_response_body None b = None
with_response_body (Some r) b = Some (record r { body = bodies.Bytes b })

-- (`try_attempt`; orchestrator/http.rs, `read_body`)
abbrev pub on_body : Standing → Answer → Standing
on_body s (answers.Read b) =
    with_view s (record s.context.view { response = with_response_body s.context.view.response b })
on_body s (answers.Failed t) = with_phase (fails_with s faults.Response t) phases.AfterDeserialization
on_body s answers.Absent = settled_absent s
on_body s _ = s

-- what stands once the body was deserialized
abbrev pub on_deserialize : Standing → Answer → Standing
on_deserialize s (answers.Outcome o) = settled s o
on_deserialize s answers.Absent = settled_absent s
on_deserialize s _ = s

-- (`try_op`, `ShouldAttempt`)
abbrev pub decided_on : Standing → Choice → Standing
decided_on s choices.Yes = rewound s
decided_on s choices.No = s
decided_on s (choices.NoAfter n) = with_delay s n
decided_on s (choices.Delay n) = with_delay s n

-- what stands after the strategy's decision on a further attempt
abbrev pub on_decide : Standing → Answer → Standing
on_decide s (answers.Decided c n) = decided_on s c
on_decide s a = or_fails s a

-- what stands after an answer to a question of this kind, which asked for a sleep so long
unfoldable pub changed : Kind → Option ℕ → Answer → Standing → Standing
changed (kinds.Configure stage) n a s = on_configure stage s a
changed (kinds.Hook h) n a s = on_hook h s a
changed kinds.Serialize n a s = on_serialize s a
changed kinds.Load n a s = on_load s a
changed kinds.Initial n a s = on_initial s a
changed (kinds.Start role) n a s = on_start role n s a
changed (kinds.Wait role) n a s = on_wait role s a
changed kinds.Choose n a s = on_choose s a
changed kinds.Endpoint n a s = on_endpoint s a
changed kinds.Apply n a s = on_request s a
changed kinds.Sign n a s = on_request s a
changed kinds.Transmit n a s = on_transmit s a
changed kinds.Stream n a s = on_stream s a
changed kinds.Body n a s = on_body s a
changed kinds.Deserialize n a s = on_deserialize s a
changed kinds.Decide n a s = on_decide s a
changed (kinds.Abandon x) n a s = s
changed kinds.Park n a s = s
