-- What stands in JSON for each value of a script or a print.
use Rattle.std.specs.Prelude.{ℕ, List, [], ◌∷◌, ◌++◌, Bool, true, false, ◌&&◌, Option, Some, None, map, codes, nat_le}
use Rattle.std.specs.Prelude.{◌==◌, ◌||◌, is_none, if◌then◌else◌}
use Rattle.std.specs.List.{list_all}
use Rattle.http_header.specs.FieldValue.{FieldValue}
use Rattle.http_header.specs.HeaderMap.{pairs}
use Rattle.serde_json.specs.Data.{Data, null, boolean, number, string, array, object, unsigned, no_members, member}
use Rattle.serde_json.specs.View.{items_of}
use Rattle.smithy_types.specs.HeaderList.{HeaderList}
use Rattle.smithy_types.specs.declared.fault.Fault.{Fault}
use Rattle.smithy_types.specs.declared.fault.FaultKind.{FaultKind}
use Rattle.smithy_types.specs.declared.fault.FaultKind.TheVariants as faults
use Rattle.smithy_types.specs.declared.fault.Outcome.{Outcome}
use Rattle.smithy_types.specs.declared.fault.Outcome.TheVariants as outcomes
use Rattle.smithy_types.specs.declared.http.Body.{Body}
use Rattle.smithy_types.specs.declared.http.Body.TheVariants as bodies
use Rattle.smithy_types.specs.declared.http.HttpRequest.{HttpRequest}
use Rattle.smithy_types.specs.declared.http.HttpResponse.{HttpResponse}
use Rattle.smithy_types.specs.declared.identity.Endpoint.{Endpoint}
use Rattle.smithy_types.specs.declared.identity.EndpointHeader.{EndpointHeader}
use Rattle.smithy_types.specs.declared.identity.Identity.{Identity}
use Rattle.smithy_context.specs.Setting.{key_name}
use Rattle.smithy_context.specs.declared.intercept.Change.{Change}
use Rattle.smithy_context.specs.declared.intercept.Change.TheVariants as changes
use Rattle.smithy_context.specs.declared.intercept.HookAnswer.{HookAnswer}
use Rattle.smithy_types.specs.declared.kinds.ConnectorKind.{ConnectorKind}
use Rattle.smithy_types.specs.declared.kinds.ConnectorKind.TheVariants as connectors
use Rattle.smithy_types.specs.declared.kinds.ErrorKind.{ErrorKind}
use Rattle.smithy_context.specs.declared.layer.LayerEntry.{LayerEntry}
use Rattle.smithy_types.specs.declared.notes.Choice.{Choice}
use Rattle.smithy_types.specs.declared.notes.Choice.TheVariants as choices
use Rattle.smithy_types.specs.declared.notes.ChooseNote.{ChooseNote}
use Rattle.smithy_types.specs.declared.notes.ChooseNote.TheVariants as choose_notes
use Rattle.smithy_types.specs.declared.notes.DecideNote.{DecideNote}
use Rattle.smithy_types.specs.declared.notes.Reason.{Reason}
use Rattle.smithy_types.specs.declared.notes.Reason.TheVariants as reasons
use Rattle.smithy_types.specs.declared.notes.RetryAction.{RetryAction}
use Rattle.smithy_types.specs.declared.notes.RetryAction.TheVariants as actions
use Rattle.smithy_types.specs.declared.payload.Payload.{Payload}
use Rattle.smithy_context.specs.declared.setting.SettingKey.{SettingKey}
use Rattle.smithy_context.specs.declared.setting.SettingKey.TheVariants as keys
use Rattle.smithy_types.specs.declared.sums.Sums.{Sums}
use Rattle.run_grammar.specs.declared.answer.Answer.{Answer}
use Rattle.run_grammar.specs.declared.answer.Answer.TheVariants as answers
use Rattle.run_grammar.specs.declared.answer.Chosen.{Chosen}
use Rattle.run_grammar.specs.declared.kind.Kind.{Kind}
use Rattle.json_forms.specs.Prints.{row, num, null_or, texts, blob_data}
use Rattle.smithy_types.specs.Hooks.{hook_text}
use Rattle.json_values.specs.Names.{kind_text, error_kind_text}
use Rattle.json_values.specs.SettingForms.{value_data}

-- ---- payloads, requests and responses

-- a payload: its kind and its bytes
unfoldable pub payload_data : Payload → Data
payload_data p = row (num p.kind ∷ blob_data p.bytes ∷ [])

-- a header: its name and its value
unfoldable pub header_data : List ℕ × FieldValue → Data
header_data h = row (string h.0 ∷ blob_data (h.1).bytes ∷ [])

-- names in the order of their first value, the values of a name together
unfoldable pub headers_data : HeaderList → Data
headers_data hs = row (map header_data (pairs hs))

-- a body: bytes in memory, bytes that can be sent once, or null for one that is gone
unfoldable pub body_data : Body → Data
body_data (bodies.Bytes bytes) = blob_data bytes
body_data (bodies.Once bytes) = row (string (codes "Once") ∷ blob_data bytes ∷ [])
body_data bodies.Taken = null

-- a request: its method, uri, headers and body
unfoldable pub request_data : HttpRequest → Data
request_data r = row (string r.method ∷ string r.uri ∷ headers_data r.headers ∷ body_data r.body ∷ [])

-- a response: its status, headers and body
unfoldable pub response_data : HttpResponse → Data
response_data r = row (num r.status ∷ headers_data r.headers ∷ body_data r.body ∷ [])

-- ---- identities and endpoints

-- an identity: its content, and when it expires
unfoldable pub identity_data : Identity → Data
identity_data i = row (blob_data i.content ∷ null_or num i.expiration ∷ [])

-- a header that an endpoint sets: its name and its values
unfoldable pub endpoint_header_data : EndpointHeader → Data
endpoint_header_data h = row (string h.name ∷ texts h.values ∷ [])

-- an endpoint: its url, its headers, and the auth schemes that it lists or null
unfoldable pub endpoint_data : Endpoint → Data
endpoint_data e = row (string e.url ∷ row (map endpoint_header_data e.headers) ∷ null_or texts e.schemes ∷ [])

-- ---- failures and outcomes

-- the name of an error's kind
unfoldable pub error_kind_data : ErrorKind → Data
error_kind_data k = string (error_kind_text k)

-- the kind of a connector's failure; another one has an error's kind or null beside it
unfoldable pub connector_data : ConnectorKind → Data
connector_data connectors.Timeout = string (codes "Timeout")
connector_data connectors.User = string (codes "User")
connector_data connectors.Io = string (codes "Io")
connector_data (connectors.Other kind) = row (string (codes "Other") ∷ null_or error_kind_data kind ∷ [])

-- the word for a failure's kind, and what that kind has of its own
unfoldable pub fault_parts : FaultKind → List Data
fault_parts (faults.Interceptor hook) = string (codes "Interceptor") ∷ string (hook_text hook) ∷ []
fault_parts (faults.Operation payload) = string (codes "Operation") ∷ payload_data payload ∷ []
fault_parts (faults.Connector kind) = string (codes "Connector") ∷ connector_data kind ∷ []
fault_parts faults.Timeout = string (codes "Timeout") ∷ []
fault_parts faults.Response = string (codes "Response") ∷ []
fault_parts faults.Other = string (codes "Other") ∷ []

-- the parts of its kind, and its text
unfoldable pub fault_data : Fault → Data
fault_data f = row (fault_parts f.kind ++ string f.text ∷ [])

-- what an attempt or a run came to: an output, or a failure
unfoldable pub outcome_data : Outcome → Data
outcome_data (outcomes.Output payload) = row (string (codes "Output") ∷ payload_data payload ∷ [])
outcome_data (outcomes.Failed fault) = row (string (codes "Failed") ∷ fault_data fault ∷ [])

-- the part of the run that a hook writes, and its new value
unfoldable pub change_data : Change → Data
change_data (changes.Input payload) = row (string (codes "Input") ∷ payload_data payload ∷ [])
change_data (changes.Request request) = row (string (codes "Request") ∷ request_data request ∷ [])
change_data (changes.Response response) = row (string (codes "Response") ∷ response_data response ∷ [])
change_data (changes.Outcome outcome) = row (string (codes "Outcome") ∷ outcome_data outcome ∷ [])

-- ---- settings

-- the caller's own keys stand behind `user.`
abbrev pub key_text : SettingKey → List ℕ
key_text (keys.User name) = codes "user." ++ name
key_text key = key_name key

-- null is the mark Unset
unfoldable pub layer_entry_data : LayerEntry → Data
layer_entry_data e = row (string (key_text e.key) ∷ null_or value_data e.value ∷ [])

-- the entries of a layer, in their order
unfoldable pub layer_data : List LayerEntry → Data
layer_data l = row (map layer_entry_data l)

-- ---- answers of hooks, and notes

-- a layer that sets nothing
abbrev pub no_layer : List LayerEntry → Bool
no_layer [] = true
no_layer (e ∷ es) = false

-- no change, no setting and no failure
abbrev pub does_nothing : HookAnswer → Bool
does_nothing a = is_none a.change && no_layer a.settings && is_none a.failure

-- what a hook did: its change, its settings and its failure, or one word where it did nothing
unfoldable pub hook_answer_data : HookAnswer → Data
hook_answer_data a = if does_nothing a then string (codes "Done")
    else row (string (codes "Hook") ∷ null_or change_data a.change ∷ layer_data a.settings
    ∷ null_or string a.failure ∷ [])

-- where an identity came from
unfoldable pub choose_note_data : ChooseNote → Data
choose_note_data choose_notes.Hit = string (codes "Hit")
choose_note_data choose_notes.Load = string (codes "Load")
choose_note_data choose_notes.Uncached = string (codes "Uncached")

-- whether a further attempt is made, and the pause that goes with it
unfoldable pub choice_data : Choice → Data
choice_data choices.Yes = string (codes "Yes")
choice_data choices.No = string (codes "No")
choice_data (choices.NoAfter nanos) = row (string (codes "NoAfter") ∷ num nanos ∷ [])
choice_data (choices.Delay nanos) = row (string (codes "Delay") ∷ num nanos ∷ [])

-- what a retry classifier says
unfoldable pub action_data : RetryAction → Data
action_data actions.NoActionIndicated = string (codes "NoActionIndicated")
action_data (actions.RetryIndicated kind after) =
    row (string (codes "RetryIndicated") ∷ error_kind_data kind ∷ null_or num after ∷ [])
action_data actions.RetryForbidden = string (codes "RetryForbidden")

-- why a retry strategy chose so, with the tokens that it is about
unfoldable pub reason_data : Reason → Data
reason_data reasons.NotIndicated = string (codes "NotIndicated")
reason_data reasons.OutOfAttempts = string (codes "OutOfAttempts")
reason_data (reasons.NoQuota cost) = row (string (codes "NoQuota") ∷ num cost ∷ [])
reason_data (reasons.Granted amount) = row (string (codes "Granted") ∷ num amount ∷ [])

-- the five sums of a token bucket
unfoldable pub sums_data : Sums → Data
sums_data s = row (num s.capacity ∷ num s.granted ∷ num s.available ∷ num s.held ∷ num s.forgotten ∷ [])

-- what a decision was made from
unfoldable pub note_data : DecideNote → Data
note_data n = row (action_data n.verdict ∷ null_or num n.moment ∷ num n.word ∷ reason_data n.reason
    ∷ null_or sums_data n.sums ∷ [])

-- a decision, with what it was made from if that is noted
unfoldable pub decided_data : Choice → Option DecideNote → Data
decided_data choice None = choice_data choice
decided_data choice (Some note) = row (string (codes "Noted") ∷ choice_data choice ∷ note_data note ∷ [])

-- ---- answers

-- the scheme and the identity of a choice, with what goes with them
unfoldable pub chosen_data : Chosen → Data
chosen_data c = row (string (codes "Chosen") ∷ string c.scheme ∷ identity_data c.identity
    ∷ null_or endpoint_data c.endpoint ∷ layer_data c.settings ∷ null_or choose_note_data c.note ∷ [])

-- an answer of the world: its word, and its value where it has one
unfoldable pub answer_data : Answer → Data
answer_data answers.Pending = string (codes "Pending")
answer_data answers.Absent = string (codes "Absent")
answer_data (answers.Failed text) = row (string (codes "Failed") ∷ string text ∷ [])
answer_data (answers.ConnectorFailed kind text) = row (string (codes "Failed") ∷ connector_data kind ∷ string text ∷ [])
answer_data (answers.Layer layer) = row (string (codes "Layer") ∷ layer_data layer ∷ [])
answer_data (answers.Hooked answer) = hook_answer_data answer
answer_data (answers.Request request) = row (string (codes "Request") ∷ request_data request ∷ [])
answer_data (answers.Loaded bytes) = row (string (codes "Loaded") ∷ blob_data bytes ∷ [])
answer_data answers.Go = string (codes "Go")
answer_data answers.No = string (codes "No")
answer_data (answers.Delay nanos) = row (string (codes "Delay") ∷ num nanos ∷ [])
answer_data answers.Started = string (codes "Started")
answer_data answers.Ready = string (codes "Ready")
answer_data (answers.Chosen chosen) = chosen_data chosen
answer_data (answers.Endpoint endpoint) = row (string (codes "Endpoint") ∷ endpoint_data endpoint ∷ [])
answer_data (answers.Response response) = row (string (codes "Response") ∷ response_data response ∷ [])
answer_data answers.NotStreaming = string (codes "NotStreaming")
answer_data (answers.Outcome outcome) = row (string (codes "Outcome") ∷ outcome_data outcome ∷ [])
answer_data (answers.Read bytes) = row (string (codes "Read") ∷ blob_data bytes ∷ [])
answer_data (answers.Decided choice note) = decided_data choice note
answer_data answers.Abandoned = string (codes "Abandoned")
answer_data answers.Parked = string (codes "Parked")
answer_data answers.NoMemory = string (codes "NoMemory")

-- the name of a kind of question
unfoldable pub kind_data : Kind → Data
kind_data k = string (kind_text k)
