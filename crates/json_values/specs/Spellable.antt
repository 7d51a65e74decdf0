-- Which values JSON can spell: what a value of the Rust types is by itself, and what their readers keep.
use Rattle.std.specs.Prelude.{ℕ, ◌^◌, List, [], Bool, true, false, ◌&&◌, not, Option, None, Some, map, length, nat_le}
use Rattle.std.specs.Prelude.{nat_lt, is_none, bytes_eq}
use Rattle.std.specs.List.{list_all}
use Rattle.http_header.specs.FieldValue.{FieldValue}
use Rattle.http_header.specs.HeaderMap.{pairs}
use Rattle.http_header.specs.Token.{is_value_byte, lowercase}
use Rattle.smithy_types.specs.HeaderList.{HeaderList}
use Rattle.smithy_context.specs.Setting.{key_of, same_key}
use Rattle.smithy_types.specs.declared.fault.FaultKind.{FaultKind}
use Rattle.smithy_types.specs.declared.fault.FaultKind.TheVariants as faults
use Rattle.smithy_types.specs.declared.fault.Outcome.{Outcome}
use Rattle.smithy_types.specs.declared.fault.Outcome.TheVariants as outcomes
use Rattle.smithy_types.specs.declared.http.Body.{Body}
use Rattle.smithy_types.specs.declared.http.Body.TheVariants as bodies
use Rattle.smithy_types.specs.declared.http.HttpRequest.{HttpRequest}
use Rattle.smithy_types.specs.declared.http.HttpResponse.{HttpResponse}
use Rattle.smithy_context.specs.declared.intercept.Change.{Change}
use Rattle.smithy_context.specs.declared.intercept.Change.TheVariants as changes
use Rattle.smithy_context.specs.declared.intercept.HookAnswer.{HookAnswer}
use Rattle.smithy_context.specs.declared.layer.LayerEntry.{LayerEntry}
use Rattle.smithy_types.specs.declared.notes.DecideNote.{DecideNote}
use Rattle.smithy_types.specs.declared.notes.Reason.{Reason}
use Rattle.smithy_types.specs.declared.notes.Reason.TheVariants as reasons
use Rattle.smithy_types.specs.declared.payload.Payload.{Payload}
use Rattle.smithy_context.specs.declared.setting.Setting.{Setting}
use Rattle.smithy_context.specs.declared.setting.Setting.TheVariants as settings
use Rattle.smithy_context.specs.declared.setting.SettingKey.{SettingKey}
use Rattle.run_grammar.specs.declared.answer.Answer.{Answer}
use Rattle.run_grammar.specs.declared.answer.Answer.TheVariants as answers
use Rattle.run_grammar.specs.declared.answer.Chosen.{Chosen}
use Rattle.json_forms.specs.Lists.{fresh}
use Rattle.json_values.specs.Readings.{Header, is_field_name}
use Rattle.json_values.specs.Values.{key_text}

-- nothing, or a value that passes the test
abbrev pub none_or : {X : Type 0} → (X → Bool) → Option X → Bool
none_or test None = true
none_or test (Some x) = test x

-- ---- bytes and numbers: those of a u8, a u16 or a u32

-- a number of 8 bits
abbrev pub is_byte : ℕ → Bool
is_byte b = nat_lt b 256

-- each of these is a byte
unfoldable pub bytes_spellable : List ℕ → Bool
bytes_spellable bytes = list_all is_byte bytes

-- a number of 16 bits
abbrev pub is_u16 : ℕ → Bool
is_u16 n = nat_lt n (2 ^ 16)

-- a number of 32 bits
abbrev pub is_u32 : ℕ → Bool
is_u32 n = nat_lt n (2 ^ 32)

-- a payload whose kind has 32 bits
unfoldable pub payload_spellable : Payload → Bool
payload_spellable p = is_u32 p.kind && bytes_spellable p.bytes

-- ---- heads, requests and responses

-- a header as a head keeps it: its name in lower case, its value not kept out of logs
unfoldable pub header_spellable : Header → Bool
header_spellable h =
    is_field_name h.0 && bytes_eq (lowercase h.0) h.0 && list_all is_value_byte (h.1).bytes
    && bytes_spellable (h.1).bytes && not (h.1).is_sensitive

-- a name of a head has a value
abbrev pub has_values : List ℕ × List FieldValue → Bool
has_values e = nat_lt 0 (length e.1)

-- the names of a head's headers
abbrev pub names_in : HeaderList → List (List ℕ)
names_in hs = map (λ e. e.0) hs

-- different names, each with values, and at most as many headers as a map takes whatever their names
unfoldable pub headers_spellable : HeaderList → Bool
headers_spellable hs =
    fresh [] (names_in hs) && list_all has_values hs && list_all header_spellable (pairs hs)
    && nat_le (length (pairs hs)) 24576

-- a body of bytes, or one that is gone
unfoldable pub body_spellable : Body → Bool
body_spellable (bodies.Bytes bytes) = bytes_spellable bytes
body_spellable (bodies.Once bytes) = bytes_spellable bytes
body_spellable bodies.Taken = true

-- a request whose headers and body JSON can spell
unfoldable pub request_spellable : HttpRequest → Bool
request_spellable r = headers_spellable r.headers && body_spellable r.body

-- a response whose status has 16 bits, and whose headers and body JSON can spell
unfoldable pub response_spellable : HttpResponse → Bool
response_spellable r = is_u16 r.status && headers_spellable r.headers && body_spellable r.body

-- ---- failures, outcomes and changes

-- a script can't write a hook's failure
unfoldable pub fault_kind_spellable : FaultKind → Bool
fault_kind_spellable (faults.Interceptor hook) = false
fault_kind_spellable (faults.Operation payload) = payload_spellable payload
fault_kind_spellable (faults.Connector kind) = true
fault_kind_spellable faults.Timeout = true
fault_kind_spellable faults.Response = true
fault_kind_spellable faults.Other = true

-- an output or a failure that a script can write
unfoldable pub outcome_spellable : Outcome → Bool
outcome_spellable (outcomes.Output payload) = payload_spellable payload
outcome_spellable (outcomes.Failed fault) = fault_kind_spellable fault.kind

-- what a hook writes, where JSON can spell it
unfoldable pub change_spellable : Change → Bool
change_spellable (changes.Input payload) = payload_spellable payload
change_spellable (changes.Request request) = request_spellable request
change_spellable (changes.Response response) = response_spellable response
change_spellable (changes.Outcome outcome) = outcome_spellable outcome

-- ---- settings and layers

-- a script can't write the numbers of a custom partition; of all others but these JSON can spell each value
unfoldable pub setting_spellable : Setting → Bool
setting_spellable (settings.Retry value) = is_u32 value.max_attempts
setting_spellable (settings.Partition value) = is_none value.custom
setting_spellable (settings.Bucket value) = is_u32 value
setting_spellable (settings.User name value) = bytes_spellable value
setting_spellable _ = true

-- a setting of this key
abbrev pub is_of_key : SettingKey → Setting → Bool
is_of_key k s = same_key (key_of s) k && setting_spellable s

-- a key that is unset, or has a setting of that key
unfoldable pub layer_entry_spellable : LayerEntry → Bool
layer_entry_spellable e = none_or (is_of_key e.key) e.value

-- the names of a layer's keys
abbrev pub key_texts : List LayerEntry → List (List ℕ)
key_texts l = map (λ (e : LayerEntry). key_text e.key) l

-- different keys
unfoldable pub layer_spellable : List LayerEntry → Bool
layer_spellable l = fresh [] (key_texts l) && list_all layer_entry_spellable l

-- ---- answers

-- a hook's answer whose change and settings JSON can spell
unfoldable pub hook_answer_spellable : HookAnswer → Bool
hook_answer_spellable a = none_or change_spellable a.change && layer_spellable a.settings

-- a reason whose number of tokens has 32 bits
unfoldable pub reason_spellable : Reason → Bool
reason_spellable reasons.NotIndicated = true
reason_spellable reasons.OutOfAttempts = true
reason_spellable (reasons.NoQuota cost) = is_u32 cost
reason_spellable (reasons.Granted amount) = is_u32 amount

-- a note of a decision whose reason JSON can spell
abbrev pub note_spellable : DecideNote → Bool
note_spellable n = reason_spellable n.reason

-- a choice whose identity and settings JSON can spell
unfoldable pub chosen_spellable : Chosen → Bool
chosen_spellable c = bytes_spellable c.identity.content && layer_spellable c.settings

-- an answer whose parts JSON can spell
unfoldable pub answer_spellable : Answer → Bool
answer_spellable answers.Pending = true
answer_spellable answers.Absent = true
answer_spellable (answers.Failed text) = true
answer_spellable (answers.ConnectorFailed kind text) = true
answer_spellable (answers.Layer layer) = layer_spellable layer
answer_spellable (answers.Hooked answer) = hook_answer_spellable answer
answer_spellable (answers.Request request) = request_spellable request
answer_spellable (answers.Loaded bytes) = bytes_spellable bytes
answer_spellable answers.Go = true
answer_spellable answers.No = true
answer_spellable (answers.Delay nanos) = true
answer_spellable answers.Started = true
answer_spellable answers.Ready = true
answer_spellable (answers.Chosen chosen) = chosen_spellable chosen
answer_spellable (answers.Endpoint endpoint) = true
answer_spellable (answers.Response response) = response_spellable response
answer_spellable answers.NotStreaming = true
answer_spellable (answers.Outcome outcome) = outcome_spellable outcome
answer_spellable (answers.Read bytes) = bytes_spellable bytes
answer_spellable (answers.Decided choice note) = none_or note_spellable note
answer_spellable answers.Abandoned = true
answer_spellable answers.Parked = true
answer_spellable answers.NoMemory = true
