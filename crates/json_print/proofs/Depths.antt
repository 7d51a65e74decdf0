-- No line of a print nests deeply.
use Rattle.std.proofs.Common.{◌≤◌, ℕ, suc, List, [], ◌∷◌, ◌++◌, map, Bool, true, false, cond, Option, Some, None, option_to_list, arith}
use Rattle.std.specs.List.{list_all}
use Rattle.http_header.specs.HeaderMap.{pairs}
use Rattle.json_forms.specs.Prints.{row, num, null_or, texts, is_shown, blob_data}
use Rattle.run_grammar.specs.Question.{kind_of_question}
use Rattle.run_grammar.specs.declared.answer.Answer.TheVariants as answers
use Rattle.run_grammar.specs.declared.answer.Entry.{Entry}
use Rattle.json_print.specs.Print.{begin_data, ending_data, entry_data, error_data, transmitted}
use Rattle.json_print.specs.declared.ending.Ending.TheVariants as endings
use Rattle.serde_json.specs.Data.{Data, depth, string, items_depth}
use Rattle.serde_json.specs.View.{items_of}
use Rattle.smithy_context.specs.declared.intercept.Change.TheVariants as changes
use Rattle.smithy_context.specs.declared.setting.Setting.TheVariants as settings
use Rattle.smithy_types.specs.declared.fault.FaultKind.{FaultKind}
use Rattle.smithy_types.specs.declared.fault.FaultKind.TheVariants as faults
use Rattle.smithy_types.specs.declared.fault.Outcome.TheVariants as outcomes
use Rattle.smithy_types.specs.declared.fault.SdkError.TheVariants as errors
use Rattle.smithy_types.specs.declared.http.Body.TheVariants as bodies
use Rattle.smithy_types.specs.declared.http.HttpRequest.{HttpRequest}
use Rattle.smithy_types.specs.declared.kinds.ConnectorKind.TheVariants as connectors
use Rattle.smithy_types.specs.declared.notes.Choice.{Choice}
use Rattle.smithy_types.specs.declared.notes.Choice.TheVariants as choices
use Rattle.smithy_types.specs.declared.notes.ChooseNote.TheVariants as choose_notes
use Rattle.smithy_types.specs.declared.notes.DecideNote.{DecideNote}
use Rattle.smithy_types.specs.declared.notes.Reason.TheVariants as reasons
use Rattle.smithy_types.specs.declared.notes.RetryAction.TheVariants as actions
use Rattle.json_values.specs.Names.{kind_text}
use Rattle.json_values.specs.Values.{action_data, answer_data, body_data, change_data, choice_data, choose_note_data, chosen_data, connector_data, decided_data, does_nothing, endpoint_data, endpoint_header_data, error_kind_data, fault_data, fault_parts, header_data, headers_data, hook_answer_data, identity_data, kind_data, layer_data, layer_entry_data, note_data, outcome_data, payload_data, reason_data, request_data, response_data, sums_data}
use Rattle.json_values.specs.SettingForms.{retry_data, spec_data, stall_data, timeouts_data, value_data}

-- ---- rows, lists and values that may be absent

-- Data of this shape nests at most so deep.
abbrev pub Nests : {X : Type 0} → ℕ → (X → Data) → Type 0
Nests {X} n f = (x : X) → depth (f x) ≤ n

items_nest : {X : Type 0} (n : ℕ) (f : X → Data) → Nests n f → (xs : List X) → items_depth (items_of (map f xs)) ≤ n
items_nest n f h [] = omega arith
items_nest n f h (x ∷ xs) = let here = h x in let later = items_nest n f h xs in omega arith

each_nests : {X : Type 0} (n : ℕ) (f : X → Data) → Nests n f → (xs : List X) → depth (row (map f xs)) ≤ suc n
each_nests n f h xs = let inner = items_nest n f h xs in omega arith

optional_nests : {X : Type 0} (n : ℕ) (f : X → Data) → Nests n f → (o : Option X) → depth (null_or f o) ≤ n
optional_nests n f h None = omega arith
optional_nests n f h (Some x) = h x

num_nests : Nests 0 num
num_nests n = omega arith

string_nests : Nests 0 string
string_nests s = omega arith

texts_nest : Nests 1 texts
texts_nest ts = each_nests 0 string string_nests ts

if_nests : (n : ℕ) (b : Bool) (x y : Data) → depth x ≤ n → depth y ≤ n → depth (cond b x y) ≤ n
if_nests n true x y h k = h
if_nests n false x y h k = k

blob_nests : Nests 1 blob_data
unfolding blob_data
blob_nests bytes = if_nests 1 (list_all is_shown bytes) _ _ (omega arith) (omega arith)

-- ---- payloads, requests and responses

payload_nests : Nests 2 payload_data
unfolding payload_data
payload_nests p = let b = blob_nests p.bytes in omega arith

header_nests : Nests 2 header_data
unfolding header_data
header_nests h = let b = blob_nests (h.1).bytes in omega arith

headers_nest : Nests 3 headers_data
unfolding headers_data
headers_nest hs = each_nests 2 header_data header_nests (pairs hs)

body_nests : Nests 2 body_data
unfolding body_data
body_nests (bodies.Bytes bytes) = let b = blob_nests bytes in omega arith
body_nests (bodies.Once bytes) = let b = blob_nests bytes in omega arith
body_nests bodies.Taken = omega arith

request_nests : Nests 4 request_data
unfolding request_data
request_nests r = let h = headers_nest r.headers in let b = body_nests r.body in omega arith

response_nests : Nests 4 response_data
unfolding response_data
response_nests r = let h = headers_nest r.headers in let b = body_nests r.body in omega arith

-- ---- identities and endpoints

identity_nests : Nests 2 identity_data
unfolding identity_data
identity_nests i = let b = blob_nests i.content in let e = optional_nests 0 num num_nests i.expiration in omega arith

endpoint_header_nests : Nests 2 endpoint_header_data
unfolding endpoint_header_data
endpoint_header_nests h = let v = texts_nest h.values in omega arith

endpoint_nests : Nests 4 endpoint_data
unfolding endpoint_data
endpoint_nests e =
    let h = each_nests 2 endpoint_header_data endpoint_header_nests e.headers in
    let s = optional_nests 1 texts texts_nest e.schemes in
    omega arith

-- ---- failures, outcomes and changes

error_kind_nests : Nests 0 error_kind_data
unfolding error_kind_data
error_kind_nests k = omega arith

connector_nests : Nests 1 connector_data
unfolding connector_data
connector_nests connectors.Timeout = omega arith
connector_nests connectors.User = omega arith
connector_nests connectors.Io = omega arith
connector_nests (connectors.Other kind) = let k = optional_nests 0 error_kind_data error_kind_nests kind in omega arith

fault_row_nests : (k : FaultKind) (text : List ℕ) → depth (row (fault_parts k ++ string text ∷ [])) ≤ 3
unfolding fault_parts
fault_row_nests (faults.Interceptor hook) text = omega arith
fault_row_nests (faults.Operation payload) text = let p = payload_nests payload in omega arith
fault_row_nests (faults.Connector kind) text = let c = connector_nests kind in omega arith
fault_row_nests faults.Timeout text = omega arith
fault_row_nests faults.Response text = omega arith
fault_row_nests faults.Other text = omega arith

fault_nests : Nests 3 fault_data
unfolding fault_data
fault_nests f = fault_row_nests f.kind f.text

outcome_nests : Nests 4 outcome_data
unfolding outcome_data
outcome_nests (outcomes.Output payload) = let p = payload_nests payload in omega arith
outcome_nests (outcomes.Failed fault) = let f = fault_nests fault in omega arith

change_nests : Nests 5 change_data
unfolding change_data
change_nests (changes.Input payload) = let p = payload_nests payload in omega arith
change_nests (changes.Request request) = let r = request_nests request in omega arith
change_nests (changes.Response response) = let r = response_nests response in omega arith
change_nests (changes.Outcome outcome) = let o = outcome_nests outcome in omega arith

-- ---- settings

timeouts_nest : Nests 1 timeouts_data
unfolding timeouts_data
timeouts_nest t =
    let c = optional_nests 0 num num_nests t.connect in
    let r = optional_nests 0 num num_nests t.read in
    let o = optional_nests 0 num num_nests t.operation in
    let a = optional_nests 0 num num_nests t.attempt in
    omega arith

spec_nests : Nests 1 spec_data
unfolding spec_data
spec_nests s = omega arith

retry_nests : Nests 2 retry_data
unfolding retry_data
retry_nests r = let s = optional_nests 1 spec_data spec_nests r.spec in omega arith

stall_nests : Nests 1 stall_data
unfolding stall_data
stall_nests s = omega arith

value_nests : Nests 2 value_data
unfolding value_data
value_nests (settings.Timeouts value) = let t = timeouts_nest value in omega arith
value_nests (settings.Retry value) = retry_nests value
value_nests (settings.Stall value) = let s = stall_nests value in omega arith
value_nests (settings.Preference value) = let t = texts_nest value in omega arith
value_nests (settings.Disable value) = let t = texts_nest value in omega arith
value_nests (settings.User name value) = let b = blob_nests value in omega arith
value_nests _ = omega arith

layer_entry_nests : Nests 3 layer_entry_data
unfolding layer_entry_data
layer_entry_nests e = let v = optional_nests 2 value_data value_nests e.value in omega arith

pub layer_nests : Nests 4 layer_data
unfolding layer_data
layer_nests l = each_nests 3 layer_entry_data layer_entry_nests l

-- ---- answers of hooks, and notes

pub hook_answer_nests : Nests 6 hook_answer_data
unfolding hook_answer_data
hook_answer_nests a =
    let c = optional_nests 5 change_data change_nests a.change in
    let l = layer_nests a.settings in
    let f = optional_nests 0 string string_nests a.failure in
    if_nests 6 (does_nothing a) _ _ (omega arith) (omega arith)

choose_note_nests : Nests 0 choose_note_data
unfolding choose_note_data
choose_note_nests choose_notes.Hit = omega arith
choose_note_nests choose_notes.Load = omega arith
choose_note_nests choose_notes.Uncached = omega arith

choice_nests : Nests 1 choice_data
unfolding choice_data
choice_nests choices.Yes = omega arith
choice_nests choices.No = omega arith
choice_nests (choices.NoAfter nanos) = omega arith
choice_nests (choices.Delay nanos) = omega arith

action_nests : Nests 1 action_data
unfolding action_data
action_nests actions.NoActionIndicated = omega arith
action_nests (actions.RetryIndicated kind after) = let k = error_kind_nests kind in let a = optional_nests 0 num num_nests after in omega arith
action_nests actions.RetryForbidden = omega arith

reason_nests : Nests 1 reason_data
unfolding reason_data
reason_nests reasons.NotIndicated = omega arith
reason_nests reasons.OutOfAttempts = omega arith
reason_nests (reasons.NoQuota cost) = omega arith
reason_nests (reasons.Granted amount) = omega arith

sums_nest : Nests 1 sums_data
unfolding sums_data
sums_nest s = omega arith

note_nests : Nests 2 note_data
unfolding note_data
note_nests n =
    let v = action_nests n.verdict in
    let m = optional_nests 0 num num_nests n.moment in
    let r = reason_nests n.reason in
    let s = optional_nests 1 sums_data sums_nest n.sums in
    omega arith

decided_nests : (c : Choice) (n : Option DecideNote) → depth (decided_data c n) ≤ 3
unfolding decided_data
decided_nests c None = let h = choice_nests c in omega arith
decided_nests c (Some note) = let h = choice_nests c in let n = note_nests note in omega arith

chosen_nests : Nests 5 chosen_data
unfolding chosen_data
chosen_nests c =
    let i = identity_nests c.identity in
    let e = optional_nests 4 endpoint_data endpoint_nests c.endpoint in
    let l = layer_nests c.settings in
    let n = optional_nests 0 choose_note_data choose_note_nests c.note in
    omega arith

-- ---- answers

answer_nests : Nests 6 answer_data
unfolding answer_data
answer_nests answers.Pending = omega arith
answer_nests answers.Absent = omega arith
answer_nests (answers.Failed text) = omega arith
answer_nests (answers.ConnectorFailed kind text) = let c = connector_nests kind in omega arith
answer_nests (answers.Layer layer) = let l = layer_nests layer in omega arith
answer_nests (answers.Hooked answer) = hook_answer_nests answer
answer_nests (answers.Request request) = let r = request_nests request in omega arith
answer_nests (answers.Loaded bytes) = let b = blob_nests bytes in omega arith
answer_nests answers.Go = omega arith
answer_nests answers.No = omega arith
answer_nests (answers.Delay nanos) = omega arith
answer_nests answers.Started = omega arith
answer_nests answers.Ready = omega arith
answer_nests (answers.Chosen chosen) = let c = chosen_nests chosen in omega arith
answer_nests (answers.Endpoint endpoint) = let e = endpoint_nests endpoint in omega arith
answer_nests (answers.Response response) = let r = response_nests response in omega arith
answer_nests answers.NotStreaming = omega arith
answer_nests (answers.Outcome outcome) = let o = outcome_nests outcome in omega arith
answer_nests (answers.Read bytes) = let b = blob_nests bytes in omega arith
answer_nests (answers.Decided choice note) = let d = decided_nests choice note in omega arith
answer_nests answers.Abandoned = omega arith
answer_nests answers.Parked = omega arith
answer_nests answers.NoMemory = omega arith

-- ---- lines

pub begin_nests : Nests 3 begin_data
unfolding begin_data
begin_nests h = let p = payload_nests h.input in omega arith

entry_row_nests : (n : ℕ) (k : List ℕ) (a : Data) (o : Option HttpRequest) → depth a ≤ 6 → depth (row ((num n ∷ string k ∷ a ∷ []) ++ map request_data (option_to_list o))) ≤ 7
entry_row_nests n k a None h = omega arith
entry_row_nests n k a (Some r) h = let q = request_nests r in omega arith

pub entry_nests : (n : ℕ) (e : Entry) → depth (entry_data n e) ≤ 7
unfolding entry_data kind_data
entry_nests n e = entry_row_nests n (kind_text (kind_of_question e.question)) (answer_data e.answer) (transmitted e.question e.answer) (answer_nests e.answer)

error_nests : Nests 5 error_data
unfolding error_data
error_nests (errors.ConstructionFailure fault) = let f = fault_nests fault in omega arith
error_nests (errors.TimeoutError fault) = let f = fault_nests fault in omega arith
error_nests (errors.DispatchFailure fault) = let f = fault_nests fault in omega arith
error_nests (errors.ResponseError fault response) = let f = fault_nests fault in let r = response_nests response in omega arith
error_nests (errors.ServiceError payload response) = let p = payload_nests payload in let r = response_nests response in omega arith

pub ending_nests : Nests 5 ending_data
unfolding ending_data
ending_nests (endings.Output payload) = let p = payload_nests payload in omega arith
ending_nests (endings.Stopped request) = let r = optional_nests 4 request_data request_nests request in omega arith
ending_nests (endings.Error error) = error_nests error
ending_nests endings.Unfinished = omega arith
ending_nests (endings.WrongType payload) = let p = payload_nests payload in omega arith
