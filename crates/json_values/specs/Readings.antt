-- Which value JSON spells: payloads, requests and responses, identities, endpoints, failures and outcomes.
use Rattle.std.specs.Prelude.{ℕ, ◌^◌, List, [], Bool, ◌&&◌, Option, Some, None, codes, take, length, nat_le, nat_lt}
use Rattle.std.specs.Prelude.{if◌then◌else◌}
use Rattle.std.specs.List.{list_all}
use Rattle.http_header.specs.FieldValue.{FieldValue, plain_value}
use Rattle.http_header.specs.HeaderMap.{append, append_all}
use Rattle.http_header.specs.Token.{is_token_byte, is_value_byte, lowercase}
use Rattle.serde_json.specs.Data.{Data, null, Items}
use Rattle.serde_json.specs.Find.{as_str, as_array}
use Rattle.smithy_types.specs.HeaderList.{HeaderList}
use Rattle.smithy_types.specs.declared.fault.Fault.{Fault}
use Rattle.smithy_types.specs.declared.fault.FaultKind.{FaultKind}
use Rattle.smithy_types.specs.declared.fault.FaultKind.TheVariants as faults
use Rattle.smithy_types.specs.declared.fault.Outcome.{Outcome}
use Rattle.smithy_types.specs.declared.fault.Outcome.TheVariants as outcomes
use Rattle.smithy_types.specs.declared.http.Body.{Body}
use Rattle.smithy_types.specs.declared.http.Body.TheVariants as bodies
use Rattle.smithy_types.specs.declared.http.HttpRequest.{HttpRequest}
use Rattle.smithy_types.specs.declared.http.HttpResponse.{HttpResponse}
use Rattle.smithy_types.specs.declared.identity.Endpoint.{Endpoint}
use Rattle.smithy_types.specs.declared.identity.EndpointHeader.{EndpointHeader}
use Rattle.smithy_types.specs.declared.identity.Identity.{Identity}
use Rattle.smithy_context.specs.declared.intercept.Change.{Change}
use Rattle.smithy_context.specs.declared.intercept.Change.TheVariants as changes
use Rattle.smithy_types.specs.declared.kinds.ConnectorKind.{ConnectorKind}
use Rattle.smithy_types.specs.declared.kinds.ConnectorKind.TheVariants as connectors
use Rattle.smithy_types.specs.declared.kinds.ErrorKind.{ErrorKind}
use Rattle.smithy_types.specs.declared.payload.Payload.{Payload}
use Rattle.json_forms.specs.Forms.{says, starts, word_at, tagged_at, named, optional_at, texts_at, blob_at}
use Rattle.json_forms.specs.Lists.{list_of}
use Rattle.json_values.specs.Names.{error_kinds, error_kind_text}
use Rattle.json_forms.specs.Plain.{number_at, number_below, pair_at, triple_at, quadruple_at}
use Rattle.json_forms.specs.Reading.{◌>>=◌}

-- ---- payloads, requests and responses

-- a payload: a kind of 32 bits, and bytes
unfoldable pub payload_at : Data → Option Payload
payload_at d = pair_at d >>= λ p. number_below (2 ^ 32) p.0 >>= λ k. blob_at p.1 >>= λ b.
    Some (record { kind = k; bytes = b })

-- bytes that may name a header
unfoldable pub is_field_name : List ℕ → Bool
is_field_name s = nat_lt 0 (length s) && nat_le (length s) 65535 && list_all is_token_byte s

-- one header of a head, its name with one value
abbrev pub Header : Type 0
Header = List ℕ × FieldValue

-- a name in lower case
unfoldable pub field_name : List ℕ → Option (List ℕ)
field_name s = if is_field_name s then Some (lowercase s) else None

-- a value that HTTP allows, not kept out of logs
unfoldable pub field_value : List ℕ → Option FieldValue
field_value b = if list_all is_value_byte b then Some (plain_value b) else None

-- a header that HTTP allows, its name in lower case
unfoldable pub header_at : Data → Option Header
header_at d = pair_at d >>= λ p. as_str p.0 >>= field_name >>= λ n. blob_at p.1 >>= field_value >>= λ v. Some (n, v)

-- All are read, and the first 24,576 are kept: as many as a header map takes whatever their names.
abbrev pub header_items : Items → Option HeaderList
header_items ds = list_of header_at ds >>= λ hs. Some (append_all [] (take 24576 hs))

-- the headers of a request or a response
unfoldable pub headers_at : Data → Option HeaderList
headers_at d = as_array d >>= header_items

-- a header goes in if fewer than 24,576 have gone before it
abbrev pub put_within : ℕ → HeaderList → List ℕ → FieldValue → HeaderList
put_within i m n v = if nat_lt i 24576 then append m n v else m

-- a body that is there: bytes in memory, or bytes that can be sent once
unfoldable pub sent_at : Data → Option Body
sent_at d = if starts (codes "Once") d then (tagged_at (codes "Once") d >>= blob_at >>= λ b. Some (bodies.Once b))
    else (blob_at d >>= λ b. Some (bodies.Bytes b))

-- bytes, bytes that can be sent once, or null for a body that is gone
unfoldable pub body_at : Data → Option Body
body_at null = Some bodies.Taken
body_at d = sent_at d

-- a request: its method, uri, headers and body
unfoldable pub request_at : Data → Option HttpRequest
request_at d = quadruple_at d >>= λ p. as_str p.0 >>= λ m. as_str p.1 >>= λ u. headers_at p.2 >>= λ h.
    body_at p.3 >>= λ b. Some (record { method = m; uri = u; headers = h; body = b })

-- a response: a status of 16 bits, headers and a body
unfoldable pub response_at : Data → Option HttpResponse
response_at d = triple_at d >>= λ p. number_below (2 ^ 16) p.0 >>= λ s. headers_at p.1 >>= λ h. body_at p.2 >>= λ b.
    Some (record { status = s; headers = h; body = b })

-- ---- identities and endpoints

-- an identity: its content, and when it expires or null
unfoldable pub identity_at : Data → Option Identity
identity_at d = pair_at d >>= λ p. blob_at p.0 >>= λ c. optional_at number_at p.1 >>= λ e.
    Some (record { content = c; expiration = e })

-- a header that an endpoint sets: its name and its values
unfoldable pub endpoint_header_at : Data → Option EndpointHeader
endpoint_header_at d = pair_at d >>= λ p. as_str p.0 >>= λ n. texts_at p.1 >>= λ vs.
    Some (record { name = n; values = vs })

-- an endpoint: its url, its headers, and the auth schemes that it lists or null
unfoldable pub endpoint_at : Data → Option Endpoint
endpoint_at d = triple_at d >>= λ p. as_str p.0 >>= λ u. as_array p.1 >>= list_of endpoint_header_at >>= λ hs.
    optional_at texts_at p.2 >>= λ s. Some (record { url = u; headers = hs; schemes = s })

-- ---- failures and outcomes

-- the kind of an error, by its name
unfoldable pub error_kind_at : Data → Option ErrorKind
error_kind_at d = as_str d >>= named error_kind_text error_kinds

-- the kind of a connector's failure
unfoldable pub connector_at : Data → Option ConnectorKind
connector_at d = if says (codes "Timeout") d then Some connectors.Timeout
    else (if says (codes "User") d then Some connectors.User
    else (if says (codes "Io") d then Some connectors.Io
    else (tagged_at (codes "Other") d >>= optional_at error_kind_at >>= λ k. Some (connectors.Other k))))

-- a failure of this kind with this text
abbrev pub failed_by : FaultKind → List ℕ → Fault
failed_by k t = record { kind = k; text = t }

-- the operation's own error, with its payload
unfoldable pub operation_fault_at : Data → Option Fault
operation_fault_at d = triple_at d >>= λ p. word_at (codes "Operation") p.0 >>= λ _. payload_at p.1 >>= λ e.
    as_str p.2 >>= λ t. Some (failed_by (faults.Operation e) t)

-- a failure of the connector
unfoldable pub connector_fault_at : Data → Option Fault
connector_fault_at d = triple_at d >>= λ p. word_at (codes "Connector") p.0 >>= λ _. connector_at p.1 >>= λ k.
    as_str p.2 >>= λ t. Some (failed_by (faults.Connector k) t)

-- those without a part of their own
unfoldable pub plain_fault_at : Data → Option Fault
plain_fault_at d = if starts (codes "Timeout") d
    then (tagged_at (codes "Timeout") d >>= as_str >>= λ t. Some (failed_by faults.Timeout t))
    else (if starts (codes "Response") d
    then (tagged_at (codes "Response") d >>= as_str >>= λ t. Some (failed_by faults.Response t))
    else (tagged_at (codes "Other") d >>= as_str >>= λ t. Some (failed_by faults.Other t)))

-- a hook's failure can't be written
unfoldable pub fault_at : Data → Option Fault
fault_at d = if starts (codes "Operation") d then operation_fault_at d
    else (if starts (codes "Connector") d then connector_fault_at d else plain_fault_at d)

-- what an attempt or a run came to: an output, or a failure
unfoldable pub outcome_at : Data → Option Outcome
outcome_at d =
    if starts (codes "Output") d then (tagged_at (codes "Output") d >>= payload_at >>= λ p. Some (outcomes.Output p))
    else (tagged_at (codes "Failed") d >>= fault_at >>= λ f. Some (outcomes.Failed f))

-- the part of the run that a hook writes, and its new value
unfoldable pub change_at : Data → Option Change
change_at d =
    if starts (codes "Input") d then (tagged_at (codes "Input") d >>= payload_at >>= λ p. Some (changes.Input p))
    else (if starts (codes "Request") d
    then (tagged_at (codes "Request") d >>= request_at >>= λ r. Some (changes.Request r))
    else (if starts (codes "Response") d
    then (tagged_at (codes "Response") d >>= response_at >>= λ r. Some (changes.Response r))
    else (tagged_at (codes "Outcome") d >>= outcome_at >>= λ o. Some (changes.Outcome o))))
