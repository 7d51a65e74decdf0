-- Identities, endpoints, failures, outcomes and changes that are printed are read again.
use Rattle.std.proofs.Common.{◌≡◌, ℕ, List, true, Option, Some, None, refl}
use Rattle.serde_json.specs.Data.{null}
use Rattle.smithy_types.specs.declared.fault.Fault.{Fault}
use Rattle.smithy_types.specs.declared.fault.FaultKind.{FaultKind}
use Rattle.smithy_types.specs.declared.fault.FaultKind.TheVariants as faults
use Rattle.smithy_types.specs.declared.fault.Outcome.{Outcome}
use Rattle.smithy_types.specs.declared.fault.Outcome.TheVariants as outcomes
use Rattle.smithy_types.specs.declared.identity.Endpoint.{Endpoint}
use Rattle.smithy_types.specs.declared.identity.EndpointHeader.{EndpointHeader}
use Rattle.smithy_types.specs.declared.identity.Identity.{Identity}
use Rattle.smithy_context.specs.declared.intercept.Change.{Change}
use Rattle.smithy_context.specs.declared.intercept.Change.TheVariants as changes
use Rattle.smithy_types.specs.declared.kinds.ConnectorKind.{ConnectorKind}
use Rattle.smithy_types.specs.declared.kinds.ConnectorKind.TheVariants as connectors
use Rattle.smithy_types.specs.declared.kinds.ErrorKind.{ErrorKind}
use Rattle.json_forms.specs.Forms.{starts, first_says, says, word_at, tagged_at, optional_at}
use Rattle.json_values.specs.Readings.{identity_at, endpoint_header_at, endpoint_at, error_kind_at, connector_at, failed_by, operation_fault_at, connector_fault_at, plain_fault_at, fault_at, outcome_at, change_at}
use Rattle.json_values.specs.Spellable.{none_or, bytes_spellable, fault_kind_spellable, outcome_spellable, change_spellable}
use Rattle.json_forms.specs.Prints.{null_or}
use Rattle.json_values.specs.Values.{identity_data, endpoint_header_data, endpoint_data, error_kind_data, connector_data, fault_parts, fault_data, outcome_data, change_data}
use Rattle.json_values.proofs.PrintedForms.{list_read_all, optional_read, optional_read_all, optional_number_read, texts_read, optional_texts_read, blob_read}
use Rattle.json_values.proofs.PrintedHeads.{payload_read, request_read, response_read}
use Rattle.json_values.proofs.PrintedNames.{error_kind_read}

pub identity_read : (i : Identity) → bytes_spellable i.content ≡ true → identity_at (identity_data i) ≡ Some i
unfolding identity_at identity_data
identity_read i h = rw (blob_read i.content h, optional_number_read i.expiration) refl

endpoint_header_read : (h : EndpointHeader) → endpoint_header_at (endpoint_header_data h) ≡ Some h
unfolding endpoint_header_at endpoint_header_data
endpoint_header_read h = rw (texts_read h.values) refl

pub endpoint_read : (e : Endpoint) → endpoint_at (endpoint_data e) ≡ Some e
unfolding endpoint_at endpoint_data
endpoint_read e = rw (list_read_all endpoint_header_at endpoint_header_data endpoint_header_read e.headers, optional_texts_read e.schemes) refl

pub no_endpoint : endpoint_at null ≡ None
unfolding endpoint_at
no_endpoint = refl

no_error_kind : error_kind_at null ≡ None
unfolding error_kind_at
no_error_kind = refl

optional_error_kind_read : (k : Option ErrorKind) → optional_at error_kind_at (null_or error_kind_data k) ≡ Some k
optional_error_kind_read k = optional_read_all error_kind_at error_kind_data no_error_kind error_kind_read k

pub connector_read : (k : ConnectorKind) → connector_at (connector_data k) ≡ Some k
unfolding connector_at connector_data says tagged_at word_at
connector_read connectors.Timeout = refl
connector_read connectors.User = refl
connector_read connectors.Io = refl
connector_read (connectors.Other k) = rw (optional_error_kind_read k) refl

kind_of_fault_read : (k : FaultKind) (t : List ℕ) → fault_kind_spellable k ≡ true → fault_at (fault_data (failed_by k t)) ≡ Some (failed_by k t)
unfolding fault_at fault_data fault_parts operation_fault_at connector_fault_at plain_fault_at starts first_says says tagged_at word_at fault_kind_spellable
kind_of_fault_read (faults.Interceptor hook) t h = absurd (cc)
kind_of_fault_read (faults.Operation payload) t h = rw (payload_read payload h) refl
kind_of_fault_read (faults.Connector kind) t h = rw (connector_read kind) refl
kind_of_fault_read faults.Timeout t h = refl
kind_of_fault_read faults.Response t h = refl
kind_of_fault_read faults.Other t h = refl

fault_read : (f : Fault) → fault_kind_spellable f.kind ≡ true → fault_at (fault_data f) ≡ Some f
fault_read f h = kind_of_fault_read f.kind f.text h

pub outcome_read : (o : Outcome) → outcome_spellable o ≡ true → outcome_at (outcome_data o) ≡ Some o
unfolding outcome_at outcome_data outcome_spellable starts first_says says tagged_at word_at
outcome_read (outcomes.Output payload) h = rw (payload_read payload h) refl
outcome_read (outcomes.Failed fault) h = rw (fault_read fault h) refl

change_read : (c : Change) → change_spellable c ≡ true → change_at (change_data c) ≡ Some c
unfolding change_at change_data change_spellable starts first_says says tagged_at word_at
change_read (changes.Input payload) h = rw (payload_read payload h) refl
change_read (changes.Request request) h = rw (request_read request h) refl
change_read (changes.Response response) h = rw (response_read response h) refl
change_read (changes.Outcome outcome) h = rw (outcome_read outcome h) refl

no_change : change_at null ≡ None
unfolding change_at starts tagged_at
no_change = refl

pub optional_change_read : (c : Option Change) → none_or change_spellable c ≡ true → optional_at change_at (null_or change_data c) ≡ Some c
optional_change_read c h = optional_read change_at change_data change_spellable no_change change_read c h
