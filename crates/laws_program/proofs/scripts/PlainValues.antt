-- Payloads, requests, responses, identities, endpoints, failures and outcomes that are read have no float.
use Rattle.std.proofs.Common.{ℕ, ◌^◌, List, codes, Option, refl}
use Rattle.serde_json.specs.Data.{Data, null, boolean, number, string, array, object}
use Rattle.serde_json.specs.Find.{as_str, as_array}
use Rattle.json_forms.specs.Forms.{starts, word_at, tagged_at, optional_at, texts_at, blob_at}
use Rattle.json_forms.specs.Lists.{list_of}
use Rattle.json_forms.specs.Plain.{number_at, number_below, pair_at, triple_at, quadruple_at}
use Rattle.json_forms.specs.Reading.{◌>>=◌}
use Rattle.json_values.specs.Readings.{payload_at, field_name, field_value, header_at, header_items, headers_at, sent_at, body_at, request_at, response_at, identity_at, endpoint_header_at, endpoint_at, error_kind_at, connector_at, operation_fault_at, connector_fault_at, plain_fault_at, fault_at, outcome_at, change_at}
use Rattle.json_values.proofs.SpelledForms.{Holds, either, step, weaker}
use Rattle.laws_program.proofs.scripts.PlainForms.{Plain, ArePlain, Refuses, kept, then_plain, part, said_or, str_plain, number_plain, below_plain, word_plain, array_plain, list_plain, rows_plain, texts_plain, pair_plain, triple_plain, quadruple_plain, tagged_plain, optional_plain, blob_plain}

-- ---- payloads, requests and responses

pub payload_plain : Refuses payload_at
unfolding payload_at Holds
payload_plain d =
    step _ _ (pair_at d) _ (pair_plain d) (λ p whole.
    part (number_below (2 ^ 32)) (below_plain (2 ^ 32)) p.0 _ _ (λ h k.
    part blob_at blob_plain p.1 _ _ (λ i b. whole h i)))

header_plain : Refuses header_at
unfolding header_at Holds
header_plain d =
    step _ _ (pair_at d) _ (pair_plain d) (λ p whole.
    part (λ x. as_str x >>= field_name) (then_plain as_str field_name str_plain) p.0 _ _ (λ h n.
    part (λ x. blob_at x >>= field_value) (then_plain blob_at field_value blob_plain) p.1 _ _ (λ i v. whole h i)))

pub headers_plain : Refuses headers_at
unfolding headers_at
headers_plain d =
    step (λ ds. ArePlain ds → Plain d) _ (as_array d) header_items (array_plain d) (λ ds whole.
    weaker (λ _. ArePlain ds) _ (header_items ds) (kept (ArePlain ds) (list_of header_at ds) _ (list_plain header_at header_plain ds)) (λ _. whole))

sent_plain : Refuses sent_at
unfolding sent_at
sent_plain d =
    either _ (starts (codes "Once") d) _ _ (kept (Plain d) (tagged_at (codes "Once") d >>= blob_at) _ (tagged_plain (codes "Once") blob_at blob_plain d))
    (kept (Plain d) (blob_at d) _ (blob_plain d))

body_plain : Refuses body_at
unfolding body_at Holds
body_plain null = refl
body_plain (boolean b) = sent_plain (boolean b)
body_plain (number n) = sent_plain (number n)
body_plain (string s) = sent_plain (string s)
body_plain (array ds) = sent_plain (array ds)
body_plain (object ms) = sent_plain (object ms)

pub request_plain : Refuses request_at
unfolding request_at Holds
request_plain d =
    step _ _ (quadruple_at d) _ (quadruple_plain d) (λ p whole.
    part as_str str_plain p.0 _ _ (λ h m.
    part as_str str_plain p.1 _ _ (λ i u.
    part headers_at headers_plain p.2 _ _ (λ j hs.
    part body_at body_plain p.3 _ _ (λ k b. whole h i j k)))))

pub response_plain : Refuses response_at
unfolding response_at Holds
response_plain d =
    step _ _ (triple_at d) _ (triple_plain d) (λ p whole.
    part (number_below (2 ^ 16)) (below_plain (2 ^ 16)) p.0 _ _ (λ h s.
    part headers_at headers_plain p.1 _ _ (λ i hs.
    part body_at body_plain p.2 _ _ (λ j b. whole h i j))))

-- ---- identities and endpoints

pub identity_plain : Refuses identity_at
unfolding identity_at Holds
identity_plain d =
    step _ _ (pair_at d) _ (pair_plain d) (λ p whole.
    part blob_at blob_plain p.0 _ _ (λ h c.
    part (optional_at number_at) (optional_plain number_at number_plain) p.1 _ _ (λ i e. whole h i)))

endpoint_header_plain : Refuses endpoint_header_at
unfolding endpoint_header_at Holds
endpoint_header_plain d =
    step _ _ (pair_at d) _ (pair_plain d) (λ p whole.
    part as_str str_plain p.0 _ _ (λ h n.
    part texts_at texts_plain p.1 _ _ (λ i vs. whole h i)))

pub endpoint_plain : Refuses endpoint_at
unfolding endpoint_at Holds
endpoint_plain d =
    step _ _ (triple_at d) _ (triple_plain d) (λ p whole.
    part as_str str_plain p.0 _ _ (λ h u.
    part (λ x. as_array x >>= list_of endpoint_header_at) (rows_plain endpoint_header_at endpoint_header_plain) p.1 _ _ (λ i hs.
    part (optional_at texts_at) (optional_plain texts_at texts_plain) p.2 _ _ (λ j s. whole h i j))))

-- ---- failures and outcomes

pub error_kind_plain : Refuses error_kind_at
unfolding error_kind_at
error_kind_plain d = kept (Plain d) (as_str d) _ (str_plain d)

pub connector_plain : Refuses connector_at
unfolding connector_at
connector_plain d =
    said_or (codes "Timeout") d _ _
    (said_or (codes "User") d _ _
    (said_or (codes "Io") d _ _
    (kept (Plain d) (tagged_at (codes "Other") d >>= optional_at error_kind_at) _ (tagged_plain (codes "Other") (optional_at error_kind_at) (optional_plain error_kind_at error_kind_plain) d))))

operation_fault_plain : Refuses operation_fault_at
unfolding operation_fault_at Holds
operation_fault_plain d =
    step _ _ (triple_at d) _ (triple_plain d) (λ p whole.
    part (word_at (codes "Operation")) (word_plain (codes "Operation")) p.0 _ _ (λ h _.
    part payload_at payload_plain p.1 _ _ (λ i e.
    part as_str str_plain p.2 _ _ (λ j t. whole h i j))))

connector_fault_plain : Refuses connector_fault_at
unfolding connector_fault_at Holds
connector_fault_plain d =
    step _ _ (triple_at d) _ (triple_plain d) (λ p whole.
    part (word_at (codes "Connector")) (word_plain (codes "Connector")) p.0 _ _ (λ h _.
    part connector_at connector_plain p.1 _ _ (λ i k.
    part as_str str_plain p.2 _ _ (λ j t. whole h i j))))

tagged_text : {X : Type 0} (tag : List ℕ) (f : List ℕ → Option X) (d : Data) → Holds (λ (x : X). Plain d) (tagged_at tag d >>= as_str >>= f)
tagged_text tag f d = kept (Plain d) (tagged_at tag d >>= as_str) f (tagged_plain tag as_str str_plain d)

plain_fault_plain : Refuses plain_fault_at
unfolding plain_fault_at
plain_fault_plain d =
    either _ (starts (codes "Timeout") d) _ _ (tagged_text (codes "Timeout") _ d)
    (either _ (starts (codes "Response") d) _ _ (tagged_text (codes "Response") _ d) (tagged_text (codes "Other") _ d))

fault_plain : Refuses fault_at
unfolding fault_at
fault_plain d =
    either _ (starts (codes "Operation") d) _ _ (operation_fault_plain d)
    (either _ (starts (codes "Connector") d) _ _ (connector_fault_plain d) (plain_fault_plain d))

pub outcome_plain : Refuses outcome_at
unfolding outcome_at
outcome_plain d =
    either _ (starts (codes "Output") d) _ _ (kept (Plain d) (tagged_at (codes "Output") d >>= payload_at) _ (tagged_plain (codes "Output") payload_at payload_plain d))
    (kept (Plain d) (tagged_at (codes "Failed") d >>= fault_at) _ (tagged_plain (codes "Failed") fault_at fault_plain d))

pub change_plain : Refuses change_at
unfolding change_at
change_plain d =
    either _ (starts (codes "Input") d) _ _ (kept (Plain d) (tagged_at (codes "Input") d >>= payload_at) _ (tagged_plain (codes "Input") payload_at payload_plain d))
    (either _ (starts (codes "Request") d) _ _ (kept (Plain d) (tagged_at (codes "Request") d >>= request_at) _ (tagged_plain (codes "Request") request_at request_plain d))
    (either _ (starts (codes "Response") d) _ _ (kept (Plain d) (tagged_at (codes "Response") d >>= response_at) _ (tagged_plain (codes "Response") response_at response_plain d))
    (kept (Plain d) (tagged_at (codes "Outcome") d >>= outcome_at) _ (tagged_plain (codes "Outcome") outcome_at outcome_plain d))))
