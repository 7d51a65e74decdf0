-- Failures, outcomes and changes that are read can be spelled.
use Rattle.std.proofs.Common.{◌≡◌, codes, true, refl}
use Rattle.serde_json.specs.Data.{Data}
use Rattle.serde_json.specs.Find.{as_str}
use Rattle.smithy_types.specs.declared.fault.Fault.{Fault}
use Rattle.smithy_types.specs.declared.identity.Identity.{Identity}
use Rattle.json_forms.specs.Forms.{starts, word_at, tagged_at, optional_at, blob_at}
use Rattle.json_forms.specs.Plain.{number_at, pair_at, triple_at}
use Rattle.json_forms.specs.Reading.{◌>>=◌}
use Rattle.json_values.specs.Readings.{payload_at, request_at, response_at, connector_at, identity_at, operation_fault_at, connector_fault_at, plain_fault_at, fault_at, outcome_at, change_at}
use Rattle.json_values.specs.Spellable.{bytes_spellable, fault_kind_spellable, outcome_spellable, change_spellable}
use Rattle.json_values.proofs.SpelledForms.{Holds, step, past, either, OfBytes, pair_of_bytes, triple_of_bytes, tagged_holds, blob_spelled}
use Rattle.json_values.proofs.SpelledHeads.{payload_spelled, request_spelled, response_spelled}

pub identity_spelled : (d : Data) → OfBytes d → Holds (λ (i : Identity). bytes_spellable i.content ≡ true) (identity_at d)
unfolding identity_at Holds
identity_spelled d h =
    step _ _ (pair_at d) _ (pair_of_bytes d h) (λ p hp.
    step _ _ (blob_at p.0) _ (blob_spelled p.0 hp.0) (λ b hb.
    past _ (optional_at number_at p.1) _ (λ e. hb)))

abbrev spelled_fault : Fault → Type 0
spelled_fault f = fault_kind_spellable f.kind ≡ true

operation_fault_spelled : (d : Data) → OfBytes d → Holds spelled_fault (operation_fault_at d)
unfolding operation_fault_at Holds fault_kind_spellable
operation_fault_spelled d h =
    step _ _ (triple_at d) _ (triple_of_bytes d h) (λ p hp.
    past _ (word_at (codes "Operation") p.0) _ (λ _.
    step _ _ (payload_at p.1) _ (payload_spelled p.1 hp.1) (λ e he.
    past _ (as_str p.2) _ (λ t. he))))

connector_fault_spelled : (d : Data) → Holds spelled_fault (connector_fault_at d)
unfolding connector_fault_at Holds fault_kind_spellable
connector_fault_spelled d =
    past _ (triple_at d) _ (λ p.
    past _ (word_at (codes "Connector") p.0) _ (λ _.
    past _ (connector_at p.1) _ (λ k.
    past _ (as_str p.2) _ (λ t. refl))))

plain_fault_spelled : (d : Data) → Holds spelled_fault (plain_fault_at d)
unfolding plain_fault_at Holds fault_kind_spellable
plain_fault_spelled d =
    either _ (starts (codes "Timeout") d) _ _ (past _ (tagged_at (codes "Timeout") d >>= as_str) _ (λ t. refl))
    (either _ (starts (codes "Response") d) _ _ (past _ (tagged_at (codes "Response") d >>= as_str) _ (λ t. refl))
    (past _ (tagged_at (codes "Other") d >>= as_str) _ (λ t. refl)))

fault_spelled : (d : Data) → OfBytes d → Holds spelled_fault (fault_at d)
unfolding fault_at
fault_spelled d h =
    either _ (starts (codes "Operation") d) _ _ (operation_fault_spelled d h)
    (either _ (starts (codes "Connector") d) _ _ (connector_fault_spelled d) (plain_fault_spelled d))

pub outcome_spelled : (d : Data) → OfBytes d → Holds (λ o. outcome_spellable o ≡ true) (outcome_at d)
unfolding outcome_at Holds outcome_spellable
outcome_spelled d h =
    either _ (starts (codes "Output") d) _ _
    (step _ _ (tagged_at (codes "Output") d >>= payload_at) _ (tagged_holds _ (codes "Output") payload_at d h payload_spelled) (λ p hp. hp))
    (step _ _ (tagged_at (codes "Failed") d >>= fault_at) _ (tagged_holds _ (codes "Failed") fault_at d h fault_spelled) (λ f hf. hf))

pub change_spelled : (d : Data) → OfBytes d → Holds (λ c. change_spellable c ≡ true) (change_at d)
unfolding change_at Holds change_spellable
change_spelled d h =
    either _ (starts (codes "Input") d) _ _
    (step _ _ (tagged_at (codes "Input") d >>= payload_at) _ (tagged_holds _ (codes "Input") payload_at d h payload_spelled) (λ p hp. hp))
    (either _ (starts (codes "Request") d) _ _
    (step _ _ (tagged_at (codes "Request") d >>= request_at) _ (tagged_holds _ (codes "Request") request_at d h request_spelled) (λ r hr. hr))
    (either _ (starts (codes "Response") d) _ _
    (step _ _ (tagged_at (codes "Response") d >>= response_at) _ (tagged_holds _ (codes "Response") response_at d h response_spelled) (λ r hr. hr))
    (step _ _ (tagged_at (codes "Outcome") d >>= outcome_at) _ (tagged_holds _ (codes "Outcome") outcome_at d h outcome_spelled) (λ o ho. ho))))
