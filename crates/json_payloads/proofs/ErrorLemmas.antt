-- What a payload of an error is read as.
use Rattle.std.proofs.Common.{◌≡◌, ℕ, List, Option, Some, ap, sym, ◌∙◌}
use Rattle.std.specs.Prelude.{option_map}
use Rattle.smithy_types.specs.declared.payload.Payload.{Payload}
use Rattle.json_payloads.specs.Errors.{error_in}
use Rattle.json_payloads.specs.Payloads.{message_in}
use Rattle.json_payloads.specs.declared.errors.ServiceError.{ServiceError}

-- the error with this message
abbrev pub with_message : {E : Type 0} → Option (List ℕ) → E → ServiceError E
with_message m error = record { error = error; message = m }

-- a payload of the error's status, with its message, is the error
pub told_by_status : {E : Type 0} (of_status : ℕ → Option E) (status : E → ℕ) (x : ServiceError E) (p : Payload) → of_status (status x.error) ≡ Some x.error → p.kind ≡ status x.error → message_in p ≡ x.message → error_in of_status p ≡ Some x
told_by_status {E} of_status status x p law kind message =
    ap (λ (k : ℕ). option_map (with_message (message_in p)) (of_status k)) kind
    ∙ ap (option_map (with_message (message_in p))) law
    ∙ ap (λ (m : Option (List ℕ)). Some (with_message m x.error)) message

-- the error of a payload whose kind is its status
pub read_by_status : {E : Type 0} (of_status : ℕ → Option E) (error : E) (p : Payload) → Some error ≡ of_status p.kind → error_in of_status p ≡ Some (with_message (message_in p) error)
read_by_status of_status error p is = ap (option_map (with_message (message_in p))) (sym is)
