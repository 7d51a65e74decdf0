-- Payloads of a service's errors.
use Rattle.std.specs.Prelude.{◌≡◌, ℕ, Option, Some, option_map, option_and_then, unwrap_or}
use Rattle.std.proofs.Common.{sym, ap, ◌∙◌}
use Rattle.smithy_types.specs.declared.kinds.ErrorKind.{ErrorKind}
use Rattle.smithy_types.specs.declared.payload.Payload.{Payload}
use Rattle.json_payloads.specs.Payloads.{message_in}
use Rattle.json_payloads.specs.declared.errors.ServiceError.{ServiceError}

-- the error that a payload is, by the status that is its kind
abbrev pub error_in : {E : Type 0} → (ℕ → Option E) → Payload → Option (ServiceError E)
error_in of_status p = option_map (λ error. record { error = error; message = message_in p }) (of_status p.kind)

-- what its error tells of a retry
abbrev pub retry_in : {E : Type 0} → (ℕ → Option E) → (E → Option ErrorKind) → Payload → Option ErrorKind
retry_in of_status retry p = option_and_then retry (of_status p.kind)

-- a payload is one error at most
pub one_error : {E : Type 0} (of_status : ℕ → Option E) (p : Payload) (x y : ServiceError E) →
    error_in of_status p ≡ Some x → error_in of_status p ≡ Some y → x ≡ y
one_error {E} of_status p x y h g = ap (λ (o : Option (ServiceError E)). unwrap_or o x) (sym h ∙ g)
