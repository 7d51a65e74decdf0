-- Payloads of errors whose bodies are structures.
use Rattle.std.specs.Prelude.{◌≡◌, ℕ, Option, Some, None, option_map, unwrap_or}
use Rattle.std.proofs.Common.{sym, ap, ◌∙◌}
use Rattle.smithy_types.specs.declared.payload.Payload.{Payload}
use Rattle.json_payloads.specs.Forms.{Form, present_at}
use Rattle.json_payloads.specs.Payloads.{data_of_bytes}
use Rattle.json_payloads.specs.Reading.{◌>>=◌}
use Rattle.json_payloads.specs.declared.details.DetailedError.{DetailedError}

-- null, or the details, that a body is
abbrev pub details_at : {D : Type 0} → Form D → Payload → Option (Option D)
details_at f p = data_of_bytes p.bytes >>= present_at f

-- the details that a body is, where it is such a value
abbrev pub details_in : {D : Type 0} → Form D → Payload → Option D
details_in f p = unwrap_or (details_at f p) None

-- the error that a payload is, by the status that is its kind
abbrev pub detailed_in : {E D : Type 0} → (ℕ → Option E) → Form D → Payload → Option (DetailedError E D)
detailed_in of_status f p = option_map (λ error. record { error = error; details = details_in f p }) (of_status p.kind)

-- a payload is one error at most
pub one_detailed : {E D : Type 0} (of_status : ℕ → Option E) (f : Form D) (p : Payload) (x y : DetailedError E D) →
    detailed_in of_status f p ≡ Some x → detailed_in of_status f p ≡ Some y → x ≡ y
one_detailed {E} {D} of_status f p x y h g = ap (λ (o : Option (DetailedError E D)). unwrap_or o x) (sym h ∙ g)
