-- Which payloads are values of a form.
use Rattle.std.specs.Prelude.{◌≡◌, ℕ, List, Bool, ◌==◌, codes, Option, Some, None, is_some, unwrap_or, if◌then◌else◌}
use Rattle.std.proofs.Common.{sym, ap, ◌∙◌}
use Rattle.std.specs.Str.{is_utf8}
use Rattle.serde_json.specs.Data.{Data}
use Rattle.serde_json.specs.Find.{get, as_str}
use Rattle.serde_json.specs.Read.{read}
use Rattle.smithy_types.specs.declared.payload.Payload.{Payload}
use Rattle.json_payloads.specs.Reading.{◌>>=◌}
use Rattle.json_payloads.specs.Forms.{Form}

-- the data whose text the bytes are
unfoldable pub data_of_bytes : List ℕ → Option Data
data_of_bytes bytes = if is_utf8 bytes then read bytes else None

-- the data whose text a payload of this kind is
abbrev pub data_in : ℕ → Payload → Option Data
data_in kind p = if p.kind == kind then data_of_bytes p.bytes else None

-- the value that a payload of this kind is
abbrev pub value_in : {X : Type 0} → Form X → ℕ → Payload → Option X
value_in f kind p = data_in kind p >>= f.reads

-- the payload is a value of this form
abbrev pub accepts : {X : Type 0} → Form X → ℕ → Payload → Bool
accepts f kind p = is_some (value_in f kind p)

-- the payload is this value
abbrev pub reads_as : {X : Type 0} → Form X → ℕ → Payload → X → Type 0
reads_as f kind p x = value_in f kind p ≡ Some x

-- a payload is one value at most
pub one_value : {X : Type 0} (f : Form X) (kind : ℕ) (p : Payload) (x y : X) → reads_as f kind p x →
    reads_as f kind p y → x ≡ y
one_value {X} f kind p x y h g = ap (λ (o : Option X). unwrap_or o x) (sym h ∙ g)

-- the text of the member `message`, where there is one
abbrev pub message_in : Payload → Option (List ℕ)
message_in p = data_of_bytes p.bytes >>= get (codes "message") >>= as_str
