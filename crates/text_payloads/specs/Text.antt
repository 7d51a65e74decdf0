-- Which payloads are texts.
use Rattle.std.specs.Prelude.{ℕ, Bool, ◌&&◌, ◌==◌}
use Rattle.std.specs.Str.{is_utf8}
use Rattle.smithy_types.specs.declared.payload.Payload.{Payload}

-- a text of this kind: its bytes are UTF-8
abbrev pub is_text : ℕ → Payload → Bool
is_text kind p = (p.kind == kind) && is_utf8 p.bytes
