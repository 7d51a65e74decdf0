-- What is read of a response.
use Rattle.std.specs.Prelude.{ℕ, List, []}
use Rattle.smithy_types.specs.declared.http.Body.{Body}
use Rattle.smithy_types.specs.declared.http.Body.TheVariants.{Bytes, Once, Taken}

-- the bytes of a body; those that are gone are none
abbrev pub body_bytes : Body → List ℕ
body_bytes (Bytes bytes) = bytes
body_bytes (Once bytes) = bytes
body_bytes Taken = []
