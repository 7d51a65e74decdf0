use Rattle.std.proofs.Common.{◌≡◌, flat_map, take, string_bytes}
use Rattle.http_schemes.specs.Encoding.{encoded_byte}
use Rattle.http_schemes.proofs.encoding.encode.Given as goal

-- the bytes so far are spelled
abbrev pub invariant-loop-byte : goal.invariant-loop-byte
invariant-loop-byte l = string_bytes l.text ≡ flat_map encoded_byte (take l.byte-index l.bytes)
