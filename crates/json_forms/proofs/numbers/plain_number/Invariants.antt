use Rattle.std.proofs.Common.{◌≡◌, take}
use Rattle.std.specs.Str.Parse.{AllDigits, digits_value}
use Rattle.json_forms.proofs.numbers.plain_number.Given as goal

-- the number that the digits before the index are
abbrev pub invariant-loop-byte : goal.invariant-loop-byte
invariant-loop-byte l = AllDigits 10 (take l.byte-index l.bytes) × (l.number ≡ digits_value 10 (take l.byte-index l.bytes))
