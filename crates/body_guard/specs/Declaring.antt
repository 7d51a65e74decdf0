-- The length that the headers of a response declare.
use Rattle.std.specs.Prelude.{◌≡◌, ℕ, ◌<◌, ◌^◌, List, [], ◌∷◌, codes, Option, None, Some, Result, Ok, Err}
use Rattle.std.specs.Str.Parse.{IsNumeral, digits_value, without_leading_plus}
use Rattle.http_header.specs.FieldValue.{FieldValue}
use Rattle.http_header.specs.HeaderMap.{get_all}
use Rattle.smithy_types.specs.HeaderList.{HeaderList}
use Rattle.body_guard.specs.declared.length.LengthFault.{LengthFault}
use Rattle.body_guard.specs.declared.length.LengthFault.TheVariants.{Multiple, NotANumber}

-- the values of the header
abbrev pub lengths : HeaderList → List FieldValue
lengths headers = get_all headers (codes "content-length")

-- decimal digits, behind a plus or not, of a number of 64 bits
abbrev pub IsLength : List ℕ → Type 0
IsLength bytes = IsNumeral 10 (without_leading_plus bytes) × (digits_value 10 (without_leading_plus bytes) < 2 ^ 64)

-- what a value reads as
abbrev pub ReadsLength : List ℕ → Result (Option ℕ) LengthFault → Type 0
ReadsLength bytes (Ok (Some n)) = IsLength bytes × (n ≡ digits_value 10 (without_leading_plus bytes))
ReadsLength bytes (Ok None) = ⊥
ReadsLength bytes (Err NotANumber) = ¬ IsLength bytes
ReadsLength bytes (Err Multiple) = ⊥

-- what the values declare together
abbrev pub DeclaresLength : List FieldValue → Result (Option ℕ) LengthFault → Type 0
DeclaresLength [] declared = declared ≡ Ok None
DeclaresLength (value ∷ []) declared = ReadsLength value.bytes declared
DeclaresLength (value ∷ other ∷ more) declared = declared ≡ Err Multiple
