-- How long a response asks to wait, by a header of it.
use Rattle.std.specs.Prelude.{ℕ, ◌*◌, ◌-◌, ◌^◌, min, Bool, ◌&&◌, nat_lt, length, if◌then◌else◌, List, Option, None, Some}
use Rattle.std.specs.Prelude.{option_and_then}
use Rattle.std.specs.Char.{is_ascii_digit}
use Rattle.std.specs.List.{list_all}
use Rattle.std.specs.Str.Parse.{digits_value}
use Rattle.http_header.specs.FieldValue.{FieldValue}
use Rattle.http_header.specs.HeaderMap.{get}
use Rattle.http_header.specs.Token.{lowercase}
use Rattle.smithy_types.specs.HeaderList.{HeaderList}
use Rattle.smithy_types.specs.declared.http.HttpResponse.{HttpResponse}
use Rattle.smithy_types.specs.declared.notes.RetryAction.{RetryAction}
use Rattle.smithy_types.specs.declared.notes.RetryAction.TheVariants.{NoActionIndicated, RetryIndicated, RetryForbidden}
use Rattle.host_session.specs.declared.service.retry_after.RetryAfterClassifier.{RetryAfterClassifier}

-- one decimal digit or more, of a number of 64 bits
abbrev pub is_decimal : List ℕ → Bool
is_decimal bytes = list_all is_ascii_digit bytes && nat_lt 0 (length bytes) && nat_lt (digits_value 10 bytes) (2 ^ 64)

-- their number
unfoldable pub decimal_number : List ℕ → Option ℕ
decimal_number bytes = if is_decimal bytes then Some (digits_value 10 bytes) else None

-- the number that a value is
abbrev pub number_of : FieldValue → Option ℕ
number_of value = decimal_number value.bytes

-- the number that is the first value of a header
abbrev pub number_in : HeaderList → List ℕ → Option ℕ
number_in headers name = option_and_then number_of (get headers (lowercase name))

-- so many units, in nanoseconds
abbrev pub units : ℕ → Option ℕ → Option ℕ
units unit None = None
units unit (Some n) = Some (min (n * unit) (2 ^ 64 - 1))

-- the delay that the headers of a response ask for
abbrev pub delay_of : RetryAfterClassifier → HeaderList → Option ℕ
delay_of c headers = units c.unit (number_in headers c.name)

-- the delay that a response asks for, if there is one
abbrev pub retry_after_in : RetryAfterClassifier → Option HttpResponse → Option ℕ
retry_after_in c None = None
retry_after_in c (Some response) = delay_of c response.headers

-- the verdict for a retry with this delay, and no action on any other verdict
abbrev pub with_retry_after : Option ℕ → RetryAction → RetryAction
with_retry_after None verdict = NoActionIndicated
with_retry_after (Some delay) NoActionIndicated = NoActionIndicated
with_retry_after (Some delay) (RetryIndicated kind retry_after) = RetryIndicated kind (Some delay)
with_retry_after (Some delay) RetryForbidden = NoActionIndicated

-- the delay that a response asks for, by such a classifier, if there is one
abbrev pub asked_by : Option RetryAfterClassifier → Option HttpResponse → Option ℕ
asked_by None response = None
asked_by (Some c) response = retry_after_in c response

-- a retry has the delay that was asked for, if one was; any other verdict is left
abbrev pub delayed : Option ℕ → RetryAction → RetryAction
delayed None verdict = verdict
delayed (Some delay) NoActionIndicated = NoActionIndicated
delayed (Some delay) (RetryIndicated kind retry_after) = RetryIndicated kind (Some delay)
delayed (Some delay) RetryForbidden = RetryForbidden
