-- How long a further attempt waits. All times are in nanoseconds.
use Rattle.std.specs.Prelude.{ℕ, ◌+◌, ◌-◌, ◌*◌, ◌/◌, ◌^◌, min, max, nat_le, Bool, true, false, if◌then◌else◌, Option}
use Rattle.std.specs.Prelude.{None, Some}
use Rattle.smithy_types.specs.declared.config.RetryConfig.{RetryConfig}
use Rattle.smithy_types.specs.declared.config.RetrySpec.{RetrySpec}
use Rattle.smithy_types.specs.declared.config.RetrySpecVersion.{RetrySpecVersion}
use Rattle.smithy_types.specs.declared.config.RetrySpecVersion.TheVariants.{V2_0, V2_1}
use Rattle.smithy_types.specs.declared.kinds.ErrorKind.{ErrorKind}
use Rattle.smithy_types.specs.declared.kinds.ErrorKind.TheVariants.{ThrottlingError, TransientError, ServerError}
use Rattle.smithy_types.specs.declared.kinds.ErrorKind.TheVariants.{ClientError}

-- whether the service said that it gets too many requests
abbrev pub is_throttling : ErrorKind → Bool
is_throttling ThrottlingError = true
is_throttling TransientError = false
is_throttling ServerError = false
is_throttling ClientError = false

-- whether the version is 2.1
abbrev pub is_second : RetrySpecVersion → Bool
is_second V2_1 = true
is_second V2_0 = false

-- whether version 2.1 of the specification holds
abbrev pub is_v2_1 : Option RetrySpec → Bool
is_v2_1 None = false
is_v2_1 (Some spec) = is_second spec.version

-- whether the operation polls for long
abbrev pub polls_for_long : Option RetrySpec → Bool
polls_for_long None = false
polls_for_long (Some spec) = spec.long_polling

-- the first backoff: a specification has one of its own after what isn't throttling
abbrev pub initial_by : ℕ → ErrorKind → Option RetrySpec → ℕ
initial_by initial kind None = initial
initial_by initial kind (Some spec) = if is_throttling kind then initial else spec.non_throttling_initial_backoff

-- the first backoff doubles with each attempt, up to the longest one
abbrev pub doubled : ℕ → ℕ → ℕ → ℕ
doubled initial attempt longest = if nat_le 32 (attempt - 1) then longest else min (initial * 2 ^ (attempt - 1)) longest

-- all of it, or the part that a random word of 64 bits is of them all
abbrev pub part_of : Bool → ℕ → ℕ → ℕ
part_of true word backoff = backoff
part_of false word backoff = backoff * word / 2 ^ 64

-- the backoff before an attempt after this one
abbrev pub own_backoff : RetryConfig → ErrorKind → ℕ → ℕ → ℕ
own_backoff retry kind attempt word =
    part_of retry.static_base word
    (doubled (initial_by retry.initial_backoff kind retry.spec) attempt retry.max_backoff)

-- under version 2.1 a delay that the service asks for is followed as far as five seconds past the own backoff
abbrev pub within_five : Option ℕ → ℕ → ℕ
within_five None own = own
within_five (Some asked) own = max own (min asked (own + 5000000000))

-- else the limiter's delay comes first, and then the service's; neither is longer than the longest backoff
abbrev pub asked_or_own : ℕ → Option ℕ → ℕ → ℕ
asked_or_own longest None own = own
asked_or_own longest (Some asked) own = min asked longest

-- outside of version 2.1: the limiter's delay, else the service's, else the own backoff
abbrev pub limited_or_asked : ℕ → Option ℕ → Option ℕ → ℕ → ℕ
limited_or_asked longest (Some limited) asked own = min limited longest
limited_or_asked longest None asked own = asked_or_own longest asked own

-- how long a further attempt waits, by what the limiter and the service ask for and the own backoff
abbrev pub backoff_of : RetryConfig → Option ℕ → Option ℕ → ℕ → ℕ
backoff_of retry limited asked own =
    if is_v2_1 retry.spec then within_five asked own else limited_or_asked retry.max_backoff limited asked own
