-- What the client's interceptor and its classifier do.
use Rattle.std.specs.Prelude.{◌≡◌, ◌==◌, Bool, true, false, if◌then◌else◌, Option, None, Some, codes}
use Rattle.auth_endpoint.specs.declared.scheme.Signed.{Signed}
use Rattle.auth_endpoint.specs.declared.scheme.Signed.TheVariants.{Request, Failed}
use Rattle.http_schemes.specs.Signing.{SignsByHeader}
use Rattle.smithy_base.specs.Requests.{no_answer, writes_request}
use Rattle.smithy_context.specs.declared.intercept.HookAnswer.{HookAnswer}
use Rattle.smithy_types.specs.declared.hook.Hook.{Hook}
use Rattle.smithy_types.specs.declared.hook.Hook.TheVariants as hooks
use Rattle.smithy_types.specs.declared.http.HttpRequest.{HttpRequest}
use Rattle.smithy_types.specs.declared.http.HttpResponse.{HttpResponse}
use Rattle.smithy_types.specs.declared.kinds.ErrorKind.TheVariants.{TransientError}
use Rattle.smithy_types.specs.declared.notes.RetryAction.{RetryAction}
use Rattle.smithy_types.specs.declared.notes.RetryAction.TheVariants.{NoActionIndicated, RetryIndicated}

-- once for all attempts
abbrev pub is_naming : Hook → Bool
is_naming hooks.ModifyBeforeRetryLoop = true
is_naming _ = false

-- the hook writes the request with the header, or fails with the reason
abbrev pub answer_of : Signed → HookAnswer
answer_of (Request request) = writes_request request
answer_of (Failed text) = record no_answer { failure = Some text }

-- the request has the client's name in the header `x-client`; all else stays
abbrev pub Names : Bool → Option HttpRequest → HookAnswer → Type 0
Names true (Some request) answer =
    (named : Signed) × SignsByHeader (codes "x-client") (codes "bakery-shop") request named × (answer ≡ answer_of named)
Names _ _ answer = answer ≡ no_answer

-- a response of status 425 is worth another attempt
abbrev pub early_says : Option HttpResponse → RetryAction
early_says None = NoActionIndicated
early_says (Some response) = if response.status == 425 then RetryIndicated TransientError None else NoActionIndicated
