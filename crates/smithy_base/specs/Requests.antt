-- What the interceptors on requests answer.
use Rattle.std.specs.Prelude.{Bool, true, false, ℕ, Option, None, Some, List, [], ◌≡◌, codes, Result, Ok, Err}
use Rattle.smithy_types.specs.declared.hook.Hook.{Hook}
use Rattle.smithy_types.specs.declared.hook.Hook.TheVariants as hooks
use Rattle.smithy_types.specs.declared.http.Body.TheVariants as bodies
use Rattle.smithy_types.specs.declared.http.HttpRequest.{HttpRequest}
use Rattle.smithy_context.specs.declared.intercept.Change.TheVariants as changes
use Rattle.smithy_context.specs.declared.intercept.HookAnswer.{HookAnswer}

-- the one hook of both
abbrev pub is_before_signing : Hook → Bool
is_before_signing hooks.ModifyBeforeSigning = true
is_before_signing _ = false

-- a hook's answer that changes nothing, sets nothing and doesn't fail
abbrev pub no_answer : HookAnswer
no_answer = record { change = None; settings = []; failure = None }

-- this request is written
abbrev pub writes_request : HttpRequest → HookAnswer
writes_request r = record { change = Some (changes.Request r); settings = []; failure = None }

-- what stands where a request was taken and not given back: `GET /` with nothing in it
abbrev pub taken_request : HttpRequest
taken_request = record { method = codes "GET"; uri = codes "/"; headers = []; body = bodies.Taken }

-- the answer for what a map gives: the mapped request, or its failure beside what stands then
abbrev pub mapped : Result HttpRequest (List ℕ) → HookAnswer
mapped (Ok r) = writes_request r
mapped (Err t) = record { change = Some (changes.Request taken_request); settings = []; failure = Some t }

-- before signing, where a request stands, the answer is one of these; else it is empty
abbrev pub AnswersBeforeSigning : (HttpRequest → HookAnswer → Type 0) → Bool → Option HttpRequest → HookAnswer → Type 0
AnswersBeforeSigning R true (Some r) a = R r a
AnswersBeforeSigning R _ _ a = a ≡ no_answer
