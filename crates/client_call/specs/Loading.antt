-- Load: what a request's body is loaded as.
use Rattle.std.specs.Prelude.{List, codes, Option, None, Some}
use Rattle.smithy_types.specs.declared.http.Body.{Body}
use Rattle.smithy_types.specs.declared.http.Body.TheVariants.{Bytes, Once, Taken}
use Rattle.smithy_types.specs.declared.http.HttpRequest.{HttpRequest}
use Rattle.run_grammar.specs.declared.answer.Answer.{Answer}
use Rattle.run_grammar.specs.declared.answer.Answer.TheVariants.{Absent, Failed, Loaded}

-- bytes that are there are loaded, and those that are gone fail
abbrev pub loaded_body : Body → Answer
loaded_body (Bytes bytes) = Loaded bytes
loaded_body (Once bytes) = Loaded bytes
loaded_body Taken = Failed (codes "body taken")

-- the answer for a request, which is Absent without one
abbrev pub loaded : Option HttpRequest → Answer
loaded None = Absent
loaded (Some request) = loaded_body request.body
