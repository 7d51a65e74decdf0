-- What holds of every ending of a run.
use Rattle.std.specs.Prelude.{◌≡◌, ℕ, true, List, [], ◌∷◌, ◌++◌, Option, is_some}
use Rattle.json_forms.specs.Prints.{row}
use Rattle.smithy_types.specs.declared.http.HttpRequest.{HttpRequest}
use Rattle.smithy_types.specs.declared.kinds.StopPoint.{StopPoint}
use Rattle.smithy_types.specs.declared.payload.Payload.{Payload}
use Rattle.run_grammar.specs.declared.answer.Answer.TheVariants as answers
use Rattle.run_grammar.specs.declared.answer.Entry.{Entry}
use Rattle.run_grammar.specs.declared.kind.Kind.TheVariants as kinds
use Rattle.run_grammar.specs.Entry.{kind_of}
use Rattle.run_grammar.specs.Laws.{Begins}
use Rattle.run_grammar.specs.Standing.{start}
use Rattle.json_values.specs.Values.{request_data}
use Rattle.json_print.specs.Print.{entry_data, entry_parts}
use Rattle.json_print.specs.Endings.{Ends}
use Rattle.json_print.specs.declared.ending.Ending.TheVariants as endings
use Rattle.json_print.specs.declared.head.RunHead.{RunHead}

-- A run that ends at its stop point leaves a request.
abbrev pub StoppedWithRequest : Type 0
StoppedWithRequest =
    (head : RunHead) (log : List Entry) (request : Option HttpRequest) → Ends head [] log (endings.Stopped request)
    → is_some request ≡ true

-- the line of an entry has four parts, of which the last is the request that was handed
abbrev pub ShowsRequest : ℕ → Entry → Type 0
ShowsRequest n e = (request : HttpRequest) × (entry_data n e ≡ row (entry_parts n e ++ request_data request ∷ []))

-- each Transmit of a list that begins a run, once it isn't pending
abbrev pub TransmitsShowRequests : Type 0
TransmitsShowRequests =
    (stop : StopPoint) (p : Payload) (before : List Entry) (e : Entry) (n : ℕ) →
    Begins stop (start p) (before ++ e ∷ []) →
    kind_of e ≡ kinds.Transmit → (e.answer ≡ answers.Pending → ⊥) → ShowsRequest n e
