-- A transmission is handed a request.
use Rattle.std.specs.Prelude.{Some, List, ◌∷◌, ◌++◌, [], ◌≡◌}
use Rattle.smithy_types.specs.declared.http.HttpRequest.{HttpRequest}
use Rattle.smithy_types.specs.declared.kinds.StopPoint.{StopPoint}
use Rattle.smithy_types.specs.declared.payload.Payload.{Payload}
use Rattle.smithy_context.specs.StandingLayers.{StandingLayers}
use Rattle.run_grammar.specs.declared.answer.Entry.{Entry}
use Rattle.run_grammar.specs.declared.kind.Kind.TheVariants as kinds
use Rattle.run_grammar.specs.declared.question.Question.TheVariants as questions
use Rattle.run_grammar.specs.Entry.{kind_of}
use Rattle.run_grammar.specs.Laws.{Begins}
use Rattle.run_grammar.specs.Standing.{start}

-- the question hands over a request, with settings
abbrev pub HandsRequest : Entry → Type 0
HandsRequest e =
    (settings : StandingLayers) × (request : HttpRequest) × (e.question ≡ questions.Transmit settings (Some request))

-- each Transmit of a list that begins a run
abbrev pub TransmitsHaveRequests : Type 0
TransmitsHaveRequests =
    (stop : StopPoint) (p : Payload) (before : List Entry) (e : Entry) → Begins stop (start p) (before ++ e ∷ []) →
    kind_of e ≡ kinds.Transmit → HandsRequest e
