-- The parts that a question is handed.
use Rattle.std.specs.Prelude.{IsSome, List, [], ◌∷◌, ◌++◌}
use Rattle.smithy_types.specs.declared.kinds.StopPoint.{StopPoint}
use Rattle.smithy_types.specs.declared.payload.Payload.{Payload}
use Rattle.run_grammar.specs.Laws.{Begins}
use Rattle.run_grammar.specs.Standing.{start}
use Rattle.run_grammar.specs.declared.answer.Entry.{Entry}
use Rattle.run_grammar.specs.declared.question.Question.{Question}
use Rattle.run_grammar.specs.declared.question.Question.TheVariants as questions

-- the question hands on what its kind works on; the other kinds work without such parts
abbrev pub HandsParts : Question → Type 0
HandsParts (questions.Serialize input settings) = IsSome input
HandsParts (questions.Load request) = IsSome request
HandsParts (questions.Apply settings request endpoint) = IsSome request × IsSome endpoint
HandsParts (questions.Sign settings request scheme identity endpoint) =
    IsSome request × IsSome scheme × IsSome identity × IsSome endpoint
HandsParts (questions.Transmit settings request) = IsSome request
HandsParts (questions.Stream settings response) = IsSome response
HandsParts (questions.Body settings response) = IsSome response
HandsParts (questions.Deserialize settings response) = IsSome response
HandsParts _ = Unit {0}

-- each question of a list that begins a run
abbrev pub PartsAreHanded : Type 0
PartsAreHanded =
    (stop : StopPoint) (p : Payload) (before : List Entry) (e : Entry) → Begins stop (start p) (before ++ e ∷ [])
    → HandsParts e.question
