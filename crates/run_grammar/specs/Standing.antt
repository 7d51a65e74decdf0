-- What stands after entries, what a question hands on, and lists whose questions hand on what stands.
use Rattle.std.specs.Prelude.{Bool, true, false, Option, None, Some, List, [], ◌∷◌, ◌≡◌}
use Rattle.smithy_context.specs.Context.{opened}
use Rattle.smithy_types.specs.declared.payload.Payload.{Payload}
use Rattle.run_grammar.specs.declared.kind.Kind.{Kind}
use Rattle.run_grammar.specs.declared.kind.Kind.TheVariants as kinds
use Rattle.run_grammar.specs.declared.question.Question.{Question}
use Rattle.run_grammar.specs.declared.question.Question.TheVariants as questions
use Rattle.run_grammar.specs.declared.answer.Entry.{Entry}
use Rattle.run_grammar.specs.declared.standing.Standing.{Standing}
use Rattle.run_grammar.specs.Question.{nanos_of}
use Rattle.run_grammar.specs.Entry.{kind_of}
use Rattle.run_grammar.specs.Change.{changed, nanos_for}

-- at a run's start the input stands, and nothing else (orchestrator.rs, `invoke_with_stop_point`:
-- `InterceptorContext::new`)
abbrev pub starting : Payload → Standing
starting p = record {
  context = opened p;
  scheme = None;
  identity = None;
  endpoint = None;
  delay = None;
  operation_deadline = None;
  attempt_deadline = None;
}

-- what stands, and the last entry
pub record State : Type 0 where
  pub context : Standing
  pub last : Option Entry

-- the state at a run's start: the input stands, and nothing was asked
abbrev pub start : Payload → State
start p = record { context = starting p; last = None }

-- what stands after one more entry
unfoldable pub step : State → Entry → State
step s e = record {
  context = changed (kind_of e) (nanos_of e.question) e.answer s.context;
  last = Some e;
}

-- what stands after these entries
abbrev pub standing : State → List Entry → State
standing s [] = s
standing s (e ∷ l) = standing (step s e) l

-- the question of this kind, with the parts that stand: what orchestrator.rs hands the component that it calls there
abbrev pub asks : Kind → Standing → Question
asks (kinds.Configure stage) s = questions.Configure stage s.context.view.settings
asks (kinds.Hook h) s = questions.Hook h s.context.view
asks kinds.Serialize s = questions.Serialize s.context.view.input s.context.view.settings
asks kinds.Load s = questions.Load s.context.view.request
asks kinds.Initial s = questions.Initial s.context.view.settings
asks (kinds.Start role) s = questions.Start role (nanos_for role s)
asks (kinds.Wait role) s = questions.Wait role
asks kinds.Choose s = questions.Choose s.context.view.settings
asks kinds.Endpoint s = questions.Endpoint s.context.view.settings s.identity
asks kinds.Apply s = questions.Apply s.context.view.settings s.context.view.request s.endpoint
asks kinds.Sign s = questions.Sign s.context.view.settings s.context.view.request s.scheme s.identity s.endpoint
asks kinds.Transmit s = questions.Transmit s.context.view.settings s.context.view.request
asks kinds.Stream s = questions.Stream s.context.view.settings s.context.view.response
asks kinds.Body s = questions.Body s.context.view.settings s.context.view.response
asks kinds.Deserialize s = questions.Deserialize s.context.view.settings s.context.view.response
asks kinds.Decide s =
    questions.Decide s.context.view.settings s.context.view.request s.context.view.response s.context.view.outcome
    s.context.view.attempt
asks (kinds.Abandon x) s = questions.Abandon x
asks kinds.Park s = questions.Park

-- the question of this kind, with the parts that stand in this state
unfoldable pub asked : Kind → State → Question
asked k s = asks k s.context

-- each question is handed what stands before it
abbrev pub WellHanded : State → List Entry → Type 0
WellHanded s [] = Unit {0}
WellHanded s (e ∷ l) = (e.question ≡ asked (kind_of e) s) × WellHanded (step s e) l

-- the kinds that ask along the request's way, and those that hand on what came of it
abbrev pub on_request_way : Kind → Bool
on_request_way kinds.Endpoint = true
on_request_way kinds.Apply = true
on_request_way kinds.Sign = true
on_request_way kinds.Transmit = true
on_request_way _ = false

-- the kinds that ask the strategy, choose a scheme, or read the response
abbrev pub on_settled_way : Kind → Bool
on_settled_way kinds.Initial = true
on_settled_way kinds.Choose = true
on_settled_way kinds.Stream = true
on_settled_way kinds.Body = true
on_settled_way kinds.Deserialize = true
on_settled_way kinds.Decide = true
on_settled_way _ = false
