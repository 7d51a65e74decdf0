-- A question's kind, and how long a sleep it asks for.
use Rattle.std.specs.Prelude.{ℕ, Option, None}
use Rattle.run_grammar.specs.declared.kind.Kind.{Kind}
use Rattle.run_grammar.specs.declared.kind.Kind.TheVariants as kinds
use Rattle.run_grammar.specs.declared.question.Question.{Question}
use Rattle.run_grammar.specs.declared.question.Question.TheVariants as questions

-- the kind of a question, without what it hands on
abbrev pub kind_of_question : Question → Kind
kind_of_question (questions.Configure stage settings) = kinds.Configure stage
kind_of_question (questions.Hook hook view) = kinds.Hook hook
kind_of_question (questions.Serialize input settings) = kinds.Serialize
kind_of_question (questions.Load request) = kinds.Load
kind_of_question (questions.Initial settings) = kinds.Initial
kind_of_question (questions.Start role nanos) = kinds.Start role
kind_of_question (questions.Wait role) = kinds.Wait role
kind_of_question (questions.Choose settings) = kinds.Choose
kind_of_question (questions.Endpoint settings identity) = kinds.Endpoint
kind_of_question (questions.Apply settings request endpoint) = kinds.Apply
kind_of_question (questions.Sign settings request scheme identity endpoint) = kinds.Sign
kind_of_question (questions.Transmit settings request) = kinds.Transmit
kind_of_question (questions.Stream settings response) = kinds.Stream
kind_of_question (questions.Body settings response) = kinds.Body
kind_of_question (questions.Deserialize settings response) = kinds.Deserialize
kind_of_question (questions.Decide settings request response outcome attempt) = kinds.Decide
kind_of_question (questions.Abandon abandoned) = kinds.Abandon abandoned
kind_of_question questions.Park = kinds.Park

-- how long a sleep is asked for, where one is
abbrev pub nanos_of : Question → Option ℕ
nanos_of (questions.Start role nanos) = nanos
nanos_of _ = None
