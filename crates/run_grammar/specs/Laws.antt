-- What a run is, and the laws of runs.
use Rattle.std.specs.Prelude.{true, List, [], ◌∷◌, ◌++◌, ◌≡◌, ◌⊎◌, ◌↔◌}
use Rattle.run_grammar.specs.declared.answer.Answer.{Answer}
use Rattle.run_grammar.specs.declared.question.Question.{Question}
use Rattle.run_grammar.specs.declared.answer.Entry.{Entry}
use Rattle.smithy_types.specs.declared.kinds.StopPoint.{StopPoint}
use Rattle.run_grammar.specs.Entry.{kind_of, entry}
use Rattle.run_grammar.specs.Fits.{fits}
use Rattle.run_grammar.specs.Standing.{State, WellHanded}
use Rattle.run_grammar.specs.Question.{kind_of_question}
use Rattle.run_grammar.specs.Grammar.{run}
use Rattle.run_grammar.specs.Production.{Ended}
use Rattle.run_grammar.specs.Words.{Word}
use Rattle.run_grammar.specs.Machine.{begin, Path}

-- the entries are a word of the grammar of a run
abbrev pub IsRun : StopPoint → State → List Entry → Type 0
IsRun stop s l = Word (run stop) [] Ended s l

-- each answer fits its question
abbrev pub EachFits : List Entry → Type 0
EachFits [] = Unit {0}
EachFits (e ∷ l) = (fits (kind_of e) e.answer ≡ true) × EachFits l

-- whole(p, stop, L), with s what stands at the start
pub record IsWhole (stop : StopPoint) (s : State) (l : List Entry) : Type 0 where
  pub run : IsRun stop s l
  pub handed : WellHanded s l
  pub fitting : EachFits l

-- the entries begin a whole run
abbrev pub Begins : StopPoint → State → List Entry → Type 0
Begins stop s l = (m : List Entry) × IsWhole stop s (l ++ m)

-- no whole run is a proper beginning of another one
abbrev pub NoPrefix : Type 0
NoPrefix = (stop : StopPoint) (s : State) (l m : List Entry) → IsWhole stop s l → IsWhole stop s (l ++ m) → m ≡ []

-- after entries that begin a run one question comes next, and no other
abbrev pub OneQuestion : Type 0
OneQuestion =
    (stop : StopPoint) (s : State) (l : List Entry) (e f : Entry) → Begins stop s (l ++ e ∷ []) →
    Begins stop s (l ++ f ∷ []) → e.question ≡ f.question

-- what begins a run is whole, or has a next question each of whose fitting answers leads on
abbrev pub GoesOn : Type 0
GoesOn = (stop : StopPoint) (s : State) (l : List Entry) → Begins stop s l → IsWhole stop s l
    ⊎ ((q : Question) × ((a : Answer) → fits (kind_of_question q) a ≡ true → Begins stop s (l ++ entry q a ∷ [])))

-- each question has a fitting answer
abbrev pub SomeAnswerFits : Type 0
SomeAnswerFits = (q : Question) → (a : Answer) × (fits (kind_of_question q) a ≡ true)

-- each entry is taken by the machine, handed what stands, and fitting
abbrev pub IsTaken : StopPoint → State → List Entry → Type 0
IsTaken stop s l = Path (begin (run stop) s) s l × WellHanded s l × EachFits l

-- the lists that begin a run are those that the machine takes
abbrev pub BegunAreTaken : Type 0
BegunAreTaken = (stop : StopPoint) (s : State) (l : List Entry) → Begins stop s l ↔ IsTaken stop s l
