-- A further attempt stands behind a decision for it.
use Rattle.std.specs.Prelude.{◌≡◌, ℕ, ◌+◌, ◌-◌, ◌^◌, ◌<◌, ◌≤◌, min, max, Bool, true, ◌||◌, List, ◌∷◌, ◌++◌, length}
use Rattle.std.specs.List.{AllByRecursion}
use Rattle.smithy_types.specs.declared.kinds.StopPoint.{StopPoint}
use Rattle.smithy_types.specs.declared.payload.Payload.{Payload}
use Rattle.run_grammar.specs.Attempts.{asked_of, begins_attempt}
use Rattle.run_grammar.specs.Laws.{IsWhole}
use Rattle.run_grammar.specs.Standing.{start}
use Rattle.run_grammar.specs.Tests.{answers_decided_delay, answers_decided_yes}
use Rattle.run_grammar.specs.declared.answer.Answer.{Answer}
use Rattle.run_grammar.specs.declared.answer.Entry.{Entry}
use Rattle.run_grammar.specs.declared.question.Question.{Question}
use Rattle.run_grammar.specs.declared.question.Question.TheVariants as questions

-- how many attempts were begun
abbrev pub attempts_begun : List Entry → ℕ
attempts_begun l = length (asked_of begins_attempt l)

-- a number of an attempt as a u64 has it
abbrev pub capped : ℕ → ℕ
capped n = min n (2 ^ 64 - 1)

-- the answer is for a further attempt
abbrev pub goes_on : Answer → Bool
goes_on a = answers_decided_yes a || answers_decided_delay a

-- the question asks, of an attempt of this number or a later one, whether another is made
abbrev pub DecidesFrom : ℕ → Question → Type 0
DecidesFrom n (questions.Decide settings request response outcome attempt) = capped n ≤ attempt
DecidesFrom n _ = ⊥

-- such a decision is in the list, and goes on
pub record HasDecision (n : ℕ) (l : List Entry) : Type 0 where
  pub before : List Entry
  pub decision : Entry
  pub after : List Entry
  pub there : l ≡ before ++ decision ∷ after
  pub from : DecidesFrom n decision.question
  pub further : goes_on decision.answer ≡ true

-- a whole run that begins n + 2 attempts decides for a further one, of attempt n + 1 or a later one
abbrev pub FurtherAttemptsAreDecided : Type 0
FurtherAttemptsAreDecided =
    (stop : StopPoint) (p : Payload) (l : List Entry) (n : ℕ) → IsWhole stop (start p) l → attempts_begun l ≡ n + 2
    → HasDecision (n + 1) l

-- a further attempt is decided of an attempt below n alone
abbrev pub GoesOnBelow : ℕ → Question → Answer → Type 0
GoesOnBelow n (questions.Decide settings request response outcome attempt) a = goes_on a ≡ true → attempt < n
GoesOnBelow n _ a = Unit {0}

-- a whole run whose decisions go on below n alone begins at most n attempts, or one where n is 0
abbrev pub AttemptsAreBounded : Type 0
AttemptsAreBounded =
    (stop : StopPoint) (p : Payload) (l : List Entry) (n : ℕ) → IsWhole stop (start p) l → length l < 2 ^ 64
    → AllByRecursion (λ e. GoesOnBelow n e.question e.answer) l → attempts_begun l ≤ max 1 n
