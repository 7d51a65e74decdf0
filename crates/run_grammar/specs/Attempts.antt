-- Each attempt has its two completion hooks once.
use Rattle.std.specs.Prelude.{Bool, true, false, cond, List, [], ◌∷◌, ◌≡◌}
use Rattle.smithy_types.specs.declared.hook.Hook.TheVariants as hooks
use Rattle.smithy_types.specs.declared.kinds.StopPoint.{StopPoint}
use Rattle.run_grammar.specs.declared.kind.Kind.{Kind}
use Rattle.run_grammar.specs.declared.kind.Kind.TheVariants as kinds
use Rattle.run_grammar.specs.declared.answer.Entry.{Entry}
use Rattle.run_grammar.specs.Entry.{kind_of}
use Rattle.run_grammar.specs.Standing.{State}
use Rattle.run_grammar.specs.Laws.{IsWhole}

-- whether the question begins an attempt
abbrev pub begins_attempt : Kind → Bool
begins_attempt (kinds.Hook hooks.ReadBeforeAttempt) = true
begins_attempt _ = false

-- whether the question is one of the two completion hooks
abbrev pub is_completion : Kind → Bool
is_completion (kinds.Hook hooks.ModifyBeforeAttemptCompletion) = true
is_completion (kinds.Hook hooks.ReadAfterAttempt) = true
is_completion _ = false

-- the kinds among those of the entries that pass the test, in order
abbrev pub asked_of : (Kind → Bool) → List Entry → List Kind
asked_of test [] = []
asked_of test (e ∷ l) = cond (test (kind_of e)) (kind_of e ∷ asked_of test l) (asked_of test l)

-- the entries before the first attempt
abbrev pub up_to_attempt : List Entry → List Entry
up_to_attempt [] = []
up_to_attempt (e ∷ l) = cond (begins_attempt (kind_of e)) [] (e ∷ up_to_attempt l)

-- the entries of each attempt: from its read_before_attempt up to the next one
abbrev pub attempts : List Entry → List (List Entry)
attempts [] = []
attempts (e ∷ l) = cond (begins_attempt (kind_of e)) ((e ∷ up_to_attempt l) ∷ attempts l) (attempts l)

-- of the two completion hooks, these entries ask each once, in order
abbrev pub Completed : List Entry → Type 0
Completed l =
    asked_of is_completion l ≡ kinds.Hook hooks.ModifyBeforeAttemptCompletion ∷ kinds.Hook hooks.ReadAfterAttempt ∷ []

-- each of these attempts asks its completion hooks so
abbrev pub EachCompleted : List (List Entry) → Type 0
EachCompleted [] = Unit {0}
EachCompleted (a ∷ l) = Completed a × EachCompleted l

-- before the first attempt no completion hook is asked, and in each attempt the two are asked once
abbrev pub AttemptsComplete : Type 0
AttemptsComplete = (stop : StopPoint) (s : State) (l : List Entry) → IsWhole stop s l →
    (asked_of is_completion (up_to_attempt l) ≡ []) × EachCompleted (attempts l)
