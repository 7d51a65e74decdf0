-- Lists that break a law, and so are not whole.
use Rattle.std.specs.Prelude.{true, List, [], ◌∷◌, ◌++◌, ◌≡◌}
use Rattle.smithy_types.specs.declared.kinds.StopPoint.{StopPoint}
use Rattle.run_grammar.specs.declared.answer.Entry.{Entry}
use Rattle.run_grammar.specs.Entry.{kind_of, is_wait_of_deadline, ready}
use Rattle.run_grammar.specs.Standing.{State}
use Rattle.run_grammar.specs.Laws.{IsWhole}
use Rattle.run_grammar.specs.Attempts.{asked_of, begins_attempt, is_completion}
use Rattle.run_grammar.specs.Finals.{EachConfigured, is_finalizer}
use Rattle.run_grammar.specs.Scopes.{is_of_attempt}

-- an attempt is begun, and no completion hook follows
abbrev pub NoOpenAttempt : Type 0
NoOpenAttempt =
    (stop : StopPoint) (s : State) (l : List Entry) (e : Entry) (m : List Entry) → begins_attempt (kind_of e) ≡ true →
    asked_of is_completion m ≡ [] →
    IsWhole stop s (l ++ e ∷ m) → ⊥

-- each Configure answered Layer, and no finalizer is asked
abbrev pub NoMissingFinalizers : Type 0
NoMissingFinalizers =
    (stop : StopPoint) (s : State) (l : List Entry) → EachConfigured l → asked_of is_finalizer l ≡ [] →
    IsWhole stop s l → ⊥

-- a deadline is over, and behind the next entry a question of an attempt is asked
abbrev pub NoLateQuestion : Type 0
NoLateQuestion =
    (stop : StopPoint) (s : State) (before : List Entry) (e a late : Entry) (after : List Entry) →
    is_wait_of_deadline (kind_of e) ≡ true → ready e ≡ true →
    is_of_attempt (kind_of late) ≡ true → IsWhole stop s (before ++ e ∷ a ∷ late ∷ after) → ⊥
