-- How many frames are left around a question.
use Rattle.std.specs.Prelude.{ℕ, zero, suc, ◌≤◌, length, List, ◌≡◌}
use Rattle.run_grammar.specs.declared.answer.Entry.{Entry}
use Rattle.run_grammar.specs.Standing.{State}
use Rattle.run_grammar.specs.Production.{Production, Nothing, Work, ◌⨟◌, Where, Rounds, Again, InAttempt, Under}
use Rattle.run_grammar.specs.Machine.{Position, Whole, Dead, Asking, Waiting, Cutting, begin, after}
use Rattle.runcheck.specs.declared.reading.walk.Frame.{Frame}
use Rattle.runcheck.specs.Reading.Frames.{plug}

-- at most n frames are ever left around a question of it
abbrev pub IsWithin : ℕ → Production → Type 0
IsWithin n Nothing = Unit {0}
IsWithin n Again = Unit {0}
IsWithin n (Work k) = Unit {0}
IsWithin zero (p ⨟ q) = ⊥
IsWithin (suc n) (p ⨟ q) = IsWithin n p × IsWithin (suc n) q
IsWithin n (Where t p q) = IsWithin n p × IsWithin n q
IsWithin zero (Rounds p q) = ⊥
IsWithin (suc n) (Rounds p q) = IsWithin n p × IsWithin n q
IsWithin zero (InAttempt p) = ⊥
IsWithin (suc n) (InAttempt p) = IsWithin n p
IsWithin zero (Under d p q) = ⊥
IsWithin (suc n) (Under d p q) = IsWithin n p × IsWithin (suc n) q

-- the frames of a position are at most so many
abbrev pub HasFew : ℕ → Position → Type 0
HasFew n Whole = Unit {0}
HasFew n Dead = Unit {0}
HasFew n (Asking k es r) = (fs : List Frame) → r ≡ plug fs Nothing → length fs ≤ n
HasFew n (Waiting k es ds r) = (fs : List Frame) → r ≡ plug fs Nothing → length fs ≤ n
HasFew n (Cutting k d r) = (fs : List Frame) → r ≡ plug fs Nothing → length fs ≤ n

-- wherever a run of such a production stands, at most so many frames are left
abbrev pub FewFrames : Type 0
FewFrames = (n : ℕ) (p : Production) → IsWithin n p → (s : State) (l : List Entry) → HasFew n (after (begin p s) s l)
