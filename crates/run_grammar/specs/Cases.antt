-- A run in four cases (orchestrator.rs, `invoke_with_stop_point`).
use Rattle.std.specs.Prelude.{Bool, true, false, List, [], ◌∷◌, ◌++◌, ◌≡◌, ◌⊎◌, cond}
use Rattle.run_grammar.specs.declared.kind.Role.{Role}
use Rattle.run_grammar.specs.declared.kind.Role.TheVariants.{Operation}
use Rattle.run_grammar.specs.declared.answer.Entry.{Entry}
use Rattle.smithy_types.specs.declared.kinds.StopPoint.{StopPoint}
use Rattle.run_grammar.specs.Standing.{State, standing}
use Rattle.run_grammar.specs.Production.{Production, Nothing, ◌⨟◌, Ended, CutBy}
use Rattle.run_grammar.specs.Words.{Word}
use Rattle.run_grammar.specs.Grammar.{arm, configured, finish, op, settle}
use Rattle.run_grammar.specs.Tests.{failed, failure_stands, started}

-- L is a word of p, and then, from what that leaves, such a list
abbrev pub AndThen : Production → State → List Entry → (State → List Entry → Type 0) → Type 0
AndThen p s l rest = (a : List Entry) × (b : List Entry) × (l ≡ a ++ b) × Word p [] Ended s a × rest (standing s a) b

-- the deadlines that are armed after Arm(Operation)
abbrev pub armed_after : State → List Role
armed_after s = cond (started Operation s) (Operation ∷ []) []

-- Config, with each Configure answered Layer, and then such a list
abbrev pub Configured : State → List Entry → (State → List Entry → Type 0) → Type 0
Configured s l rest = AndThen (configured Nothing) s l (λ t m. (failed t ≡ false) × rest t m)

-- a word of Op that ended by itself, and then Finish
abbrev pub OpThenFinish : StopPoint → State → List Entry → Type 0
OpThenFinish stop t m =
    (c : List Entry) × (d : List Entry) × (m ≡ c ++ d) × Word (op stop) (armed_after t) Ended t c
    × Word finish [] Ended (standing t c) d

-- a cut word of Op by the operation's deadline, which is armed,
-- then Settle where the cut lies in an Attempt, then Finish
abbrev pub CutOpThenFinish : StopPoint → State → List Entry → Type 0
CutOpThenFinish stop t m =
    (started Operation t ≡ true) × (inside : Bool) × (c : List Entry) × (d : List Entry) × (m ≡ c ++ d)
    × Word (op stop) (Operation ∷ []) (CutBy Operation inside) t c
    × AndThen (cond inside settle Nothing) (standing t c) d (λ u n. Word finish [] Ended u n)

-- the entries are a run in one of its four cases
abbrev pub RunCases : StopPoint → State → List Entry → Type 0
RunCases stop s l =
    -- 1. Config up to a Configure that is answered Failed or Absent, and nothing more
    (Word (configured Nothing) [] Ended s l × (failed (standing s l) ≡ true))
    -- 2. Config, Arm(Operation), Finish, where a failure stands after Config
    ⊎ (Configured s l (λ t m. (failure_stands t ≡ true) × Word (arm Operation ⨟ finish) [] Ended t m)
    -- 3. and 4. Config, Arm(Operation), and Op or a cut word of it, Finish, where none stands
    ⊎ Configured s l
    (λ t m. (failure_stands t ≡ false)
    × AndThen (arm Operation) t m (λ u n. OpThenFinish stop u n ⊎ CutOpThenFinish stop u n)))
