-- Under Retry Behavior 2.1 each attempt stands behind the answer to a grant of its own.
use Rattle.std.specs.Prelude.{Bool, true, false, cond, Option, None, Some, List, [], ◌∷◌, ◌++◌, ◌≡◌}
use Rattle.smithy_types.specs.declared.kinds.StopPoint.{StopPoint}
use Rattle.smithy_types.specs.declared.payload.Payload.{Payload}
use Rattle.run_grammar.specs.declared.kind.Role.TheVariants as roles
use Rattle.run_grammar.specs.declared.kind.Kind.{Kind}
use Rattle.run_grammar.specs.declared.kind.Kind.TheVariants as kinds
use Rattle.run_grammar.specs.declared.answer.Entry.{Entry}
use Rattle.run_grammar.specs.Entry.{kind_of}
use Rattle.run_grammar.specs.Standing.{standing, start}
use Rattle.run_grammar.specs.Tests.{answers_go_or_no, token_needed}
use Rattle.run_grammar.specs.Laws.{IsWhole}
use Rattle.run_grammar.specs.Attempts.{begins_attempt}

-- the Start of an attempt's deadline
abbrev pub arms_attempt : Kind → Bool
arms_attempt (kinds.Start roles.Attempt) = true
arms_attempt _ = false

-- the last entry that starts no attempt's deadline; last is that of those before
abbrev pub last_but_arming : (last : Option Entry) → List Entry → Option Entry
last_but_arming last [] = last
last_but_arming last (e ∷ l) = last_but_arming (cond (arms_attempt (kind_of e)) last (Some e)) l

-- next before the attempt, but for the Start of its deadline, comes an Initial that is answered Go or No
abbrev pub HasToken : List Entry → Type 0
HasToken before =
    (i : Entry) × (last_but_arming None before ≡ Some i) × (kind_of i ≡ kinds.Initial)
    × (answers_go_or_no i.answer ≡ true)

-- e begins an attempt of a whole list, where the standing Retry has a spec of version 2.1
abbrev pub TokensStand : Type 0
TokensStand =
    (stop : StopPoint) (p : Payload) (before : List Entry) (e : Entry) (after : List Entry) →
    IsWhole stop (start p) (before ++ e ∷ after) →
    begins_attempt (kind_of e) ≡ true → token_needed (standing (start p) before) ≡ true → HasToken before
