-- A call whose answer and whose state after it follow from the state before it.
use Rattle.std.specs.Prelude.{◌≡◌}
use Rattle.outside.specs.Calls.{OutsideCall}
use Rattle.outside_scripted.specs.declared.scripted_outside.ScriptedOutside.{ScriptedOutside}
use Rattle.outside_scripted.specs.Makes.{Makes}

-- two such calls from one state have one answer, and leave one state
abbrev pub IsDetermined : {A : Type 0} → (A → OutsideCall) → Type 0
IsDetermined {A} call =
    (old new other : ScriptedOutside) (answer answered : A) →
    Makes old (call answer) new → Makes old (call answered) other →
    (answer ≡ answered) × (new ≡ other)
