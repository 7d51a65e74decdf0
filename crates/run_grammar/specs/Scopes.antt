-- Nothing of its scope follows a deadline that is over.
use Rattle.std.specs.Prelude.{Bool, true, false, cond, Option, None, Some, List, [], ◌∷◌, ◌++◌, ◌≡◌}
use Rattle.smithy_types.specs.Hooks.{of_attempt, part_of}
use Rattle.smithy_types.specs.declared.hook.Hook.{Hook}
use Rattle.smithy_types.specs.declared.hook.Hook.TheVariants as hooks
use Rattle.smithy_types.specs.declared.kinds.StopPoint.{StopPoint}
use Rattle.run_grammar.specs.declared.kind.Abandonable.{Abandonable}
use Rattle.run_grammar.specs.declared.kind.Abandonable.TheVariants as abandoned
use Rattle.run_grammar.specs.declared.kind.Role.TheVariants as roles
use Rattle.run_grammar.specs.declared.kind.Kind.{Kind}
use Rattle.run_grammar.specs.declared.kind.Kind.TheVariants as kinds
use Rattle.run_grammar.specs.declared.answer.Entry.{Entry}
use Rattle.run_grammar.specs.Entry.{kind_of, abandon_of, is_wait_of_deadline, pending, ready}
use Rattle.run_grammar.specs.Standing.{State}
use Rattle.run_grammar.specs.Laws.{IsWhole}
use Rattle.run_grammar.specs.Attempts.{asked_of, begins_attempt, up_to_attempt}

-- the hooks of an attempt: from read_before_attempt to read_after_deserialization
abbrev pub hook_of_attempt : Hook → Bool
hook_of_attempt h = of_attempt (part_of h)

-- what a deadline can give up in an attempt
abbrev pub abandoned_of_attempt : Abandonable → Bool
abandoned_of_attempt abandoned.Choose = true
abandoned_of_attempt abandoned.Endpoint = true
abandoned_of_attempt abandoned.Transmit = true
abandoned_of_attempt abandoned.Body = true
abandoned_of_attempt _ = false

-- whether the question is one of an attempt, the Wait of its deadline among them
abbrev pub is_of_attempt : Kind → Bool
is_of_attempt (kinds.Hook h) = hook_of_attempt h
is_of_attempt kinds.Choose = true
is_of_attempt kinds.Endpoint = true
is_of_attempt kinds.Apply = true
is_of_attempt kinds.Sign = true
is_of_attempt kinds.Transmit = true
is_of_attempt kinds.Stream = true
is_of_attempt kinds.Body = true
is_of_attempt kinds.Deserialize = true
is_of_attempt (kinds.Wait roles.Attempt) = true
is_of_attempt (kinds.Abandon x) = abandoned_of_attempt x
is_of_attempt _ = false

-- whether the question completes an attempt
abbrev pub completes_attempt : Kind → Bool
completes_attempt (kinds.Hook hooks.ModifyBeforeAttemptCompletion) = true
completes_attempt _ = false

-- an attempt is open after the entries where one was begun last, and not one completed;
-- was_open says so of those before
abbrev pub still_open : (was_open : Bool) → List Entry → Bool
still_open was_open [] = was_open
still_open was_open (e ∷ l) =
    still_open (cond (begins_attempt (kind_of e)) true (cond (completes_attempt (kind_of e)) false was_open)) l

-- the last entry that is no Wait of a deadline; last is that of those before
abbrev pub last_asked : (last : Option Entry) → List Entry → Option Entry
last_asked last [] = last
last_asked last (e ∷ l) = last_asked (cond (is_wait_of_deadline (kind_of e)) last (Some e)) l

-- a gives up what is pending after the entries
abbrev pub GivesUp : List Entry → Entry → Type 0
GivesUp before a =
    (p : Entry) × (last_asked None before ≡ Some p) × (pending p ≡ true) × (kind_of a ≡ abandon_of (kind_of p))

-- the kinds of the entries' questions
abbrev pub kinds_of : List Entry → List Kind
kinds_of [] = []
kinds_of (e ∷ l) = kind_of e ∷ kinds_of l

-- the two finalizers, in order
abbrev pub the_finalizers : List Kind
the_finalizers = kinds.Hook hooks.ModifyBeforeCompletion ∷ kinds.Hook hooks.ReadAfterExecution ∷ []

-- these questions, behind the two completion hooks where an attempt was open
abbrev pub with_completion : (was_open : Bool) → List Kind → List Kind
with_completion was_open l =
    cond was_open (kinds.Hook hooks.ModifyBeforeAttemptCompletion ∷ kinds.Hook hooks.ReadAfterAttempt ∷ l) l

-- the Abandon, the two completion hooks, and then up to the next attempt no question of an attempt
abbrev pub AttemptOver : List Entry → List Entry → Type 0
AttemptOver before after =
    (a : Entry) × (m : Entry) × (r : Entry) × (rest : List Entry) × (after ≡ a ∷ m ∷ r ∷ rest) × GivesUp before a
    × (kind_of m ≡ kinds.Hook hooks.ModifyBeforeAttemptCompletion) × (kind_of r ≡ kinds.Hook hooks.ReadAfterAttempt)
    × (asked_of is_of_attempt (up_to_attempt rest) ≡ [])

-- the Abandon, the two completion hooks where an attempt is open, the two finalizers, and nothing more
abbrev pub OperationOver : List Entry → List Entry → Type 0
OperationOver before after =
    (a : Entry) × (rest : List Entry) × (after ≡ a ∷ rest) × GivesUp before a
    × (kinds_of rest ≡ with_completion (still_open false before) the_finalizers)

-- e is the Wait of the attempt's deadline, answered Ready, between these entries of a whole list
abbrev pub AttemptScopesEnd : Type 0
AttemptScopesEnd =
    (stop : StopPoint) (s : State) (before : List Entry) (e : Entry) (after : List Entry) →
    IsWhole stop s (before ++ e ∷ after) →
    kind_of e ≡ kinds.Wait roles.Attempt → ready e ≡ true → AttemptOver before after

-- the same of the operation's deadline
abbrev pub OperationScopesEnd : Type 0
OperationScopesEnd =
    (stop : StopPoint) (s : State) (before : List Entry) (e : Entry) (after : List Entry) →
    IsWhole stop s (before ++ e ∷ after) →
    kind_of e ≡ kinds.Wait roles.Operation → ready e ≡ true → OperationOver before after
