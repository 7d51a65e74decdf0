-- Both finalizers once.
use Rattle.std.specs.Prelude.{Bool, true, false, cond, List, [], ◌∷◌, ◌++◌, ◌≡◌}
use Rattle.smithy_types.specs.declared.hook.Hook.TheVariants as hooks
use Rattle.smithy_types.specs.declared.kinds.StopPoint.{StopPoint}
use Rattle.run_grammar.specs.declared.kind.Kind.{Kind}
use Rattle.run_grammar.specs.declared.kind.Kind.TheVariants as kinds
use Rattle.run_grammar.specs.declared.answer.Answer.{Answer}
use Rattle.run_grammar.specs.declared.answer.Answer.TheVariants as answers
use Rattle.run_grammar.specs.declared.answer.Entry.{Entry}
use Rattle.run_grammar.specs.Entry.{kind_of}
use Rattle.run_grammar.specs.Standing.{State}
use Rattle.run_grammar.specs.Laws.{IsWhole}
use Rattle.run_grammar.specs.Attempts.{asked_of}

-- whether the question is one of the two finalizers
abbrev pub is_finalizer : Kind → Bool
is_finalizer (kinds.Hook hooks.ModifyBeforeCompletion) = true
is_finalizer (kinds.Hook hooks.ReadAfterExecution) = true
is_finalizer _ = false

-- whether the question asks for a configuration
abbrev pub is_configure : Kind → Bool
is_configure (kinds.Configure stage) = true
is_configure _ = false

-- whether the answer is the layer of a configuration
abbrev pub is_layer : Answer → Bool
is_layer (answers.Layer l) = true
is_layer _ = false

-- each Configure is answered Layer
abbrev pub EachConfigured : List Entry → Type 0
EachConfigured [] = Unit {0}
EachConfigured (e ∷ l) = (cond (is_configure (kind_of e)) (is_layer e.answer) true ≡ true) × EachConfigured l

-- the last two entries ask the two finalizers, and no other entry asks one
abbrev pub Finalized : List Entry → Type 0
Finalized l =
    (a : List Entry) × (m : Entry) × (r : Entry) × (l ≡ a ++ m ∷ r ∷ []) × (asked_of is_finalizer a ≡ [])
    × (kind_of m ≡ kinds.Hook hooks.ModifyBeforeCompletion) × (kind_of r ≡ kinds.Hook hooks.ReadAfterExecution)

-- a whole run that was configured ends with the two finalizers, and asks them nowhere else
abbrev pub FinalizersOnce : Type 0
FinalizersOnce = (stop : StopPoint) (s : State) (l : List Entry) → IsWhole stop s l → EachConfigured l → Finalized l
