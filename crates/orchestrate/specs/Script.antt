-- How a list of answers answers questions.
use Rattle.std.specs.Prelude.{Bool, true, false, ◌≡◌, Option, None, Some, List, [], ◌∷◌}
use Rattle.smithy_context.specs.declared.intercept.HookAnswer.{HookAnswer}
use Rattle.run_grammar.specs.declared.kind.Kind.{Kind}
use Rattle.run_grammar.specs.declared.kind.Kind.TheVariants as kinds
use Rattle.run_grammar.specs.declared.answer.Answer.{Answer}
use Rattle.run_grammar.specs.declared.answer.Answer.TheVariants as answers
use Rattle.run_grammar.specs.declared.answer.Entry.{Entry}
use Rattle.run_grammar.specs.Entry.{kind_of}
use Rattle.run_grammar.specs.Fits.{fits}
use Rattle.orchestrate.specs.declared.script.ScriptAnswer.{ScriptAnswer}

-- the answer of a hook that does nothing
abbrev pub done : HookAnswer
done = record { change = None; settings = []; failure = None }

-- what is answered where the list has no answer for the question
abbrev pub default_for : Kind → Answer
default_for (kinds.Hook h) = answers.Hooked done
default_for (kinds.Wait role) = answers.Ready
default_for (kinds.Abandon x) = answers.Abandoned
default_for kinds.Park = answers.Parked
default_for _ = answers.Absent

-- the list's next answer
abbrev pub next_of : List ScriptAnswer → Option ScriptAnswer
next_of [] = None
next_of (x ∷ xs) = Some x

-- the answer is for a question of this kind, and fits it
abbrev pub IsFor : Kind → ScriptAnswer → Type 0
IsFor k x = (x.kind ≡ k) × (fits k x.answer ≡ true)

-- no answer, or one for another question, or one that doesn't fit
abbrev pub IsPassed : Kind → Option ScriptAnswer → Type 0
IsPassed k None = Unit {0}
IsPassed k (Some x) = IsFor k x → ⊥

-- the answer to a question of this kind, where this answer is the list's next one, and whether it is taken
abbrev pub RepliesBy : Option ScriptAnswer → Kind → Answer → Bool → Type 0
RepliesBy next k a true = (x : ScriptAnswer) × (next ≡ Some x) × IsFor k x × (a ≡ x.answer)
RepliesBy next k a false = IsPassed k next × (a ≡ default_for k)

-- the answer of the list to a question of this kind, and whether it is the list's next one
abbrev pub Replies : List ScriptAnswer → Kind → Answer → Bool → Type 0
Replies xs k a taken = RepliesBy (next_of xs) k a taken

-- the answers that are left, where the next one was taken or wasn't
abbrev pub left_by : Bool → List ScriptAnswer → List ScriptAnswer
left_by true (x ∷ xs) = xs
left_by _ xs = xs

-- each answer of the list of entries is what the answers give to its question,
-- those that earlier questions took being gone
abbrev pub Spelled : List ScriptAnswer → List Entry → List ScriptAnswer → Type 0
Spelled xs [] ys = ys ≡ xs
Spelled xs (e ∷ l) ys = (taken : Bool) × Replies xs (kind_of e) e.answer taken × Spelled (left_by taken xs) l ys
