-- At the end of a whole run a request or an outcome stands.
use Rattle.run_grammar.specs.declared.production.Test.TheVariants as tests
use Rattle.std.proofs.Common.{true, false, List, [], ◌∷◌, ◌≡◌, refl, sym, subst, inr}
use Rattle.smithy_types.specs.declared.hook.Hook.TheVariants as hooks
use Rattle.smithy_types.specs.declared.kinds.StopPoint.{StopPoint}
use Rattle.run_grammar.specs.declared.kind.Role.TheVariants as roles
use Rattle.run_grammar.specs.declared.kind.Kind.TheVariants as kinds
use Rattle.run_grammar.specs.declared.answer.Entry.{Entry}
use Rattle.run_grammar.specs.Entry.{kind_of, pending}
use Rattle.run_grammar.specs.Question.{nanos_of}
use Rattle.run_grammar.specs.Fits.{fits}
use Rattle.run_grammar.specs.Change.{changed}
use Rattle.run_grammar.specs.Standing.{State, standing, start, step}
use Rattle.run_grammar.specs.Production.{Production, Nothing, Work, ◌⨟◌, Where}
use Rattle.run_grammar.specs.Grammar.{hook, halted, arm, settle, loop, front, grant, op, finish, run}
use Rattle.run_grammar.specs.Outcomes.{RequestOrOutcomeStands}
use Rattle.run_grammar.proofs.Requests.{HasEither, serialized, either_stands}
use Rattle.run_grammar.proofs.OutcomeWords.{Sound, Carries, Leaves, Covers, leaves_work, leaves_then, leaves_after, leaves_halt}
use Rattle.run_grammar.proofs.RunLeaves.{begins_sound, behind_whole, early_sound, leaves_run}

abbrev EitherStood : State → Type 0
EitherStood s = HasEither s.context

outcome_covers : Covers EitherStood
outcome_covers s h = inr h

-- ---- along any list

step_stands : (s : State) (e : Entry) → EitherStood s → EitherStood (step s e)
unfolding step
step_stands s e h = either_stands (kind_of e) (nanos_of e.question) e.answer s.context h

stands_on : (l : List Entry) (s : State) → EitherStood s → EitherStood (standing s l)
stands_on [] s h = h
stands_on (e ∷ l) s h = stands_on l (step s e) (step_stands s e h)

carries : (p : Production) → Carries EitherStood p
carries p ds s l f w h = stands_on l s h

-- ---- the productions

after_serialization : (s : State) (e : Entry) → kind_of e ≡ kinds.Serialize → pending e ≡ false → fits (kind_of e) e.answer ≡ true → EitherStood (step s e)
unfolding step
after_serialization s e k p f =
    subst (λ j. HasEither (changed j (nanos_of e.question) e.answer s.context)) (sym k)
    (serialized (nanos_of e.question) e.answer s.context (subst (λ j. fits j e.answer ≡ true) k f))

-- the front from its serialization on, and from the hook before
abbrev loading : Production
loading = halted (Where tests.LoadBody (Work kinds.Load) Nothing ∷ hook hooks.ReadAfterSerialization ∷ hook hooks.ModifyBeforeRetryLoop ∷ [])

abbrev serializing : Production
serializing = Work kinds.Serialize ⨟ Where tests.Failed Nothing loading

abbrev reading : Production
reading = hook hooks.ReadBeforeSerialization ⨟ Where tests.Failed Nothing serializing

leaves_serializing : Leaves EitherStood serializing
leaves_serializing = leaves_then EitherStood (Work kinds.Serialize) (Where tests.Failed Nothing loading) (leaves_work EitherStood kinds.Serialize after_serialization) (carries (Where tests.Failed Nothing loading))

leaves_reading : Leaves EitherStood reading
leaves_reading = leaves_after EitherStood (hook hooks.ReadBeforeSerialization) (Where tests.Failed Nothing serializing) (leaves_halt EitherStood serializing outcome_covers leaves_serializing)

leaves_front : Leaves EitherStood front
leaves_front = leaves_after EitherStood (hook hooks.ModifyBeforeSerialization) (Where tests.Failed Nothing reading) (leaves_halt EitherStood reading outcome_covers leaves_reading)

leaves_op : (stop : StopPoint) → Leaves EitherStood (op stop)
leaves_op stop =
    let behind = Where tests.Failed Nothing (grant ⨟ Where tests.Went (loop stop) Nothing) in
    leaves_then EitherStood front behind leaves_front (carries behind)

-- ---- the run

leaves_either : (stop : StopPoint) → Leaves EitherStood (run stop)
leaves_either stop = leaves_run Sound EitherStood stop early_sound outcome_covers (carries (arm roles.Operation)) (carries settle) (carries finish) (leaves_op stop)

pub request_or_outcome_stands : RequestOrOutcomeStands
request_or_outcome_stands stop p l w = behind_whole Sound EitherStood stop (λ q. begins_sound (start q) refl) (leaves_either stop) p l w
