-- What every word of the operation leaves, every whole run leaves.
use Rattle.run_grammar.specs.declared.production.Test.TheVariants as tests
use Rattle.std.proofs.Common.{true, Option, None, Some, is_some, List, [], ◌≡◌, refl, arith}
use Rattle.smithy_types.specs.declared.fault.Outcome.{Outcome}
use Rattle.smithy_types.specs.declared.fault.Outcome.TheVariants as outcomes
use Rattle.smithy_types.specs.declared.hook.Hook.TheVariants as hooks
use Rattle.smithy_types.specs.declared.kinds.StopPoint.{StopPoint}
use Rattle.smithy_types.specs.declared.payload.Payload.{Payload}
use Rattle.smithy_context.specs.Failures.{is_failure}
use Rattle.run_grammar.specs.declared.kind.ConfigureStage.TheVariants as stages
use Rattle.run_grammar.specs.declared.kind.Role.{Role}
use Rattle.run_grammar.specs.declared.kind.Role.TheVariants as roles
use Rattle.run_grammar.specs.declared.kind.Kind.TheVariants as kinds
use Rattle.run_grammar.specs.declared.answer.Entry.{Entry}
use Rattle.run_grammar.specs.Standing.{State, standing, start}
use Rattle.run_grammar.specs.Production.{Production, Nothing, Work, ◌⨟◌, Where, Under}
use Rattle.run_grammar.specs.Grammar.{hook, arm, armed, settle, op, finish, configured, run}
use Rattle.run_grammar.specs.Tests.{failed, failure_stands}
use Rattle.run_grammar.specs.Laws.{IsWhole}
use Rattle.run_grammar.proofs.Outcomes.{is_deadline}
use Rattle.run_grammar.proofs.OutcomeWords.{Stood, Sound, Carries, LeavesFrom, Covers, carries_then, carries_sound, from_then, from_after, from_where, from_unless, from_halt, from_under}
use Rattle.run_grammar.proofs.Beginnings.{early}

pub from_armed : (S P : State → Type 0) (d : Role) (p q : Production) → Covers P → is_deadline d ≡ true → Carries S (arm d) → LeavesFrom S P p → Carries P q → LeavesFrom S P (armed d p q)
from_armed S P d p q c h k f g =
    from_after S P (arm d) (Where (tests.HasStarted d) (Under d p q) p) k (from_where S P (tests.HasStarted d) (Under d p q) p (from_under S P d p q c h f g) f)

failure_is_some : (o : Option Outcome) → is_failure o ≡ true → is_some o ≡ true
failure_is_some None h = absurd (cc)
failure_is_some (Some (outcomes.Failed f)) h = refl
failure_is_some (Some (outcomes.Output p)) h = absurd (cc)

failure_stood : (s : State) → failure_stands s ≡ true → Stood s
unfolding failure_stands
failure_stood s h = failure_is_some s.context.context.view.outcome h

-- each production whose questions all come before an attempt carries S, and S is sound
pub record Early (S : State → Type 0) : Type 0 where
  pub carried : (p : Production) → early p ≡ true → Carries S p
  pub sound : (s : State) → S s → Sound s

leaves_configured : (S P : State → Type 0) (p : Production) → Early S → Covers P → LeavesFrom S P p → LeavesFrom S P (configured p)
leaves_configured S P p r c g =
    let third = hook hooks.ReadBeforeExecutionOperation ⨟ Work (kinds.Configure stages.Final) ⨟ Where tests.Failed Nothing p in
    let second = hook hooks.ReadBeforeExecutionClient ⨟ Work (kinds.Configure stages.Operation) ⨟ Where tests.Failed Nothing third in
    from_after S P (Work (kinds.Configure stages.Client)) (Where tests.Failed Nothing second) (r.carried (Work (kinds.Configure stages.Client)) refl) (from_halt S P second c r.sound
    (from_after S P (hook hooks.ReadBeforeExecutionClient) (Work (kinds.Configure stages.Operation) ⨟ Where tests.Failed Nothing third) (r.carried (hook hooks.ReadBeforeExecutionClient) refl)
    (from_after S P (Work (kinds.Configure stages.Operation)) (Where tests.Failed Nothing third) (r.carried (Work (kinds.Configure stages.Operation)) refl) (from_halt S P third c r.sound
    (from_after S P (hook hooks.ReadBeforeExecutionOperation) (Work (kinds.Configure stages.Final) ⨟ Where tests.Failed Nothing p) (r.carried (hook hooks.ReadBeforeExecutionOperation) refl)
    (from_after S P (Work (kinds.Configure stages.Final)) (Where tests.Failed Nothing p) (r.carried (Work (kinds.Configure stages.Final)) refl) (from_halt S P p c r.sound g)))))))

pub leaves_run : (S P : State → Type 0) (stop : StopPoint) → Early S → Covers P → Carries P (arm roles.Operation) → Carries P settle → Carries P finish → LeavesFrom S P (op stop) → LeavesFrom S P (run stop)
unfolding run
leaves_run S P stop r c a s f g =
    let worked = armed roles.Operation (op stop) settle in
    leaves_configured S P (Where tests.FailureStands (arm roles.Operation ⨟ finish) (worked ⨟ finish)) r c
    (from_unless S P tests.FailureStands (arm roles.Operation ⨟ finish) (worked ⨟ finish) (λ t h e. c t (failure_stood t e)) (carries_then P (arm roles.Operation) finish a f)
    (from_then S P worked finish (from_armed S P roles.Operation (op stop) settle c refl (r.carried (arm roles.Operation) refl) g s) f))

pub begins_sound : (s : State) → s.last ≡ None → Sound s
unfolding failed
begins_sound s e h = grind (arith, e, h)

pub behind_whole : (S P : State → Type 0) (stop : StopPoint) → ((p : Payload) → S (start p)) → LeavesFrom S P (run stop) → (p : Payload) (l : List Entry) → IsWhole stop (start p) l → P (standing (start p) l)
behind_whole S P stop b g p l w = g [] (start p) l w.fitting w.run (b p)

pub early_sound : Early Sound
early_sound = record { carried = λ p h. carries_sound p; sound = λ s h. h }
