-- A sleep that was started is over only where the outside said so.
use Rattle.std.specs.Prelude.{◌≡◌, ℕ, Bool, true, false, not, List, [], ◌∷◌, ◌++◌, Option, Some}
use Rattle.std.specs.List.{AllByRecursion}
use Rattle.client_call.specs.Sleeping.{sleep_of}
use Rattle.client_components.specs.Meaning.{ClientMeaning}
use Rattle.client_components.specs.Serving.{Served}
use Rattle.client_components.specs.declared.parts.Parts.{Parts}
use Rattle.outside.specs.Calls.{OfTimers}
use Rattle.run_grammar.specs.Entry.{entry, same_role}
use Rattle.run_grammar.specs.declared.answer.Answer.TheVariants as answers
use Rattle.run_grammar.specs.declared.answer.Entry.{Entry}
use Rattle.run_grammar.specs.declared.kind.Abandonable.{Abandonable}
use Rattle.run_grammar.specs.declared.kind.Abandonable.TheVariants as abandoned
use Rattle.run_grammar.specs.declared.kind.ConfigureStage.TheVariants as stages
use Rattle.run_grammar.specs.declared.kind.Role.{Role}
use Rattle.run_grammar.specs.declared.kind.Role.TheVariants.{Attempt, Send, Retry, LongPoll}
use Rattle.run_grammar.specs.declared.question.Question.{Question}
use Rattle.run_grammar.specs.declared.question.Question.TheVariants as questions
use Rattle.smithy_types.specs.declared.hook.Hook.{Hook}
use Rattle.smithy_types.specs.declared.hook.Hook.TheVariants as hooks
use Rattle.smithy_types.specs.declared.timers.TimersCall.TheVariants.{Ready}

-- ---- the questions that leave a role's sleep alone

-- before an attempt's completion its deadline ends, and before that of the operation every sleep does
abbrev pub hook_leaves : Role → Hook → Bool
hook_leaves role hooks.ModifyBeforeAttemptCompletion = not (same_role role Attempt)
hook_leaves role hooks.ModifyBeforeCompletion = false
hook_leaves role _ = true

-- a delay that is given up ends
abbrev pub abandoned_leaves : Role → Abandonable → Bool
abandoned_leaves role abandoned.WaitSend = not (same_role role Send)
abandoned_leaves role abandoned.WaitRetry = not (same_role role Retry)
abandoned_leaves role abandoned.WaitLongPoll = not (same_role role LongPoll)
abandoned_leaves role _ = true

-- the question leaves this role's sleep alone
abbrev pub leaves_sleep : Role → Question → Bool
leaves_sleep role (questions.Configure stages.Client settings) = false
leaves_sleep role (questions.Hook hook view) = hook_leaves role hook
leaves_sleep role (questions.Start other nanos) = not (same_role role other)
leaves_sleep role (questions.Abandon given_up) = abandoned_leaves role given_up
leaves_sleep role _ = true

module _ {T X Q C I A R Z D P L : Type 0} (means : ClientMeaning T X Q C I A R Z D P L) where
  -- behind these entries the role's sleep is open, and the outside said of it in one call that it is over
  pub record SaidOver (old : Parts T X Q C I A R Z D P L) (role : Role) (before : List Entry)
      (new : Parts T X Q C I A R Z D P L) : Type 0 where
    pub parts : Parts T X Q C I A R Z D P L
    pub served : Served means old before parts
    pub sleep : ℕ
    pub running : sleep_of role parts.sleeps ≡ Some sleep
    pub said : means.makes parts.outside (OfTimers (Ready sleep true)) new.outside

  -- Over an outside with sleeps: where a sleep was started and left alone since, a Wait for it is Ready only where the
  -- outside said so.
  abbrev pub WaitsAreOverAsTold : Type 0
  WaitsAreOverAsTold =
      (old new : Parts T X Q C I A R Z D P L) (role : Role) (nanos : Option ℕ) (l : List Entry)
      → means.sleeps old.outside ≡ true
      → Served means old
      (entry (questions.Start role nanos) answers.Started ∷ (l ++ entry (questions.Wait role) answers.Ready ∷ []))
      new
      → AllByRecursion (λ e. leaves_sleep role e.question ≡ true) l
      → SaidOver old role (entry (questions.Start role nanos) answers.Started ∷ l) new
