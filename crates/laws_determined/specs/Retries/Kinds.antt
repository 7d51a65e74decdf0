-- Hook, Initial and Decide are determined.
use Rattle.std.specs.Prelude.{◌≡◌, ℕ, Bool, List, ◌++◌}
use Rattle.outside.specs.Calls.{OutsideCall}
use Rattle.client_retries.specs.Deciding.{IsDecided}
use Rattle.client_retries.specs.Hooking.{Hooks}
use Rattle.client_retries.specs.Initially.{Begun}
use Rattle.client_retries.specs.Meanings.{InterceptorMeans}
use Rattle.retry_quota.specs.Calls.{Limiters}
use Rattle.run_grammar.specs.declared.answer.Answer.{Answer}
use Rattle.smithy_context.specs.StandingLayers.{StandingLayers}
use Rattle.smithy_context.specs.declared.context.InterceptorContext.{InterceptorContext}
use Rattle.smithy_context.specs.declared.intercept.HookAnswer.{HookAnswer}
use Rattle.smithy_context.specs.declared.intercept.HookView.{HookView}
use Rattle.smithy_types.specs.Chain.{Chained}
use Rattle.smithy_types.specs.declared.hook.Hook.{Hook}
use Rattle.smithy_types.specs.declared.notes.RetryAction.{RetryAction}
use Rattle.laws_determined.specs.Steady.Steady.{AnswersAlike}
use Rattle.laws_determined.specs.Retries.Alike.{Chains, ChainsAlike, Retries, RetriesAlike, registers_mean}

-- what an interceptor answers, and what it is then, follows from what it was
abbrev pub RunsAlike : {I : Type 0} → (I → Hook → HookView → HookAnswer → I → Type 0) → Type 0
RunsAlike {I} runs =
    (one after left : I) (hook : Hook) (view : HookView) (a b : HookAnswer) → runs one hook view a after
    → runs one hook view b left → (a ≡ b) × (after ≡ left)

module _ {X : Type 0} (makes : X → OutsideCall → X → Type 0) where
  module _ {P L : Type 0} (bucket amount : P → ℕ) (limiters : Limiters L) where
    -- Initial, with the calls of the outside that it makes
    abbrev pub Begins : Bool → StandingLayers → Retries X P L → Answer → Retries X P L → Type 0
    Begins time_source settings old a new =
        (calls : List OutsideCall) × Chained makes old.outside calls new.outside
        × Begun (registers_mean bucket amount limiters) time_source settings old.strategy old.quota a
        new.strategy calls new.quota

    -- so it is of Decide
    abbrev pub Decides : RetryAction → Bool → InterceptorContext → Retries X P L → Answer → Retries X P L → Type 0
    Decides verdict time_source c old a new =
        (calls : List OutsideCall) × Chained makes old.outside calls new.outside
        × IsDecided (registers_mean bucket amount limiters) verdict time_source c old.strategy old.quota a
        new.strategy calls new.quota

    -- from retries that are alike an Initial has one answer, and what is left is alike
    abbrev pub InitialsAreDetermined : Type 0
    InitialsAreDetermined =
        (time_source : Bool) (settings : StandingLayers)
        → AnswersAlike (RetriesAlike bucket amount) (Begins time_source settings)

    -- from retries that are alike a Decide has one answer, and what is left is alike
    abbrev pub DecisionsAreDetermined : Type 0
    DecisionsAreDetermined =
        (verdict : RetryAction) (time_source : Bool) (c : InterceptorContext)
        → AnswersAlike (RetriesAlike bucket amount) (Decides verdict time_source c)

  module _ {I P L : Type 0} (bucket amount : P → ℕ) (limiters : Limiters L) (means : InterceptorMeans I) where
    -- a hook, behind these calls of the outside
    abbrev pub RunsHook : List OutsideCall → RetryAction → Hook → HookView → Chains X I L → Answer → Chains X I L
        → Type 0
    RunsHook front verdict hook view old a new =
        (calls : List OutsideCall) × Chained makes old.outside (front ++ calls) new.outside
        × Hooks (registers_mean bucket amount limiters) means verdict hook view old.chain old.quota a
        new.chain calls new.quota

    -- where interceptors are so, a hook has one answer from chains that are alike, and leaves chains that are alike
    abbrev pub HooksAreDetermined : Type 0
    HooksAreDetermined = RunsAlike means.runs
        → (front : List OutsideCall) (verdict : RetryAction) (hook : Hook) (view : HookView)
        → AnswersAlike ChainsAlike (RunsHook front verdict hook view)
