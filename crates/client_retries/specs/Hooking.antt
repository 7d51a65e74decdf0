-- Hook.
use Rattle.std.specs.Prelude.{◌≡◌, ◌⊎◌, ℕ, Bool, true, false, if◌then◌else◌, List, [], ◌∷◌, Option, None, Some}
use Rattle.std.specs.Prelude.{option_and_then}
use Rattle.outside.specs.Calls.{OutsideCall, Poison}
use Rattle.retry_policy.specs.Interceptors.{is_after_deserialization}
use Rattle.retry_quota.specs.Calls.{Calls}
use Rattle.retry_quota.specs.Meaning.{IsKept}
use Rattle.run_grammar.specs.declared.answer.Answer.{Answer}
use Rattle.run_grammar.specs.declared.answer.Answer.TheVariants.{Hooked}
use Rattle.smithy_base.specs.Chain.{RunsChain, RunsInPart}
use Rattle.smithy_base.specs.Requests.{no_answer}
use Rattle.smithy_context.specs.Context.{view_of}
use Rattle.smithy_context.specs.Layer.{mentioned}
use Rattle.smithy_context.specs.declared.context.InterceptorContext.{InterceptorContext}
use Rattle.smithy_context.specs.declared.intercept.HookAnswer.{HookAnswer}
use Rattle.smithy_context.specs.declared.intercept.HookView.{HookView}
use Rattle.smithy_context.specs.declared.layer.LayerEntry.{LayerEntry}
use Rattle.smithy_context.specs.declared.setting.Setting.{Setting}
use Rattle.smithy_context.specs.declared.setting.Setting.TheVariants as set
use Rattle.smithy_context.specs.declared.setting.SettingKey.TheVariants as keys
use Rattle.smithy_types.specs.Chain.{Chained}
use Rattle.smithy_types.specs.declared.hook.Hook.{Hook}
use Rattle.smithy_types.specs.declared.hook.Hook.TheVariants as hooks
use Rattle.smithy_types.specs.declared.kinds.Phase.TheVariants.{AfterDeserialization}
use Rattle.smithy_types.specs.declared.notes.RetryAction.{RetryAction}
use Rattle.client_retries.specs.Meanings.{QuotaMeans, InterceptorMeans}
use Rattle.client_retries.specs.Offering.{finding, offered}

-- the operation's own first hook, which no interceptor of a client has
abbrev pub is_operations : Hook → Bool
is_operations hooks.ReadBeforeExecutionOperation = true
is_operations _ = false

-- what classifiers and the strategy are handed: the parts of a view but the input, with everything deserialized
abbrev pub seen_context : HookView → InterceptorContext
seen_context view = view_of (record view { input = None }) AfterDeserialization

-- the number of the attempt that the setting Poisoned names
abbrev pub number_of : Option Setting → Option ℕ
number_of (Some (set.Poisoned number)) = Some number
number_of _ = None

-- the number of the attempt whose connection a layer gives up
abbrev pub poisoned_in : List LayerEntry → Option ℕ
poisoned_in layer = number_of (option_and_then (λ v. v) (mentioned layer keys.Poisoned))

-- the outside is told not to use the connection of this attempt again
abbrev pub poison_calls : Option ℕ → List OutsideCall
poison_calls None = []
poison_calls (Some number) = Poison number ∷ []

-- once a response is read, a connection that the chain gives up isn't used again
abbrev pub poisoning : Hook → HookAnswer → List OutsideCall
poisoning hook answer = if is_after_deserialization hook then poison_calls (poisoned_in answer.settings) else []

module _ {Q P L I : Type 0} (quota : QuotaMeans Q P L) (chain : InterceptorMeans I) where
  -- what is found and offered right before the chain runs
  pub record Offers (verdict : RetryAction) (hook : Hook) (view : HookView) (old : List I) (q : Q) (new : List I)
      (after : Q) : Type 0 where
    pub number : ℕ
    pub found : Chained (Calls quota.limiters) (quota.meaning q)
        (finding hook view.settings number) (quota.meaning after)
    pub chain_is : new ≡ offered chain hook view.settings number verdict old

  -- a client's hook: what is offered, and then the chain
  pub record RunsHook (verdict : RetryAction) (hook : Hook) (view : HookView) (old : List I) (q : Q) (a : Answer)
      (new : List I) (calls : List OutsideCall) (after : Q) : Type 0 where
    pub before : List I
    pub offers : Offers verdict hook view old q before after
    pub answer : HookAnswer
    pub ran : RunsChain chain.names chain.hooks chain.runs hook view before answer new
    pub answer_is : a ≡ Hooked answer
    pub calls_are : calls ≡ poisoning hook answer

  -- the operation's first hook has no chain
  abbrev pub Hooks : RetryAction → Hook → HookView → List I → Q → Answer → List I → List OutsideCall → Q → Type 0
  Hooks verdict hook view old q a new calls after =
      ((is_operations hook ≡ true) × (a ≡ Hooked no_answer) × (new ≡ old) × (calls ≡ []) × (after ≡ q))
      ⊎ ((is_operations hook ≡ false) × RunsHook verdict hook view old q a new calls after)

  -- where memory is wanting: nothing was offered yet, or all was, and some of the chain,
  -- from its left end on, had their turns
  abbrev pub Stops : RetryAction → Hook → HookView → List I → Q → List I → Q → Type 0
  Stops verdict hook view old q new after =
      ((new ≡ old) × IsKept (quota.meaning q) (quota.meaning after))
      ⊎ ((before : List I) × Offers verdict hook view old q before after
      × RunsInPart chain.names chain.hooks chain.runs hook view before new)
