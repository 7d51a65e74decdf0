-- Configure, Hook, Initial and Decide.
use Rattle.std.specs.Prelude.{◌≡◌, ℕ, Bool, true, false, List, [], ◌++◌, Option, None}
use Rattle.client_auth.specs.Identities.{has_cache}
use Rattle.client_call.specs.Sleeping.{give_up_all, giving_up, no_sleeps, with_sleep}
use Rattle.client_call.specs.declared.sleeping.Sleeps.{Sleeps}
use Rattle.outside.specs.Calls.{OutsideCall}
use Rattle.client_retries.specs.Configuring.{configured}
use Rattle.client_retries.specs.Deciding.{IsDecided}
use Rattle.client_retries.specs.Hooking.{Hooks, seen_context}
use Rattle.client_retries.specs.Initially.{Begun}
use Rattle.client_retries.specs.Meanings.{InterceptorMeans, QuotaMeans}
use Rattle.client_retries.specs.declared.configure.CacheNeeds.{CacheNeeds}
use Rattle.retry_policy.specs.Interceptors.{is_before_retry_loop}
use Rattle.retry_policy.specs.Verdict.{verdict_of}
use Rattle.run_grammar.specs.declared.answer.Answer.{Answer}
use Rattle.run_grammar.specs.declared.kind.ConfigureStage.{ConfigureStage}
use Rattle.run_grammar.specs.declared.kind.ConfigureStage.TheVariants.{Client, Operation, Final}
use Rattle.run_grammar.specs.declared.kind.Role.TheVariants.{Attempt}
use Rattle.run_grammar.specs.declared.question.Question.{Question}
use Rattle.run_grammar.specs.declared.question.Question.TheVariants as questions
use Rattle.smithy_context.specs.StandingLayers.{StandingLayers}
use Rattle.smithy_context.specs.declared.context.InterceptorContext.{InterceptorContext}
use Rattle.smithy_context.specs.declared.intercept.HookView.{HookView}
use Rattle.smithy_types.specs.Chain.{Chained}
use Rattle.smithy_types.specs.declared.fault.Outcome.{Outcome}
use Rattle.smithy_types.specs.declared.hook.Hook.{Hook}
use Rattle.smithy_types.specs.declared.hook.Hook.TheVariants as hooks
use Rattle.smithy_types.specs.declared.http.HttpRequest.{HttpRequest}
use Rattle.smithy_types.specs.declared.http.HttpResponse.{HttpResponse}
use Rattle.smithy_types.specs.declared.notes.RetryAction.{RetryAction}
use Rattle.smithy_types.specs.declared.notes.RetryAction.TheVariants.{NoActionIndicated}
use Rattle.client_components.specs.Resting.{Ends}
use Rattle.client_components.specs.declared.parts.Parts.{Parts}

-- the client's step comes first
abbrev pub is_first : ConfigureStage → Bool
is_first Client = true
is_first Operation = false
is_first Final = false

-- the sleeps that are given up right before a hook's chain
abbrev pub sleeps_ended : Hook → Sleeps → List OutsideCall
sleeps_ended hooks.ModifyBeforeAttemptCompletion sleeps = giving_up sleeps.attempt
sleeps_ended hooks.ModifyBeforeCompletion sleeps = give_up_all sleeps
sleeps_ended _ sleeps = []

-- the sleeps that stay open there
abbrev pub sleeps_after : Hook → Sleeps → Sleeps
sleeps_after hooks.ModifyBeforeAttemptCompletion sleeps = with_sleep Attempt None sleeps
sleeps_after hooks.ModifyBeforeCompletion sleeps = no_sleeps
sleeps_after _ sleeps = sleeps

-- the parts that a decision is handed, as a view
abbrev pub decided_view : StandingLayers → Option HttpRequest → Option HttpResponse → Option Outcome → ℕ → HookView
decided_view settings request response outcome attempt = record {
  input = None;
  request = request;
  response = response;
  outcome = outcome;
  attempt = attempt;
  settings = settings;
}

-- the questions that call the quota
abbrev pub calls_quota : Question → Bool
calls_quota (questions.Hook hook view) = is_before_retry_loop hook
calls_quota (questions.Initial settings) = true
calls_quota (questions.Decide settings request response outcome attempt) = true
calls_quota _ = false

module _ {T X Q C I A R Z D P L : Type 0} (makes : X → OutsideCall → X → Type 0) where
  -- whether there is a lazy cache of identities, and the clock and the sleeps that it needs
  abbrev pub needs_of : Parts T X Q C I A R Z D P L → CacheNeeds
  needs_of parts = record {
    lazy_cache = has_cache parts.identities;
    time_source = parts.given.time_source;
    sleep_impl = parts.given.sleep_impl;
  }

  -- before the client's step what is open is ended
  abbrev pub Configures : Parts T X Q C I A R Z D P L → ConfigureStage → Answer → Parts T X Q C I A R Z D P L → Type 0
  Configures old Client a new = (a ≡ configured Client old.given.client (needs_of old)) × Ends makes old new
  Configures old Operation a new = (a ≡ configured Operation old.given.client (needs_of old)) × (new ≡ old)
  Configures old Final a new = (a ≡ configured Final old.given.client (needs_of old)) × (new ≡ old)

  -- the verdict of the client's classifiers on a context
  abbrev pub verdict_on : (C → InterceptorContext → RetryAction → RetryAction) → Parts T X Q C I A R Z D P L →
      InterceptorContext → RetryAction
  verdict_on says parts context = verdict_of says context parts.given.classifiers.items NoActionIndicated

  -- sleeps end first, and then the chain runs
  pub record RunsHook (says : C → InterceptorContext → RetryAction → RetryAction) (quota : QuotaMeans Q P L)
      (chain : InterceptorMeans I) (old : Parts T X Q C I A R Z D P L) (hook : Hook) (view : HookView) (a : Answer)
      (new : Parts T X Q C I A R Z D P L) : Type 0 where
    pub calls : List OutsideCall
    pub made : Chained makes old.outside (sleeps_ended hook old.sleeps ++ calls) new.outside
    pub hooks : Hooks quota chain (verdict_on says old (seen_context view)) hook view old.interceptors.items old.quota a
        new.interceptors.items calls new.quota
    pub others : new ≡ record old {
      sleeps = sleeps_after hook old.sleeps;
      interceptors = new.interceptors;
      outside = new.outside;
      quota = new.quota;
    }

  -- whether an attempt is begun; the strategy, the outside and the quota change
  pub record Begins (quota : QuotaMeans Q P L) (old : Parts T X Q C I A R Z D P L) (settings : StandingLayers)
      (a : Answer) (new : Parts T X Q C I A R Z D P L) : Type 0 where
    pub calls : List OutsideCall
    pub made : Chained makes old.outside calls new.outside
    pub begun : Begun quota old.given.time_source settings old.strategy old.quota a new.strategy calls new.quota
    pub others : new ≡ record old { strategy = new.strategy; outside = new.outside; quota = new.quota }

  -- whether a further attempt is made; the strategy, the outside and the quota change
  pub record Decides (says : C → InterceptorContext → RetryAction → RetryAction) (quota : QuotaMeans Q P L)
      (old : Parts T X Q C I A R Z D P L) (view : HookView) (a : Answer)
      (new : Parts T X Q C I A R Z D P L) : Type 0 where
    pub calls : List OutsideCall
    pub made : Chained makes old.outside calls new.outside
    pub decided : IsDecided quota (verdict_on says old (seen_context view)) old.given.time_source (seen_context view)
        old.strategy old.quota a new.strategy calls new.quota
    pub others : new ≡ record old { strategy = new.strategy; outside = new.outside; quota = new.quota }
