-- What a question leaves of a client's parts where there is no memory for its answer:
-- the parts that its kind isn't lent stay, and outside, quota and interceptors differ by calls and turns of their own.
use Rattle.std.specs.Prelude.{◌≡◌, ◌⊎◌, List, None, Option}
use Rattle.client_call.specs.Sleeping.{with_sleep}
use Rattle.client_retries.specs.Deciding.{DecisionStops}
use Rattle.client_retries.specs.Hooking.{Stops, seen_context}
use Rattle.client_retries.specs.Meanings.{InterceptorMeans, QuotaMeans}
use Rattle.outside.specs.Calls.{OutsideCall}
use Rattle.retry_quota.specs.Meaning.{IsKept}
use Rattle.run_grammar.specs.declared.kind.ConfigureStage.TheVariants as stages
use Rattle.run_grammar.specs.declared.question.Question.{Question}
use Rattle.run_grammar.specs.declared.question.Question.TheVariants as questions
use Rattle.smithy_context.specs.declared.context.InterceptorContext.{InterceptorContext}
use Rattle.smithy_context.specs.declared.intercept.HookView.{HookView}
use Rattle.smithy_types.specs.Chain.{Chained}
use Rattle.smithy_types.specs.declared.hook.Hook.{Hook}
use Rattle.smithy_types.specs.declared.notes.RetryAction.{RetryAction}
use Rattle.client_components.specs.Resting.{Ends}
use Rattle.client_components.specs.Retrying.{decided_view, sleeps_after, verdict_on}
use Rattle.client_components.specs.declared.parts.Parts.{Parts}

module _ {T X Q C I A R Z D P L : Type 0} (makes : X → OutsideCall → X → Type 0) where
  -- some calls of the outside were made
  abbrev pub CalledOutside : Parts T X Q C I A R Z D P L → Parts T X Q C I A R Z D P L → Type 0
  CalledOutside old new = (calls : List OutsideCall) × Chained makes old.outside calls new.outside

  -- a hook: its sleeps are given up, and the chain stops
  pub record HookStops (says : C → InterceptorContext → RetryAction → RetryAction) (quota : QuotaMeans Q P L)
      (chain : InterceptorMeans I) (old : Parts T X Q C I A R Z D P L) (hook : Hook) (view : HookView)
      (new : Parts T X Q C I A R Z D P L) : Type 0 where
    pub called : CalledOutside old new
    pub stops : Stops quota chain (verdict_on makes says old (seen_context view)) hook view old.interceptors.items
        old.quota new.interceptors.items new.quota
    pub others : new ≡ record old {
      sleeps = sleeps_after hook old.sleeps;
      interceptors = new.interceptors;
      outside = new.outside;
      quota = new.quota;
    }

  -- a decision: nothing was asked, or the strategy stops
  pub record DecideStops (says : C → InterceptorContext → RetryAction → RetryAction) (quota : QuotaMeans Q P L)
      (old : Parts T X Q C I A R Z D P L) (view : HookView) (new : Parts T X Q C I A R Z D P L) : Type 0 where
    pub called : CalledOutside old new
    pub stops : DecisionStops quota (verdict_on makes says old (seen_context view)) (seen_context view) old.strategy
        old.quota new.strategy new.quota
    pub others : new ≡ record old { strategy = new.strategy; outside = new.outside; quota = new.quota }

  -- no decision was reached: nothing was asked yet, or the strategy stopped
  abbrev pub DecidesNothing : (C → InterceptorContext → RetryAction → RetryAction) → QuotaMeans Q P L →
      Parts T X Q C I A R Z D P L → HookView → Parts T X Q C I A R Z D P L → Type 0
  DecidesNothing says quota old view new = (new ≡ old) ⊎ DecideStops says quota old view new

  -- the strategy is as it was, and the quota means what it meant
  pub record InitialStops (quota : QuotaMeans Q P L) (old new : Parts T X Q C I A R Z D P L) : Type 0 where
    pub called : CalledOutside old new
    pub kept : IsKept (quota.meaning old.quota) (quota.meaning new.quota)
    pub others : new ≡ record old { outside = new.outside; quota = new.quota }

  -- by the kind of the question; those that want no memory have no case
  abbrev pub LeftBy : (C → InterceptorContext → RetryAction → RetryAction) → QuotaMeans Q P L → InterceptorMeans I →
      Parts T X Q C I A R Z D P L → Question → Parts T X Q C I A R Z D P L → Type 0
  LeftBy says quota chain old (questions.Configure stages.Client settings) new = Ends makes old new
  LeftBy says quota chain old (questions.Hook hook view) new = HookStops says quota chain old hook view new
  LeftBy says quota chain old (questions.Initial settings) new = InitialStops quota old new
  LeftBy says quota chain old (questions.Start role nanos) new =
      CalledOutside old new × (new ≡ record old { sleeps = with_sleep role None old.sleeps; outside = new.outside })
  LeftBy says quota chain old (questions.Choose settings) new =
      CalledOutside old new × (new ≡ record old { identities = new.identities; outside = new.outside })
  LeftBy says quota chain old (questions.Transmit settings request) new =
      CalledOutside old new × (new ≡ record old { call = new.call; outside = new.outside })
  LeftBy says quota chain old (questions.Body settings response) new =
      CalledOutside old new × (new ≡ record old { call = new.call; outside = new.outside })
  LeftBy says quota chain old (questions.Decide settings request response outcome attempt) new =
      DecidesNothing says quota old (decided_view settings request response outcome attempt) new
  LeftBy says quota chain old (questions.Wait role) new = ⊥
  LeftBy says quota chain old (questions.Abandon abandoned) new = ⊥
  LeftBy says quota chain old questions.Park new = ⊥
  LeftBy says quota chain old _ new = new ≡ old
