-- What the classifiers and interceptors of the program's clients mean.
-- No client holds a box, so it doesn't matter what a box would say.
use Rattle.std.specs.Prelude.{◌≡◌, ◌⊎◌, ℕ, ℤ, pos, Bool, true, List, []}
use Rattle.cli_client_runs.specs.Means.{ServedBy}
use Rattle.client_scripted.specs.Service.Service.{kind_of_error}
use Rattle.client_scripted.specs.declared.service.error.ServiceError.{ServiceError}
use Rattle.client_builder.specs.Own.{OwnRuns, own_hooks, own_names, own_with_bucket, own_with_verdict}
use Rattle.client_builder.specs.declared.own_interceptor.OwnInterceptor.{OwnInterceptor}
use Rattle.client_retries.specs.Meanings.{InterceptorMeans}
use Rattle.retry_policy.specs.Classifying.{modeled_says, status_says, transient_says}
use Rattle.retry_policy.specs.declared.classify.Classifier.{Classifier}
use Rattle.retry_policy.specs.declared.classify.Classifier.TheVariants.{HttpStatusCode, ModeledAsRetryable}
use Rattle.retry_policy.specs.declared.classify.Classifier.TheVariants.{TransientError, Boxed}
use Rattle.run_grammar.specs.declared.answer.Entry.{Entry}
use Rattle.client_scripted.specs.Clients.{ServiceWorld}
use Rattle.smithy_base.specs.declared.intercept.Slot.{Slot}
use Rattle.smithy_base.specs.declared.intercept.Slot.TheVariants as slots
use Rattle.smithy_context.specs.declared.context.InterceptorContext.{InterceptorContext}
use Rattle.smithy_context.specs.declared.intercept.HookAnswer.{HookAnswer}
use Rattle.smithy_context.specs.declared.intercept.HookView.{HookView}
use Rattle.smithy_types.specs.declared.hook.Hook.{Hook}
use Rattle.smithy_types.specs.declared.notes.RetryAction.{RetryAction}

-- ---- the three classifiers and the crate's own interceptors; what a box would say is left open

module _ {V : Type 0} {v : V → Type 0} where
  -- the priorities of the three classifiers
  abbrev pub own_ranked : Classifier ServiceError V v → ℤ
  own_ranked (HttpStatusCode x) = pos 0
  own_ranked (ModeledAsRetryable x) = pos 10
  own_ranked (TransientError x) = pos 20
  own_ranked (Boxed b) = pos 0

  -- what they say of a context
  abbrev pub own_says : Classifier ServiceError V v → InterceptorContext → RetryAction → RetryAction
  own_says (HttpStatusCode x) context so_far = status_says x.codes context
  own_says (ModeledAsRetryable x) context so_far = modeled_says (λ p. kind_of_error p.bytes) context
  own_says (TransientError x) context so_far = transient_says context
  own_says (Boxed b) context so_far = so_far

module _ {W : Type 0} {w : W → Type 0} where
  -- what the interceptor in a slot is called
  abbrev pub slot_names : Slot OwnInterceptor W w → List ℕ
  slot_names (slots.Own one) = own_names one
  slot_names (slots.Boxed b) = []

  -- the hooks that the interceptor in a slot overrides
  abbrev pub slot_hooks : Slot OwnInterceptor W w → Hook → Bool
  slot_hooks (slots.Own one) hook = own_hooks one hook
  slot_hooks (slots.Boxed b) hook = true

  -- one of the crate's own interceptors runs, and no box does
  abbrev pub SlotRuns : Slot OwnInterceptor W w → Hook → HookView → HookAnswer → Slot OwnInterceptor W w → Type 0
  SlotRuns (slots.Own one) hook view answer new =
      (after : OwnInterceptor) × (new ≡ slots.Own after) × OwnRuns one hook view answer after
  SlotRuns (slots.Boxed b) hook view answer new = ⊥

  -- the interceptor in a slot with the bucket that it was offered
  abbrev pub slot_with_bucket : Slot OwnInterceptor W w → ℕ → Slot OwnInterceptor W w
  slot_with_bucket (slots.Own one) bucket = slots.Own (own_with_bucket one bucket)
  slot_with_bucket (slots.Boxed b) bucket = slots.Boxed b

  -- the interceptor in a slot with what the classifiers say
  abbrev pub slot_with_verdict : Slot OwnInterceptor W w → RetryAction → Slot OwnInterceptor W w
  slot_with_verdict (slots.Own one) verdict = slots.Own (own_with_verdict one verdict)
  slot_with_verdict (slots.Boxed b) verdict = slots.Boxed b

  -- the interceptors' chain
  abbrev pub own_chain : InterceptorMeans (Slot OwnInterceptor W w)
  own_chain = record {
    names = slot_names;
    hooks = slot_hooks;
    runs = SlotRuns;
    with_bucket = slot_with_bucket;
    with_verdict = slot_with_verdict;
  }

module _ {V W : Type 0} {v : V → Type 0} {w : W → Type 0} where
  -- each entry is answered from the client's parts
  abbrev pub OwnServed : ServiceWorld (Classifier ServiceError V v) (Slot OwnInterceptor W w) → List Entry
      → ServiceWorld (Classifier ServiceError V v) (Slot OwnInterceptor W w) → Type 0
  OwnServed = ServedBy own_says own_chain

-- ---- there is no box

-- no crate below boxes a classifier,
abbrev pub NoClassifier : Type 0
NoClassifier = ⊥ ⊎ ⊥

-- and none an interceptor
abbrev pub NoInterceptor : Type 0
NoInterceptor = ⊥ ⊎ (⊥ ⊎ (⊥ ⊎ (⊥ ⊎ ⊥)))

-- no value is such a box
abbrev pub none : {N : Type 0} → N → Type 0
none nobody = ⊥
