-- Where no box is made, it doesn't matter of what kind boxes would be.
use Rattle.std.proofs.Common.{◌≡◌, ℕ, ℤ, List, subst, inl, inr}
use Rattle.cli_client.specs.Client.{IsToldOf, PlaysScript}
use Rattle.cli_client.specs.Report.{Reports}
use Rattle.cli_client.specs.declared.report.Report.{Report}
use Rattle.cli_client.specs.Means.{NoClassifier, NoInterceptor, none, OwnServed, own_chain, own_ranked, own_says}
use Rattle.cli_client_runs.specs.Means.{ServedBy}
use Rattle.cli_client.specs.Opening.{IsOpened}
use Rattle.cli_client_runs.specs.declared.set.ClientSet.{ClientSet}
use Rattle.json_scripts.specs.declared.client.script.ClientScript.{ClientScript}
use Rattle.client_scripted.specs.declared.service.error.ServiceError.{ServiceError}
use Rattle.client_builder.specs.declared.own_interceptor.OwnInterceptor.{OwnInterceptor}
use Rattle.client_retries.specs.Meanings.{InterceptorMeans}
use Rattle.retry_policy.specs.declared.classify.Classifier.{Classifier}
use Rattle.retry_policy.specs.declared.classify.Classifier.TheVariants.{HttpStatusCode, ModeledAsRetryable, TransientError, Boxed}
use Rattle.cli_shell.specs.declared.status.PrintStatus.{PrintStatus}
use Rattle.smithy_base.specs.declared.intercept.Slot.{Slot}
use Rattle.smithy_base.specs.declared.intercept.Slot.TheVariants as slots
use Rattle.smithy_context.specs.declared.context.InterceptorContext.{InterceptorContext}
use Rattle.smithy_context.specs.declared.intercept.HookAnswer.{HookAnswer}
use Rattle.smithy_context.specs.declared.intercept.HookView.{HookView}
use Rattle.smithy_types.specs.declared.hook.Hook.{Hook}
use Rattle.smithy_types.specs.declared.notes.RetryAction.{RetryAction}

-- ---- what holds without boxes holds with boxes that are never made

same_kind : {V : Type 0} (v : V → Type 0) → (V → ⊥) → (x : V) → none x ≡ v x
same_kind v nobody x = absurd (nobody x)

pub any_kind : {V : Type 0} → (V → ⊥) → (P : (V → Type 0) → Type 0) (v : V → Type 0) → P none → P v
any_kind nobody P v = subst P (λ i x. same_kind v nobody x i)

-- ---- classifiers

module _ {V : Type 0} {v : V → Type 0} where
  -- the three have these priorities
  pub record Ranks (ranked : Classifier ServiceError V v → ℤ) : Type 0 where
    pub status : (x : _) → ranked (HttpStatusCode x) ≡ own_ranked {V = V} {v = v} (HttpStatusCode x)
    pub modeled : (x : _) → ranked (ModeledAsRetryable x) ≡ own_ranked {V = V} {v = v} (ModeledAsRetryable x)
    pub transient : (x : _) → ranked (TransientError x) ≡ own_ranked {V = V} {v = v} (TransientError x)

  -- the three say this
  pub record Says (says : Classifier ServiceError V v → InterceptorContext → RetryAction → RetryAction) : Type 0 where
    pub status : (x : _) (c : InterceptorContext) (r : RetryAction) → says (HttpStatusCode x) c r ≡ own_says {V = V} {v = v} (HttpStatusCode x) c r
    pub modeled : (x : _) (c : InterceptorContext) (r : RetryAction) → says (ModeledAsRetryable x) c r ≡ own_says {V = V} {v = v} (ModeledAsRetryable x) c r
    pub transient : (x : _) (c : InterceptorContext) (r : RetryAction) → says (TransientError x) c r ≡ own_says {V = V} {v = v} (TransientError x) c r

  module _ (nobody : V → ⊥) where
    one_rank : (ranked : Classifier ServiceError V v → ℤ) → Ranks ranked → (x : Classifier ServiceError V v) → ranked x ≡ own_ranked x
    one_rank ranked h (HttpStatusCode x) = h.status x
    one_rank ranked h (ModeledAsRetryable x) = h.modeled x
    one_rank ranked h (TransientError x) = h.transient x
    one_rank ranked h (Boxed b) = absurd (nobody b.vtable)

    pub ranks : (ranked : Classifier ServiceError V v → ℤ) → Ranks ranked → ranked ≡ own_ranked
    ranks ranked h = λ i x. one_rank ranked h x i

    one_says : (says : Classifier ServiceError V v → InterceptorContext → RetryAction → RetryAction) → Says says → (x : Classifier ServiceError V v) (c : InterceptorContext) (r : RetryAction) → says x c r ≡ own_says x c r
    one_says says h (HttpStatusCode x) c r = h.status x c r
    one_says says h (ModeledAsRetryable x) c r = h.modeled x c r
    one_says says h (TransientError x) c r = h.transient x c r
    one_says says h (Boxed b) c r = absurd (nobody b.vtable)

    pub all_says : (says : Classifier ServiceError V v → InterceptorContext → RetryAction → RetryAction) → Says says → says ≡ own_says
    all_says says h = λ i x c r. one_says says h x c r i

-- ---- interceptors

module _ {W : Type 0} {w : W → Type 0} where
  -- the crate's own do this
  pub record Intercepts (chain : InterceptorMeans (Slot OwnInterceptor W w)) : Type 1 where
    pub names : (one : OwnInterceptor) → chain.names (slots.Own one) ≡ (own_chain {W = W} {w = w}).names (slots.Own one)
    pub hooks : (one : OwnInterceptor) (hook : Hook) → chain.hooks (slots.Own one) hook ≡ (own_chain {W = W} {w = w}).hooks (slots.Own one) hook
    pub runs : (one : OwnInterceptor) (hook : Hook) (view : HookView) (a : HookAnswer) (new : Slot OwnInterceptor W w) → chain.runs (slots.Own one) hook view a new ≡ (own_chain {W = W} {w = w}).runs (slots.Own one) hook view a new
    pub with_bucket : (one : OwnInterceptor) (bucket : ℕ) → chain.with_bucket (slots.Own one) bucket ≡ (own_chain {W = W} {w = w}).with_bucket (slots.Own one) bucket
    pub with_verdict : (one : OwnInterceptor) (verdict : RetryAction) → chain.with_verdict (slots.Own one) verdict ≡ (own_chain {W = W} {w = w}).with_verdict (slots.Own one) verdict

  module _ (nothing : W → ⊥) (chain : InterceptorMeans (Slot OwnInterceptor W w)) (h : Intercepts chain) where
    one_name : (s : Slot OwnInterceptor W w) → chain.names s ≡ (own_chain {W = W} {w = w}).names s
    one_name (slots.Own one) = h.names one
    one_name (slots.Boxed b) = absurd (nothing b.vtable)

    one_hook : (s : Slot OwnInterceptor W w) (hook : Hook) → chain.hooks s hook ≡ (own_chain {W = W} {w = w}).hooks s hook
    one_hook (slots.Own one) hook = h.hooks one hook
    one_hook (slots.Boxed b) hook = absurd (nothing b.vtable)

    one_run : (s : Slot OwnInterceptor W w) (hook : Hook) (view : HookView) (a : HookAnswer) (new : Slot OwnInterceptor W w) → chain.runs s hook view a new ≡ (own_chain {W = W} {w = w}).runs s hook view a new
    one_run (slots.Own one) hook view a new = h.runs one hook view a new
    one_run (slots.Boxed b) hook view a new = absurd (nothing b.vtable)

    one_bucket : (s : Slot OwnInterceptor W w) (bucket : ℕ) → chain.with_bucket s bucket ≡ (own_chain {W = W} {w = w}).with_bucket s bucket
    one_bucket (slots.Own one) bucket = h.with_bucket one bucket
    one_bucket (slots.Boxed b) bucket = absurd (nothing b.vtable)

    one_verdict : (s : Slot OwnInterceptor W w) (verdict : RetryAction) → chain.with_verdict s verdict ≡ (own_chain {W = W} {w = w}).with_verdict s verdict
    one_verdict (slots.Own one) verdict = h.with_verdict one verdict
    one_verdict (slots.Boxed b) verdict = absurd (nothing b.vtable)

    pub one_chain : chain ≡ own_chain
    one_chain = λ i. record {
      names = λ s. one_name s i;
      hooks = λ s hook. one_hook s hook i;
      runs = λ s hook view a new. one_run s hook view a new i;
      with_bucket = λ s bucket. one_bucket s bucket i;
      with_verdict = λ s verdict. one_verdict s verdict i;
    }

-- ---- a script that is played without a box

nobody : NoClassifier → ⊥
nobody (inl b) = b
nobody (inr b) = b

nothing : NoInterceptor → ⊥
nothing (inl b) = b
nothing (inr (inl b)) = b
nothing (inr (inr (inl b))) = b
nothing (inr (inr (inr (inl b)))) = b
nothing (inr (inr (inr (inr b)))) = b

module _ (report : Report) (script : ClientScript) (text : List ℕ) (outcome : PrintStatus) where
  abbrev PlaysOver : (v : NoClassifier → Type 0) (w : NoInterceptor → Type 0) → Type 0
  PlaysOver v w = PlaysScript {V = NoClassifier} {W = NoInterceptor} {v = v} {w = w} own_ranked OwnServed report script text outcome → IsToldOf report script text outcome

  over_any : (v : NoClassifier → Type 0) (w : NoInterceptor → Type 0) → PlaysOver v w
  over_any v w = any_kind nobody (λ x. PlaysOver x w) v (any_kind nothing (λ y. PlaysOver none y) w (λ h. h))

  pub closed : (v : NoClassifier → Type 0) (w : NoInterceptor → Type 0) (ranked : Classifier ServiceError NoClassifier v → ℤ) (says : Classifier ServiceError NoClassifier v → InterceptorContext → RetryAction → RetryAction)
      (chain : InterceptorMeans (Slot OwnInterceptor NoInterceptor w)) → Ranks ranked → Says says → Intercepts chain
      → PlaysScript {V = NoClassifier} {W = NoInterceptor} {v = v} {w = w} ranked (ServedBy says chain) report script text outcome → IsToldOf report script text outcome
  closed v w ranked says chain r s n h =
      over_any v w
      (subst (λ x. PlaysScript {V = NoClassifier} {W = NoInterceptor} {v = v} {w = w} own_ranked (ServedBy own_says x) report script text outcome) (one_chain nothing chain n)
      (subst (λ x. PlaysScript {V = NoClassifier} {W = NoInterceptor} {v = v} {w = w} own_ranked (ServedBy x chain) report script text outcome) (all_says nobody says s)
      (subst (λ x. PlaysScript {V = NoClassifier} {W = NoInterceptor} {v = v} {w = w} x (ServedBy says chain) report script text outcome) (ranks nobody ranked r) h)))

-- what was opened and told of is a run of the script
pub closed_run : (report : Report) (script : ClientScript) (text : List ℕ) (outcome : PrintStatus) (v : NoClassifier → Type 0) (w : NoInterceptor → Type 0) (ranked : Classifier ServiceError NoClassifier v → ℤ)
    (says : Classifier ServiceError NoClassifier v → InterceptorContext → RetryAction → RetryAction) (chain : InterceptorMeans (Slot OwnInterceptor NoInterceptor w))
    (first last : ClientSet (Classifier ServiceError NoClassifier v) (Slot OwnInterceptor NoInterceptor w))
    → IsOpened ranked script.buckets script.start script.words script.clients first → Reports (ServedBy says chain) report first script.invocations last text outcome
    → Ranks ranked → Says says → Intercepts chain → IsToldOf report script text outcome
closed_run report script text outcome v w ranked says chain first last o p r s n =
    let plays : PlaysScript {V = NoClassifier} {W = NoInterceptor} {v = v} {w = w} ranked (ServedBy says chain) report script text outcome = record { first = first; opened = o; last = last; reports = p } in
    closed report script text outcome v w ranked says chain r s n plays
