-- A caller's work without a box.
use Rattle.std.proofs.Common.{◌≡◌, ℕ, ℤ, List, subst, inl, inr}
use Rattle.std.specs.Prelude.{Option}
use Rattle.retry_quota_cell.specs.Caller.{Caller}
use Rattle.retry_quota_cell.specs.Callers.{IsUnused}
use Rattle.retry_quota_cell.specs.Known.{IsOf, Known, Place}
use Rattle.cli_client.proofs.Closing.{Intercepts, Ranks, Says, all_says, any_kind, one_chain, ranks}
use Rattle.cli_client.specs.Means.{none, own_chain, own_ranked, own_says}
use Rattle.cli_client.specs.Opening.{outside_at}
use Rattle.client_scripted.specs.declared.service.error.ServiceError.{ServiceError}
use Rattle.client_builder.specs.Built.{IsBuiltFrom}
use Rattle.client_builder.specs.declared.own_interceptor.OwnInterceptor.{OwnInterceptor}
use Rattle.rate_limit.specs.Pace.{Pace, zero_pace}
use Rattle.client_retries.specs.Meanings.{InterceptorMeans}
use Rattle.retry_policy.specs.declared.classify.Classifier.{Classifier}
use Rattle.retry_quota.specs.History.{Entry}
use Rattle.retry_quota.specs.declared.permit.Permit.{Permit}
use Rattle.outside_scripted.specs.declared.records.IdentityRecord.{IdentityRecord}
use Rattle.outside_scripted.specs.declared.scripted_outside.ScriptedOutside.{ScriptedOutside}
use Rattle.client_scripted.specs.Clients.{ServiceBuilder, builder_of}
use Rattle.client_scripted.specs.Parts.{identities_of}
use Rattle.cli_shell.specs.declared.status.PrintStatus.{PrintStatus}
use Rattle.smithy_base.specs.declared.intercept.Slot.{Slot}
use Rattle.smithy_context.specs.declared.context.InterceptorContext.{InterceptorContext}
use Rattle.smithy_types.specs.declared.notes.RetryAction.{RetryAction}
use Rattle.cli_fleet.specs.Means.{CallerWorld, cell_means, world_means}
use Rattle.cli_fleet.specs.Working.{NoClassifier, NoInterceptor, PlaysAll, Worked, WorksSo, partition_for}
use Rattle.cli_fleet.specs.declared.work.CallerWork.{CallerWork}

-- what was built and played is a caller's work
pub works_so : {V W : Type 0} {v : V → Type 0} {w : W → Type 0} (ranked : Classifier ServiceError V v → ℤ)
    (says : Classifier ServiceError V v → InterceptorContext → RetryAction → RetryAction) (chain : InterceptorMeans (Slot OwnInterceptor W w))
    (place : Place) (work : CallerWork) (text : List ℕ) (outcome : Option PrintStatus) (steps : List Entry) (pass : Known) (builder : ServiceBuilder V W v w) (outside : ScriptedOutside) (quota : Caller Pace)
    (first : CallerWorld (Caller Pace) Permit Pace (Classifier ServiceError V v) (Slot OwnInterceptor W w)) (identities : List IdentityRecord)
    → IsOf place pass → IsUnused pass.view → IsBuiltFrom ranked builder outside quota first → builder ≡ builder_of (partition_for work.client) work.client → outside ≡ outside_at work.start work.words
    → quota ≡ record { pass = pass; limiter = zero_pace } → identities ≡ identities_of work.client.auth
    → PlaysAll place (world_means (cell_means place) says chain) identities first.parts work.invocations text outcome steps → WorksSo ranked says chain place work text outcome steps
works_so ranked says chain place work text outcome steps pass builder outside quota first identities is_of unused built b o q i plays = record {
  pass = pass;
  is_of = is_of;
  unused = unused;
  first = first;
  built = subst (λ x. IsBuiltFrom ranked (builder_of (partition_for work.client) work.client) (outside_at work.start work.words) x first) q
      (subst (λ x. IsBuiltFrom ranked (builder_of (partition_for work.client) work.client) x quota first) o (subst (λ x. IsBuiltFrom ranked x outside quota first) b built));
  plays = subst (λ x. PlaysAll place (world_means (cell_means place) says chain) x first.parts work.invocations text outcome steps) i plays;
}

nobody : NoClassifier → ⊥
nobody (inl b) = b
nobody (inr (inl b)) = b
nobody (inr (inr b)) = b

nothing : NoInterceptor → ⊥
nothing (inl b) = b
nothing (inr (inl b)) = b
nothing (inr (inr (inl b))) = b
nothing (inr (inr (inr (inl b)))) = b
nothing (inr (inr (inr (inr (inl b))))) = b
nothing (inr (inr (inr (inr (inr b))))) = b

module _ (place : Place) (work : CallerWork) (text : List ℕ) (outcome : Option PrintStatus) (steps : List Entry) where
  abbrev WorksOver : (v : NoClassifier → Type 0) (w : NoInterceptor → Type 0) → Type 0
  WorksOver v w = WorksSo {V = NoClassifier} {W = NoInterceptor} {v = v} {w = w} own_ranked own_says own_chain place work text outcome steps → Worked place work text outcome steps

  over_any : (v : NoClassifier → Type 0) (w : NoInterceptor → Type 0) → WorksOver v w
  over_any v w = any_kind nobody (λ x. WorksOver x w) v (any_kind nothing (λ y. WorksOver none y) w (λ h. h))

  -- no client of a script holds a box, so it doesn't matter what boxes would be
  pub closed_work : (v : NoClassifier → Type 0) (w : NoInterceptor → Type 0) (ranked : Classifier ServiceError NoClassifier v → ℤ) (says : Classifier ServiceError NoClassifier v → InterceptorContext → RetryAction → RetryAction)
      (chain : InterceptorMeans (Slot OwnInterceptor NoInterceptor w)) → Ranks ranked → Says says → Intercepts chain
      → WorksSo {V = NoClassifier} {W = NoInterceptor} {v = v} {w = w} ranked says chain place work text outcome steps → Worked place work text outcome steps
  closed_work v w ranked says chain r s n h =
      over_any v w
      (subst (λ x. WorksSo {V = NoClassifier} {W = NoInterceptor} {v = v} {w = w} own_ranked own_says x place work text outcome steps) (one_chain nothing chain n)
      (subst (λ x. WorksSo {V = NoClassifier} {W = NoInterceptor} {v = v} {w = w} own_ranked x chain place work text outcome steps) (all_says nobody says s)
      (subst (λ x. WorksSo {V = NoClassifier} {W = NoInterceptor} {v = v} {w = w} x says chain place work text outcome steps) (ranks nobody ranked r) h)))
