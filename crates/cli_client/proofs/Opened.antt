-- What stands before the first invocation.
use Rattle.std.proofs.Common.{◌≡◌, ℕ, ℤ, List, [], subst, sym}
use Rattle.std.specs.Prelude.{None}
use Rattle.cli_client.specs.Opening.{IsOpened, outside_at, quota_of}
use Rattle.cli_client_runs.specs.declared.set.ClientSet.{ClientSet}
use Rattle.retry_quota.specs.declared.state.BucketTerms.{BucketTerms}
use Rattle.json_scripts.specs.declared.client.terms.ClientObject.{ClientObject}
use Rattle.client_scripted.specs.declared.service.error.ServiceError.{ServiceError}
use Rattle.client_builder.specs.declared.own_interceptor.OwnInterceptor.{OwnInterceptor}
use Rattle.rate_limit.specs.Pace.{Pace}
use Rattle.retry_policy.specs.declared.classify.Classifier.{Classifier}
use Rattle.retry_quota.specs.Registers.{Registers}
use Rattle.outside_scripted.specs.declared.call.OpenCall.TheVariants.{Idle}
use Rattle.outside_scripted.specs.declared.scripted_outside.ScriptedOutside.{ScriptedOutside}
use Rattle.client_scripted.specs.Clients.{AreBuilt}
use Rattle.client_scripted.specs.declared.client.ScriptedClient.{ScriptedClient}
use Rattle.smithy_base.specs.declared.intercept.Slot.{Slot}

-- an outside with nothing in it
pub begun_outside : (o : ScriptedOutside) (start : ℕ) (words : List ℕ) → o.moment ≡ start → o.words ≡ words → o.records ≡ [] → o.identities ≡ None → o.sleeps ≡ [] → o.call ≡ Idle → o.load ≡ None → o.faults ≡ 0
    → o ≡ outside_at start words
begun_outside o start words m w r d s c l f = λ i. record { moment = m i; words = w i; records = r i; identities = d i; sleeps = s i; call = c i; load = l i; faults = f i }

-- what was built over the script's buckets, behind nothing
pub opened_so : {V W : Type 0} {v : V → Type 0} {w : W → Type 0} {ranked : Classifier ServiceError V v → ℤ} {old quota : Registers Pace} {objects : List ClientObject}
    {before built : List (ScriptedClient (Classifier ServiceError V v) (Slot OwnInterceptor W w))} → AreBuilt ranked old objects before built quota
    → (set : ClientSet (Classifier ServiceError V v) (Slot OwnInterceptor W w)) (buckets : List BucketTerms) (start : ℕ) (words : List ℕ)
    → set.clients.items ≡ built → set.quota ≡ quota → old ≡ quota_of buckets → before ≡ [] → set.outside ≡ outside_at start words → IsOpened ranked buckets start words objects set
opened_so {ranked = ranked} {old = old} {quota = quota} {objects = objects} {before = before} {built = built} h set buckets start words i q e b o = record {
  clients = subst (λ x. AreBuilt ranked (quota_of buckets) objects [] x set.quota) (sym i)
      (subst (λ x. AreBuilt ranked (quota_of buckets) objects [] built x) (sym q)
      (subst (λ x. AreBuilt ranked x objects [] built quota) e (subst (λ x. AreBuilt ranked old objects x built quota) b h)));
  outside = o;
}
