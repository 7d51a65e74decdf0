-- Where no box is made, it doesn't matter of what kind boxes would be.
use Rattle.std.proofs.Common.{ℕ, ℤ, subst, inl, inr}
use Rattle.retry_policy.specs.declared.classify.Classifier.{Classifier}
use Rattle.smithy_base.specs.declared.intercept.Slot.{Slot}
use Rattle.smithy_context.specs.declared.context.InterceptorContext.{InterceptorContext}
use Rattle.smithy_types.specs.declared.notes.RetryAction.{RetryAction}
use Rattle.client_builder.specs.declared.own_interceptor.OwnInterceptor.{OwnInterceptor}
use Rattle.client_retries.specs.Meanings.{InterceptorMeans}
use Rattle.client_scripted.specs.declared.service.error.ServiceError.{ServiceError}
use Rattle.cli_client.proofs.Closing.{Intercepts, Ranks, Says, all_says, any_kind, one_chain, ranks}
use Rattle.cli_client.specs.Means.{NoClassifier, NoInterceptor, none, own_chain, own_ranked, own_says}
use Rattle.cli_shell.specs.declared.status.Ended.{Ended}
use Rattle.cli_serve.specs.Conversing.{OpensAndServes, Place, ServesHost, ServesSession}
use Rattle.cli_serve.specs.Means.{hosted_means}
use Rattle.host_session.specs.declared.session.Session.{Session}
use Rattle.rate_limit.specs.Pace.{Pace}
use Rattle.retry_quota.specs.Registers.{Registers}
use Rattle.cli_serve.specs.Opening.{BuildsClient, Opens, ServedClient}
use Rattle.cli_serve.specs.declared.description.HostDescription.{HostDescription}
use Rattle.cli_serve.specs.declared.description.SeatDescription.{SeatDescription}

nobody : NoClassifier → ⊥
nobody (inl b) = b
nobody (inr b) = b

nothing : NoInterceptor → ⊥
nothing (inl b) = b
nothing (inr (inl b)) = b
nothing (inr (inr (inl b))) = b
nothing (inr (inr (inr (inl b)))) = b
nothing (inr (inr (inr (inr b)))) = b

module _ (d : HostDescription) (ended : Ended) (old new : Place) where
  -- the session is opened and served, by these meanings
  abbrev pub ServesBy : (v : NoClassifier → Type 0) (w : NoInterceptor → Type 0) → (Classifier ServiceError NoClassifier v → ℤ) → (Classifier ServiceError NoClassifier v → InterceptorContext → RetryAction → RetryAction) →
      InterceptorMeans (Slot OwnInterceptor NoInterceptor w) → Type 0
  ServesBy v w ranked says chain =
      OpensAndServes {W = ServedClient (Classifier ServiceError NoClassifier v) (Slot OwnInterceptor NoInterceptor w)} (hosted_means says chain)
      (Opens {V = NoClassifier} {W = NoInterceptor} {v = v} {w = w} ranked d) ended old new

  abbrev ServesOver : (v : NoClassifier → Type 0) (w : NoInterceptor → Type 0) → Type 0
  ServesOver v w = ServesBy v w own_ranked own_says own_chain → ServesHost d ended old new

  over_any : (v : NoClassifier → Type 0) (w : NoInterceptor → Type 0) → ServesOver v w
  over_any v w = any_kind nobody (λ x. ServesOver x w) v (any_kind nothing (λ y. ServesOver none y) w (λ h. h))

  pub closed : (v : NoClassifier → Type 0) (w : NoInterceptor → Type 0) (ranked : Classifier ServiceError NoClassifier v → ℤ) (says : Classifier ServiceError NoClassifier v → InterceptorContext → RetryAction → RetryAction)
      (chain : InterceptorMeans (Slot OwnInterceptor NoInterceptor w)) → Ranks ranked → Says says → Intercepts chain → ServesBy v w ranked says chain → ServesHost d ended old new
  closed v w ranked says chain r s n h =
      over_any v w
      (subst (λ x. ServesBy v w own_ranked own_says x) (one_chain nothing chain n)
      (subst (λ x. ServesBy v w own_ranked x chain) (all_says nobody says s)
      (subst (λ x. ServesBy v w x says chain) (ranks nobody ranked r) h)))

-- so it is of a session that was opened and served
pub closed_session : (d : HostDescription) (ended : Ended) (old new : Place) (v : NoClassifier → Type 0) (w : NoInterceptor → Type 0) (ranked : Classifier ServiceError NoClassifier v → ℤ)
    (says : Classifier ServiceError NoClassifier v → InterceptorContext → RetryAction → RetryAction) (chain : InterceptorMeans (Slot OwnInterceptor NoInterceptor w))
    (session : Session (ServedClient (Classifier ServiceError NoClassifier v) (Slot OwnInterceptor NoInterceptor w))) →
    Opens {V = NoClassifier} {W = NoInterceptor} {v = v} {w = w} ranked d session →
    ServesSession (hosted_means says chain) session ended old new → Ranks ranked → Says says → Intercepts chain → ServesHost d ended old new
closed_session d ended old new v w ranked says chain session opened serves r s n =
    closed d ended old new v w ranked says chain r s n (record { session = session; is_opened = opened; serves = serves })

-- a client that was built by what its classifiers rank is built by the priorities that have names
pub owned : (v : NoClassifier → Type 0) (w : NoInterceptor → Type 0) (ranked : Classifier ServiceError NoClassifier v → ℤ) (start : ℕ) (old : Registers Pace) (d : SeatDescription)
    (world : ServedClient (Classifier ServiceError NoClassifier v) (Slot OwnInterceptor NoInterceptor w)) (new : Registers Pace) →
    BuildsClient {V = NoClassifier} {W = NoInterceptor} {v = v} {w = w} ranked start old d world new → Ranks ranked →
    BuildsClient {V = NoClassifier} {W = NoInterceptor} {v = v} {w = w} own_ranked start old d world new
owned v w ranked start old d world new built r =
    subst (λ (x : Classifier ServiceError NoClassifier v → ℤ). BuildsClient {V = NoClassifier} {W = NoInterceptor} {v = v} {w = w} x start old d world new) (ranks nobody ranked r) built
