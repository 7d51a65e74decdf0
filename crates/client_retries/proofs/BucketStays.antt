-- The bucket in force is there once it was decided from it.
use Rattle.std.proofs.Common.{◌≡◌, ◌∙◌, sym, ap, refl, subst, ℕ, Bool, true, false, [], ◌∷◌, Option, None, Some}
use Rattle.std.specs.Prelude.{IfSome, IsTrue, unwrap_or}
use Rattle.smithy_types.proofs.ChainLemmas.{chained_one}
use Rattle.smithy_types.specs.declared.notes.RetryAction.{RetryAction}
use Rattle.smithy_types.specs.declared.partition.RetryPartition.{RetryPartition}
use Rattle.smithy_context.specs.StandingLayers.{StandingLayers}
use Rattle.smithy_context.specs.declared.context.InterceptorContext.{InterceptorContext}
use Rattle.retry_quota.specs.Calls.{FoundLimiter, Limiters, Calls}
use Rattle.retry_quota.specs.Meaning.{Meaning}
use Rattle.retry_quota.specs.declared.permit.Permit.{Permit}
use Rattle.retry_quota.proofs.CallLemmas.{calls_keep}
use Rattle.retry_policy.specs.Decision.{FindsLimiter, Decides}
use Rattle.retry_policy.specs.Standing.{standing_bucket}
use Rattle.retry_policy.specs.declared.decision.Decision.{Decision}
use Rattle.retry_policy.specs.declared.standing.Paced.{Paced}

if_some : (o : Option ℕ) (P : ℕ → Type 0) → ((b : ℕ) → o ≡ Some b → P b) → IfSome o P
if_some None P h = tt
if_some (Some b) P h = h b refl

module _ {L : Type 0} (means : Limiters L) where
  found_keeps : (m mid : Meaning L) (uses : Bool) (now : Option ℕ) (partition : Option RetryPartition) (paced : Option Paced) (bucket : ℕ)
      → m.has bucket ≡ true → FindsLimiter means m uses now partition paced mid → mid.has bucket ≡ true
  found_keeps m mid true (Some now) (Some partition) (Some paced) bucket there h = (calls_keep means m (FoundLimiter partition now paced.limiter ∷ []) mid bucket there (chained_one (Calls means) m mid (FoundLimiter partition now paced.limiter) h.1)).has
  found_keeps m mid true (Some now) (Some partition) None bucket there h = absurd h
  found_keeps m mid true (Some now) None paced bucket there h = absurd h
  found_keeps m mid true None partition paced bucket there h = absurd h
  found_keeps m mid false now partition None bucket there e = ap (λ (k : Meaning L). k.has bucket) e ∙ there
  found_keeps m mid false now partition (Some paced) bucket there h = absurd h

  still_there : (m n : Meaning L) (settings : StandingLayers) (c : InterceptorContext) (verdict : RetryAction) (now : Option ℕ) (word : ℕ) (held after : Option Permit) (d : Decision) (bucket : ℕ)
      → Decides means m settings c verdict now word held d after n → standing_bucket settings ≡ Some bucket → n.has bucket ≡ true
  still_there m n settings c verdict now word held after d bucket decides is =
      let same : decides.bucket ≡ bucket = ap (λ o. unwrap_or o 0) (sym decides.stands.bucket_stands ∙ is) in
      let there = found_keeps m decides.mid _ now _ decides.paced decides.bucket decides.stands.there decides.stands.found in
      subst (λ b. n.has b ≡ true) same (calls_keep means decides.mid _ n decides.bucket there decides.comes.made).has

  pub in_force : (m n : Meaning L) (settings : StandingLayers) (c : InterceptorContext) (verdict : RetryAction) (now : Option ℕ) (word : ℕ) (held after : Option Permit) (d : Decision)
      → Decides means m settings c verdict now word held d after n → IfSome (standing_bucket settings) (λ bucket. IsTrue (n.has bucket))
  in_force m n settings c verdict now word held after d decides = if_some _ _ (λ bucket is. still_there m n settings c verdict now word held after d bucket decides is)
