-- What a client's classifiers say together where the one for delays stands behind them.
use Rattle.std.proofs.Common.{◌≡◌, ℕ, Bool, true, false, List, [], ◌∷◌, ◌++◌, Option, None, Some, map, refl, ap}
use Rattle.std.specs.Prelude.{if◌then◌else◌}
use Rattle.retry_policy.specs.Verdict.{is_forbidden, replaced, verdict_of}
use Rattle.smithy_context.specs.declared.context.InterceptorContext.{InterceptorContext}
use Rattle.smithy_types.specs.declared.notes.RetryAction.{RetryAction}
use Rattle.smithy_types.specs.declared.notes.RetryAction.TheVariants.{NoActionIndicated, RetryIndicated, RetryForbidden}
use Rattle.host_session.specs.Classifiers.{classifiers_with, hosted_says}
use Rattle.host_session.specs.RetryAfter.{asked_by, delayed, retry_after_in, with_retry_after}
use Rattle.host_session.specs.declared.service.classifier.HostedClassifier.TheVariants.{Own, RetryAfter}
use Rattle.host_session.specs.declared.service.retry_after.RetryAfterClassifier.{RetryAfterClassifier}

-- a forbidden retry is left
forbidden : (d : Option ℕ) → RetryForbidden ≡ delayed d RetryForbidden
forbidden None = refl
forbidden (Some delay) = refl

-- the last one is asked
last : (d : Option ℕ) (v : RetryAction) →
    (if is_forbidden (with_retry_after d v) then RetryForbidden else replaced (with_retry_after d v) v) ≡ delayed d v
last None v = refl
last (Some delay) NoActionIndicated = refl
last (Some delay) (RetryIndicated kind retry_after) = refl
last (Some delay) RetryForbidden = refl

-- one of the client's own is asked, which may end the walk
turn : (d : Option ℕ) (ends : Bool) (all own : RetryAction) → all ≡ delayed d own →
    (if ends then RetryForbidden else all) ≡ delayed d (if ends then RetryForbidden else own)
turn d true all own e = forbidden d
turn d false all own e = e

module _ {C : Type 0} (says : C → InterceptorContext → RetryAction → RetryAction) (context : InterceptorContext) where
  with_one : (x : RetryAfterClassifier) (own : List C) (v : RetryAction) →
      verdict_of (hosted_says says) context (map Own own ++ RetryAfter x ∷ []) v
      ≡ delayed (retry_after_in x context.view.response) (verdict_of says context own v)
  with_one x [] v = last (retry_after_in x context.view.response) v
  with_one x (y ∷ ys) v =
      turn (retry_after_in x context.view.response) (is_forbidden (says y context v))
      (verdict_of (hosted_says says) context (map Own ys ++ RetryAfter x ∷ []) (replaced (says y context v) v))
      (verdict_of says context ys (replaced (says y context v) v)) (with_one x ys (replaced (says y context v) v))

  with_none : (own : List C) (v : RetryAction) →
      verdict_of (hosted_says says) context (map Own own ++ []) v ≡ verdict_of says context own v
  with_none [] v = refl
  with_none (y ∷ ys) v =
      ap (λ r. if is_forbidden (says y context v) then RetryForbidden else r) (with_none ys (replaced (says y context v) v))

  -- a retry has the delay that the response asks for, and any other verdict is left
  pub waits_as_asked : (own : List C) (retry_after : Option RetryAfterClassifier) →
      verdict_of (hosted_says says) context (classifiers_with own retry_after) NoActionIndicated
      ≡ delayed (asked_by retry_after context.view.response) (verdict_of says context own NoActionIndicated)
  waits_as_asked own None = with_none own NoActionIndicated
  waits_as_asked own (Some x) = with_one x own NoActionIndicated
