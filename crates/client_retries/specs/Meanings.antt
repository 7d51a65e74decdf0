-- What the types of a client mean: its quota with its permits and limiters, and its interceptors.
use Rattle.std.specs.Prelude.{ℕ, Bool, List}
use Rattle.retry_quota.specs.Calls.{Limiters}
use Rattle.retry_quota.specs.Meaning.{Meaning}
use Rattle.smithy_context.specs.declared.intercept.HookAnswer.{HookAnswer}
use Rattle.smithy_context.specs.declared.intercept.HookView.{HookView}
use Rattle.smithy_types.specs.declared.hook.Hook.{Hook}
use Rattle.smithy_types.specs.declared.notes.RetryAction.{RetryAction}

-- Q is a quota, P a permit of it and L a limiter
pub record QuotaMeans (Q P L : Type 0) : Type 0 where
  pub meaning : Q → Meaning L
  pub permit_bucket : P → ℕ
  pub permit_amount : P → ℕ
  pub limiters : Limiters L

-- I is an interceptor; an offer makes another of it
pub record InterceptorMeans (I : Type 0) : Type 1 where
  pub names : I → List ℕ
  pub hooks : I → Hook → Bool
  pub runs : I → Hook → HookView → HookAnswer → I → Type 0
  pub with_bucket : I → ℕ → I
  pub with_verdict : I → RetryAction → I
