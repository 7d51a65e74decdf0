-- The interceptors that the builder itself registers.
use Rattle.std.specs.Prelude.{◌≡◌, ◌||◌, ℕ, Bool, List, Some, codes}
use Rattle.body_guard.specs.Protection as guards
use Rattle.client_builder.specs.declared.own_interceptor.OwnInterceptor.{OwnInterceptor}
use Rattle.client_builder.specs.declared.own_interceptor.OwnInterceptor.TheVariants.{TokenBucket, StalledStream}
use Rattle.client_builder.specs.declared.own_interceptor.OwnInterceptor.TheVariants.{ConnectionPoisoning}
use Rattle.client_builder.specs.declared.own_interceptor.OwnInterceptor.TheVariants.{EnforceContentLength}
use Rattle.retry_policy.specs.Interceptors as retries
use Rattle.smithy_context.specs.declared.intercept.HookAnswer.{HookAnswer}
use Rattle.smithy_context.specs.declared.intercept.HookView.{HookView}
use Rattle.smithy_types.specs.declared.hook.Hook.{Hook}
use Rattle.smithy_types.specs.declared.notes.RetryAction.{RetryAction}

-- what each is called
abbrev pub own_names : OwnInterceptor → List ℕ
own_names (TokenBucket one) = codes "TokenBucketProvider"
own_names (StalledStream one) = codes "StalledStreamProtectionInterceptor"
own_names (ConnectionPoisoning one) = codes "ConnectionPoisoningInterceptor"
own_names (EnforceContentLength one) = codes "EnforceContentLength"

-- the hooks that each overrides
abbrev pub own_hooks : OwnInterceptor → Hook → Bool
own_hooks (TokenBucket one) hook = retries.is_before_retry_loop hook
own_hooks (StalledStream one) hook = guards.is_before_transmit hook || guards.is_before_deserialization hook
own_hooks (ConnectionPoisoning one) hook = retries.is_before_transmit hook || retries.is_after_deserialization hook
own_hooks (EnforceContentLength one) hook = guards.is_read_before_transmit hook

-- what a run answers; none changes as it runs
abbrev pub OwnRuns : OwnInterceptor → Hook → HookView → HookAnswer → OwnInterceptor → Type 0
OwnRuns (TokenBucket one) hook view answer new =
    (new ≡ TokenBucket one) × (answer ≡ retries.bucket_answer (retries.is_before_retry_loop hook) one.offered)
OwnRuns (StalledStream one) hook view answer new =
    (new ≡ StalledStream one) × (answer ≡ guards.protection_answer hook one.sleep one.time view)
OwnRuns (ConnectionPoisoning one) hook view answer new =
    (new ≡ ConnectionPoisoning one) × (answer ≡ retries.connection_answer hook one.verdict view)
OwnRuns (EnforceContentLength one) hook view answer new =
    (new ≡ EnforceContentLength one) × (answer ≡ guards.enforcing_answer hook view)

-- an offered bucket is for the provider, and a verdict for the poisoning of connections
abbrev pub own_with_bucket : OwnInterceptor → ℕ → OwnInterceptor
own_with_bucket (TokenBucket one) bucket = TokenBucket (record one { offered = Some bucket })
own_with_bucket (StalledStream one) bucket = StalledStream one
own_with_bucket (ConnectionPoisoning one) bucket = ConnectionPoisoning one
own_with_bucket (EnforceContentLength one) bucket = EnforceContentLength one

-- what the classifiers say is for the poisoning of connections alone
abbrev pub own_with_verdict : OwnInterceptor → RetryAction → OwnInterceptor
own_with_verdict (TokenBucket one) verdict = TokenBucket one
own_with_verdict (StalledStream one) verdict = StalledStream one
own_with_verdict (ConnectionPoisoning one) verdict = ConnectionPoisoning (record one { verdict = verdict })
own_with_verdict (EnforceContentLength one) verdict = EnforceContentLength one
