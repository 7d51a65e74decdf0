-- What the two interceptors of retries set.
use Rattle.std.specs.Prelude.{ℕ, Bool, true, false, not, ◌&&◌, if◌then◌else◌, List, [], ◌∷◌, Option, None, Some}
use Rattle.smithy_context.specs.Layer.{entry}
use Rattle.smithy_context.specs.Setting.{key_of}
use Rattle.smithy_context.specs.declared.intercept.HookAnswer.{HookAnswer}
use Rattle.smithy_context.specs.declared.intercept.HookView.{HookView}
use Rattle.smithy_context.specs.declared.setting.Setting.{Setting}
use Rattle.smithy_context.specs.declared.setting.Setting.TheVariants as set
use Rattle.smithy_types.specs.declared.config.ReconnectMode.{ReconnectMode}
use Rattle.smithy_types.specs.declared.config.ReconnectMode.TheVariants.{ReconnectOnTransientError, ReuseAllConnections}
use Rattle.smithy_types.specs.declared.config.RetryConfig.{RetryConfig}
use Rattle.smithy_types.specs.declared.hook.Hook.{Hook}
use Rattle.smithy_types.specs.declared.hook.Hook.TheVariants as hooks
use Rattle.smithy_types.specs.declared.kinds.ErrorKind.{ErrorKind}
use Rattle.smithy_types.specs.declared.kinds.ErrorKind.TheVariants.{TransientError}
use Rattle.smithy_types.specs.declared.notes.RetryAction.{RetryAction}
use Rattle.smithy_types.specs.declared.notes.RetryAction.TheVariants.{RetryIndicated}
use Rattle.retry_policy.specs.Backoff.{is_v2_1}
use Rattle.retry_policy.specs.Standing.{standing_retry}

-- a hook's answer that changes nothing, sets nothing and doesn't fail
abbrev pub nothing_set : HookAnswer
nothing_set = record { change = None; settings = []; failure = None }

-- this setting alone
abbrev pub sets : Setting → HookAnswer
sets setting = record { change = None; settings = entry (key_of setting) (Some setting) ∷ []; failure = None }

-- the hook in which the bucket's number is set
abbrev pub is_before_retry_loop : Hook → Bool
is_before_retry_loop hooks.ModifyBeforeRetryLoop = true
is_before_retry_loop _ = false

-- the hook in which the connection is captured
abbrev pub is_before_transmit : Hook → Bool
is_before_transmit hooks.ModifyBeforeTransmit = true
is_before_transmit _ = false

-- the hook in which the connection may be given up
abbrev pub is_after_deserialization : Hook → Bool
is_after_deserialization hooks.ReadAfterDeserialization = true
is_after_deserialization _ = false

-- the number that was offered last, before the retry loop
abbrev pub bucket_answer : Bool → Option ℕ → HookAnswer
bucket_answer true (Some bucket) = sets (set.Bucket bucket)
bucket_answer true None = nothing_set
bucket_answer false offered = nothing_set

-- a transient retry without a delay of the service's
abbrev pub is_plain_transient : RetryAction → Bool
is_plain_transient (RetryIndicated TransientError None) = true
is_plain_transient _ = false

-- whether the mode asks for another connection after a transient failure
abbrev pub is_reconnecting : ReconnectMode → Bool
is_reconnecting ReconnectOnTransientError = true
is_reconnecting ReuseAllConnections = false

-- whether a connection isn't used again after a transient failure; under version 2.1 it is
abbrev pub reconnects : Option RetryConfig → Bool
reconnects None = true
reconnects (Some retry) = is_reconnecting retry.reconnect && not (is_v2_1 retry.spec)

-- whether the verdict has the connection given up, so that no later request uses it
abbrev pub poisons : RetryAction → Option RetryConfig → Bool
poisons verdict retry = is_plain_transient verdict && reconnects retry

-- before it transmits an attempt captures its connection; once its response is read the connection may be given up
abbrev pub connection_answer : Hook → RetryAction → HookView → HookAnswer
connection_answer hook verdict view =
    if is_before_transmit hook then sets (set.Capture view.attempt)
    else if is_after_deserialization hook && poisons verdict (standing_retry view.settings)
    then sets (set.Poisoned view.attempt)
    else nothing_set
