-- Names that are printed are read again.
use Rattle.std.proofs.Common.{◌≡◌, Some, refl}
use Rattle.serde_json.specs.Data.{string}
use Rattle.smithy_types.specs.declared.config.ReconnectMode.{ReconnectMode}
use Rattle.smithy_types.specs.declared.config.ReconnectMode.TheVariants as reconnects
use Rattle.smithy_types.specs.declared.config.RetryMode.{RetryMode}
use Rattle.smithy_types.specs.declared.config.RetryMode.TheVariants as modes
use Rattle.smithy_types.specs.declared.hook.Hook.{Hook}
use Rattle.smithy_types.specs.declared.hook.Hook.TheVariants as hooks
use Rattle.smithy_types.specs.declared.kinds.ErrorKind.{ErrorKind}
use Rattle.smithy_types.specs.declared.kinds.ErrorKind.TheVariants as errors
use Rattle.run_grammar.specs.declared.kind.Abandonable.{Abandonable}
use Rattle.run_grammar.specs.declared.kind.Abandonable.TheVariants as abandoned
use Rattle.run_grammar.specs.declared.kind.ConfigureStage.{ConfigureStage}
use Rattle.run_grammar.specs.declared.kind.ConfigureStage.TheVariants as stages
use Rattle.run_grammar.specs.declared.kind.Kind.{Kind}
use Rattle.run_grammar.specs.declared.kind.Kind.TheVariants as kinds
use Rattle.run_grammar.specs.declared.kind.Role.{Role}
use Rattle.run_grammar.specs.declared.kind.Role.TheVariants as roles
use Rattle.json_values.specs.AnswerReadings.{kind_at}
use Rattle.json_values.specs.Names.{mode_text, reconnect_text}
use Rattle.json_values.specs.Readings.{error_kind_at}
use Rattle.json_values.specs.SettingForms.{mode_at, reconnect_at}
use Rattle.json_values.specs.Values.{error_kind_data, kind_data}

pub error_kind_read : (k : ErrorKind) → error_kind_at (error_kind_data k) ≡ Some k
unfolding error_kind_at error_kind_data
error_kind_read errors.TransientError = refl
error_kind_read errors.ThrottlingError = refl
error_kind_read errors.ServerError = refl
error_kind_read errors.ClientError = refl

pub mode_read : (m : RetryMode) → mode_at (string (mode_text m)) ≡ Some m
unfolding mode_at
mode_read modes.Standard = refl
mode_read modes.Adaptive = refl

pub reconnect_read : (m : ReconnectMode) → reconnect_at (string (reconnect_text m)) ≡ Some m
unfolding reconnect_at
reconnect_read reconnects.ReconnectOnTransientError = refl
reconnect_read reconnects.ReuseAllConnections = refl

-- ---- kinds

stage_read : (s : ConfigureStage) → kind_at (kind_data (kinds.Configure s)) ≡ Some (kinds.Configure s)
unfolding kind_at kind_data
stage_read stages.Client = refl
stage_read stages.Operation = refl
stage_read stages.Final = refl

hook_read : (h : Hook) → kind_at (kind_data (kinds.Hook h)) ≡ Some (kinds.Hook h)
unfolding kind_at kind_data
hook_read hooks.ReadBeforeExecutionClient = refl
hook_read _ = refl

start_read : (r : Role) → kind_at (kind_data (kinds.Start r)) ≡ Some (kinds.Start r)
unfolding kind_at kind_data
start_read roles.Operation = refl
start_read roles.Attempt = refl
start_read roles.Send = refl
start_read roles.Retry = refl
start_read roles.LongPoll = refl

wait_read : (r : Role) → kind_at (kind_data (kinds.Wait r)) ≡ Some (kinds.Wait r)
unfolding kind_at kind_data
wait_read roles.Operation = refl
wait_read roles.Attempt = refl
wait_read roles.Send = refl
wait_read roles.Retry = refl
wait_read roles.LongPoll = refl

abandon_read : (a : Abandonable) → kind_at (kind_data (kinds.Abandon a)) ≡ Some (kinds.Abandon a)
unfolding kind_at kind_data
abandon_read abandoned.Load = refl
abandon_read abandoned.Choose = refl
abandon_read abandoned.Endpoint = refl
abandon_read abandoned.Transmit = refl
abandon_read abandoned.Body = refl
abandon_read abandoned.WaitSend = refl
abandon_read abandoned.WaitRetry = refl
abandon_read abandoned.WaitLongPoll = refl

pub kind_read : (k : Kind) → kind_at (kind_data k) ≡ Some k
unfolding kind_at kind_data
kind_read (kinds.Configure s) = stage_read s
kind_read (kinds.Hook h) = hook_read h
kind_read (kinds.Start r) = start_read r
kind_read (kinds.Wait r) = wait_read r
kind_read (kinds.Abandon a) = abandon_read a
kind_read kinds.Serialize = refl
kind_read kinds.Load = refl
kind_read kinds.Initial = refl
kind_read kinds.Choose = refl
kind_read kinds.Endpoint = refl
kind_read kinds.Apply = refl
kind_read kinds.Sign = refl
kind_read kinds.Transmit = refl
kind_read kinds.Stream = refl
kind_read kinds.Body = refl
kind_read kinds.Deserialize = refl
kind_read kinds.Decide = refl
kind_read kinds.Park = refl
