-- The names that stand in scripts and prints.
use Rattle.std.specs.Prelude.{ℕ, List, [], ◌∷◌, ◌++◌, map, codes}
use Rattle.smithy_types.specs.declared.config.RetryMode.{RetryMode}
use Rattle.smithy_types.specs.declared.config.RetryMode.TheVariants as modes
use Rattle.smithy_types.specs.declared.config.RetrySpecVersion.{RetrySpecVersion}
use Rattle.smithy_types.specs.declared.config.RetrySpecVersion.TheVariants as versions
use Rattle.smithy_types.specs.declared.config.ReconnectMode.{ReconnectMode}
use Rattle.smithy_types.specs.declared.config.ReconnectMode.TheVariants as reconnects
use Rattle.smithy_types.specs.Hooks.{hook_text, all_hooks}
use Rattle.smithy_types.specs.declared.kinds.ErrorKind.{ErrorKind}
use Rattle.smithy_types.specs.declared.kinds.ErrorKind.TheVariants as errors
use Rattle.smithy_types.specs.declared.kinds.StopPoint.{StopPoint}
use Rattle.smithy_types.specs.declared.kinds.StopPoint.TheVariants as stops
use Rattle.run_grammar.specs.declared.kind.Abandonable.{Abandonable}
use Rattle.run_grammar.specs.declared.kind.Abandonable.TheVariants as abandoned
use Rattle.run_grammar.specs.declared.kind.ConfigureStage.{ConfigureStage}
use Rattle.run_grammar.specs.declared.kind.ConfigureStage.TheVariants as stages
use Rattle.run_grammar.specs.declared.kind.Kind.{Kind}
use Rattle.run_grammar.specs.declared.kind.Kind.TheVariants as kinds
use Rattle.run_grammar.specs.declared.kind.Role.{Role}
use Rattle.run_grammar.specs.declared.kind.Role.TheVariants as roles

-- the name of what a sleep is for
abbrev pub role_text : Role → List ℕ
role_text roles.Operation = codes "Operation"
role_text roles.Attempt = codes "Attempt"
role_text roles.Send = codes "Send"
role_text roles.Retry = codes "Retry"
role_text roles.LongPoll = codes "LongPoll"

-- the name of a step of the configuration
abbrev pub stage_text : ConfigureStage → List ℕ
stage_text stages.Client = codes "Client"
stage_text stages.Operation = codes "Operation"
stage_text stages.Final = codes "Final"

-- the name of what is given up while it is pending
abbrev pub abandoned_text : Abandonable → List ℕ
abandoned_text abandoned.Load = codes "Load"
abandoned_text abandoned.Choose = codes "Choose"
abandoned_text abandoned.Endpoint = codes "Endpoint"
abandoned_text abandoned.Transmit = codes "Transmit"
abandoned_text abandoned.Body = codes "Body"
abandoned_text abandoned.WaitSend = codes "Wait Send"
abandoned_text abandoned.WaitRetry = codes "Wait Retry"
abandoned_text abandoned.WaitLongPoll = codes "Wait LongPoll"

-- what stands before the name of a kind with a part
abbrev pub kind_front : Kind → List ℕ
kind_front (kinds.Configure stage) = codes "Configure "
kind_front (kinds.Hook hook) = codes "Hook "
kind_front (kinds.Start role) = codes "Start "
kind_front (kinds.Wait role) = codes "Wait "
kind_front (kinds.Abandon kind) = codes "Abandon "
kind_front kinds.Serialize = []
kind_front kinds.Load = []
kind_front kinds.Initial = []
kind_front kinds.Choose = []
kind_front kinds.Endpoint = []
kind_front kinds.Apply = []
kind_front kinds.Sign = []
kind_front kinds.Transmit = []
kind_front kinds.Stream = []
kind_front kinds.Body = []
kind_front kinds.Deserialize = []
kind_front kinds.Decide = []
kind_front kinds.Park = []

-- the name of a kind, or that of the part that it has
abbrev pub kind_name : Kind → List ℕ
kind_name (kinds.Configure stage) = stage_text stage
kind_name (kinds.Hook hook) = hook_text hook
kind_name (kinds.Start role) = role_text role
kind_name (kinds.Wait role) = role_text role
kind_name (kinds.Abandon kind) = abandoned_text kind
kind_name kinds.Serialize = codes "Serialize"
kind_name kinds.Load = codes "Load"
kind_name kinds.Initial = codes "Initial"
kind_name kinds.Choose = codes "Choose"
kind_name kinds.Endpoint = codes "Endpoint"
kind_name kinds.Apply = codes "Apply"
kind_name kinds.Sign = codes "Sign"
kind_name kinds.Transmit = codes "Transmit"
kind_name kinds.Stream = codes "Stream"
kind_name kinds.Body = codes "Body"
kind_name kinds.Deserialize = codes "Deserialize"
kind_name kinds.Decide = codes "Decide"
kind_name kinds.Park = codes "Park"

-- the name of a kind of question, as scripts and prints have it
abbrev pub kind_text : Kind → List ℕ
kind_text k = kind_front k ++ kind_name k

-- the name of an error's kind
abbrev pub error_kind_text : ErrorKind → List ℕ
error_kind_text errors.TransientError = codes "TransientError"
error_kind_text errors.ThrottlingError = codes "ThrottlingError"
error_kind_text errors.ServerError = codes "ServerError"
error_kind_text errors.ClientError = codes "ClientError"

-- the name of a stop point
abbrev pub stop_text : StopPoint → List ℕ
stop_text stops.None = codes "None"
stop_text stops.BeforeTransmit = codes "BeforeTransmit"

-- the name of a version of the specification of retries
abbrev pub version_text : RetrySpecVersion → List ℕ
version_text versions.V2_0 = codes "V2_0"
version_text versions.V2_1 = codes "V2_1"

-- the name of a way to pace retries
abbrev pub mode_text : RetryMode → List ℕ
mode_text modes.Standard = codes "Standard"
mode_text modes.Adaptive = codes "Adaptive"

-- the name of what becomes of a connection on which a transient failure came
abbrev pub reconnect_text : ReconnectMode → List ℕ
reconnect_text reconnects.ReconnectOnTransientError = codes "ReconnectOnTransientError"
reconnect_text reconnects.ReuseAllConnections = codes "ReuseAllConnections"

-- ---- all values of each kind

-- every kind of an error
abbrev pub error_kinds : List ErrorKind
error_kinds = errors.TransientError ∷ errors.ThrottlingError ∷ errors.ServerError ∷ errors.ClientError ∷ []

-- every stop point
abbrev pub stop_points : List StopPoint
stop_points = stops.None ∷ stops.BeforeTransmit ∷ []

-- every version of the specification of retries
abbrev pub spec_versions : List RetrySpecVersion
spec_versions = versions.V2_0 ∷ versions.V2_1 ∷ []

-- every way to pace retries
abbrev pub retry_modes : List RetryMode
retry_modes = modes.Standard ∷ modes.Adaptive ∷ []

-- all that may become of a connection on which a transient failure came
abbrev pub reconnect_modes : List ReconnectMode
reconnect_modes = reconnects.ReconnectOnTransientError ∷ reconnects.ReuseAllConnections ∷ []

-- everything that a sleep may be for
abbrev pub all_roles : List Role
all_roles = roles.Operation ∷ roles.Attempt ∷ roles.Send ∷ roles.Retry ∷ roles.LongPoll ∷ []

-- every step of the configuration
abbrev pub all_stages : List ConfigureStage
all_stages = stages.Client ∷ stages.Operation ∷ stages.Final ∷ []

-- everything that may be given up while it is pending
abbrev pub all_abandoned : List Abandonable
all_abandoned =
    abandoned.Load ∷ abandoned.Choose ∷ abandoned.Endpoint ∷ abandoned.Transmit ∷ abandoned.Body ∷ abandoned.WaitSend
    ∷ abandoned.WaitRetry ∷ abandoned.WaitLongPoll ∷ []

-- those without a part
abbrev pub plain_kinds : List Kind
plain_kinds =
    kinds.Serialize ∷ kinds.Load ∷ kinds.Initial ∷ kinds.Choose ∷ kinds.Endpoint ∷ kinds.Apply ∷ kinds.Sign
    ∷ kinds.Transmit ∷ kinds.Stream ∷ kinds.Body
    ∷ kinds.Deserialize ∷ kinds.Decide ∷ kinds.Park ∷ []

-- every kind of question
abbrev pub all_kinds : List Kind
all_kinds =
    map kinds.Configure all_stages ++ map kinds.Hook all_hooks ++ plain_kinds ++ map kinds.Start all_roles
    ++ map kinds.Wait all_roles ++ map kinds.Abandon all_abandoned
