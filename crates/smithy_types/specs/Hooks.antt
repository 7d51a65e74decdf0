-- The names of hooks, and where they are called.
use Rattle.std.specs.Prelude.{ℕ, Bool, true, false, List, [], ◌∷◌, ◌++◌, codes}
use Rattle.smithy_types.specs.declared.hook.Hook.{Hook}
use Rattle.smithy_types.specs.declared.hook.Hook.TheVariants as hooks
use Rattle.smithy_types.specs.declared.hook.RunPart.{RunPart}
use Rattle.smithy_types.specs.declared.hook.RunPart.TheVariants as parts

-- the table of hooks: each one's name in scripts and prints, and the part of a run in which it is called
abbrev pub hook_row : Hook → List ℕ × RunPart
hook_row hooks.ReadBeforeExecutionClient = (codes "read_before_execution client", parts.Configuration)
hook_row hooks.ReadBeforeExecutionOperation = (codes "read_before_execution operation", parts.Configuration)
hook_row hooks.ModifyBeforeSerialization = (codes "modify_before_serialization", parts.Front)
hook_row hooks.ReadBeforeSerialization = (codes "read_before_serialization", parts.Front)
hook_row hooks.ReadAfterSerialization = (codes "read_after_serialization", parts.Front)
hook_row hooks.ModifyBeforeRetryLoop = (codes "modify_before_retry_loop", parts.Front)
hook_row hooks.ReadBeforeAttempt = (codes "read_before_attempt", parts.Attempt)
hook_row hooks.ModifyBeforeSigning = (codes "modify_before_signing", parts.Attempt)
hook_row hooks.ReadBeforeSigning = (codes "read_before_signing", parts.Attempt)
hook_row hooks.ReadAfterSigning = (codes "read_after_signing", parts.Attempt)
hook_row hooks.ModifyBeforeTransmit = (codes "modify_before_transmit", parts.Attempt)
hook_row hooks.ReadBeforeTransmit = (codes "read_before_transmit", parts.Attempt)
hook_row hooks.ReadAfterTransmit = (codes "read_after_transmit", parts.Attempt)
hook_row hooks.ModifyBeforeDeserialization = (codes "modify_before_deserialization", parts.Attempt)
hook_row hooks.ReadBeforeDeserialization = (codes "read_before_deserialization", parts.Attempt)
hook_row hooks.ReadAfterDeserialization = (codes "read_after_deserialization", parts.Attempt)
hook_row hooks.ModifyBeforeAttemptCompletion = (codes "modify_before_attempt_completion", parts.Settle)
hook_row hooks.ReadAfterAttempt = (codes "read_after_attempt", parts.Settle)
hook_row hooks.ModifyBeforeCompletion = (codes "modify_before_completion", parts.Finish)
hook_row hooks.ReadAfterExecution = (codes "read_after_execution", parts.Finish)

-- a hook's name in scripts and prints
abbrev pub hook_text : Hook → List ℕ
hook_text h = (hook_row h).0

-- the question that is asked at a hook, as scripts and prints name it
abbrev pub hook_title : Hook → List ℕ
hook_title h = codes "Hook " ++ hook_text h

-- the part of a run in which a hook is called
abbrev pub part_of : Hook → RunPart
part_of h = (hook_row h).1

-- whether the attempt's deadline is asked in a part
abbrev pub of_attempt : RunPart → Bool
of_attempt parts.Attempt = true
of_attempt _ = false

-- whether the operation's deadline is asked in a part
abbrev pub of_operation : RunPart → Bool
of_operation parts.Configuration = false
of_operation parts.Finish = false
of_operation _ = true

-- each hook, in the order in which a run without a retry calls them
abbrev pub all_hooks : List Hook
all_hooks =
    hooks.ReadBeforeExecutionClient ∷ hooks.ReadBeforeExecutionOperation ∷ hooks.ModifyBeforeSerialization
    ∷ hooks.ReadBeforeSerialization ∷ hooks.ReadAfterSerialization ∷ hooks.ModifyBeforeRetryLoop
    ∷ hooks.ReadBeforeAttempt ∷ hooks.ModifyBeforeSigning ∷ hooks.ReadBeforeSigning ∷ hooks.ReadAfterSigning
    ∷ hooks.ModifyBeforeTransmit ∷ hooks.ReadBeforeTransmit ∷ hooks.ReadAfterTransmit
    ∷ hooks.ModifyBeforeDeserialization ∷ hooks.ReadBeforeDeserialization ∷ hooks.ReadAfterDeserialization
    ∷ hooks.ModifyBeforeAttemptCompletion ∷ hooks.ReadAfterAttempt ∷ hooks.ModifyBeforeCompletion
    ∷ hooks.ReadAfterExecution ∷ []
