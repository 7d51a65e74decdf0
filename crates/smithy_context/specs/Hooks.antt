-- What a hook may write, and what it leaves to see.
use Rattle.std.specs.Prelude.{Bool, true, false, Option, None, Some, cond, option_and_then}
use Rattle.smithy_types.specs.declared.hook.Hook.{Hook}
use Rattle.smithy_types.specs.declared.hook.Hook.TheVariants as hooks
use Rattle.smithy_context.specs.declared.intercept.Change.{Change}
use Rattle.smithy_context.specs.declared.intercept.Change.TheVariants as changes
use Rattle.smithy_context.specs.declared.intercept.HookAnswer.{HookAnswer}
use Rattle.smithy_context.specs.declared.intercept.HookView.{HookView}
use Rattle.smithy_context.specs.Settings.{with_merged}

-- the one hook that may write the input
abbrev pub writes_input : Hook → Bool
writes_input hooks.ModifyBeforeSerialization = true
writes_input _ = false

-- the hooks that may write the request
abbrev pub writes_request : Hook → Bool
writes_request hooks.ModifyBeforeRetryLoop = true
writes_request hooks.ModifyBeforeSigning = true
writes_request hooks.ModifyBeforeTransmit = true
writes_request _ = false

-- the one hook that may write the response
abbrev pub writes_response : Hook → Bool
writes_response hooks.ModifyBeforeDeserialization = true
writes_response _ = false

-- the hooks that may write the outcome
abbrev pub writes_outcome : Hook → Bool
writes_outcome hooks.ModifyBeforeAttemptCompletion = true
writes_outcome hooks.ModifyBeforeCompletion = true
writes_outcome _ = false

-- the changes that a hook may make
abbrev pub may_write : Hook → Change → Bool
may_write h (changes.Input p) = writes_input h
may_write h (changes.Request r) = writes_request h
may_write h (changes.Response r) = writes_response h
may_write h (changes.Outcome o) = writes_outcome h

-- a change that its hook may make, and none otherwise
abbrev pub allowed : Hook → Option Change → Option Change
allowed h None = None
allowed h (Some c) = cond (may_write h c) (Some c) None

-- the view with a change made
abbrev pub with_change : HookView → Option Change → HookView
with_change v None = v
with_change v (Some (changes.Input p)) = record v { input = Some p }
with_change v (Some (changes.Request r)) = record v { request = Some r }
with_change v (Some (changes.Response r)) = record v { response = Some r }
with_change v (Some (changes.Outcome o)) = record v { outcome = Some o }

-- the view with the change that the hook may make
abbrev pub written : Hook → HookView → Option Change → HookView
written h v c = with_change v (allowed h c)

-- what is seen after a hook's answer: the change that it may make, and its layer merged
abbrev pub seen_after : Hook → HookView → HookAnswer → HookView
seen_after h v a = record (written h v a.change) { settings = with_merged v.settings a.settings }
