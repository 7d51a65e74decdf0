-- A walk over a chain: what is seen, and what was answered so far.
use Rattle.std.specs.Prelude.{List, [], ◌∷◌}
use Rattle.smithy_types.specs.declared.hook.Hook.{Hook}
use Rattle.smithy_context.specs.declared.intercept.HookAnswer.{HookAnswer}
use Rattle.smithy_context.specs.Hooks.{allowed, seen_after}
use Rattle.smithy_context.specs.Layer.{merged}
use Rattle.smithy_context.specs.Settings.{or_else}
use Rattle.smithy_base.specs.declared.walk.Walk.{Walk}

-- an answer with a later one
abbrev pub answered_too : Hook → HookAnswer → HookAnswer → HookAnswer
answered_too h before a = record {
  change = or_else (allowed h a.change) before.change;
  settings = merged before.settings a.settings;
  failure = or_else a.failure before.failure;
}

-- the walk with one more answer
abbrev pub noted : Hook → Walk → HookAnswer → Walk
noted h w a = record { view = seen_after h w.view a; answer = answered_too h w.answer a }

-- and with these answers
abbrev pub all_noted : Hook → Walk → List HookAnswer → Walk
all_noted h w [] = w
all_noted h w (a ∷ given) = all_noted h (noted h w a) given
