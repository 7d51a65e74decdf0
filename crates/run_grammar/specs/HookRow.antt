-- The row of hooks by what a hook shows the next interceptor of its chain.
use Rattle.std.specs.Prelude.{◌≡◌}
use Rattle.smithy_types.specs.declared.hook.Hook.{Hook}
use Rattle.smithy_context.specs.declared.intercept.HookAnswer.{HookAnswer}
use Rattle.smithy_context.specs.Hooks.{seen_after}
use Rattle.run_grammar.specs.declared.standing.Standing.{Standing}
use Rattle.run_grammar.specs.Change.{hooked_by, hook_failed, with_view}

-- a hook leaves what the next interceptor sees after it, and its failure as the outcome
abbrev pub HookRow : Type 0
HookRow =
    (h : Hook) (s : Standing) (a : HookAnswer) →
    hooked_by h s a ≡ hook_failed h (with_view s (seen_after h s.context.view a)) a.failure
