-- A hook's row is that of the chains below.
use Rattle.std.proofs.Common.{Bool, true, false, cond, List, Option, None, Some, ◌≡◌, refl, ap}
use Rattle.smithy_types.specs.declared.hook.Hook.{Hook}
use Rattle.smithy_context.specs.declared.intercept.Change.{Change}
use Rattle.smithy_context.specs.declared.intercept.Change.TheVariants as changes
use Rattle.smithy_context.specs.declared.layer.LayerEntry.{LayerEntry}
use Rattle.smithy_context.specs.Hooks.{with_change, written, writes_input, writes_request, writes_response, writes_outcome}
use Rattle.smithy_context.specs.Settings.{with_merged}
use Rattle.run_grammar.specs.declared.standing.Standing.{Standing}
use Rattle.run_grammar.specs.Change.{hook_failed, merged_into, with_view, with_input, with_request, with_response, with_outcome, written_by}
use Rattle.run_grammar.specs.HookRow.{HookRow}

merged_view : (h : Hook) (s : Standing) (c : Option Change) (l : List LayerEntry) →
    merged_into (written_by h s c) l ≡ with_view s (record (written h s.context.view c) { settings = with_merged s.context.view.settings l })
merged_view h s None l = refl
merged_view h s (Some (changes.Input p)) l = by_test (writes_input h)
  where
    by_test : (b : Bool) → merged_into (cond b (with_input s p) s) l
        ≡ with_view s (record (with_change s.context.view (cond b (Some (changes.Input p)) None)) { settings = with_merged s.context.view.settings l })
    by_test true = refl
    by_test false = refl
merged_view h s (Some (changes.Request r)) l = by_test (writes_request h)
  where
    by_test : (b : Bool) → merged_into (cond b (with_request s r) s) l
        ≡ with_view s (record (with_change s.context.view (cond b (Some (changes.Request r)) None)) { settings = with_merged s.context.view.settings l })
    by_test true = refl
    by_test false = refl
merged_view h s (Some (changes.Response r)) l = by_test (writes_response h)
  where
    by_test : (b : Bool) → merged_into (cond b (with_response s r) s) l
        ≡ with_view s (record (with_change s.context.view (cond b (Some (changes.Response r)) None)) { settings = with_merged s.context.view.settings l })
    by_test true = refl
    by_test false = refl
merged_view h s (Some (changes.Outcome o)) l = by_test (writes_outcome h)
  where
    by_test : (b : Bool) → merged_into (cond b (with_outcome s o) s) l
        ≡ with_view s (record (with_change s.context.view (cond b (Some (changes.Outcome o)) None)) { settings = with_merged s.context.view.settings l })
    by_test true = refl
    by_test false = refl

pub hook_row : HookRow
hook_row h s a = ap (λ t. hook_failed h t a.failure) (merged_view h s a.change a.settings)
