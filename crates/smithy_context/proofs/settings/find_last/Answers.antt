use Rattle.std.proofs.Common.{ap, sym, ◌∙◌, option_copied}
use Rattle.smithy_context.specs.Layer.{entry_at}
use Rattle.smithy_context.proofs.SettingsLemmas.{passed_over, found_in}
use Rattle.smithy_context.proofs.settings.find_last.Goals as goal

pub returns-in-Some-find : goal.returns-in-Some-find
returns-in-Some-find c =
    found_in c.loop-last.rest.now c.in-Some.below.now c.in-Some.last.now c.args.key.now _ c.in-Some-find.entry.now c.in-Some.ensures.cases.0 c.loop-last.invariant
    (ap (λ l. entry_at l c.args.key.now) (sym c.get.ensures) ∙ sym c.in-Some-find.ensures)

pub loop-last-preserved : goal.loop-last-preserved
loop-last-preserved c =
    passed_over c.loop-last.rest.now c.in-Some.below.now c.in-Some.last.now c.args.key.now _ c.in-Some.ensures.cases.0 c.loop-last.invariant
    (ap (λ l. entry_at l c.args.key.now) (sym c.get.ensures) ∙ sym c.in_default-find.ensures)
