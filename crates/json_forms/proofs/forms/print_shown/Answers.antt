use Rattle.json_forms.proofs.Shown.{shown_text}
use Rattle.json_forms.proofs.forms.print_shown.Goals as goal

pub unreachable-requires : goal.unreachable-requires
unreachable-requires c = c.in-Err.ensures.cases.0 (shown_text c.args.bytes.now c.requires)
