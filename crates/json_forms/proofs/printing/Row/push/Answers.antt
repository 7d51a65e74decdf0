use Rattle.json_forms.proofs.NoFloat.{no_float-after}
use Rattle.json_forms.proofs.printing.Row.push.Goals as goal

pub invariant_of-self : goal.invariant_of-self
invariant_of-self c = record { no_float = no_float-after _ c.args.self.now.values.items _ c.into_value.result c.push.ensures.items c.args.self.now.no_float c.into_value.ensures.no_float }
