use Rattle.std.proofs.Common.{sym}
use Rattle.json_forms.proofs.Found.{view_found}
use Rattle.json_forms.proofs.read.optional_member.Goals as goal

pub returns : goal.returns
returns c = sym (view_found c.args.name.now c.args.value.now c.get.result c.get.ensures)
