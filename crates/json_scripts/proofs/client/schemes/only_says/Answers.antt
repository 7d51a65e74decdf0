use Rattle.std.proofs.Common.{sym}
use Rattle.json_scripts.proofs.client.Alone.{not_alone}
use Rattle.json_scripts.proofs.client.schemes.only_says.Goals as goal

pub returns-then-items-ne1 : goal.returns-then-items-ne1
returns-then-items-ne1 c = sym (not_alone c.args.word.now c.args.items.now c.if-items-ne1.true)
