use Rattle.std.proofs.Common.{◌∙◌, ℕ, List, Bor}
use Rattle.json_scripts.proofs.Among.{among_named}
use Rattle.json_scripts.proofs.members.is_among.Goals as goal

pub returns : goal.returns
returns c = c.is_one_of.ensures ∙ among_named (λ (n : Bor (List ℕ)). n.now) c.args.word.now c.args.names.now
