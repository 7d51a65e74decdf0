use Rattle.std.proofs.Common.{◌∙◌, sym}
use Rattle.auth_endpoint.proofs.WalkLemmas.{empty_unless}
use Rattle.auth_endpoint.proofs.headers.copied_map.Goals as goal

pub returns-in-None : goal.returns-in-None
returns-in-None c = c.new.ensures ∙ sym (empty_unless c.args.headers.now c.in-None.ensures.found)
