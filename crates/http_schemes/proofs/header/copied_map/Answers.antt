use Rattle.std.proofs.Common.{◌∙◌, sym}
use Rattle.http_schemes.proofs.HeaderSet.{empty_unless}
use Rattle.http_schemes.proofs.header.copied_map.Goals as goal

pub returns-in-None : goal.returns-in-None
returns-in-None c = c.new.ensures ∙ sym (empty_unless c.args.headers.now c.in-None.ensures.found)
