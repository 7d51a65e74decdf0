use Rattle.json_print.proofs.Transmits.{transmits_show_requests}
use Rattle.json_print.proofs.laws.transmits_show_their_request.Goals as goal

pub returns : goal.returns
returns c = transmits_show_requests
