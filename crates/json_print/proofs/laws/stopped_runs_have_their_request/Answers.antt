use Rattle.json_print.proofs.Stopped.{stopped_with_request}
use Rattle.json_print.proofs.laws.stopped_runs_have_their_request.Goals as goal

pub returns : goal.returns
returns c = stopped_with_request
