use Rattle.run_grammar.proofs.Sendings.{transmits_have_requests}
use Rattle.run_grammar.proofs.laws.transmits_have_requests.Goals as goal

pub returns : goal.returns
returns c = transmits_have_requests
