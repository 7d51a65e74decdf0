use Rattle.auth_endpoint.proofs.Lawful.{not_both}
use Rattle.auth_endpoint.proofs.laws.what_is_chosen_was_not_refused.Goals as goal

pub returns : goal.returns
returns c = not_both
