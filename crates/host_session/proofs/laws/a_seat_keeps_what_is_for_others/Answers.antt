use Rattle.host_session.proofs.SessionLemmas.{others_stay}
use Rattle.host_session.proofs.laws.a_seat_keeps_what_is_for_others.Goals as goal

pub returns : goal.returns
returns g c = others_stay _
