use Rattle.body_guard.proofs.RunLemmas.{judged_pending}
use Rattle.body_guard.proofs.laws.a_stall_is_no_pending.Goals as goal

pub returns : goal.returns
returns g c sleeps old new inner calls judged = judged_pending sleeps old new inner calls judged
