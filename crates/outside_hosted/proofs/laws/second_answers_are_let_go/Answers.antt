use Rattle.std.proofs.Common.{ap}
use Rattle.outside_hosted.proofs.LettingLemmas.{answer_again, reply_again}
use Rattle.outside_hosted.proofs.laws.second_answers_are_let_go.Goals as goal

pub returns-clause-reply : goal.returns-clause-reply
returns-clause-reply c old call come later = ap (λ standing. record old { call = standing }) (reply_again call come later old.call)

pub returns-clause-load : goal.returns-clause-load
returns-clause-load c old id come later = ap (λ standing. record old { load = standing }) (answer_again id come later old.load)
