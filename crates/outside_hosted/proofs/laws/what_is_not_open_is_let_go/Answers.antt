use Rattle.std.proofs.Common.{ap}
use Rattle.outside_hosted.proofs.LettingLemmas.{frame_let_go, load_let_go, reply_let_go}
use Rattle.outside_hosted.proofs.laws.what_is_not_open_is_let_go.Goals as goal

pub returns-clause-reply : goal.returns-clause-reply
returns-clause-reply c old call come other = ap (λ standing. record old { call = standing }) (reply_let_go call come old.call other)

pub returns-clause-frame : goal.returns-clause-frame
returns-clause-frame c old call frame other = ap (λ standing. record old { call = standing }) (frame_let_go call frame old.call other)

pub returns-clause-load : goal.returns-clause-load
returns-clause-load c old id come other = ap (λ standing. record old { load = standing }) (load_let_go id come old.load other)
