use Rattle.host_session.proofs.Meeting.{starts}
use Rattle.host_session.proofs.seat.Seat.started.Goals as goal

pub returns : goal.returns
returns g c =
    starts c.args.invocation c.args.self.now.terms c.in_ok-clone.field-0 c.in_ok-driven.driven c.in_ok-clone.ensures.cases
    c.in_ok-driven.ensures.fuel c.in_ok-driven.ensures.goes
