use Rattle.host_session.proofs.Meeting.{drives, is_over, is_waiting}
use Rattle.host_session.proofs.seat.Seat.drive.Goals as goal

pub end-requires : goal.end-requires
end-requires g c = c.in_ok-is_over.ensures.over c.if-is_over.true

pub returns-in_ok-end : goal.returns-in_ok-end
returns-in_ok-end g c =
    is_over _ c.args.run _ c.args.self.now.world c.go_on.new.world c.args.self.now.terms c.end.new.self c.args.out.now.items c.end.new.out.items
    (drives _ c.args.self.now.world c.go_on.new.world c.args.run c.go_on.new.self c.in_ok-is_over.ensures.goes c.in_ok-is_over.ensures.fuel c.in_ok-is_over.ensures.related
    c.in_ok-is_over.ensures.stretches)
    (c.in_ok-is_over.ensures.through c.if-is_over.true) c.in_ok-end.ensures

pub returns-in_ok-wait : goal.returns-in_ok-wait
returns-in_ok-wait g c =
    is_waiting _ c.args.run _ c.args.self.now.world c.go_on.new.world c.args.self.now.terms c.wait.new.self c.args.out.now.items c.wait.new.out.items
    (drives _ c.args.self.now.world c.go_on.new.world c.args.run c.go_on.new.self c.in_ok-is_over.ensures.goes c.in_ok-is_over.ensures.fuel c.in_ok-is_over.ensures.related
    c.in_ok-is_over.ensures.stretches)
    (c.in_ok-is_over.ensures.waits c.if-is_over.false) c.in_ok-wait.ensures
