use Rattle.std.proofs.Common.{map, subst, sym}
use Rattle.cli_fleet.proofs.Printing.{ToldSo, mapped_more, none_told, one_told}
use Rattle.cli_fleet.proofs.print.print_callers.Goals as goal

pub loop-caller-init : goal.loop-caller-init
loop-caller-init g c = none_told c.args.out.now.items

pub loop-caller-preserved : goal.loop-caller-preserved
loop-caller-preserved g c =
    subst (λ s. ToldSo s c.in_ok-number.number c.args.out.now.items c.tell.new.out.items c.in_ok-came.came)
    (sym (mapped_more (λ x. x.state) c.loop-caller.yielded c.in-Some.caller))
    (one_told (map (λ x. x.state) c.loop-caller.yielded) c.in-Some.caller.state c.loop-caller.number c.in_ok-number.number c.args.out.now.items c.loop-caller.out.items c.tell.new.out.items
    c.loop-caller.came c.in_ok-came.came c.in_ok-number.ensures c.loop-caller.invariant c.in_ok-came.ensures)
