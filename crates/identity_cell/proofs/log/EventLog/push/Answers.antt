use Rattle.std.proofs.Common.{ap, ◌∙◌, arith}
use Rattle.identity_cell.specs.History.{begun_in}
use Rattle.identity_cell.proofs.HistoryLemmas.{begun_in-append, begun_in-le}
use Rattle.identity_cell.proofs.log.EventLog.push.Goals as goal

pub overflow_add-self : goal.overflow_add-self
overflow_add-self c =
    let counted = ap begun_in c.push_reserved.ensures.items ∙ begun_in-append c.self.inside.events.items c.args.event in
    omega (arith, c.self.invariant, counted, begun_in-le c.push_reserved.new.self.items, c.loads_begun.ensures, c.len-count.ensures, c.len-count.type_inv)

pub invariant_of-self : goal.invariant_of-self
invariant_of-self c =
    let counted = ap begun_in c.push_reserved.ensures.items ∙ begun_in-append c.self.inside.events.items c.args.event in
    omega (arith, c.self.invariant, counted, c.loads_begun.ensures)
