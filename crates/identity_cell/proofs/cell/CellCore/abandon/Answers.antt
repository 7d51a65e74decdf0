use Rattle.std.proofs.Common.{◌∙◌, ap, sym, Some, None}
use Rattle.identity_cell.specs.declared.event.Event.TheVariants as event
use Rattle.identity_cell.specs.Cell.{is_open}
use Rattle.identity_cell.specs.History.{Empty}
use Rattle.identity_cell.proofs.CellLemmas.{end_replayed, same_ticket}
use Rattle.identity_cell.proofs.cell.CellCore.abandon.Goals as goal

pub invariant_of-self-then-is_open-2 : goal.invariant_of-self-then-is_open-2
invariant_of-self-then-is_open-2 g c =
    let i = c.self.inside in
    let is_its_load = ap (λ s. is_open s.state c.args.ticket) c.self.view_is ∙ sym c.is_open.ensures ∙ c.if-is_open.true in
    record {
      replayed = end_replayed i.buffer i.log.events c.push.new.self.events i.state c.args.ticket (event.Dropped c.args.ticket) Empty is_its_load c.self.invariant.replayed c.push.ensures.events (same_ticket c.args.ticket (Some Empty) None);
      room = tt;
    }
