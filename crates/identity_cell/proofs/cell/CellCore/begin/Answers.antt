use Rattle.std.proofs.Common.{◌∙◌, ◌++◌, ◌∷◌, [], ap, arith}
use Rattle.identity_cell.specs.declared.event.Event.TheVariants as event
use Rattle.identity_cell.specs.declared.cell.CellState.TheVariants as state
use Rattle.identity_cell.specs.History.{begun_in}
use Rattle.identity_cell.proofs.CellLemmas.{moved_replayed, begin_may, hit_may, wait_may}
use Rattle.identity_cell.proofs.cell.CellCore.begin.Goals as goal

pub invariant_of-self-in-Empty : goal.invariant_of-self-in-Empty
invariant_of-self-in-Empty g c =
    let i = c.self.inside in
    record {
      replayed = moved_replayed i.buffer i.log.events c.push.new.self.events i.state (state.Loading c.begun-ticket.result) (event.Begin c.begun-ticket.result) c.self.invariant.replayed (c.push.ensures.events ∙ ap (λ es. es ++ (event.Begin c.begun-ticket.result) ∷ []) c.reserve.ensures.events) (begin_may i.buffer i.log.events i.state c.begun-ticket.result c.in-Empty.is (c.begun-ticket.ensures ∙ ap begun_in c.reserve.ensures.events));
      room = omega (arith, c.in_ok-reserve-in-Empty.ensures.ok, c.push.ensures.room);
    }

pub invariant_of-self-in-Loading : goal.invariant_of-self-in-Loading
invariant_of-self-in-Loading g c =
    let i = c.self.inside in
    record {
      replayed = moved_replayed i.buffer i.log.events c.push-in-Loading.new.self.events i.state i.state event.Wait c.self.invariant.replayed (c.push-in-Loading.ensures.events ∙ ap (λ es. es ++ event.Wait ∷ []) c.reserve-in-Loading.ensures.events) (wait_may i.buffer _ i.state _ c.in-Loading.is);
      room = rw c.in-Loading.is (omega (arith, c.in_ok-reserve-in-Loading.ensures.ok, c.push-in-Loading.ensures.room));
    }

pub invariant_of-self-in-Full : goal.invariant_of-self-in-Full
invariant_of-self-in-Full g c =
    let i = c.self.inside in
    record {
      replayed = moved_replayed i.buffer i.log.events c.push-in-Full.new.self.events i.state i.state (event.Hit c.in-Full.ticket) c.self.invariant.replayed (c.push-in-Full.ensures.events ∙ ap (λ es. es ++ (event.Hit c.in-Full.ticket) ∷ []) c.reserve-in-Full.ensures.events) (hit_may i.buffer _ i.state c.in-Full.ticket _ _ c.in-Full.is);
      room = rw c.in-Full.is tt;
    }
