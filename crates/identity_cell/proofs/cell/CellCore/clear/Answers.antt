use Rattle.std.proofs.Common.{◌∙◌, ◌++◌, ◌∷◌, [], ap, arith}
use Rattle.identity_cell.specs.declared.event.Event.TheVariants as event
use Rattle.identity_cell.specs.declared.event.ClearReply.TheVariants as reply
use Rattle.identity_cell.specs.declared.cell.CellState.TheVariants as state
use Rattle.identity_cell.proofs.CellLemmas.{moved_replayed, clear_empty_may, clear_loading_may, clear_expired_may, clear_waited_may, clear_kept_may}
use Rattle.identity_cell.proofs.cell.CellCore.clear.Goals as goal

pub invariant_of-self-in-Empty : goal.invariant_of-self-in-Empty
invariant_of-self-in-Empty g c =
    let i = c.self.inside in
    record {
      replayed = moved_replayed i.buffer i.log.events c.push.new.self.events i.state i.state (event.Clear c.args.now c.has_waited-waited.result reply.None) c.self.invariant.replayed (c.push.ensures.events ∙ ap (λ es. es ++ (event.Clear c.args.now c.has_waited-waited.result reply.None) ∷ []) c.reserve.ensures.events) (clear_empty_may i.buffer _ i.state c.args.now c.has_waited-waited.result c.in-Empty.is);
      room = rw c.in-Empty.is tt;
    }

pub invariant_of-self-in-Loading : goal.invariant_of-self-in-Loading
invariant_of-self-in-Loading g c =
    let i = c.self.inside in
    record {
      replayed = moved_replayed i.buffer i.log.events c.push-in-Loading.new.self.events i.state i.state (event.Clear c.args.now c.has_waited-waited.result reply.NotYet) c.self.invariant.replayed (c.push-in-Loading.ensures.events ∙ ap (λ es. es ++ (event.Clear c.args.now c.has_waited-waited.result reply.NotYet) ∷ []) c.reserve-in-Loading.ensures.events) (clear_loading_may i.buffer _ i.state c.args.now c.has_waited-waited.result _ c.in-Loading.is);
      room = rw c.in-Loading.is (omega (arith, c.in_ok-reserve-in-Loading.ensures.ok, c.push-in-Loading.ensures.room));
    }

pub invariant_of-self-then-is_expired : goal.invariant_of-self-then-is_expired
invariant_of-self-then-is_expired g c =
    let i = c.self.inside in
    record {
      replayed = moved_replayed i.buffer i.log.events c.push-then-is_expired.new.self.events i.state state.Empty (event.Clear c.args.now c.has_waited-waited.result reply.None) c.self.invariant.replayed (c.push-then-is_expired.ensures.events ∙ ap (λ es. es ++ (event.Clear c.args.now c.has_waited-waited.result reply.None) ∷ []) c.reserve-then-is_expired.ensures.events) (clear_expired_may i.buffer _ i.state c.args.now c.has_waited-waited.result _ _ _ c.in-Full.is (rw c.if-is_expired.true at c.is_expired.ensures));
      room = tt;
    }

pub invariant_of-self-then-waited : goal.invariant_of-self-then-waited
invariant_of-self-then-waited g c =
    let i = c.self.inside in
    record {
      replayed = moved_replayed i.buffer i.log.events c.push-then-waited.new.self.events i.state i.state (event.Clear c.args.now c.has_waited-waited.result reply.None) c.self.invariant.replayed (c.push-then-waited.ensures.events ∙ ap (λ es. es ++ (event.Clear c.args.now c.has_waited-waited.result reply.None) ∷ []) c.reserve-then-waited.ensures.events) (clear_waited_may i.buffer _ i.state c.args.now c.has_waited-waited.result _ _ _ c.in-Full.is (rw c.if-is_expired.false at c.is_expired.ensures) c.if-waited.true);
      room = rw c.in-Full.is tt;
    }

pub invariant_of-self-else-waited : goal.invariant_of-self-else-waited
invariant_of-self-else-waited g c =
    let i = c.self.inside in
    record {
      replayed = moved_replayed i.buffer i.log.events c.push-else-waited.new.self.events i.state i.state (event.Clear c.args.now c.has_waited-waited.result reply.Kept) c.self.invariant.replayed (c.push-else-waited.ensures.events ∙ ap (λ es. es ++ (event.Clear c.args.now c.has_waited-waited.result reply.Kept) ∷ []) c.reserve-else-waited.ensures.events) (clear_kept_may i.buffer _ i.state c.args.now c.has_waited-waited.result _ _ _ c.in-Full.is (rw c.if-is_expired.false at c.is_expired.ensures) c.if-waited.false);
      room = rw c.in-Full.is tt;
    }
