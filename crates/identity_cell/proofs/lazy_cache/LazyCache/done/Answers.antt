use Rattle.std.proofs.Common.{ap, sym, ◌∙◌, subst}
use Rattle.std.specs.Option.{option_copied_mut}
use Rattle.identity_cell.specs.declared.cell.CellState.TheVariants as state
use Rattle.identity_cell.specs.declared.event.Event.TheVariants as event
use Rattle.identity_cell.specs.Cell.{after_end}
use Rattle.identity_cell.specs.LazyCache.{HaveBuffer, is_id}
use Rattle.identity_cell.specs.contracts.lazy_cache.LazyCache.{the_view}
use Rattle.identity_cell.proofs.LazyLemmas.{at_cell, at_none, written_buffer, end_buffer}
use Rattle.identity_cell.proofs.lazy_cache.LazyCache.done.Goals as goal
use Rattle.identity_cell.proofs.lazy_cache.LazyCache.done.Goals.{in-Some, in_default}

pub invariant_of-self : goal.invariant_of-self
invariant_of-self c =
    let i = c.self.inside in
    elim c.match-get_mut.branch [
      | in-Some w ↦ subst (λ s. HaveBuffer s.terms.buffer s.cells.entries) (sym w.self-inside-is) (written_buffer i.terms.buffer (is_id c.args.id.now) i.cells.entries _ w.in-Some.cell.now w.done.new.self c.self.invariant (ap option_copied_mut (sym w.in-Some.is) ∙ c.get_mut.ensures.value) (ap (λ n. n.buffer) w.done.ensures ∙ end_buffer w.in-Some.cell.now c.args.ticket (state.Full c.args.ticket c.args.identity c.args.expiry) (event.Done c.args.ticket c.args.expiry)) (c.get_mut.follows.holds w.done.new.self).0)
      | in_default w ↦ subst (λ s. HaveBuffer s.terms.buffer s.cells.entries) (sym w.self-inside-is) (subst (λ m. HaveBuffer i.terms.buffer m.entries) (sym c.get_mut.follows.holds-at-none) c.self.invariant)
    ]

pub returns : goal.returns
returns c =
    let i = c.self.inside in
    elim c.match-get_mut.branch [
      | in-Some w ↦ ap the_view w.self-inside-is ∙ at_cell i.terms i.given_up i.cells.entries _ c.args.id.now w.in-Some.cell.now w.done.new.self (λ cell. after_end cell c.args.ticket (state.Full c.args.ticket c.args.identity c.args.expiry) (event.Done c.args.ticket c.args.expiry)) c.args.self.now c.self.view_is (ap option_copied_mut (sym w.in-Some.is) ∙ c.get_mut.ensures.value) w.done.ensures (c.get_mut.follows.holds w.done.new.self).0
      | in_default w ↦ ap the_view w.self-inside-is ∙ at_none i.terms i.given_up i.cells.entries _ c.args.id.now _ c.args.self.now c.self.view_is (ap option_copied_mut (sym w.in_default.is) ∙ c.get_mut.ensures.value) (ap (λ m. m.entries) c.get_mut.follows.holds-at-none)
    ]
