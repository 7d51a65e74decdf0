use Rattle.std.proofs.Common.{◌≡◌, ◌∙◌, ap, sym, subst, None}
use Rattle.std.specs.Map.{lookup}
use Rattle.identity_cell.specs.LazyCache.{HaveBuffer, is_id, cache_of, with_last}
use Rattle.indexmap.proofs.CallerLemmas.{insert_entry-new}
use Rattle.identity_cell.proofs.LazyLemmas.{last_buffer}
use Rattle.identity_cell.proofs.lazy_cache.LazyCache.add.Goals as goal

pub invariant_of-self-2 : goal.invariant_of-self-2
invariant_of-self-2 c =
    let i = c.self.inside in
    let absent : lookup (is_id c.args.id) i.cells.entries ≡ None = ap (λ s. lookup (is_id c.args.id) s.cells) c.self.view_is ∙ c.requires.new in
    subst (λ s. HaveBuffer i.terms.buffer s) (sym (c.in_ok-insert.ensures.entries ∙ insert_entry-new is_id i.cells c.args.id c.args.cell absent)) (last_buffer i.terms.buffer i.cells.entries c.args.id c.args.cell c.self.invariant (c.requires.buffer ∙ sym (ap (λ s. s.terms.buffer) c.self.view_is)))

pub returns-clause-ok : goal.returns-clause-ok
returns-clause-ok c =
    let i = c.self.inside in
    let absent : lookup (is_id c.args.id) i.cells.entries ≡ None = ap (λ s. lookup (is_id c.args.id) s.cells) c.self.view_is ∙ c.requires.new in
    ap (λ s. cache_of i.terms s i.given_up) (c.in_ok-insert.ensures.entries ∙ insert_entry-new is_id i.cells c.args.id c.args.cell absent) ∙ ap (λ s. with_last s c.args.id c.args.cell) c.self.view_is
