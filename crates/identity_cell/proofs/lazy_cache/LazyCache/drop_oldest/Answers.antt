use Rattle.std.proofs.Common.{sym, subst}
use Rattle.identity_cell.specs.LazyCache.{HaveBuffer}
use Rattle.identity_cell.proofs.LazyLemmas.{rest_buffer}
use Rattle.identity_cell.proofs.lazy_cache.LazyCache.drop_oldest.Goals as goal

pub invariant_of-self : goal.invariant_of-self
invariant_of-self c = subst (λ s. HaveBuffer c.self.inside.terms.buffer s) (sym c.shift_remove_index.ensures.entries) (rest_buffer c.self.inside.terms.buffer c.self.inside.cells.entries c.self.invariant)
