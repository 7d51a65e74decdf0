use Rattle.std.proofs.Common.{subst}
use Rattle.identity_cell.specs.LazyCache.{HaveBuffer}
use Rattle.identity_cell.proofs.LazyLemmas.{at_buffer}
use Rattle.identity_cell.proofs.LookLemmas.{stays_buffer, looks_buffer}
use Rattle.identity_cell.proofs.lazy_cache.LazyCache.look.Goals as goal

pub invariant_of-self : goal.invariant_of-self
invariant_of-self c = stays_buffer c.self.inside.terms.buffer c.self.inside.cells.entries _ c.args.id.now c.args.now c.self.invariant c.in_err-looked.ensures.err

pub returns-in_err-looked-clause-buffer : goal.returns-in_err-looked-clause-buffer
returns-in_err-looked-clause-buffer c = at_buffer c.args.self.now c.args.id.now (subst (λ s. HaveBuffer s.terms.buffer s.cells) c.self.view_is c.self.invariant)

pub invariant_of-self-in-Some : goal.invariant_of-self-in-Some
invariant_of-self-in-Some c = looks_buffer c.self.inside.terms.buffer c.self.inside.cells.entries _ c.args.id.now c.args.now _ c.self.invariant c.in_ok-looked.ensures.ok

pub returns-in-Some-clause-buffer : goal.returns-in-Some-clause-buffer
returns-in-Some-clause-buffer c = at_buffer c.args.self.now c.args.id.now (subst (λ s. HaveBuffer s.terms.buffer s.cells) c.self.view_is c.self.invariant)
