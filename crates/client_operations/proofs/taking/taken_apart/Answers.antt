use Rattle.client_operations.proofs.taking.taken_apart.Goals as goal

pub returns-clause-quota : goal.returns-clause-quota
returns-clause-quota g c = (
  c.close.new.self.parts.strategy,
  rw c.into_parts-parts.ensures (rw c.end_open.ensures.others at c.close.ensures.strategy),
)
