use Rattle.std.proofs.Common.{refl}
use Rattle.client_components.proofs.parts.Parts.exchange.Goals as goal

pub returns : goal.returns
returns g c = record {
  ended = c.end_open.new.self;
  ends = c.end_open.ensures;
  parts = rw (c.swap.ensures.x_after, c.swap-2.ensures.x_after) refl;
  outside_is = c.swap.ensures.y_after;
  quota_is = c.swap-2.ensures.y_after;
}
