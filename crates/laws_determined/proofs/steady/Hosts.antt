-- Hosted outsides are steady.
use Rattle.std.proofs.Common.{◌∙◌, sym}
use Rattle.outside_hosted.specs.Makes.{Makes}
use Rattle.outside_hosted.proofs.DeterminedLemmas.{gives, hands, moves, resolves}
use Rattle.laws_determined.specs.Steady.Steady.{IsSteady}

pub hosts_steady : IsSteady Makes
hosts_steady = record {
  moves = moves;
  now = λ old new other a b p q. p.0 ∙ sym q.0;
  start = λ nanos old new other a b p q. p.0 ∙ sym q.0;
  ready = λ sleep old new other a b p q. p.0 ∙ sym q.0;
  poll = λ old new other a b p q. (hands old new other old.call a b p q).0;
  frame = λ old new other a b p q. (gives old new other old.call a b p q).0;
  resolve = λ id old new other a b p q. (resolves old new other id old.load a b p q).0;
  word = λ old new other a b p q. p.0 ∙ sym q.0;
}
