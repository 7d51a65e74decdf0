use Rattle.std.proofs.Common.{◌≡◌, ◌*◌, ◌^◌, ◌≤◌, min}
use Rattle.identity_cell.specs.Timeout.{backoffs}
use Rattle.identity_cell.proofs.timeout.backoffs.Given as goal

abbrev pub invariant-loop-step : goal.invariant-loop-step
invariant-loop-step l = record {
  summed : l.total ≡ backoffs l.first l.most l._step;
  next : l.backoff ≡ min (l.first * 2 ^ l._step) l.most;
  small : l.total ≤ l._step * 18446744073709551615;
}
