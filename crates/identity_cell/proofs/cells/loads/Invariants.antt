use Rattle.std.proofs.Common.{◌≡◌, ◌+◌, ◌≤◌, min, sum_by}
use Rattle.std.specs.Map.{values_of}
use Rattle.identity_cell.specs.LazyCache.{loads_in}
use Rattle.identity_cell.proofs.cells.loads.Given as goal

abbrev pub invariant-loop-cell : goal.invariant-loop-cell
invariant-loop-cell l = record {
  summed : min (l.total + sum_by loads_in l.cell-iterator) 18446744073709551615 ≡ min (sum_by loads_in (values_of l.fn.cells.entries)) 18446744073709551615;
  small : l.total ≤ 18446744073709551615;
}
