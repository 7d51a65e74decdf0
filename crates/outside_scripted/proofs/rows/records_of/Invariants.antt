use Rattle.std.proofs.Common.{◌≡◌, map, take}
use Rattle.outside_scripted.specs.Service.{record_of}
use Rattle.outside_scripted.proofs.rows.records_of.Given as goal

-- the responses of the rows before the index
abbrev pub invariant-loop-row : goal.invariant-loop-row
invariant-loop-row l = l.records ≡ map record_of (take l.row-index l.rows)
