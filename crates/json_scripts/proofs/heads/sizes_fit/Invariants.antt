use Rattle.std.proofs.Common.{◌≡◌, nat_le, sum_by}
use Rattle.http_header.specs.HeaderMap.{pairs}
use Rattle.json_scripts.specs.Heads.{header_size}
use Rattle.json_scripts.proofs.heads.sizes_fit.Given as goal

abbrev pub invariant-loop-name : goal.invariant-loop-name
invariant-loop-name l = nat_le (sum_by header_size l.name-iterator) l.room ≡ nat_le (sum_by header_size (pairs l.map)) 8192
