use Rattle.std.proofs.Common.{◌≡◌, ◌++◌, ◌-◌, drop, length}
use Rattle.json_buckets.specs.Buckets.{buckets_text}
use Rattle.json_buckets.proofs.print_buckets.Given as goal

-- what is printed and the lines of the buckets that are left are the whole
abbrev pub invariant-loop-sums : goal.invariant-loop-sums
invariant-loop-sums g l = l.out.items ++ buckets_text l.number (drop l.number l.quota.books) ≡ l.fn.out.items ++ buckets_text 0 l.quota.books

abbrev pub decreases-loop-sums : goal.decreases-loop-sums
decreases-loop-sums g l = length l.quota.books - l.number
