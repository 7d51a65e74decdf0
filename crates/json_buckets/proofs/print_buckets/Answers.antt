use Rattle.std.proofs.Common.{sym}
use Rattle.json_buckets.proofs.BucketLemmas.{ended, more}
use Rattle.json_buckets.proofs.print_buckets.Goals as goal

pub loop-sums-preserved : goal.loop-sums-preserved
loop-sums-preserved g c =
    more c.loop-sums.number c.in_ok-number.number c.args.quota.now.books c.in-Some.sums c.loop-sums.out.items c.write_bucket.new.out.items _
    c.in_ok-number.ensures c.in_ok-write_bucket.ensures (sym c.in-Some.ensures) c.loop-sums.invariant

pub returns : goal.returns
returns g c = ended c.loop-sums.number c.args.quota.now.books c.loop-sums.out.items _ (sym c.in_default.ensures) c.loop-sums.invariant
