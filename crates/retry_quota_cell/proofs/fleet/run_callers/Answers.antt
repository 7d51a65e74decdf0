use Rattle.std.proofs.Common.{◌≡◌, ◌∙◌, ap, subst, refl, map}
use Rattle.retry_quota.specs.Book.{sums_of}
use Rattle.retry_quota.specs.History.{end_of}
use Rattle.retry_quota_cell.specs.View.{View, Opening}
use Rattle.retry_quota_cell.specs.Rule.{opened}
use Rattle.retry_quota_cell.specs.Met.{Met}
use Rattle.retry_quota_cell.proofs.Meets.{theirs}
use Rattle.retry_quota_cell.proofs.fleet.run_callers.Goals as goal

pub returns-clause-history : goal.returns-clause-history
returns-clause-history g c =
    let o = c.args.bucket.now.opening in
    let all = map g.C.Caller.made c.gather-callers.result.0.items in
    let u = c.gather-callers.result.1.view in
    let w = c.sums_and_length-length.new.pass.view in
    let r = c.sums_and_length-length.result in
    let met = subst (λ (v : View). Met all v u) c.requires.new c.gather-callers.ensures.met in
    let look = c.sums_and_length-length.ensures.look in
    let opening : u.opening ≡ o = met.opening in (
      w.seen,
      theirs all (opened o) u w r.0 r.1 refl met look,
      look.sums_are ∙ ap (λ (k : Opening). sums_of (end_of k.book w.seen)) opening,
      look.count_is,
    )
