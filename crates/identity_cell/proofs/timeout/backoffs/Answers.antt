use Rattle.std.proofs.Common.{◌≡◌, ◌+◌, ◌-◌, ◌*◌, ◌^◌, ◌≤◌, min, ℕ, ap, ◌∙◌, arith}
use Rattle.identity_cell.specs.Timeout.{backoffs}
use Rattle.identity_cell.proofs.Backoffs.{one_more, doubled, all_backoffs, small_product}
use Rattle.identity_cell.proofs.timeout.backoffs.Goals as goal

pub loop-step-preserved : goal.loop-step-preserved
loop-step-preserved c =
    let f = λ (i : ℕ). min (c.args.first * 2 ^ i) c.args.most in
    let s : c.loop-step.backoff ≡ f c.loop-step._step = c.loop-step.invariant.next in
    let m : backoffs c.args.first c.args.most (c.loop-step._step + 1) ≡ backoffs c.args.first c.args.most c.loop-step._step + f c.loop-step._step = one_more f c.loop-step._step in
    let n : min (2 * c.loop-step.backoff) c.args.most ≡ f (c.loop-step._step + 1) = ap (λ b. min (2 * b) c.args.most) s ∙ doubled c.args.first c.args.most c.loop-step._step in
    record {
      summed = omega (arith, c.loop-step.invariant.summed, s, m);
      next = omega (arith, n, c.min-backoff.ensures, c.from.ensures);
      small = omega (arith, c.loop-step.invariant.small, s, c.ranges.most.fits);
    }

pub overflow_add-result : goal.overflow_add-result
overflow_add-result c =
    let k : c.from-2.result ≤ 4294967295 = omega (arith, c.from-2.ensures, c.ranges.retries.fits) in
    let b : c.loop-step.backoff ≤ 18446744073709551615 = omega (arith, c.loop-step.invariant.next, c.ranges.most.fits) in
    omega (arith, small_product c.from-2.result c.loop-step.backoff k b, c.loop-step.invariant.small, c.min-doubling.ensures)

pub returns : goal.returns
returns c =
    let d : c.loop-step._step ≡ c.min-doubling.result = omega (arith, c.loop-step-test.false, c.loop-step.auto._step-end) in
    let is : c.loop-step._step ≡ min c.args.retries 64 = omega (arith, d, c.min-doubling.ensures) in
    let k : c.from-2.result ≡ c.args.retries - c.loop-step._step = omega (arith, d, c.from-2.ensures) in
    let a = all_backoffs c.args.first c.args.most c.args.retries c.loop-step._step (omega (arith, c.ranges.most.fits)) is in
    rw (c.loop-step.invariant.summed, k, c.loop-step.invariant.next) a
