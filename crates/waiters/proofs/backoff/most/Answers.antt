use Rattle.std.proofs.Common.{◌*◌, ◌-◌, ◌^◌, ◌/◌, ◌≤◌, arith}
use Rattle.std.proofs.Math.Nat.{div-le_self}
use Rattle.waiters.proofs.Ceiling.{doubled-within, seconds-within}
use Rattle.waiters.proofs.backoff.most.Goals as goal

pub returns-else-attempt-ceiling-clause-greatest :
    goal.returns-else-attempt-ceiling-clause-greatest
returns-else-attempt-ceiling-clause-greatest c =
    let fits = doubled-within c.args.min c.args.max c.ceiling.result c.args.attempt c.ceiling.ensures.value c.requires.counted c.if-attempt-ceiling.false in
    rw c.pow.ensures (seconds-within c.args.min c.args.max (2 ^ (c.args.attempt - 1)) 1000000000 (omega arith) fits)

pub overflow_mul-result : goal.overflow_mul-result
overflow_mul-result c =
    let fits = doubled-within c.args.min c.args.max c.ceiling.result c.args.attempt c.ceiling.ensures.value c.requires.counted c.if-attempt-ceiling.false in
    let within : c.args.min / 1000000000 * 2 ^ (c.args.attempt - 1) ≤ c.args.max / 1000000000 = seconds-within c.args.min c.args.max (2 ^ (c.args.attempt - 1)) 1000000000 (omega arith) fits in
    rw c.pow.ensures (omega (arith, div-le_self c.args.max 1000000000))
