use Rattle.std.proofs.Common.{arith}
use Rattle.json_forms.proofs.Plain.{short, more_digits, more_value, counted, nonempty}
use Rattle.json_forms.proofs.numbers.plain_number.Goals as goal

pub overflow_mul-number : goal.overflow_mul-number
overflow_mul-number c = let inv = c.loop-byte.invariant in omega (arith, inv.1, short c.args.bytes.now c.loop-byte.byte-index 18 (omega arith) (omega arith) inv.0)

pub overflow_add-number : goal.overflow_add-number
overflow_add-number c = let inv = c.loop-byte.invariant in omega (arith, inv.1, short c.args.bytes.now c.loop-byte.byte-index 18 (omega arith) (omega arith) inv.0)

pub loop-byte-preserved : goal.loop-byte-preserved
loop-byte-preserved c =
    let inv = c.loop-byte.invariant in (
      more_digits c.args.bytes.now c.loop-byte.byte-index c.loop-byte-test.true (omega arith) (omega arith) inv.0,
      more_value c.args.bytes.now c.loop-byte.byte-index c.loop-byte.number c.loop-byte-test.true (omega arith) (omega arith) inv.1,
    )

pub returns : goal.returns
returns c = let inv = c.loop-byte.invariant in counted c.args.bytes.now c.loop-byte.byte-index c.loop-byte.number (nonempty c.args.bytes.now c.is_empty.result c.is_empty.ensures c.if-is_empty.false) (omega arith) (omega arith) inv.0 inv.1
