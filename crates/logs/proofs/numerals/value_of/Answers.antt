-- The bytes that are read are digits, and so few of them say a number of 32 bits.
use Rattle.std.proofs.Common.{arith}
use Rattle.logs.proofs.RunLaws.{byte_range, run_length, value_more, value_limit}
use Rattle.logs.proofs.numerals.value_of.Goals as goal

pub bounds-part-i : goal.bounds-part-i
bounds-part-i c = omega (arith, run_length c.args.part.now)

pub overflow_mul-v : goal.overflow_mul-v
overflow_mul-v c = omega (arith, c.loop-i.invariant, value_limit c.args.part.now c.loop-i.i 8 (omega arith) (omega arith))

pub overflow_sub-part : goal.overflow_sub-part
overflow_sub-part c = (byte_range c.args.part.now c.loop-i.i (omega arith)).0

pub overflow_add-v : goal.overflow_add-v
overflow_add-v c =
    let s = c.args.part.now in
    omega (arith, c.from.ensures, byte_range s c.loop-i.i (omega arith), c.loop-i.invariant, value_limit s c.loop-i.i 8 (omega arith) (omega arith))

pub loop-i-preserved : goal.loop-i-preserved
loop-i-preserved c =
    let s = c.args.part.now in
    omega (arith, c.from.ensures, c.loop-i.invariant, value_more s c.loop-i.i (omega (arith, run_length s)))
