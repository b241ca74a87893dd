-- A turn counts the bytes of one number.
use Rattle.std.proofs.Common.{arith}
use Rattle.logs.specs.Amounts.{count_of}
use Rattle.logs.proofs.TextLaws.{numbers_few, numbers_more, numbers_end}
use Rattle.logs.proofs.pairs.numbers_length.Goals as goal

pub overflow_add-n : goal.overflow_add-n
overflow_add-n c =
    let s = c.args.amounts.now in
    omega (arith, c.loop-a.invariant, numbers_more s c.loop-a.a-index (count_of 0) c.loop-a-test.true, numbers_few s c.requires, c.sign_length.ensures, c.digit_count.ensures)

pub overflow_add-n-in-loop-a : goal.overflow_add-n-in-loop-a
overflow_add-n-in-loop-a c =
    let s = c.args.amounts.now in
    omega (arith, c.loop-a.invariant, numbers_more s c.loop-a.a-index (count_of 0) c.loop-a-test.true, numbers_few s c.requires, c.sign_length.ensures, c.digit_count.ensures)

pub overflow_add-n-in-loop-a-2 : goal.overflow_add-n-in-loop-a-2
overflow_add-n-in-loop-a-2 c =
    let s = c.args.amounts.now in
    omega (arith, c.loop-a.invariant, numbers_more s c.loop-a.a-index (count_of 0) c.loop-a-test.true, numbers_few s c.requires, c.sign_length.ensures, c.digit_count.ensures)

pub loop-a-preserved : goal.loop-a-preserved
loop-a-preserved c =
    omega (arith, c.loop-a.invariant, numbers_more c.args.amounts.now c.loop-a.a-index (count_of 0) c.loop-a-test.true, c.sign_length.ensures, c.digit_count.ensures)

pub returns : goal.returns
returns c = omega (arith, c.loop-a.invariant, numbers_end c.args.amounts.now c.loop-a.a-index c.loop-a-test.false)
