-- The test is on the whole length: the keys, and a number for each `=`.
use Rattle.std.proofs.Common.{arith}
use Rattle.logs.proofs.TextLaws.{numbers_few, filled_all, fitted, unfitted}
use Rattle.logs.proofs.pairs.write_text.Goals as goal

pub overflow_add-keys : goal.overflow_add-keys
overflow_add-keys c = omega (arith, c.requires, c.numbers_length.ensures, numbers_few c.args.amounts.now c.requires.1)

pub returns-then-out-keys : goal.returns-then-out-keys
returns-then-out-keys c =
    let size = filled_all c.args.keys.now c.args.amounts.now c.requires.0 in
    let e = unfitted _ c.args.out.now (omega (arith, size, c.numbers_length.ensures, c.if-out-keys.true)) in
    record { count = e.0; bytes = e.1 }

pub put_text-requires : goal.put_text-requires
put_text-requires c =
    (omega (arith, c.requires), omega (arith, filled_all c.args.keys.now c.args.amounts.now c.requires.0, c.numbers_length.ensures, c.if-out-keys.false))

pub returns : goal.returns
returns c =
    let size = filled_all c.args.keys.now c.args.amounts.now c.requires.0 in
    let e = fitted c.put_text.ensures (omega (arith, size, c.numbers_length.ensures, c.if-out-keys.false)) in
    record { count = e.0; bytes = e.1 }
