-- A byte goes over by definition, a number by what was put of it.
use Rattle.std.proofs.Common.{◌<◌, ◌∙◌, sym, ap, refl, arith, length, drop, length-set, length-append}
use borrow.Author.Tests.{eq-eqb, ne_eqb}
use Rattle.logs.specs.Amounts.{count_of}
use Rattle.logs.proofs.TextLaws.{marks_plain, marks_mark, filled_plain, filled_mark, filled_some, filled_end, put_byte, put_end, put_more}
use Rattle.logs.proofs.pairs.put_text.Goals as goal

pub bounds-out-at : goal.bounds-out-at
bounds-out-at c =
    let l = c.loop-byte in
    omega (arith, filled_some c.args.keys.now l.byte-index c.loop-byte-test.true (drop l.line c.args.amounts.now), c.requires.1, l.invariant.1)

pub bounds-amounts-line : goal.bounds-amounts-line
bounds-amounts-line c =
    let l = c.loop-byte in
    omega (arith, marks_mark c.args.keys.now l.byte-index c.loop-byte-test.true (eq-eqb _ _ c.if-byte-ne61.false), l.invariant.0)

pub put_number-at-requires : goal.put_number-at-requires
put_number-at-requires c =
    let l = c.loop-byte in
    let k = c.args.keys.now in
    let s = c.args.amounts.now in
    let mark = eq-eqb _ _ c.if-byte-ne61.false in
    let one : l.line < length s = omega (arith, marks_mark k l.byte-index c.loop-byte-test.true mark, l.invariant.0) in
    let rest = filled_mark k l.byte-index c.loop-byte-test.true s l.line (count_of 0) mark one in
    rw length-set (omega (arith, simp length-append at (ap length rest), l.invariant.1, c.requires.1))

pub loop-byte-preserved-then-byte-ne61 : goal.loop-byte-preserved-then-byte-ne61
loop-byte-preserved-then-byte-ne61 c =
    let l = c.loop-byte in
    let k = c.args.keys.now in
    let plain = ne_eqb _ _ c.if-byte-ne61.true in
    let e = filled_plain k l.byte-index c.loop-byte-test.true (drop l.line c.args.amounts.now) plain in (
      rw (← marks_plain k l.byte-index c.loop-byte-test.true plain) l.invariant.0,
      omega (arith, ap length e, l.invariant.1),
      put_byte l.out l.at _ _ _ e ∙ l.invariant.2,
    )

pub loop-byte-preserved : goal.loop-byte-preserved
loop-byte-preserved c =
    let l = c.loop-byte in
    let k = c.args.keys.now in
    let s = c.args.amounts.now in
    let p = c.put_number-at.ensures in
    let mark = eq-eqb _ _ c.if-byte-ne61.false in
    let counted = marks_mark k l.byte-index c.loop-byte-test.true mark in
    let one : l.line < length s = omega (arith, counted, l.invariant.0) in
    let rest = filled_mark k l.byte-index c.loop-byte-test.true s l.line (count_of 0) mark one in (
      omega (arith, counted, l.invariant.0),
      omega (arith, simp length-append at (ap length rest), l.invariant.1, p.behind),
      put_more _ _ p ∙ put_byte l.out l.at _ _ _ rest ∙ l.invariant.2,
    )

pub returns : goal.returns
returns c =
    let l = c.loop-byte in
    let k = c.args.keys.now in
    let s = drop l.line c.args.amounts.now in
    record {
      stored = sym (put_end l.out k s l.at l.byte-index c.loop-byte-test.false) ∙ l.invariant.2;
      behind = omega (arith, l.invariant.1, filled_end k s l.byte-index c.loop-byte-test.false);
      long = refl;
    }
