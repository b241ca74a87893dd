-- A sum that is plain, or one stopped at the limit, and a difference of two i32 fit an i64 together. A plain sum and such a difference are within the limit.
use borrow.Author.Rules.{rules}
use mathlib.Core.Path.{◌≡◌, sym, ap, ◌∙◌}
use Prim.Native.Nat.{ℕ, ◌≤◌}
use native.Mathlib.Omega.{arith}
use lib.IntN.{ℤ, pos, neg_ℤ, nat_abs, ◌+ℤ◌, ◌-ℤ◌}
use lib.Signed.{le_z, lt_z}
use mir.Syntax.{w64}
use mir.Val.{SFits, of_z}
use mir.Facts.{to_z-of_z}
use Rattle.whole.specs.Bits.{Read, arg, got, be, add, add_need}
use Rattle.whole.specs.Ints.{abs_add}
use Rattle.whole.specs.Limit.{limit_to, limit_abs, limit_plain, inside}
use Rattle.whole.specs.Machine.{diff_abs, add_fits}
use Rattle.outline.specs.Limits.{book_limit}
use Rattle.outline.specs.DayBook.{limit_of, booked_of}
use Rattle.daybook.proofs.booked.Statement.{statement}
use Rattle.daybook.proofs.booked.Tie as tie

abbrev change_of : tie.Start → ℤ
change_of s = s.args.to -ℤ s.args.from

change_small : (s : tie.Start) → nat_abs (change_of s) ≤ 4294967296
change_small s = diff_abs s.ranges.to s.ranges.from

-- ---- a plain sum
abbrev plain : ℕ
plain = 1073741824

sum_small : (c : tie.Then-sum-lt-BOOK_PLAIN) → nat_abs c.args.sum ≤ plain
sum_small c =
    let s = c.before.before in
    let e = to_z-of_z s.ranges.sum in
    inside s.args.sum plain (ap (le_z (neg_ℤ (pos plain))) (sym e) ∙ c.if-sum.true) (ap (λ (x : ℤ). lt_z x (pos plain)) (sym e) ∙ c.if-sum-lt-BOOK_PLAIN.true)

plain_fits : (c : tie.Then-sum-lt-BOOK_PLAIN) → SFits w64 (c.args.sum +ℤ change_of c.before.before)
plain_fits c =
    let s = c.before.before in
    add_fits w64 plain 4294967296 s.args.sum (change_of s) (sum_small c) (change_small s) tt

-- such a sum is not stopped, before the change or after it
booked_plain : (x y : ℤ) → nat_abs x ≤ plain → nat_abs y ≤ 4294967296 → booked_of x y ≡ x +ℤ y
unfolding limit_of booked_of
booked_plain x y h k =
    ap (λ (z : ℤ). limit_to book_limit (z +ℤ y)) (limit_plain book_limit x (omega arith))
    ∙ limit_plain book_limit (x +ℤ y) (omega (arith, abs_add x y))

change : (c : tie.After-difference) → Read w64 (of_z w64 c.difference.result) (change_of c.before.before.before)
change c =
    let s = c.before.before.before in
    be (got c.difference.result c.difference.type_inv) (simp (c.difference.ensures, to_z-of_z s.ranges.to, to_z-of_z s.ranges.from))

-- ---- any sum
total_fits : (s : tie.Start) → SFits w64 (limit_to book_limit s.args.sum +ℤ change_of s)
total_fits s = add_fits w64 book_limit 4294967296 (limit_to book_limit s.args.sum) (change_of s) (limit_abs book_limit s.args.sum) (change_small s) tt

stopped : (c : tie.After-limited) → Read w64 (of_z w64 c.limited.result) (limit_to book_limit c.args.sum)
stopped c = be (got c.limited.result c.limited.type_inv) (c.limited.ensures ∙ ap (limit_to book_limit) (to_z-of_z c.ranges.sum))

change_2 : (c : tie.After-difference-2) → Read w64 (of_z w64 c.difference-2.result) (change_of c.before.before.before)
change_2 c =
    let s = c.before.before.before in
    be (got c.difference-2.result c.difference-2.type_inv) (simp (c.difference-2.ensures, to_z-of_z s.ranges.to, to_z-of_z s.ranges.from))

overflow_sub-t-5 : tie.Need-overflow_sub-t-5
overflow_sub-t-5 c = search rules

difference-requires : tie.Need-difference-requires
difference-requires c κs = search rules

overflow_add-result : tie.Need-overflow_add-result
overflow_add-result c = add_need (arg c.ranges.sum) (change c) (plain_fits c.before)

returns-then-sum-lt-BOOK_PLAIN : tie.Need-returns-then-sum-lt-BOOK_PLAIN
returns-then-sum-lt-BOOK_PLAIN c =
    let s = c.before.before.before in
    (add (arg s.ranges.sum) (change c) (plain_fits c.before)).read
    ∙ sym (booked_plain s.args.sum (change_of s) (sum_small c.before) (change_small s))

limited-requires : tie.Need-limited-requires
limited-requires c κs = search rules

difference-requires-2 : tie.Need-difference-requires-2
difference-requires-2 c κs = search rules

overflow_add-limited : tie.Need-overflow_add-limited
overflow_add-limited c = add_need (stopped c.before) (change_2 c) (total_fits c.before.before.before)

limited-requires-2 : tie.Need-limited-requires-2
limited-requires-2 c κs = search rules

returns : tie.Need-returns
unfolding limit_of booked_of
returns c =
    let d = c.before in
    (got {w = w64} c.limited-2.result c.limited-2.type_inv).read
    ∙ c.limited-2.ensures
    ∙ ap (limit_to book_limit) (add (stopped d.before) (change_2 d) (total_fits d.before.before.before)).read

pub booked_spec : {M : Type 1} → statement M
booked_spec =
    tie.close
    (tie.spec
    overflow_sub-t-5
    difference-requires
    overflow_add-result
    returns-then-sum-lt-BOOK_PLAIN
    limited-requires
    difference-requires-2
    overflow_add-limited
    limited-requires-2
    returns)
