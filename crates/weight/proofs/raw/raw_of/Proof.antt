-- A raw that passes the second test fits an i32, so the cast keeps it.
use borrow.Author.Rules.{rules}
use mathlib.Core.Path.{◌≡◌, sym, ap, ◌∙◌}
use native.Mathlib.Omega.{arith}
use lib.IntN.{ℤ, nat_abs}
use mir.Syntax.{w32, w64}
use mir.Val.{SFits, of_z}
use mir.Facts.{to_z-of_z}
use Rattle.whole.specs.Bits.{Read, got, be, cast, cast_need}
use Rattle.whole.specs.Machine.{fits_abs}
use Rattle.outline.specs.Weight.{good_count, tenths_of, raw_of}
use Rattle.outline.specs.Within.{inside, outside}
use Rattle.weight.proofs.raw.raw_of.Statement.{statement}
use Rattle.weight.proofs.raw.raw_of.Tie as tie

abbrev raw_at : tie.Start → ℤ
raw_at s = tenths_of s.args.cal s.args.count

raw : (c : tie.After-tenths-raw) → Read w64 (of_z w64 c.tenths-raw.result) (raw_at c.before.before.before)
raw c = be (got c.tenths-raw.result c.tenths-raw.type_inv) (simp (c.tenths-raw.ensures, to_z-of_z c.ranges.count))

good : (c : tie.After-is_good) → c.is_good.result ≡ good_count c.args.count
good c = c.is_good.ensures ∙ ap good_count (to_z-of_z c.ranges.count)

size : (c : tie.After-magnitude) → c.magnitude.result ≡ nat_abs (raw_at c.before.before.before.before)
size c = simp (c.magnitude.ensures, (raw c.before).read)

fits : (c : tie.Then-magnitude-le-RAW_LIMIT) → SFits w32 (raw_at c.before.before.before.before.before)
fits c = fits_abs w32 (omega (arith, size c.before))

is_good-requires : tie.Need-is_good-requires
is_good-requires c κs = search rules

returns-then-not-is_good : tie.Need-returns-then-not-is_good
unfolding raw_of
returns-then-not-is_good c = simp (sym (good c.before) ∙ c.if-not-is_good.true)

tenths-raw-requires : tie.Need-tenths-raw-requires
tenths-raw-requires c κs = search rules

magnitude-requires : tie.Need-magnitude-requires
magnitude-requires c κs = search rules

overflow_cast-result : tie.Need-overflow_cast-result
overflow_cast-result c = cast_need (raw c.before.before) (fits c)

returns-then-magnitude-le-RAW_LIMIT : tie.Need-returns-then-magnitude-le-RAW_LIMIT
unfolding raw_of
returns-then-magnitude-le-RAW_LIMIT c =
    let e = c.before.before.before in
    simp ((cast (raw c.before.before) (fits c)).read, sym (good e.before) ∙ e.if-not-is_good.false, inside _ (raw_at e.before.before) (size c.before) c.if-magnitude-le-RAW_LIMIT.true)

returns-else-magnitude-le-RAW_LIMIT : tie.Need-returns-else-magnitude-le-RAW_LIMIT
unfolding raw_of
returns-else-magnitude-le-RAW_LIMIT c =
    let e = c.before.before.before in
    simp (sym (good e.before) ∙ e.if-not-is_good.false, outside _ (raw_at e.before.before) (size c.before) c.if-magnitude-le-RAW_LIMIT.false)

pub raw_of_spec : {M : Type 1} → statement M
raw_of_spec =
    tie.close
    (tie.spec
    is_good-requires
    returns-then-not-is_good
    tenths-raw-requires
    magnitude-requires
    overflow_cast-result
    returns-then-magnitude-le-RAW_LIMIT
    returns-else-magnitude-le-RAW_LIMIT)
