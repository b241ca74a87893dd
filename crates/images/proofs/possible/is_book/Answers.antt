-- Two tests come first and bound the sums; the rest is the chain without them.
use Rattle.std.proofs.Common.{◌≡◌, sym, ◌∙◌, ◌+◌, ◌*◌, leb, pos, ◌+ℤ◌, to_z-of_z, SFits}
use Rattle.std.specs.Prelude.{nat_abs}
use Rattle.std.specs.Int.{w32, w64}
use lib.Dec.{lit<}
use Rattle.whole.specs.Bits.{eqb_is}
use Rattle.whole.specs.Machine.{sfits_of}
use Rattle.outline.specs.Limits.{raw_limit, rise_limit}
use Rattle.images.proofs.Tests.{book_rest}
use Rattle.images.proofs.possible.is_book.Goals as goal

pub returns : goal.returns
returns c =
    let b = c.args.b in
    let opening : SFits w32 b.opening = search sfits_of in
    let last : SFits w32 b.last = search sfits_of in
    let refilled : SFits w64 b.refilled = search sfits_of in
    let used : SFits w64 b.used = search sfits_of in
    let unbooked : SFits w64 b.unbooked = search sfits_of in
    let summed : c.sums_fit.result ≡ leb (nat_abs b.refilled + nat_abs b.used) (rise_limit * b.ticks) = simp (c.sums_fit.ensures, to_z-of_z refilled, to_z-of_z used) in
    let fallen : c.fall_fits.result ≡ leb (nat_abs (b.unbooked +ℤ b.last)) raw_limit = simp (c.fall_fits.ensures, to_z-of_z unbooked, to_z-of_z last) in
    simp (
      c.is_raw.ensures,
      c.is_raw-2.ensures,
      to_z-of_z opening,
      to_z-of_z last,
      eqb_is {y = pos 0} unbooked (sfits_of (lit< tt)),
      c.is_blank.ensures,
      c.is_balanced.ensures,
      to_z-of_z refilled,
      to_z-of_z used,
      to_z-of_z unbooked,
    ) (book_rest b (sym summed ∙ c.if-not-sums_fit.false) (sym fallen ∙ c.if-not-fall_fits.false))
