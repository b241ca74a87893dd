-- Each number stays the same as it goes through bits.
use mir.Facts.{to_z-of_z}
use mir.Syntax.{w32, w64}
use mir.Val.{SFits}
use Rattle.whole.specs.Machine.{sfits_of, wider}
use Rattle.logs.proofs.tickets.amounts_of.Goals as goal

pub returns : goal.returns
returns c =
    let opening : SFits w32 c.args.book.opening = search sfits_of in
    let refilled : SFits w64 c.args.book.refilled = search sfits_of in
    let used : SFits w64 c.args.book.used = search sfits_of in
    let unbooked : SFits w64 c.args.book.unbooked = search sfits_of in
    let last : SFits w32 c.args.book.last = search sfits_of in
    let tracked : SFits w32 c.args.weighing.tracked = search sfits_of in
    simp (
      c.amount_of.ensures,
      c.from.ensures,
      to_z-of_z opening,
      to_z-of_z (wider opening),
      c.amount_of-2.ensures,
      to_z-of_z refilled,
      c.amount_of-3.ensures,
      to_z-of_z used,
      c.amount_of-4.ensures,
      to_z-of_z unbooked,
      c.amount_of-5.ensures,
      c.from-2.ensures,
      to_z-of_z last,
      to_z-of_z (wider last),
      c.amount_of-6.ensures,
      c.from-3.ensures,
      to_z-of_z tracked,
      to_z-of_z (wider tracked),
      c.from-4.ensures,
    )
