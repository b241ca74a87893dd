-- The buffer holds the state made anew, since its bytes are the image written over.
use Rattle.std.proofs.Common.{rules, arith}
use Rattle.whole.specs.Machine.{sfits_of}
use Rattle.images.specs.Holds.{HeldBook}
use Rattle.images.proofs.Buffers.{put_here}
use Rattle.places.specs.Places.{put_all, coded, flag_tag}
use Rattle.images.proofs.InPlace.{turns_book}
use Rattle.images.proofs.parts.put_book.Goals as goal

pub returns-clause-state : goal.returns-clause-state
unfolding put_all coded flag_tag
returns-clause-state c =
    let held : HeldBook c.args.b = record { opening = search (rules, sfits_of); last = search (rules, sfits_of); refilled = search (rules, sfits_of); used = search (rules, sfits_of); unbooked = search (rules, sfits_of); ticks = omega arith } in
    turns_book c.args.b held _ _ (search (rules, put_here))

pub returns-clause-bytes : goal.returns-clause-bytes
unfolding put_all coded flag_tag
returns-clause-bytes c = search (rules, put_here)
