-- The buffer holds the state made anew, since its bytes are the image written over.
use Rattle.std.proofs.Common.{arith}
use Rattle.images.specs.Holds.{HeldSequence}
use Rattle.images.proofs.Buffers.{put_here}
use Rattle.places.specs.Places.{put_all}
use Rattle.images.proofs.InPlace.{turns_sequence}
use Rattle.images.proofs.parts.put_sequence.Goals as goal

pub returns-clause-state : goal.returns-clause-state
unfolding put_all
returns-clause-state c =
    let held : HeldSequence c.args.q = record { timer = omega arith; clock = omega arith } in
    turns_sequence c.args.q held _ _ (grind (arith, put_here))
