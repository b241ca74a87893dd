-- The buffer holds the state made anew, since its bytes are the image written over.
use Rattle.std.proofs.Common.{arith}
use Rattle.images.proofs.Buffers.{put_here}
use Rattle.places.specs.Places.{put_all}
use Rattle.images.proofs.InPlace.{turns_stability}
use Rattle.images.proofs.parts.put_stability.Goals as goal

pub returns-clause-state : goal.returns-clause-state
unfolding put_all
returns-clause-state c =
    turns_stability c.args.q (omega arith) _ _ (grind (arith, put_here))
