-- The buffer holds the state made anew, since its bytes are the image written over.
use Rattle.std.proofs.Common.{arith}
use Rattle.images.specs.Holds.{HeldSetpoints}
use Rattle.images.proofs.Buffers.{put_here}
use Rattle.places.specs.Places.{put_all}
use Rattle.images.proofs.InPlace.{turns_setpoints}
use Rattle.images.proofs.parts.put_setpoints.Goals as goal

pub returns-clause-state : goal.returns-clause-state
unfolding put_all
returns-clause-state c =
    let held : HeldSetpoints c.args.p = record { target = omega arith; fall = omega arith; preliminary = omega arith; optional = omega arith; over = omega arith; under = omega arith; near = omega arith } in
    turns_setpoints c.args.p held _ _ (grind (arith, put_here))
