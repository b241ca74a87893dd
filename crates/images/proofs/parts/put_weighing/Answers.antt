-- The buffer holds the state made anew, since its bytes are the image written over.
use Rattle.std.proofs.Common.{rules, arith}
use Rattle.whole.specs.Machine.{sfits_of}
use Rattle.images.specs.Holds.{HeldWeighing}
use Rattle.images.proofs.Buffers.{put_here}
use Rattle.places.specs.Places.{put_all, coded}
use Rattle.images.proofs.InPlace.{turns_weighing}
use Rattle.images.proofs.parts.put_weighing.Goals as goal

pub returns-clause-state : goal.returns-clause-state
unfolding put_all coded
returns-clause-state c =
    let held : HeldWeighing c.args.w = record { zero = search (rules, sfits_of); tracked = search (rules, sfits_of); tare = search (rules, sfits_of); counter = omega arith } in
    turns_weighing c.args.w held _ _ (grind (arith, put_here))

pub returns-clause-bytes : goal.returns-clause-bytes
unfolding put_all coded
returns-clause-bytes c = grind (arith, put_here)
