-- The buffer holds the state made anew, since its bytes are the image written over.
use Rattle.std.proofs.Common.{arith}
use Rattle.std.proofs.lemmas.Grind.{common_steps}
use Rattle.images.specs.Holds.{HeldTotals}
use Rattle.images.proofs.Buffers.{put_here}
use Rattle.places.specs.Places.{put_all, flag_tag}
use Rattle.images.specs.StateImage.{back_tag, back_weight}
use Rattle.images.proofs.InPlace.{turns_totals}
use Rattle.images.proofs.parts.put_totals.Goals as goal

pub returns-clause-state : goal.returns-clause-state
unfolding put_all flag_tag back_tag back_weight
returns-clause-state c =
    let held : HeldTotals c.args.t = record { total = omega arith; count = omega arith; weight = grind (arith, common_steps) } in
    turns_totals c.args.t held _ _ (grind (arith, put_here))

pub returns-clause-bytes : goal.returns-clause-bytes
unfolding put_all flag_tag back_tag back_weight
returns-clause-bytes c = grind (arith, put_here)
