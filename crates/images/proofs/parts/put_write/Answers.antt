-- The buffer holds the state made anew, since its bytes are the image written over.
use Rattle.std.proofs.Common.{arith, subst, ◌∙◌}
use Rattle.places.specs.Places.{put_all, flag_tag}
use Rattle.images.specs.StateImage.{write_tag, write_points}
use Rattle.images.specs.Holds.{HeldSetpoints}
use Rattle.images.proofs.Buffers.{put_here}
use Rattle.images.proofs.NameLaws.{points_else}
use Rattle.images.proofs.InPlace.{turns_waiting}
use Rattle.images.proofs.parts.put_write.Goals as goal

pub returns-clause-state : goal.returns-clause-state
unfolding put_all flag_tag write_tag write_points
returns-clause-state c =
    let p = c.unwrap_or.result in
    let held : HeldSetpoints p = record {
      target = omega arith;
      fall = omega arith;
      preliminary = omega arith;
      optional = omega arith;
      over = omega arith;
      under = omega arith;
      near = omega arith;
    } in
    turns_waiting c.args.w (subst HeldSetpoints (c.unwrap_or.ensures ∙ points_else c.args.w) held) _ _ (grind (arith, put_here))

pub returns-clause-bytes : goal.returns-clause-bytes
unfolding put_all flag_tag write_tag write_points
returns-clause-bytes c = grind (arith, put_here)
