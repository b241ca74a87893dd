-- Each part is that of the definition.
use borrow.Author.Rules.{rules}
use mir.Facts.{to_z-of_z}
use Rattle.outline.specs.Settings.{settings_of}
use Rattle.whole.specs.Machine.{sfits_of}
use Rattle.settings.specs.Held.{Held}
use Rattle.settings.proofs.Laws.{narrow}
use Rattle.settings.proofs.made.Statement.{statement}
use Rattle.settings.proofs.made.Tie as tie

held : (s : tie.Start) → Held s.args.g
held s = search sfits_of

calibration_of-requires : tie.Need-calibration_of-requires
calibration_of-requires c κs = search rules

range_of-requires : tie.Need-range_of-requires
range_of-requires c κs = search rules

tracking_of-requires : tie.Need-tracking_of-requires
tracking_of-requires c κs = search rules

steadiness_of-requires : tie.Need-steadiness_of-requires
steadiness_of-requires c κs = search rules

batching_of-requires : tie.Need-batching_of-requires
batching_of-requires c κs = search rules

overflow_cast-result : tie.Need-overflow_cast-result
overflow_cast-result c = let s = c.before.before.before.before.before.before.before in (narrow s.args.g (held s) s.requires).address

board_of-requires : tie.Need-board_of-requires
board_of-requires c κs = search rules

scale_of-requires : tie.Need-scale_of-requires
scale_of-requires c κs = search rules

returns : tie.Need-returns
unfolding settings_of
returns c =
    let p = c.before.before.before.before.before.before.before in
    let h = held p.before.before.before.before.before in
    simp (
      p.calibration_of.ensures,
      p.range_of.ensures,
      p.tracking_of.ensures,
      p.steadiness_of.ensures,
      p.batching_of.ensures,
      c.board_of.ensures,
      c.scale_of.ensures,
      to_z-of_z h.address,
      to_z-of_z h.board,
      to_z-of_z h.low,
      to_z-of_z h.high,
    )

pub made_spec : {M : Type 1} → statement M
made_spec =
    tie.close
    (tie.spec
    calibration_of-requires
    range_of-requires
    tracking_of-requires
    steadiness_of-requires
    batching_of-requires
    overflow_cast-result
    board_of-requires
    scale_of-requires
    returns)
