-- The outline's section "Setpoints", and of request A5 the waiting set.
use Rattle.std.specs.Prelude.{Bool, true, false, ◌&&◌, ◌||◌, leb, ltb, eqb, ℤ, pos, Option, None, Some}
use Rattle.std.specs.Int.Signed.{le_z, lt_z}
use Rattle.types.specs.declared.settings.Mode.{Mode}
use Rattle.types.specs.declared.settings.Mode.TheVariants as mode
use Rattle.types.specs.declared.stages.Setpoints.{Setpoints}
use Rattle.types.specs.declared.weight.Weights.{Weights}
use Rattle.outline.specs.Limits.{setpoint_limit}
use Rattle.outline.specs.Weight.{fit_of}

-- "Opening: .. setpoints .. 0"
abbrev pub open_setpoints : Setpoints
open_setpoints = record { target = 0; fall = 0; preliminary = 0; optional = 0; over = 0; under = 0; near = 0 }

-- "Seven numbers 0..999,999 in display digits: final F, free fall FF, preliminary P, optional preliminary OP (mode 2: full), over,
-- under, near zero."
abbrev pub seven_fit : Setpoints → Bool
seven_fit p =
    leb p.target setpoint_limit && leb p.fall setpoint_limit && leb p.preliminary setpoint_limit
    && leb p.optional setpoint_limit && leb p.over setpoint_limit && leb p.under setpoint_limit && leb p.near setpoint_limit

-- "FF at most F."
abbrev pub fall_fits : Setpoints → Bool
fall_fits p = leb p.fall p.target

-- "P is 0, or more than FF and at most F."
abbrev pub preliminary_fits : Setpoints → Bool
preliminary_fits p = eqb p.preliminary 0 || (ltb p.fall p.preliminary && leb p.preliminary p.target)

-- "In mode 1, OP is 0, or more than FF and P and at most F."
abbrev pub optional_fits : Mode → Setpoints → Bool
optional_fits mode.Normal p =
    eqb p.optional 0 || (ltb p.fall p.optional && ltb p.preliminary p.optional && leb p.optional p.target)
optional_fits mode.Loss p = true

unfoldable pub setpoints_fit : Mode → Setpoints → Bool
setpoints_fit m p = seven_fit p && fall_fits p && preliminary_fits p && optional_fits m p

-- ---- A5: "A write in any stage but 00 goes to a waiting set beside the one in use"
-- no set waits: so it is at opening, and whenever the stage is 00
abbrev pub none_waiting : Option Setpoints
none_waiting = None

-- "a second write replaces the first": the waiting set is the one written, whatever waited before
abbrev pub waiting_for : Setpoints → Option Setpoints
waiting_for p = Some p

-- the setpoints that were written, or p where none were
abbrev pub written_else : Option Setpoints → Setpoints → Setpoints
written_else None p = p
written_else (Some n) p = n

-- "the waiting set if there is one", else that in use: what RS reads, and what is in use when the stage is 00 again
abbrev pub latest_of : Setpoints → Option Setpoints → Setpoints
latest_of p w = written_else w p

-- "There is no large flow if OP is 0 or in mode 2 (004: full replaces OP)."
abbrev pub no_large_flow : Mode → Setpoints → Bool
no_large_flow mode.Normal p = eqb p.optional 0
no_large_flow mode.Loss p = true

-- "gross at most near zero": the output's test, and A1's, where a discharge has emptied the hopper
abbrev pub at_most_near : Setpoints → ℤ → Bool
at_most_near p gross = le_z gross (pos p.near)

-- "Near-zero output: gross at most near zero." "Both are off in a bad or overloaded tick."
unfoldable pub near_of : Setpoints → Weights → Bool
near_of p x = fit_of x && at_most_near p x.gross

-- "Full output: mode 2 and gross above full."
abbrev pub above_full : Mode → Setpoints → ℤ → Bool
above_full mode.Normal p gross = false
above_full mode.Loss p gross = lt_z (pos p.optional) gross

unfoldable pub full_of : Mode → Setpoints → Weights → Bool
full_of m p x = fit_of x && above_full m p x.gross
