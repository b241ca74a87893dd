-- Each test is asked of its number as it was given; 10·W and S - Z fit 64 bits.
use borrow.Author.Rules.{rules}
use Prim.Native.Nat.{ℕ, ◌≤◌, ◌^◌}
use native.Mathlib.Omega.{arith}
use lib.IntN.{pos, ◌*ℤ◌}
use mir.Syntax.{w32, w64}
use mir.Val.{SFits}
use mir.Facts.{to_z-of_z}
use Rattle.outline.specs.Settings.{counts_fit}
use Rattle.whole.specs.Machine.{sfits_of, wider, abs_fits, mul_fits}
use Rattle.whole.specs.Bits.{arg, got, be, cast_need, widened}
use Rattle.settings.specs.Held.{Held}
use Rattle.settings.proofs.ranges.counts_fit.Statement.{statement}
use Rattle.settings.proofs.ranges.counts_fit.Tie as tie

held : (s : tie.Start) → Held s.args.g
held s = search sfits_of

times : (s : tie.Start) (k : ℕ) → k ≤ 10 → SFits w64 (s.args.g.weight *ℤ pos k)
times s k l = mul_fits w64 (2 ^ 31) 10 s.args.g.weight k (abs_fits w32 (held s).weight) l tt

overflow_cast-least : tie.Need-overflow_cast-least
overflow_cast-least c = let f = (held c.before.before).weight in cast_need (arg f) (wider f)

overflow_mul-least : tie.Need-overflow_mul-least
overflow_mul-least c = let s = c.before.before in simp (widened (held s).weight).read (times s _ (omega arith))

is_within-requires : tie.Need-is_within-requires
is_within-requires c κs = search rules

is_within-requires-2 : tie.Need-is_within-requires-2
is_within-requires-2 c κs = search rules

difference-requires : tie.Need-difference-requires
difference-requires c κs = search rules

returns : tie.Need-returns
unfolding counts_fit
returns c =
    let s = c.before.before.before.before.before.before.before.before.before in
    let h = held s in
    simp (
      c.is_within.ensures,
      c.is_within-2.ensures,
      (widened h.weight).read,
      to_z-of_z (times s 10 (omega arith)),
      (be (got {w = w64} c.difference.result c.difference.type_inv) c.difference.ensures).read,
      to_z-of_z h.zero,
      to_z-of_z h.span,
    )

pub counts_fit_spec : {M : Type 1} → statement M
counts_fit_spec =
    tie.close
    (tie.spec
    overflow_cast-least
    overflow_mul-least
    is_within-requires
    is_within-requires-2
    difference-requires
    returns)
