-- Each way through the tests is one case of the definition. What tracked becomes fits an i64, and an i32 once it is within the allowance.
use borrow.Author.Rules.{rules}
use borrow.Author.Tests.{le-leb, lt-leb}
use mathlib.Core.Path.{◌≡◌, sym, ap, ◌∙◌}
use mathlib.Core.Bool.{true, false}
use Prim.Native.Nat.{suc, ◌+◌}
use native.Mathlib.Numerals.{add-one}
use native.Mathlib.Omega.{arith}
use lib.Dec.{leb}
use lib.IntN.{ℤ, nat_abs, ◌+ℤ◌}
use mir.Syntax.{w32, w64}
use mir.Val.{SFits, of_z, to_z}
use mir.Facts.{to_z-of_z}
use Rattle.whole.specs.Bits.{Read, arg, add, add_need, cast, cast_need}
use Rattle.whole.specs.Machine.{sfits_of, fits_abs, abs_fits, add_fits, wider}
use Rattle.types.specs.declared.settings.Settings.{Settings}
use Rattle.types.specs.declared.weight.Weighing.{Weighing}
use Rattle.types.specs.declared.weight.Weights.{Weights}
use Rattle.outline.specs.Settings.{within}
use Rattle.outline.specs.Zero.{in_zero_range, moved_of, with_counter, counted_up}
use Rattle.outline.specs.Within.{inside, outside}
use Rattle.zero.proofs.tracking.counted_up.Statement.{statement}
use Rattle.zero.proofs.tracking.counted_up.Tie as tie

-- ---- the cases of the definition
module _ (s : Settings) (w : Weighing) (x : Weights) where
  counts : leb s.tracking.time (suc w.counter) ≡ false → with_counter w (w.counter + 1) ≡ counted_up s w x
  counts h = simp (h, add-one)

  module _ (full : leb s.tracking.time (suc w.counter) ≡ true) where
    far : in_zero_range s.range x.raw ≡ false → with_counter w 0 ≡ counted_up s w x
    far h = simp (full, h)

    module _ (near : in_zero_range s.range x.raw ≡ true) where
      spent : within s.tracking.allowance (w.tracked +ℤ x.fine) ≡ false → with_counter w 0 ≡ counted_up s w x
      spent h = simp (full, near, h)

      moves : within s.tracking.allowance (w.tracked +ℤ x.fine) ≡ true → moved_of w x ≡ counted_up s w x
      moves h = simp (full, near, h)

-- ---- the numbers of the code
abbrev sum_of : tie.Start → ℤ
sum_of s = s.args.w.tracked +ℤ s.args.x.fine

tracked_fits : (s : tie.Start) → SFits w32 s.args.w.tracked
tracked_fits s = search sfits_of

fine_fits : (s : tie.Start) → SFits w64 s.args.x.fine
fine_fits s = search sfits_of

raw_fits : (s : tie.Start) → SFits w32 s.args.x.raw
raw_fits s = search sfits_of

sum_fits : (s : tie.Start) → SFits w64 (sum_of s)
sum_fits s = add_fits w64 2147483648 255 s.args.w.tracked s.args.x.fine (abs_fits w32 (tracked_fits s)) s.requires tt

old : (s : tie.Start) → Read w64 (of_z w64 (to_z w32 (of_z w32 s.args.w.tracked))) s.args.w.tracked
old s = cast (arg (tracked_fits s)) (wider (tracked_fits s))

moved : (s : tie.Start) → Read w64 (of_z w64 (to_z w64 (of_z w64 (to_z w32 (of_z w32 s.args.w.tracked))) +ℤ to_z w64 (of_z w64 s.args.x.fine))) (sum_of s)
moved s = add (old s) (arg (fine_fits s)) (sum_fits s)

-- at q
abbrev start : tie.Else-next-s → tie.Start
start c = c.before.before.before

full : (c : tie.Else-next-s) → leb (start c).args.s.tracking.time (suc (start c).args.w.counter) ≡ true
full c = le-leb (start c).args.s.tracking.time (suc (start c).args.w.counter) (omega arith)

range : (c : tie.After-in_zero_range) → c.in_zero_range.result ≡ in_zero_range c.args.s.range c.args.x.raw
range c =
    let s = start c.before.before.before in
    c.in_zero_range.ensures ∙ ap (in_zero_range s.args.s.range) (to_z-of_z (raw_fits s))

-- the place where the raw is in range
abbrev near : tie.After-magnitude → tie.Else-not-in_zero_range
near c = c.before.before.before.before.before

abbrev at : tie.After-magnitude → tie.Else-next-s
at c = (near c).before.before.before.before

size : (c : tie.After-magnitude) → c.magnitude.result ≡ nat_abs (sum_of (start (at c)))
size c = c.magnitude.ensures ∙ ap nat_abs (moved (start (at c))).read

small_fits : (c : tie.Then-magnitude-s) → SFits w32 (sum_of (start (at c.before.before)))
small_fits c = fits_abs w32 (omega (arith, size c.before.before))

overflow_cast-next : tie.Need-overflow_cast-next
overflow_cast-next c = search rules

overflow_add-next : tie.Need-overflow_add-next
overflow_add-next c = search rules

overflow_cast-s : tie.Need-overflow_cast-s
overflow_cast-s c = search rules

overflow_cast-w : tie.Need-overflow_cast-w
overflow_cast-w c = search rules

returns-then-next-s : tie.Need-returns-then-next-s
returns-then-next-s c =
    let a = c.args in
    counts a.s a.w a.x (lt-leb a.s.tracking.time (suc a.w.counter) (omega arith))

in_zero_range-requires : tie.Need-in_zero_range-requires
in_zero_range-requires c κs = search rules

returns-then-not-in_zero_range : tie.Need-returns-then-not-in_zero_range
returns-then-not-in_zero_range c =
    let e = c.before.before.before in
    let a = (start e.before).args in
    far a.s a.w a.x (full e.before) (sym (range c.before) ∙ c.if-not-in_zero_range.true)

overflow_cast-moved : tie.Need-overflow_cast-moved
overflow_cast-moved c =
    let s = start c.before.before.before.before.before.before in
    cast_need (arg (tracked_fits s)) (wider (tracked_fits s))

overflow_add-moved : tie.Need-overflow_add-moved
overflow_add-moved c =
    let s = start c.before.before.before.before.before.before.before.before in
    add_need (old s) (arg (fine_fits s)) (sum_fits s)

magnitude-requires : tie.Need-magnitude-requires
magnitude-requires c κs = search rules

overflow_cast-s-2 : tie.Need-overflow_cast-s-2
overflow_cast-s-2 c = search rules

overflow_cast-w-then-magnitude-s : tie.Need-overflow_cast-w-then-magnitude-s
overflow_cast-w-then-magnitude-s c =
    let t = c.before in
    cast_need (moved (start (at t.before.before))) (small_fits t)

in_range : (c : tie.After-magnitude) → in_zero_range (start (at c)).args.s.range (start (at c)).args.x.raw ≡ true
in_range c = sym (range (near c).before) ∙ (near c).if-not-in_zero_range.false

returns-then-magnitude-s : tie.Need-returns-then-magnitude-s
returns-then-magnitude-s c =
    let t = c.before in
    let m = t.before.before in
    let s = start (at m) in
    let a = s.args in
    (λ i. record { zero = to_z-of_z (raw_fits s) i; tracked = (cast (moved s) (small_fits t)).read i; counter = 0; tare = a.w.tare })
    ∙ moves a.s a.w a.x (full (at m)) (in_range m) (inside _ (sum_of s) (size m) t.if-magnitude-s.true)

returns : tie.Need-returns
returns c =
    let m = c.before.before in
    let s = start (at m) in
    let a = s.args in
    spent a.s a.w a.x (full (at m)) (in_range m) (outside _ (sum_of s) (size m) c.if-magnitude-s.false)

pub counted_up_spec : {M : Type 1} → statement M
counted_up_spec =
    tie.close
    (tie.spec
    overflow_cast-next
    overflow_add-next
    overflow_cast-s
    overflow_cast-w
    returns-then-next-s
    in_zero_range-requires
    returns-then-not-in_zero_range
    overflow_cast-moved
    overflow_add-moved
    magnitude-requires
    overflow_cast-s-2
    overflow_cast-w-then-magnitude-s
    returns-then-magnitude-s
    returns)
