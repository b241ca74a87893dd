-- The digits begin within the line or at its end; the run of them and the number that they say are what the calls give.
use Rattle.std.proofs.Common.{◌≡◌, ◌≤◌, ◌∙◌, ℕ, sym, ap, arith, cond, drop, take}
use Prim.Native.Nat.{suc}
use borrow.Author.Rules.{part_to_end}
use lib.Dec.{eqb}
use mir.Facts.{to_z-of_z}
use mir.Syntax.{w32}
use Rattle.whole.specs.Machine.{sfits_of}
use Rattle.outline.specs.Log.{digit_run, digits_from, is_minus, signed_of, value_from}
use Rattle.logs.proofs.RunLaws.{value_limit}
use Rattle.logs.proofs.NumberLaws.{minus_within, number_read}
use Rattle.logs.proofs.numerals.number_at.Goals as goal

pub digits_from-from-requires : goal.digits_from-from-requires
digits_from-from-requires c h =
    omega (arith, minus_within c.args.line.now c.args.at (ap (λ (b : ℕ). eqb b 45) (sym c.byte_at-minus.ensures) ∙ h))

pub signed-requires : goal.signed-requires
signed-requires c =
    let few : c.digit_run-n.result ≤ digit_run c.part-digits.result.now = omega (arith, c.digit_run-n.ensures) in
    omega (arith, c.value_of.ensures, value_limit c.part-digits.result.now c.digit_run-n.result 9 few (omega arith))

pub returns-in-1-to-9 : goal.returns-in-1-to-9
returns-in-1-to-9 c =
    let begins : c.digits_from-from.result ≡ digits_from c.args.line.now c.args.at =
    c.digits_from-from.ensures ∙ ap (λ (b : ℕ). cond (eqb b 45) (suc c.args.at) c.args.at) c.byte_at-minus.ensures in
    let digits : c.part-digits.result.now ≡ drop c.digits_from-from.result c.args.line.now = c.part-digits.ensures ∙ part_to_end c.args.line.now c.digits_from-from.result in
    let said : c.signed.result ≡ signed_of (is_minus c.args.line.now c.args.at) (value_from 0 (take c.digit_run-n.result c.part-digits.result.now)) =
    c.signed.ensures ∙ simp (c.byte_at-minus.ensures, c.value_of.ensures) in
    rw (to_z-of_z (sfits_of {w = w32} c.signed.type_inv))
    (number_read c.args.line.now c.args.at _ _ _ begins digits c.digit_run-n.ensures _ said (omega arith) (omega arith))
