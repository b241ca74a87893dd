-- The analog ends of accepted settings lie in their range and differ. Assumes nothing.
use mathlib.Core.Path.{◌≡◌, refl, sym, ap, ◌∙◌, subst}
use mathlib.Core.Bool.{true, not}
use mathlib.Core.List.{[], ◌∷◌}
use lib.Dec.{T}
use lib.IntN.{ℤ, nat_abs}
use borrow.Author.Tests.{leb-true}
use Rattle.whole.specs.Ints.{eq_z, eq_z_yes}
use Rattle.types.specs.declared.settings.Given.{Given}
use Rattle.types.specs.declared.settings.Settings.{Settings}
use Rattle.outline.specs.Limits.{end_limit}
use Rattle.outline.specs.Settings.{from_to, within, analog_fits, settings_of}
use Rattle.outline.specs.Analog.{scale_of}
use Rattle.outline.specs.AnalogOwed.{Ends, ScaleLaw}
use Rattle.whole.specs.Chains.{links}
use Rattle.outline.proofs.Opened.{passed, rows}

differ : (x y : ℤ) → not (eq_z x y) ≡ true → x ≡ y → ⊥
differ x y h e = subst T (sym h ∙ ap not (eq_z_yes x y e)) tt

ends : (g : Given) → analog_fits g ≡ true → Ends g.low g.high
unfolding analog_fits
ends g h =
    let r = links (from_to 0 2 g.board) (within end_limit g.low ∷ within end_limit g.high ∷ not (eq_z g.low g.high) ∷ []) h in
    record {
      low_in = leb-true (nat_abs g.low) end_limit r.1.0;
      high_in = leb-true (nat_abs g.high) end_limit r.1.1.0;
      apart = differ g.low g.high r.1.1.1.0;
    }

made : (g : Given) → (settings_of g).scale ≡ scale_of g.low g.high
unfolding settings_of
made g = refl

pub scale_law : ScaleLaw
scale_law g s e =
    let p = passed g s e in
    record { ends = ends g (rows g p.fit).analog; scale = ap (λ (t : Settings). t.scale) (sym p.made) ∙ made g }
