-- An opening gives a state exactly where it answers 0: by its two answers. Assumes nothing.
use Rattle.std.specs.Prelude.{Option, None, Some}
use native.Mathlib.Omega.{arith}
use mathlib.Core.Path.{◌≡◌, refl}
use mathlib.Core.List.{[], ◌∷◌}
use mathlib.Core.Logic.{◌⊎◌, inl, inr}
use Rattle.outline.specs.Settings.{open_of}
use Rattle.outline.specs.Tick.{open_state, opened_of}
use Rattle.outline.specs.Numbers.{opening_number}
use Rattle.outline.specs.Owed.{OpeningLaw}
use Rattle.types.specs.declared.settings.Settings.{Settings}

ten : (o : Option Settings) → opening_number o ≡ 10 → opened_of o ≡ []
ten None e = refl
ten (Some s) e = absurd (omega (arith, e))

nought : (o : Option Settings) → opening_number o ≡ 0 → opened_of o ≡ open_state ∷ []
nought None e = absurd (omega (arith, e))
nought (Some s) e = refl

one_of_both : (o : Option Settings) → (opening_number o ≡ 10) ⊎ (opening_number o ≡ 0)
one_of_both None = inl refl
one_of_both (Some s) = inr refl

pub opening_law : OpeningLaw
opening_law g = record { refused = ten (open_of g); accepted = nought (open_of g); either = one_of_both (open_of g) }
