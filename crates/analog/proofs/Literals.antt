-- The code's float literals, which the machine has by their bit patterns, are the whole numbers of the definitions. Assumes nothing.
use mathlib.Core.Path.{◌≡◌, refl}
use lib.IntN.{pos}
use lib.Ieee.{binary64, of_bits, of_int}
use Rattle.outline.specs.Analog.{f64}

pub is_0 : of_bits binary64 0 ≡ f64 (pos 0)
unfolding of_bits of_int
is_0 = refl

pub is_4 : of_bits binary64 0x4010_0000_0000_0000 ≡ f64 (pos 4)
unfolding of_bits of_int
is_4 = refl

pub is_10 : of_bits binary64 0x4024_0000_0000_0000 ≡ f64 (pos 10)
unfolding of_bits of_int
is_10 = refl

pub is_16 : of_bits binary64 0x4030_0000_0000_0000 ≡ f64 (pos 16)
unfolding of_bits of_int
is_16 = refl
