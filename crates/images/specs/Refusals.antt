-- Why an image is refused for its bytes, by its number: "20 wrong image length, then 21 impossible field".
use Rattle.std.specs.Prelude.{ℕ, Result, Ok, Err}
use Rattle.images.specs.declared.refusals.ImageRefusal.{ImageRefusal}
use Rattle.images.specs.declared.refusals.ImageRefusal.TheVariants as refusal

abbrev pub image_number : ImageRefusal → ℕ
image_number refusal.WrongLength = 20
image_number refusal.Impossible = 21

-- and 0 where it is not
abbrev pub bytes_number : Result Unit ImageRefusal → ℕ
bytes_number (Ok tt) = 0
bytes_number (Err n) = image_number n
