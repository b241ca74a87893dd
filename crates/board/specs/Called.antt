-- What a call answers in its own words, by the number that C is told. No promise of a C call names these.
use Rattle.std.specs.Prelude.{ℕ, List, Bool, cond, eqb, length, ◌≡◌, Result, Ok, Err}
use Rattle.types.specs.declared.settings.Settings.{Settings}
use Rattle.images.specs.Refusals.{image_number}
use Rattle.images.specs.StateImage.{state_at}
use Rattle.outline.specs.Settings.{open_of}
use Rattle.outline.specs.Numbers.{opening_number}
use Rattle.images.specs.GivenImage.{given_in, given_length}
use Rattle.images.specs.Possible.{possible}
use Rattle.board.specs.declared.CallRefusal.{CallRefusal}
use Rattle.board.specs.declared.CallRefusal.TheVariants as refusal
use Rattle.board.specs.Board.{call_refusal, given_by, settings_by}

abbrev pub refusal_number : CallRefusal → ℕ
refusal_number (refusal.Image n) = image_number n
refusal_number refusal.Settings = 10
refusal_number refusal.ShortBuffer = 14
refusal_number refusal.LongBlock = 15

-- the number of a tick's answer, and 0 where nothing else was asked
abbrev pub told_by : Result ℕ CallRefusal → ℕ
told_by (Ok n) = n
told_by (Err n) = refusal_number n

abbrev pub done_number : Result Unit CallRefusal → ℕ
done_number (Ok tt) = 0
done_number (Err n) = refusal_number n

abbrev pub opened_number : Result Settings CallRefusal → ℕ
opened_number (Ok s) = 0
opened_number (Err n) = refusal_number n

-- an image that is refused with b for its lengths and bytes, or else is possible or not
unfoldable pub image_refusal : ℕ → Bool → ℕ
image_refusal b p = cond (eqb b 0) (cond p 0 21) b

-- the settings image l, and the image e of a state, in a buffer that is refused with b
unfoldable pub judged_number : List ℕ → ℕ → List ℕ → ℕ
judged_number l b e = call_refusal (given_in l).refusal (image_refusal b (possible (settings_by l) (state_at e))) (given_by l)

-- where the images pass, what is left to refuse a call is the settings, which have an image's length
abbrev pub LeftToOpen : List ℕ → ℕ → List ℕ → Type 0
LeftToOpen l b e = (length l ≡ given_length) × (opening_number (open_of (given_by l)) ≡ judged_number l b e)
