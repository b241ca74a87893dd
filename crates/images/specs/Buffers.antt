-- A buffer of any length. Only one of the state image's length is written. The waiting set is read from such a buffer alone, every other
-- part from any buffer of at least the earlier length; a shorter one reads as if it had no byte.
use Rattle.std.specs.Prelude.{ℕ, List, [], Bool, false, cond, ◌||◌, eqb, leb, length}
use Rattle.outline.specs.Settings.{settings_of}
use Rattle.places.specs.Places.{Place, put_all}
use Rattle.images.specs.StateImage.{state_length, earlier_length, grown_of, state_at}
use Rattle.images.specs.GivenImage.{given_length, given_at}
use Rattle.images.specs.Possible.{possible}

-- the bytes of a buffer that has n of them
unfoldable pub bytes_of : ℕ → List ℕ → List ℕ
bytes_of n l = cond (eqb (length l) n) l []

-- the bytes of a buffer that has at least those of an earlier image
unfoldable pub bytes_from : List ℕ → List ℕ
bytes_from l = cond (leb earlier_length (length l)) l []

-- a state image's length, or that of an earlier one
abbrev pub is_image : ℕ → Bool
is_image n = eqb n state_length || eqb n earlier_length

-- the bytes that an image of either length has, or grows to
unfoldable pub filled : List ℕ → List ℕ
filled l = cond (eqb (length l) earlier_length) (grown_of l) l

-- the numbers of a part of a state at the places of its rows
unfoldable pub put_part : List Place → List ℕ → List ℕ → List ℕ
put_part rows numbers l = cond (eqb (length l) state_length) (put_all rows numbers l) l

-- whether the state that the buffer s holds, as a state image or an earlier one, is possible under the settings that g holds
unfoldable pub possible_in : List ℕ → List ℕ → Bool
possible_in g s =
    cond (eqb (length g) given_length) (cond (is_image (length s)) (possible (settings_of (given_at g)) (state_at s)) false) false
