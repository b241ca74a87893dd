-- What a state image is read as, under settings as they are given.
use Rattle.std.specs.Prelude.{ℕ, List, cond, eqb, length}
use Rattle.places.specs.Places.{same_bytes}
use Rattle.types.specs.declared.settings.Given.{Given}
use Rattle.types.specs.declared.machine.State.{State}
use Rattle.outline.specs.Settings.{settings_of}
use Rattle.images.specs.StateImage.{state_length, earlier_length, image_of, state_at, grown_of}
use Rattle.images.specs.Possible.{possible}

-- "20 wrong image length, then 21 impossible field": 21 where the state at the places is not possible under the settings' numbers as they
-- are given, or where, written again, it does not give the same bytes. That one comparison refuses an unused byte that is not 0, a number
-- that names nothing and a value that has no use.
unfoldable pub state_refusal : Given → List ℕ → State → ℕ
state_refusal g l st =
    cond (eqb (length l) state_length)
    (cond (possible (settings_of g) st)
    (cond (same_bytes (image_of st) l) 0 21)
    21)
    20

-- what is asked of the bytes alone: the length, and that the state at the places gives them again
unfoldable pub bytes_refusal : List ℕ → ℕ
bytes_refusal l = cond (eqb (length l) state_length) (cond (same_bytes (image_of (state_at l)) l) 0 21) 20

-- of an earlier image: its length, and that the state at its places gives the bytes that it grows to. A byte past its end reads as 0, so
-- that nothing waits.
unfoldable pub earlier_refusal : List ℕ → ℕ
earlier_refusal e = cond (eqb (length e) earlier_length) (cond (same_bytes (image_of (state_at e)) (grown_of e)) 0 21) 20

pub record StateRead : Type 0 where
  pub refusal : ℕ
  pub state : State

-- the refusal, or 0, and the state; where it is refused the state is only what stands at the places
unfoldable pub state_in : Given → List ℕ → StateRead
state_in g l = record { refusal = state_refusal g l (state_at l); state = state_at l }
