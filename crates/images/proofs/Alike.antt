-- Bytes that read alike: so do the numbers at places in them. A byte past the end reads as 0, so that an earlier image reads as what it grows to,
-- and nothing waits in it. Assumes nothing.
use Prim.Native.Nat.{ℕ, zero, suc, ◌+◌, ◌*◌, ◌≤◌}
use native.Mathlib.Omega.{arith}
use mathlib.Core.Path.{◌≡◌, refl, ap}
use mathlib.Core.Bool.{◌&&◌}
use mathlib.Core.List.{List, [], ◌∷◌}
use lib.Dec.{T, eqb, leb, leb→le}
use lib.Ieee.Fits.{and_l, and_r}
use lib.ListN.{length, get_or, get_or-eq_default}
use Rattle.places.specs.Places.{Place, be_at, get_all, tidy, zeros_at, zeros_in}
use Rattle.outline.specs.Setpoints.{none_waiting}
use Rattle.images.specs.StateImage.{earlier_length, state_length, book_rows, book_of, stability_rows, stability_of, weighing_rows, weighing_of, panel_rows, panel_of, setpoint_rows, setpoints_of, sequence_rows, sequence_of, totals_rows, totals_of, waiting_rows, waiting_of, write_of, state_at}

abbrev pub AlikeFrom : ℕ → List ℕ → List ℕ → Type 0
AlikeFrom from a b = (i : ℕ) → from ≤ i → get_or a i 0 ≡ get_or b i 0

abbrev pub Alike : List ℕ → List ℕ → Type 0
Alike a b = (i : ℕ) → get_or a i 0 ≡ get_or b i 0

module _ (a b : List ℕ) where
  be_alike : (from : ℕ) → AlikeFrom from a b → (n at : ℕ) → from ≤ at → be_at n a at ≡ be_at n b at
  unfolding be_at
  be_alike from f zero at h = refl
  be_alike from f (suc n) at h = λ i. be_alike from f n at h i * 256 + f (at + n) (omega arith) i

  pub get_alike : (from : ℕ) → AlikeFrom from a b → (ps : List Place) (k : ℕ) → T (tidy from k ps) → get_all ps a ≡ get_all ps b
  unfolding get_all
  get_alike from f [] k t = refl
  get_alike from f (p ∷ ps) k t =
      let h = leb→le from p.at (and_l (leb from p.at) (tidy (p.at + p.bytes) k ps) t) in
      let rest = get_alike (p.at + p.bytes) (λ j g. f j (omega arith)) ps k (and_r (leb from p.at) (tidy (p.at + p.bytes) k ps) t) in
      λ i. be_alike from f p.bytes p.at h i ∷ rest i

module _ (a b : List ℕ) (f : Alike a b) where
  zeros_alike : (n at : ℕ) → zeros_at n at a ≡ zeros_at n at b
  unfolding zeros_at
  zeros_alike zero at = refl
  zeros_alike (suc n) at = λ i. zeros_alike n at i && eqb (f (at + n) i) 0

  pub all_zeros_alike : (ps : List Place) → zeros_in ps a ≡ zeros_in ps b
  all_zeros_alike [] = refl
  all_zeros_alike (p ∷ ps) = λ i. zeros_alike p.bytes p.at i && all_zeros_alike ps i

  pub all_alike : (ps : List Place) → T (tidy 0 state_length ps) → get_all ps a ≡ get_all ps b
  all_alike ps t = get_alike a b 0 (λ i h. f i) ps state_length t

  pub state_alike : state_at a ≡ state_at b
  unfolding state_at
  state_alike = λ i. record {
    book = book_of (all_alike book_rows tt i);
    stability = stability_of (all_alike stability_rows tt i);
    weighing = weighing_of (all_alike weighing_rows tt i);
    panel = panel_of (all_alike panel_rows tt i);
    setpoints = setpoints_of (all_alike setpoint_rows tt i);
    sequence = sequence_of (all_alike sequence_rows tt i);
    totals = totals_of (all_alike totals_rows tt i);
    waiting = waiting_of (all_alike waiting_rows tt i);
  }

-- what waits stands past the end of an earlier image
pub none_behind : (l : List ℕ) → length l ≤ earlier_length → (state_at l).waiting ≡ none_waiting
unfolding state_at get_all be_at write_of
none_behind l h = ap waiting_of (get_alike l [] earlier_length (λ i k. get_or-eq_default l 0 (omega arith)) waiting_rows state_length tt)
