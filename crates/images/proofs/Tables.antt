-- Tables of rows one after the other: the numbers of all fit their rows, if those of each table do. Assumes nothing.
use Prim.Native.Nat.{ℕ}
use mathlib.Core.List.{List, [], ◌∷◌, ◌++◌}
use Rattle.places.specs.Places.{Place, Numbers}

pub record Table : Type 0 where
  pub rows : List Place
  pub numbers : List ℕ
  pub fit : Numbers rows numbers

abbrev pub table : (ps : List Place) (vs : List ℕ) → Numbers ps vs → Table
table ps vs f = record { rows = ps; numbers = vs; fit = f }

abbrev pub all_rows : List Table → List Place
all_rows [] = []
all_rows (t ∷ ts) = t.rows ++ all_rows ts

abbrev pub all_numbers : List Table → List ℕ
all_numbers [] = []
all_numbers (t ∷ ts) = t.numbers ++ all_numbers ts

fit_both : (ps qs : List Place) (us vs : List ℕ) → Numbers ps us → Numbers qs vs → Numbers (ps ++ qs) (us ++ vs)
fit_both [] qs [] vs f h = h
fit_both [] qs (u ∷ us) vs f h = absurd f
fit_both (p ∷ ps) qs [] vs f h = absurd f
fit_both (p ∷ ps) qs (u ∷ us) vs f h = (f.0, fit_both ps qs us vs f.1 h)

pub fit_all : (ts : List Table) → Numbers (all_rows ts) (all_numbers ts)
fit_all [] = tt
fit_all (t ∷ ts) = fit_both t.rows (all_rows ts) t.numbers (all_numbers ts) t.fit (fit_all ts)
