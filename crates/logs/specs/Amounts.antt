-- The numbers of a ticket with their signs taken off, as the code holds them, and a text of lines by its keys and these. What they are of a
-- day is the outline's text: nothing here is to be believed.
use Rattle.std.specs.Prelude.{ℕ, suc, List, [], ◌∷◌, ◌++◌, false, cond, eqb, ℤ, pos, nat_abs}
use Rattle.std.specs.Int.Signed.{lt_z}
use Rattle.types.specs.declared.daybook.Book.{Book}
use Rattle.types.specs.declared.weight.Weighing.{Weighing}
use Rattle.types.specs.declared.stages.Totals.{Totals}
use Rattle.outline.specs.Ticket.{number_text}
use Rattle.logs.specs.declared.pairs.Amount.{Amount}

abbrev pub amount_of : ℤ → Amount
amount_of z = record { minus = lt_z z (pos 0); size = nat_abs z }

abbrev pub count_of : ℕ → Amount
count_of n = record { minus = false; size = n }

-- in the order of the lines
abbrev pub amounts_of : Book → Weighing → Totals → List Amount
amounts_of b w t =
    amount_of b.opening ∷ amount_of b.refilled ∷ amount_of b.used ∷ amount_of b.unbooked ∷ amount_of b.last
    ∷ amount_of w.tracked ∷ count_of t.count ∷ count_of t.total ∷ []

-- a number and the LF behind it
unfoldable pub number_line : Amount → List ℕ
number_line a = number_text a.minus a.size ++ (10 ∷ [])

unfoldable pub number_lines : List Amount → List ℕ
number_lines [] = []
number_lines (a ∷ s) = number_line a ++ number_lines s

-- how many `=` there are
unfoldable pub marks : List ℕ → ℕ
marks [] = 0
marks (x ∷ keys) = cond (eqb x 61) (suc (marks keys)) (marks keys)

-- the keys, with the next number behind each `=`
unfoldable pub filled : List ℕ → List Amount → List ℕ
filled [] s = []
filled (x ∷ keys) [] = x ∷ filled keys []
filled (x ∷ keys) (a ∷ s) = x ∷ cond (eqb x 61) (number_line a ++ filled keys s) (filled keys (a ∷ s))
