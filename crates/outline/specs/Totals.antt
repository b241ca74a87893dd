-- Booking at finish, undo and total clear: the outline's section "Stages", its last paragraph, and "total clear" of its requests.
use Rattle.std.specs.Prelude.{suc, ◌+◌, ◌-◌, Bool, true, false, cond, ◌&&◌, leb, ℤ, nat_abs, Option, None, Some, ℕ}
use Rattle.std.specs.Int.Signed.{non_neg}
use Rattle.types.specs.declared.stages.SequenceError.TheVariants as error
use Rattle.types.specs.declared.stages.Sequence.{Sequence}
use Rattle.types.specs.declared.stages.Totals.{Totals}
use Rattle.outline.specs.Limits.{total_limit, batch_limit}

-- "Opening: .. totals .. 0, .. nothing to take back"; "total clear makes total and count 0"; "after an undo or clear there is none
-- to take back."
abbrev pub clear_totals : Totals
clear_totals = record { total = 0; count = 0; back = None }

-- "if v is 0 or more, and neither total nor count would pass 99,999,999"
abbrev pub bookable : Totals → ℤ → Bool
bookable t v = non_neg v && leb (t.total + nat_abs v) total_limit && leb (suc t.count) batch_limit

-- "total grows by v and count by 1."
abbrev pub grown_of : Totals → ℤ → Totals
grown_of t v = record { total = t.total + nat_abs v; count = suc t.count; back = Some (nat_abs v) }

-- "Otherwise both stay", and so does what can be taken back: the last booked batch
unfoldable pub booked_totals : Totals → ℤ → Totals
booked_totals t v = cond (bookable t v) (grown_of t v) t

-- "and the error is 10 (house)."
unfoldable pub booked_sequence : Totals → ℤ → Sequence → Sequence
booked_sequence t v q =
    cond (bookable t v) q (record { stage = q.stage; clock = q.clock; error = error.NotBooked; judgement = q.judgement })

-- "nothing to take back"
abbrev pub none_back : Option ℕ → Bool
none_back None = true
none_back (Some v) = false

-- "Undo takes back the last booked batch, once". The differences stop at 0, a guard that no run meets.
abbrev pub less_batch : Totals → Option ℕ → Totals
less_batch t None = t
less_batch t (Some v) = record { total = t.total - v; count = t.count - 1; back = None }

unfoldable pub taken_back : Totals → Totals
taken_back t = less_batch t t.back
