-- The totals stay in their range, and what can be taken back is in them. Assumes nothing.
use Rattle.std.specs.Prelude.{Option, None, Some, ℤ, ℕ}
use Prim.Native.Nat.{◌+◌, suc}
use native.Mathlib.Omega.{arith}
use mathlib.Core.Path.{◌≡◌}
use mathlib.Core.Bool.{true}
use mathlib.Core.List.{[], ◌∷◌}
use lib.Dec.{leb}
use lib.IntN.{ℤ, nat_abs}
use lib.Signed.{non_neg}
use borrow.Author.Tests.{leb-true}
use Rattle.types.specs.declared.settings.Settings.{Settings}
use Rattle.types.specs.declared.weight.Weights.{Weights}
use Rattle.types.specs.declared.requests.Request.{Request}
use Rattle.types.specs.declared.requests.Request.TheVariants as request
use Rattle.types.specs.declared.stages.Advanced.{Advanced}
use Rattle.types.specs.declared.stages.Totals.{Totals}
use Rattle.types.specs.declared.machine.State.{State}
use Rattle.types.specs.declared.machine.Input.{Input}
use Rattle.types.specs.declared.machine.Settled.{Settled}
use Rattle.outline.specs.Limits.{total_limit, batch_limit}
use Rattle.outline.specs.Totals.{clear_totals, bookable, grown_of, booked_totals, less_batch, taken_back}
use Rattle.outline.specs.Requests.{done_of, ruling_of, granted_of, decided_of}
use Rattle.outline.specs.Stages.{compared_of}
use Rattle.outline.specs.Tick.{entered_of, settled_of, with_tracking, finished_of, stepped_of, ended_of, next_of}
use Rattle.outline.specs.Ranges.{TotalsRange}
use Rattle.whole.specs.Chains.{links}
use Rattle.outline.proofs.Parts.{cond_in}

pub clear_in : TotalsRange clear_totals
clear_in = record { total = omega arith; count = omega arith; back = tt }

-- ---- step 4: clear and undo
less_in : (t : Totals) (b : Option ℕ) → TotalsRange t → TotalsRange (less_batch t b)
less_in t None h = h
less_in t (Some v) h = record { total = omega (arith, h.total); count = omega (arith, h.count); back = tt }

granted_totals : (st : State) (x : Weights) (r : Option Request) → TotalsRange st.totals → TotalsRange (granted_of st x r).state.totals
unfolding granted_of taken_back
granted_totals st x None h = h
granted_totals st x (Some request.Zero) h = h
granted_totals st x (Some request.Tare) h = h
granted_totals st x (Some request.TareClear) h = h
granted_totals st x (Some request.Start) h = h
granted_totals st x (Some request.Stop) h = h
granted_totals st x (Some (request.Set p)) h = h
granted_totals st x (Some request.TotalClear) h = clear_in
granted_totals st x (Some request.Undo) h = less_in st.totals st.totals.back h
granted_totals st x (Some request.ShowGross) h = h
granted_totals st x (Some request.ShowNet) h = h
granted_totals st x (Some request.DayClose) h = h
granted_totals st x (Some request.Discharge) h = h

settled_totals : (s : Settings) (st : State) (x : Weights) (r : Option Request) → TotalsRange st.totals → TotalsRange (decided_of s st x r).state.totals
unfolding decided_of
settled_totals s st x r h = cond_in TotalsRange (done_of (ruling_of s st x r)) (λ e. granted_totals st x r h) (λ e. h)

-- ---- step 6: a batch is booked where neither limit would be passed
booked_in : (t : Totals) (v : ℤ) → TotalsRange t → TotalsRange (booked_totals t v)
unfolding booked_totals
booked_in t v h = cond_in TotalsRange (bookable t v) grown (λ e. h)
  where
    grown : bookable t v ≡ true → TotalsRange (grown_of t v)
    grown e =
        let l = links (non_neg v) (leb (t.total + nat_abs v) total_limit ∷ leb (suc t.count) batch_limit ∷ []) e in
        record {
          total = leb-true (t.total + nat_abs v) total_limit l.1.0;
          count = leb-true (suc t.count) batch_limit l.1.1.0;
          back = (omega arith, omega arith);
        }

finished_totals : (s : Settings) (st : State) (x : Weights) (a : Advanced) → TotalsRange st.totals → TotalsRange (finished_of s st x a).totals
unfolding finished_of
finished_totals s st x a h = cond_in TotalsRange a.finished (λ e. booked_in st.totals (compared_of s.batching.mode x) h) (λ e. h)

ended_totals : (s : Settings) (a : Settled) (x : Weights) → TotalsRange a.state.totals → TotalsRange (ended_of s a x).totals
unfolding ended_of stepped_of with_tracking
ended_totals s a x h = cond_in TotalsRange a.held (λ e. h) (λ e. finished_totals s _ x _ h)

pub tick_totals : (s : Settings) (st : State) (i : Input) → TotalsRange st.totals → TotalsRange (next_of s st i).totals
unfolding next_of settled_of entered_of
tick_totals s st i h = ended_totals s _ _ (settled_totals s _ _ i.request h)
