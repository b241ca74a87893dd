-- What a tick does to the totals, beside what it does to the ledger: steps 4 and 6. Assumes nothing.
use Rattle.std.specs.Prelude.{Option, None, Some, Ok, Err, ℤ, ℕ}
use mathlib.Core.Path.{◌≡◌, refl, sym, ap, ◌∙◌, subst}
use mathlib.Core.Bool.{Bool, true, false, cond, not, ◌&&◌}
use mathlib.Core.List.{[], ◌∷◌}
use Prim.Native.Nat.{suc, ◌+◌, ◌≤◌}
use native.Mathlib.Omega.{arith}
use lib.Dec.{leb}
use lib.ListN.{length}
use lib.IntN.{ℤ, nat_abs}
use lib.Signed.{non_neg}
use borrow.Author.Tests.{leb-true}
use Rattle.types.specs.declared.settings.Settings.{Settings}
use Rattle.types.specs.declared.weight.Weights.{Weights}
use Rattle.types.specs.declared.requests.Request.{Request}
use Rattle.types.specs.declared.requests.Request.TheVariants as request
use Rattle.types.specs.declared.requests.Refusal.TheVariants as refusal
use Rattle.types.specs.declared.stages.Totals.{Totals}
use Rattle.types.specs.declared.machine.State.{State}
use Rattle.types.specs.declared.machine.Input.{Input}
use Rattle.types.specs.declared.machine.Settled.{Settled}
use Rattle.outline.specs.Limits.{total_limit, batch_limit}
use Rattle.outline.specs.Stages.{compared_of, facts_of, advance_of}
use Rattle.outline.specs.Totals.{bookable, grown_of, booked_totals, none_back, less_batch, taken_back}
use Rattle.outline.specs.Requests.{ruling_of, done_of, granted_of, decided_of}
use Rattle.outline.specs.Tick.{entered_of, settled_of, served_of, with_tracking, finished_of, stepped_of, ended_of, next_of}
use Rattle.outline.specs.Kinds.{Asked, nothing, undo, clear, request_kind}
use Rattle.outline.specs.Ledger.{event_of, Ledger, sum_n, total_of, count_of, take_back, ask_step, can_book, finish_step}
use Rattle.outline.specs.StaysTrue.{totals_asked}
use Rattle.whole.specs.Chains.{links}
use Rattle.outline.proofs.Parts.{cond_same, clash}
use Rattle.outline.proofs.FinishStep.{tick_finish, tick_weight}

-- ---- how the totals agree with the ledger
-- the differences of an undo do not stop at 0
abbrev pub Undoable : Option ℕ → Totals → Type 0
Undoable None t = Unit {0}
Undoable (Some v) t = (v ≤ t.total) × (1 ≤ t.count)

pub record Totalled (t : Totals) (l : Ledger) : Type 0 where
  pub total : t.total + sum_n l.taken ≡ sum_n l.booked
  pub count : t.count + length l.taken ≡ length l.booked
  pub back : t.back ≡ l.back
  pub undoable : Undoable t.back t
  pub total_limit_lem : t.total ≤ total_limit
  pub count_limit_lem : t.count ≤ batch_limit

-- ---- step 4: an undo and a clear alone change them; an undo is refused where it would change nothing
undo_totals : (t : Totals) → cond (done_of (cond (none_back t.back) (Err refusal.NothingToTakeBack) (Ok tt))) (taken_back t) t ≡ taken_back t
unfolding taken_back
undo_totals t = go t.back
  where
    go : (b : Option ℕ) → cond (done_of (cond (none_back b) (Err refusal.NothingToTakeBack) (Ok tt))) (less_batch t b) t ≡ less_batch t b
    go None = refl
    go (Some v) = refl

settled_totals : (s : Settings) (st : State) (x : Weights) (r : Option Request) → (decided_of s st x r).state.totals ≡ totals_asked (request_kind r).ledger st.totals
unfolding decided_of ruling_of granted_of
settled_totals s st x None = refl
settled_totals s st x (Some request.Zero) = simp cond_same
settled_totals s st x (Some request.Tare) = simp cond_same
settled_totals s st x (Some request.TareClear) = simp cond_same
settled_totals s st x (Some request.Start) = simp cond_same
settled_totals s st x (Some request.Stop) = refl
settled_totals s st x (Some (request.Set p)) = simp cond_same
settled_totals s st x (Some request.TotalClear) = refl
settled_totals s st x (Some request.Undo) = undo_totals st.totals
settled_totals s st x (Some request.ShowGross) = refl
settled_totals s st x (Some request.ShowNet) = refl
settled_totals s st x (Some request.DayClose) = simp cond_same
settled_totals s st x (Some request.Discharge) = simp cond_same

-- ---- steps 5 and 6: a finished batch alone changes them
abbrev pub finish_totals : Bool → ℤ → Totals → Totals
finish_totals false v t = t
finish_totals true v t = booked_totals t v

finish_cond : (held finished : Bool) (v : ℤ) (t : Totals) → cond held t (cond finished (booked_totals t v) t) ≡ finish_totals (not held && finished) v t
finish_cond true finished v t = refl
finish_cond false true v t = refl
finish_cond false false v t = refl

ended_totals : (s : Settings) (a : Settled) (x : Weights) →
    (ended_of s a x).totals
    ≡ finish_totals (not a.held && (advance_of s.batching a.state.setpoints a.state.sequence (facts_of s.batching.mode a.state.setpoints x)).finished) (compared_of s.batching.mode x) a.state.totals
unfolding ended_of with_tracking stepped_of finished_of
ended_totals s a x = finish_cond a.held _ _ _

-- ---- each beside the ledger
take_back_lem : (t : Totals) (l : Ledger) (b : Option ℕ) → t.back ≡ b → Totalled t l → Totalled (less_batch t b) (take_back l b)
take_back_lem t l None e h = h
take_back_lem t l (Some v) e h =
    let room : (v ≤ t.total) × (1 ≤ t.count) = subst (λ (b : Option ℕ). Undoable b t) e h.undoable in
    record {
      total = omega (arith, h.total, room.0);
      count = omega (arith, h.count, room.1);
      back = refl;
      undoable = tt;
      total_limit_lem = omega (arith, h.total_limit_lem);
      count_limit_lem = omega (arith, h.count_limit_lem);
    }

ask_total : (t : Totals) (l : Ledger) (a : Asked) → Totalled t l → Totalled (totals_asked a t) (ask_step a l)
unfolding taken_back
ask_total t l nothing h = h
ask_total t l undo h = subst (λ (b : Option ℕ). Totalled (taken_back t) (take_back l b)) h.back (take_back_lem t l t.back refl h)
ask_total t l clear h = record { total = refl; count = refl; back = refl; undoable = tt; total_limit_lem = omega arith; count_limit_lem = omega arith }

finish_total : (t : Totals) (l : Ledger) (f : Bool) (v : ℤ) → Totalled t l → Totalled (finish_totals f v t) (finish_step f v l)
unfolding booked_totals
finish_total t l false v h = h
finish_total t l true v h = go (bookable t v) (can_book l v) same refl
  where
    same : bookable t v ≡ can_book l v
    same = λ i. bookable (record { total = all i; count = many i; back = t.back }) v
      where
        all : t.total ≡ total_of l
        all = omega (arith, h.total)

        many : t.count ≡ count_of l
        many = omega (arith, h.count)

    go : (b c : Bool) → b ≡ c → bookable t v ≡ b → Totalled (cond b (grown_of t v) t) (cond c (record { booked = nat_abs v ∷ l.booked; taken = l.taken; back = Some (nat_abs v) }) l)
    go true true e k =
        let fits = links (non_neg v) (leb (t.total + nat_abs v) total_limit ∷ leb (suc t.count) batch_limit ∷ []) k in
        record {
          total = omega (arith, h.total);
          count = omega (arith, h.count);
          back = refl;
          undoable = (omega arith, omega arith);
          total_limit_lem = leb-true _ _ fits.1.0;
          count_limit_lem = leb-true _ _ fits.1.1.0;
        }
    go false false e k = h
    go true false e k = absurd (clash refl e)
    go false true e k = absurd (clash refl (sym e))

-- ---- the whole tick
module _ (s : Settings) (st : State) (i : Input) where
  pub next_totals : (next_of s st i).totals ≡ finish_totals (event_of s st i).finished (event_of s st i).weight (totals_asked (event_of s st i).asked st.totals)
  unfolding next_of settled_of entered_of event_of
  next_totals =
      ended_totals s (settled_of s st i) (served_of s st i)
      ∙ (λ j. finish_totals (tick_finish s st i j) (tick_weight s st i j) (settled_of s st i).state.totals)
      ∙ ap (finish_totals (event_of s st i).finished (event_of s st i).weight) (settled_totals s _ _ i.request)

  pub tick_totals : (l : Ledger) → Totalled st.totals l →
      Totalled (next_of s st i).totals (finish_step (event_of s st i).finished (event_of s st i).weight (ask_step (event_of s st i).asked l))
  tick_totals l h =
      let b = event_of s st i in
      rw next_totals (finish_total _ _ b.finished b.weight (ask_total _ _ b.asked h))
