-- What a state can be: the ranges of its fields (outline's Ranges, reading D112) and the balance of its day, as one Boolean under
-- settings. A state that is not possible gives 21. Stages, errors and judgements are told by their numbers.
use Rattle.std.specs.Prelude.{ℕ, ◌+◌, ◌*◌, ◌/◌, max, Bool, true, false, cond, not, ◌&&◌, ◌||◌, eqb, ltb, leb, pos, nat_abs, ◌+ℤ◌, ◌-ℤ◌}
use Rattle.std.specs.Int.Signed.{le_z}
use Rattle.whole.specs.Ints.{eq_z}
use Rattle.types.specs.declared.settings.Mode.{Mode}
use Rattle.types.specs.declared.settings.Mode.TheVariants as mode
use Rattle.types.specs.declared.settings.Range.{Range}
use Rattle.types.specs.declared.settings.Tracking.{Tracking}
use Rattle.types.specs.declared.settings.Steadiness.{Steadiness}
use Rattle.types.specs.declared.settings.Batching.{Batching}
use Rattle.types.specs.declared.settings.Settings.{Settings}
use Rattle.types.specs.declared.daybook.Book.{Book}
use Rattle.types.specs.declared.weight.Stability.{Stability}
use Rattle.types.specs.declared.weight.Weighing.{Weighing}
use Rattle.types.specs.declared.stages.Setpoints.{Setpoints}
use Rattle.types.specs.declared.stages.Sequence.{Sequence}
use Rattle.types.specs.declared.stages.Totals.{Totals}
use Rattle.types.specs.declared.machine.State.{State}
use Rattle.outline.specs.Limits.{raw_limit, rise_limit, day_ticks, total_limit, batch_limit}
use Rattle.outline.specs.Numbers.{stage_number, error_number, judgement_number}
use Rattle.outline.specs.Setpoints.{setpoints_fit, no_large_flow}
use Rattle.outline.specs.Zero.{tracking_on}
use Rattle.outline.specs.Kinds.{is_write}
use Rattle.outline.specs.Ranges.{write_fits}
use Rattle.images.specs.StateImage.{stage_timer, back_tag, back_weight}

-- ---- the day book
abbrev pub blank_book : Book → Bool
blank_book b =
    not b.contact && eq_z b.opening (pos 0) && eq_z b.last (pos 0) && eq_z b.refilled (pos 0) && eq_z b.used (pos 0)
    && eq_z b.unbooked (pos 0)

-- "opening + refilled - used - unbooked is the last good raw"
abbrev pub balances : Book → Bool
balances b = eq_z (((b.opening +ℤ b.refilled) -ℤ b.used) -ℤ b.unbooked) b.last

unfoldable pub book_possible : Book → Bool
book_possible b =
    leb b.ticks day_ticks && leb (nat_abs b.opening) raw_limit && leb (nat_abs b.last) raw_limit
    && leb (nat_abs b.refilled + nat_abs b.used) (rise_limit * b.ticks)
    && leb (nat_abs (b.unbooked +ℤ b.last)) raw_limit
    && (leb day_ticks b.ticks || eq_z b.unbooked (pos 0))
    && (b.begun || blank_book b)
    && balances b

-- ---- stability: at most k, 0 after a bad tick
abbrev pub stability_possible : Steadiness → Stability → Bool
stability_possible rule q = leb q.run rule.time && (q.good || eqb q.run 0)

-- ---- zero and tare: |zero| and |zero - tracked|, the zero last keyed, at most C·p/10; |tracked| at most L; the counter below q, and 0
-- where q is 0; the tare 0..C·d; tracking that is off neither counts nor moves
abbrev pub weighing_possible : Range → Tracking → Weighing → Bool
weighing_possible r t w =
    leb (nat_abs w.zero) ((r.capacity * r.zeroing) / 10)
    && leb (nat_abs (w.zero -ℤ w.tracked)) ((r.capacity * r.zeroing) / 10)
    && leb (nat_abs w.tracked) t.allowance
    && ltb w.counter (max t.time 1)
    && le_z (pos 0) w.tare
    && leb (nat_abs w.tare) (r.capacity * r.division)
    && (tracking_on t || (eqb w.counter 0 && eq_z w.tracked (pos 0)))

-- ---- the sequence
-- the setting of a timed stage; 0 for any other
abbrev pub time_of : Batching → ℕ → ℕ
time_of b n =
    cond (eqb n 3) b.start
    (cond (eqb n 4) b.large
    (cond (eqb n 6) b.medium
    (cond (eqb n 8) b.small
    (cond (eqb n 10) b.judge
    (cond (eqb n 14) b.discharge.start
    (cond (eqb n 16) b.discharge.end 0))))))

-- the limit of the flow clock in 04 to 11, of the discharge's in 15 and 16; 0 where no clock runs
abbrev pub clock_limit : Batching → ℕ → ℕ
clock_limit b n = cond (ltb n 4) 0 (cond (leb n 11) b.flow (cond (leb 15 n) b.discharge.limit 0))

-- 14 to 16, and errors 7 and 8, belong to a discharge
abbrev pub discharges_at : ℕ → ℕ → Bool
discharges_at n e = leb 14 n || eqb e 7 || eqb e 8

abbrev pub is_normal : Mode → Bool
is_normal mode.Normal = true
is_normal mode.Loss = false

-- by the stage's number n, the error's e and the judgement's j
abbrev pub sequence_fits : Batching → ℕ → ℕ → ℕ → ℕ → ℕ → Bool
sequence_fits b n t clock e j =
    ltb t (max (time_of b n) 1)
    && leb clock (clock_limit b n)
    && (eqb n 0 || eqb e 0)
    && (eqb n 0 || leb 14 n || eqb j 0)
    && (is_normal b.mode || not (discharges_at n e))

abbrev pub sequence_possible : Batching → Sequence → Bool
sequence_possible b q =
    sequence_fits b (stage_number q.stage) (stage_timer q.stage) q.clock (error_number q.error) (judgement_number q.judgement)

-- ---- totals: what can be taken back was booked, so the total is at least its weight, and the count at least 1
abbrev pub totals_possible : Totals → Bool
totals_possible t =
    leb t.total total_limit && leb t.count batch_limit && leb (back_weight t.back) t.total && leb (back_tag t.back) t.count

-- ---- how the parts go together, by the stage's number n
-- 04 to 11 where F is not 0, 04 and 05 where there is a large flow, 06 and 07 where P is not 0
abbrev pub flow_possible : Mode → Setpoints → ℕ → Bool
flow_possible m p n =
    (ltb n 4 || ltb 11 n || not (eqb p.target 0))
    && (not (eqb n 4 || eqb n 5) || not (no_large_flow m p))
    && (not (eqb n 6 || eqb n 7) || not (eqb p.preliminary 0))

-- where the last tick was good, there has been a good one; a batch or a discharge goes on after a good tick alone; the tracking counter
-- is 0 but in stage 00 after a good tick; setpoints wait only outside 00
abbrev pub together_fits : Mode → Setpoints → ℕ → Bool → Bool → ℕ → Bool → Bool
together_fits m p n good begun counter waits =
    (not good || begun) && (eqb n 0 || good) && ((eqb n 0 && good) || eqb counter 0) && (not (eqb n 0) || not waits) && flow_possible m p n

abbrev pub together_possible : Settings → State → Bool
together_possible s st =
    together_fits s.batching.mode st.setpoints (stage_number st.sequence.stage) st.stability.good st.book.begun
    st.weighing.counter (is_write st.waiting)

-- what is left to ask after the day book, the totals, zero and tare, and what waits: the other parts, and how all go together
abbrev pub rest_possible : Settings → Stability → Setpoints → Sequence → Bool → ℕ → Bool → Bool
rest_possible s q p x begun counter waits =
    stability_possible s.steadiness q
    && setpoints_fit s.batching.mode p
    && sequence_possible s.batching x
    && together_fits s.batching.mode p (stage_number x.stage) q.good begun counter waits

-- ---- the whole
unfoldable pub possible : Settings → State → Bool
possible s st =
    book_possible st.book
    && stability_possible s.steadiness st.stability
    && weighing_possible s.range s.tracking st.weighing
    && setpoints_fit s.batching.mode st.setpoints
    && sequence_possible s.batching st.sequence
    && totals_possible st.totals
    && write_fits s.batching.mode st.waiting
    && together_possible s st
