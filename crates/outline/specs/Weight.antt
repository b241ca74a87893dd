-- The outline's section "From count to weight". Raw and gross fine are in tenths, gross divisions in divisions, gross, net and tare in
-- display digits.
use Rattle.std.specs.Prelude.{suc, ◌+◌, ◌*◌, min, Bool, true, false, cond, not, ◌&&◌, ltb, eqb, ℤ, pos, nat_abs, ◌-ℤ◌, ◌*ℤ◌, Option, None}
use Rattle.std.specs.Prelude.{Some}
use Rattle.whole.specs.Nearest.{nearest_of}
use Rattle.whole.specs.Limit.{limit_to}
use Rattle.types.specs.declared.settings.Calibration.{Calibration}
use Rattle.types.specs.declared.settings.Range.{Range}
use Rattle.types.specs.declared.settings.Steadiness.{Steadiness}
use Rattle.types.specs.declared.settings.Settings.{Settings}
use Rattle.types.specs.declared.weight.Stability.{Stability}
use Rattle.types.specs.declared.weight.Weighing.{Weighing}
use Rattle.types.specs.declared.weight.Weights.{Weights}
use Rattle.types.specs.declared.weight.Display.{Display}
use Rattle.types.specs.declared.weight.Display.TheVariants as display
use Rattle.outline.specs.Limits.{count_limit, raw_limit, display_limit, overload_margin}
use Rattle.outline.specs.Settings.{within}

-- "A count outside -2,000,000..2,000,000 makes a bad tick."
abbrev pub good_count : ℤ → Bool
good_count count = within count_limit count

-- "Raw, in tenths, is (count - Z)·10·W/(S - Z), rounded to nearest, halves away from zero."
abbrev pub tenths_of : Calibration → ℤ → ℤ
tenths_of cal count = nearest_of ((count -ℤ cal.zero) *ℤ pos (10 * cal.weight)) cal.counts

-- What a count makes. The second test is a guard: no accepted calibration makes a raw that it stops.
unfoldable pub raw_of : Calibration → ℤ → Option ℤ
raw_of cal count = cond (good_count count && within raw_limit (tenths_of cal count)) (Some (tenths_of cal count)) None

-- "Gross divisions = gross fine / 10, rounded the same way"
abbrev pub divisions_of : ℤ → ℤ
divisions_of fine = nearest_of fine 10

-- "overload when its magnitude exceeds C + 8."
abbrev pub overload_of : Range → ℤ → Bool
overload_of r divisions = ltb (r.capacity + overload_margin) (nat_abs divisions)

-- "Gross = divisions·d."
abbrev pub gross_of : Range → ℤ → ℤ
gross_of r divisions = divisions *ℤ pos r.division

-- A guard: gross and net stop at the limit of what they are kept in, which no run meets.
abbrev pub kept_of : ℤ → ℤ
kept_of x = limit_to display_limit x

-- "Stable when the run is k."
abbrev pub stable_of : Steadiness → Stability → Bool
stable_of rule q = eqb q.run rule.time

-- "Gross fine = raw - zero in force. .. Net = gross - tare. In a bad tick gross and net are answered as 0, without overload." The tick's
-- refill contact stands beside the weights: refusal 8 and tracking ask for it (A6).
unfoldable pub weigh_of : Settings → Stability → Weighing → Option ℤ → Bool → Weights
weigh_of s q w None contact = record {
  good = false;
  contact = contact;
  raw = pos 0;
  fine = pos 0;
  divisions = pos 0;
  gross = pos 0;
  net = pos 0;
  overload = false;
  stable = stable_of s.steadiness q;
}
weigh_of s q w (Some raw) contact =
    let fine = raw -ℤ w.zero in
    let divisions = divisions_of fine in
    let gross = kept_of (gross_of s.range divisions) in
    record {
      good = true;
      contact = contact;
      raw = raw;
      fine = fine;
      divisions = divisions;
      gross = gross;
      net = kept_of (gross -ℤ w.tare);
      overload = overload_of s.range divisions;
      stable = stable_of s.steadiness q;
    }

-- "a good tick after a good tick whose raw changed by at most 10·s adds one to the run, which stops at k; any other tick makes it 0."
-- `last` is the last good raw before this tick: that of the tick just before, where that one was good.
unfoldable pub steadied_of : Steadiness → Stability → ℤ → Option ℤ → Stability
steadied_of rule q last None = record { good = false; run = 0 }
steadied_of rule q last (Some raw) = record {
  good = true;
  run = cond (q.good && within (10 * rule.width) (raw -ℤ last)) (min (suc q.run) rule.time) 0;
}

-- a good tick without overload
abbrev pub fit_of : Weights → Bool
fit_of x = x.good && not x.overload

-- the displayed weight
abbrev pub displayed_of : Display → Weights → ℤ
displayed_of display.Gross x = x.gross
displayed_of display.Net x = x.net
