-- Every state that is reached is in range, and so are the weights of its next tick: part by part, by the ticks that have passed.
-- Assumes nothing.
use native.Mathlib.Omega.{arith}
use mathlib.Core.Path.{◌≡◌, refl}
use mathlib.Core.Bool.{Bool, true, false, ◌||◌}
use mathlib.Core.List.{[], ◌∷◌}
use Rattle.types.specs.declared.settings.Settings.{Settings}
use Rattle.types.specs.declared.stages.Sequence.{Sequence}
use Rattle.types.specs.declared.machine.State.{State}
use Rattle.types.specs.declared.machine.Input.{Input}
use Rattle.outline.specs.Stages.{idle_of}
use Rattle.outline.specs.Tick.{open_state, next_of}
use Rattle.outline.specs.Run.{History, start, ◌▷◌, run_of, run_from}
use Rattle.outline.specs.Ranges.{StateRange}
use Rattle.outline.specs.StaysTrue.{InRange, FromRange}
use Rattle.whole.specs.Chains.{or_second}
use Rattle.outline.proofs.Parts.{clash}
use Rattle.outline.proofs.QuietStep.{no_error, quiet_of, quiet_tick, quiet_gates}
use Rattle.outline.proofs.RangeBook.{tick_book, tick_balanced}
use Rattle.outline.proofs.RangeStability.{tick_stability}
use Rattle.outline.proofs.RangeWeighing.{after_request, tick_weighing, tick_weights}
use Rattle.outline.proofs.RangeGuard.{tick_unstopped}
use Rattle.outline.proofs.RangeSetpoints.{open_fits, tick_fits}
use Rattle.outline.proofs.RangeSequence.{tick_sequence}
use Rattle.outline.proofs.RangeTotals.{clear_in, tick_totals}
use Rattle.outline.proofs.RangeTogether.{tick_together}
use Rattle.types.specs.declared.stages.SequenceError.TheVariants as error

pub open_in : (s : Settings) → StateRange s open_state
unfolding open_state
open_in s = record {
  book = record {
    opening = omega arith;
    last = omega arith;
    ticks = omega arith;
    sums = omega arith;
    late = omega arith;
    none = λ k. refl;
    blank = λ e. (refl, refl, refl, refl, refl, refl);
  };
  stability = record { run = omega arith; broken = λ e. refl };
  weighing = record {
    zero = omega arith;
    keyed = omega arith;
    tracked = omega arith;
    counter = omega arith;
    off = λ e. (refl, refl);
    tare_least = refl;
    tare_most = omega arith;
  };
  setpoints = open_fits s.batching.mode;
  waiting = refl;
  sequence = record {
    timer = tt;
    flow_clock = λ e. omega arith;
    discharge_clock = λ e. omega arith;
    unclocked = λ e. refl;
    no_error_lem = λ e. refl;
    no_judgement = λ e. refl;
    normal = λ e. absurd (clash e refl);
    normal_error = λ e. absurd (clash e refl);
  };
  totals = clear_in;
  together = record {
    begun = λ e. absurd (clash e refl);
    under_way = λ e. absurd (clash refl e);
    resting = λ e. refl;
    unbroken = λ e. refl;
    flow = refl;
    none_waits = λ e. refl;
  };
}

pub tick_in : (s : Settings) (st : State) (i : Input) → StateRange s st → StateRange s (next_of s st i)
tick_in s st i h =
    let fits = tick_fits s st i (record { used = h.setpoints; waits = h.waiting }) in
    record {
      book = tick_book s st i h.book;
      stability = tick_stability s st i;
      weighing = tick_weighing s st i h.weighing;
      setpoints = fits.used;
      waiting = fits.waits;
      sequence = tick_sequence s st i h.sequence;
      totals = tick_totals s st i h.totals;
      together = tick_together s st i h.together;
    }

pub run_in : (s : Settings) (h : History Input) → StateRange s (run_of s h)
unfolding run_of
run_in s start = open_in s
run_in s (h ▷ i) = tick_in s (run_of s h) i (run_in s h)

pub in_range : InRange
in_range s a h = record {
  state = run_in s h;
  weights = λ i. tick_weights s (run_of s h) i (run_in s h).weighing;
  unstopped = λ i. tick_unstopped s a (run_of s h) i (after_request s (run_of s h) i (run_in s h).weighing);
}

-- ---- from whatever state is in range and in balance
quiet_in : (q : Sequence) → (idle_of q.stage ≡ false → q.error ≡ error.None) → quiet_of q ≡ true
quiet_in q h = go (idle_of q.stage) refl
  where
    go : (t : Bool) → idle_of q.stage ≡ t → no_error q.error || t ≡ true
    go true e = or_second (no_error q.error) true refl
    go false e = rw (h e)

pub from_range : FromRange
unfolding run_from
from_range s st h e [] = record {
  range = h;
  balance = e;
  gates = λ i. quiet_gates s st i (quiet_tick s st i (quiet_in st.sequence h.sequence.no_error_lem));
}
from_range s st h e (i ∷ is) = from_range s (next_of s st i) (tick_in s st i h) (tick_balanced s st i h.book e) is
