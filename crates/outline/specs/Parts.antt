-- The state with one part made anew, and one of two states picked part by part. Nothing of the outline stands here.
use Rattle.std.specs.Prelude.{Bool, cond, Option}
use Rattle.types.specs.declared.weight.Stability.{Stability}
use Rattle.types.specs.declared.weight.Weighing.{Weighing}
use Rattle.types.specs.declared.weight.Display.{Display}
use Rattle.types.specs.declared.daybook.Book.{Book}
use Rattle.types.specs.declared.stages.Setpoints.{Setpoints}
use Rattle.types.specs.declared.stages.Sequence.{Sequence}
use Rattle.types.specs.declared.stages.Totals.{Totals}
use Rattle.types.specs.declared.machine.State.{State}

abbrev pub with_book : State → Book → State
with_book st x = record {
  book = x;
  stability = st.stability;
  weighing = st.weighing;
  panel = st.panel;
  setpoints = st.setpoints;
  waiting = st.waiting;
  sequence = st.sequence;
  totals = st.totals;
}

abbrev pub with_stability : State → Stability → State
with_stability st x = record {
  book = st.book;
  stability = x;
  weighing = st.weighing;
  panel = st.panel;
  setpoints = st.setpoints;
  waiting = st.waiting;
  sequence = st.sequence;
  totals = st.totals;
}

abbrev pub with_weighing : State → Weighing → State
with_weighing st x = record {
  book = st.book;
  stability = st.stability;
  weighing = x;
  panel = st.panel;
  setpoints = st.setpoints;
  waiting = st.waiting;
  sequence = st.sequence;
  totals = st.totals;
}

abbrev pub with_display : State → Display → State
with_display st x = record {
  book = st.book;
  stability = st.stability;
  weighing = st.weighing;
  panel = record { display = x };
  setpoints = st.setpoints;
  waiting = st.waiting;
  sequence = st.sequence;
  totals = st.totals;
}

abbrev pub with_setpoints : State → Setpoints → State
with_setpoints st x = record {
  book = st.book;
  stability = st.stability;
  weighing = st.weighing;
  panel = st.panel;
  setpoints = x;
  waiting = st.waiting;
  sequence = st.sequence;
  totals = st.totals;
}

abbrev pub with_waiting : State → Option Setpoints → State
with_waiting st x = record {
  book = st.book;
  stability = st.stability;
  weighing = st.weighing;
  panel = st.panel;
  setpoints = st.setpoints;
  waiting = x;
  sequence = st.sequence;
  totals = st.totals;
}

abbrev pub with_sequence : State → Sequence → State
with_sequence st x = record {
  book = st.book;
  stability = st.stability;
  weighing = st.weighing;
  panel = st.panel;
  setpoints = st.setpoints;
  waiting = st.waiting;
  sequence = x;
  totals = st.totals;
}

abbrev pub with_totals : State → Totals → State
with_totals st x = record {
  book = st.book;
  stability = st.stability;
  weighing = st.weighing;
  panel = st.panel;
  setpoints = st.setpoints;
  waiting = st.waiting;
  sequence = st.sequence;
  totals = x;
}

-- a where t is so, else b; part by part, so that a theorem on one part opens that part alone
abbrev pub pick_state : Bool → State → State → State
pick_state t a b = record {
  book = cond t a.book b.book;
  stability = cond t a.stability b.stability;
  weighing = cond t a.weighing b.weighing;
  panel = cond t a.panel b.panel;
  setpoints = cond t a.setpoints b.setpoints;
  waiting = cond t a.waiting b.waiting;
  sequence = cond t a.sequence b.sequence;
  totals = cond t a.totals b.totals;
}
