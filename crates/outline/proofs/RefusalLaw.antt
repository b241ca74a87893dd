-- A tick with a refused request is the tick without it, but for the outcome that it answers. Assumes nothing.
use Rattle.std.specs.Prelude.{Option, None, Result, Ok, Err, ℤ, ℕ}
use Prim.Native.Nat.{ℕ}
use native.Mathlib.Omega.{arith}
use mathlib.Core.Path.{◌≡◌, refl, ap}
use mathlib.Core.Bool.{Bool, false}
use Rattle.types.specs.declared.requests.Refusal.{Refusal}
use Rattle.types.specs.declared.settings.Settings.{Settings}
use Rattle.types.specs.declared.machine.State.{State}
use Rattle.types.specs.declared.machine.Input.{Input}
use Rattle.types.specs.declared.machine.Settled.{Settled}
use Rattle.types.specs.declared.machine.Ticked.{Ticked}
use Rattle.outline.specs.Weight.{raw_of}
use Rattle.outline.specs.Requests.{done_of, plainly, ruling_of, granted_of, unless_refused, decided_of}
use Rattle.outline.specs.Tick.{entered_of, weights_of, settled_of, served_of, with_tracking, ended_of, next_of, outputs_of, tick_of}
use Rattle.outline.specs.Run.{without_request}
use Rattle.outline.specs.StaysTrue.{Refusals}

-- the same, with another outcome and no day closed
abbrev told_settled : Result (Unit {0}) Refusal → Settled → Settled
told_settled o a = record { outcome = o; state = a.state; held = a.held; keyed = a.keyed; closed = None }

abbrev told : Result (Unit {0}) Refusal → Ticked → Ticked
told o t = record {
  state = t.state;
  answer = record {
    outcome = o;
    reading = t.answer.reading;
    stage = t.answer.stage;
    gates = t.answer.gates;
    judgement = t.answer.judgement;
    error = t.answer.error;
    near = t.answer.near;
    full = t.answer.full;
    analog = t.answer.analog;
    closed = None;
  };
}

-- refused, step 4 does what it does where nothing is asked
unmoved : (o : Result (Unit {0}) Refusal) (st : State) (granted : Settled) → done_of o ≡ false → unless_refused o st granted ≡ told_settled o (unless_refused (Ok tt) st (plainly st))
unmoved (Ok tt) st granted e = let z : ◌≡◌ {A = ℕ} 0 1 = cc in absurd (omega arith)
unmoved (Err n) st granted e = refl

-- the rest of a tick sees of step 4 its outcome only to answer it
abbrev rest_of : Settings → Option ℤ → Bool → Settled → Ticked
rest_of s raw contact a =
    let x = weights_of s a.state raw contact in
    record { state = ended_of s a x; answer = outputs_of s a x (ended_of s a x) }

same : (s : Settings) (st : State) (i : Input) → done_of (tick_of s st i).answer.outcome ≡ false → tick_of s st i ≡ told (tick_of s st i).answer.outcome (tick_of s st (without_request i))
unfolding tick_of next_of served_of settled_of decided_of ruling_of granted_of outputs_of ended_of with_tracking
same s st i e =
    let raw = raw_of s.calibration i.count in
    let entered = entered_of s st raw i.contact in
    ap (rest_of s raw i.contact) (unmoved _ entered (granted_of entered (weights_of s entered raw i.contact) i.request) e)

pub refusals : Refusals
refusals s st i e =
    let w = same s st i e in
    record {
      state = ap (λ (t : Ticked). t.state) w;
      reading = ap (λ (t : Ticked). t.answer.reading) w;
      stage = ap (λ (t : Ticked). t.answer.stage) w;
      gates = ap (λ (t : Ticked). t.answer.gates) w;
      judgement = ap (λ (t : Ticked). t.answer.judgement) w;
      error = ap (λ (t : Ticked). t.answer.error) w;
      near = ap (λ (t : Ticked). t.answer.near) w;
      full = ap (λ (t : Ticked). t.answer.full) w;
      analog = ap (λ (t : Ticked). t.answer.analog) w;
      closed = ap (λ (t : Ticked). t.answer.closed) w;
    }
