-- A read asks nothing of its tick, so that what step 4 leaves of display, totals and setpoints is what stood before it: the reply due can
-- be made from the state before the tick and from what the tick answers. A law that the proof of the tick with a line cites. Assumes
-- nothing.
use Rattle.std.specs.Prelude.{◌≡◌, Result, Ok, Err, Some, None}
use Rattle.std.proofs.Math.Path.{refl, ap}
use Rattle.types.specs.declared.requests.Refusal.{Refusal}
use Rattle.types.specs.declared.settings.Settings.{Settings}
use Rattle.types.specs.declared.stages.Setpoints.{Setpoints}
use Rattle.types.specs.declared.stages.Totals.{Totals}
use Rattle.types.specs.declared.weight.Panel.{Panel}
use Rattle.types.specs.declared.machine.State.{State}
use Rattle.types.specs.declared.machine.Input.{Input}
use Rattle.types.specs.declared.machine.Reading.{Reading}
use Rattle.types.specs.declared.lines.Word.{Word}
use Rattle.types.specs.declared.lines.Word.TheVariants as word
use Rattle.types.specs.declared.lines.Order.{Order}
use Rattle.types.specs.declared.lines.LineFault.{LineFault}
use Rattle.types.specs.declared.lines.Order.TheVariants as order
use Rattle.types.specs.declared.lines.LineFault.TheVariants as fault
use Rattle.types.specs.declared.lines.Reply.TheVariants as reply
use Rattle.outline.specs.Weight.{raw_of}
use Rattle.outline.specs.Setpoints.{latest_of}
use Rattle.outline.specs.Requests.{ruling_of, granted_of, decided_of}
use Rattle.outline.specs.Tick.{entered_of, settled_of}
use Rattle.outline.specs.Replies.{word_request, request_of, shown_of, word_reply, reply_due}

module _ (s : Settings) (st : State) (i : Input) where
  settled_unasked : i.request ≡ None → (settled_of s st i).state ≡ entered_of s st (raw_of s.calibration i.count) i.contact
  unfolding settled_of decided_of ruling_of granted_of
  settled_unasked e = simp e

  panel_stays : i.request ≡ None → (settled_of s st i).state.panel ≡ st.panel
  unfolding entered_of
  panel_stays e = ap (λ (t : State). t.panel) (settled_unasked e)

  totals_stay : i.request ≡ None → (settled_of s st i).state.totals ≡ st.totals
  unfolding entered_of
  totals_stay e = ap (λ (t : State). t.totals) (settled_unasked e)

  latest_stays : i.request ≡ None
      → latest_of (settled_of s st i).state.setpoints (settled_of s st i).state.waiting ≡ latest_of st.setpoints st.waiting
  unfolding entered_of
  latest_stays e = ap (λ (t : State). latest_of t.setpoints t.waiting) (settled_unasked e)

  word_before : (w : Word) → i.request ≡ word_request w → (x : Reading) (o : Result (Unit {0}) Refusal)
      → word_reply w (settled_of s st i).state x o ≡ word_reply w st x o
  word_before word.ReadWeight e x o = ap (λ (p : Panel). Some (reply.Weight (shown_of p.display x))) (panel_stays e)
  word_before word.ReadTotal e x o = ap (λ (t : Totals). Some (reply.Total t.total t.count)) (totals_stay e)
  word_before word.ReadSetpoints e x o = ap (λ (p : Setpoints). Some (reply.Points p)) (latest_stays e)
  word_before word.Zero e x o = refl
  word_before word.Tare e x o = refl
  word_before word.TareClear e x o = refl
  word_before word.ShowGross e x o = refl
  word_before word.ShowNet e x o = refl
  word_before word.Start e x o = refl
  word_before word.Stop e x o = refl
  word_before word.TotalClear e x o = refl
  word_before word.Undo e x o = refl
  word_before word.DayClose e x o = refl
  word_before word.Discharge e x o = refl

  pub due_before : (c : Result Order LineFault) → i.request ≡ request_of c → (x : Reading) (o : Result (Unit {0}) Refusal)
      → reply_due c (settled_of s st i).state x o ≡ reply_due c st x o
  unfolding request_of reply_due
  due_before (Ok (order.Do w)) e x o = word_before w e x o
  due_before (Ok (order.Set p)) e x o = refl
  due_before (Err fault.NoLine) e x o = refl
  due_before (Err fault.LongLine) e x o = refl
  due_before (Err fault.OtherAddress) e x o = refl
  due_before (Err fault.Malformed) e x o = refl
  due_before (Err fault.Unknown) e x o = refl
