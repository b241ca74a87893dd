-- The reply that is due to a line, made before anything of it is done, and the tick with a line of both. Assumes nothing.
use Rattle.std.specs.Prelude.{Result, Ok, ℤ, ℕ, Err, Option, Some, None}
use Prim.Native.Nat.{ℕ}
use mathlib.Core.Path.{◌≡◌, refl, ap, ◌∙◌}
use mathlib.Core.Bool.{Bool}
use mathlib.Core.List.{List}
use lib.IntN.{ℤ}
use Rattle.types.specs.declared.requests.Refusal.{Refusal}
use Rattle.types.specs.declared.settings.Settings.{Settings}
use Rattle.types.specs.declared.requests.Request.{Request}
use Rattle.types.specs.declared.weight.Panel.{Panel}
use Rattle.types.specs.declared.weight.Weights.{Weights}
use Rattle.outline.specs.Setpoints.{latest_of}
use Rattle.types.specs.declared.stages.Totals.{Totals}
use Rattle.types.specs.declared.machine.State.{State}
use Rattle.types.specs.declared.machine.Input.{Input}
use Rattle.types.specs.declared.machine.Ticked.{Ticked}
use Rattle.types.specs.declared.machine.Reading.{Reading}
use Rattle.types.specs.declared.lines.Word.{Word}
use Rattle.types.specs.declared.lines.Word.TheVariants as word
use Rattle.types.specs.declared.lines.Order.{Order}
use Rattle.types.specs.declared.lines.LineFault.{LineFault}
use Rattle.types.specs.declared.lines.Order.TheVariants as order
use Rattle.types.specs.declared.lines.LineFault.TheVariants as fault
use Rattle.types.specs.declared.lines.Reply.{Reply}
use Rattle.types.specs.declared.lines.Reply.TheVariants as reply
use Rattle.types.specs.declared.lines.LineRefusal.TheVariants as told
use Rattle.outline.specs.Weight.{raw_of}
use Rattle.outline.specs.Requests.{ruling_of, granted_of, decided_of}
use Rattle.outline.specs.Numbers.{told_number}
use Rattle.outline.specs.Tick.{entered_of, weights_of, settled_of, served_of, reading_of, outputs_of, tick_of, unasked_of}
use Rattle.outline.specs.Lines.{command_of}
use Rattle.outline.specs.Replies.{word_request, request_of, shown_of, word_reply, reply_text, reply_due, told_of, line_ticked, line_tick_of, written_of, reply_buffer}
use Rattle.replies.specs.declared.ShortBuffer.{ShortBuffer}
use Rattle.replies.specs.Wrote.{wrote_of}
use Rattle.serial.proofs.Parts.{fitted, short}
use Rattle.images.specs.StateImage.{image_of}
use Rattle.board.specs.AnswerImage.{answer_buffer}
use Rattle.board.specs.Board.{input_of}
use Rattle.board.proofs.InOrder.{Ran}

-- ---- it asks for four parts of a state
module _ (a b : State) (x : Reading) (o : Result (Unit {0}) Refusal) (ep : a.panel ≡ b.panel) (et : a.totals ≡ b.totals) (en : a.setpoints ≡ b.setpoints)
    (ew : a.waiting ≡ b.waiting) where
  word_shown : (w : Word) → word_reply w a x o ≡ word_reply w b x o
  word_shown word.ReadWeight = ap (λ (p : Panel). Some (reply.Weight (shown_of p.display x))) ep
  word_shown word.ReadTotal = ap (λ (t : Totals). Some (reply.Total t.total t.count)) et
  word_shown word.ReadSetpoints = λ i. Some (reply.Points (latest_of (en i) (ew i)))
  word_shown word.Zero = refl
  word_shown word.Tare = refl
  word_shown word.TareClear = refl
  word_shown word.ShowGross = refl
  word_shown word.ShowNet = refl
  word_shown word.Start = refl
  word_shown word.Stop = refl
  word_shown word.TotalClear = refl
  word_shown word.Undo = refl
  word_shown word.DayClose = refl
  word_shown word.Discharge = refl

  pub due_shown : (c : Result Order LineFault) → reply_due c a x o ≡ reply_due c b x o
  unfolding reply_due
  due_shown (Ok (order.Do w)) = word_shown w
  due_shown (Ok (order.Set p)) = refl
  due_shown (Err fault.NoLine) = refl
  due_shown (Err fault.LongLine) = refl
  due_shown (Err fault.OtherAddress) = refl
  due_shown (Err fault.Malformed) = refl
  due_shown (Err fault.Unknown) = refl

-- ---- it shows a weight to a read alone, which asks for nothing
module _ (st : State) (x y : Reading) (o : Result (Unit {0}) Refusal) where
  word_weighed : (w : Word) → (word_request w ≡ None → x ≡ y) → word_reply w st x o ≡ word_reply w st y o
  word_weighed word.ReadWeight e = ap (λ (r : Reading). Some (reply.Weight (shown_of st.panel.display r))) (e refl)
  word_weighed word.ReadTotal e = refl
  word_weighed word.ReadSetpoints e = refl
  word_weighed word.Zero e = refl
  word_weighed word.Tare e = refl
  word_weighed word.TareClear e = refl
  word_weighed word.ShowGross e = refl
  word_weighed word.ShowNet e = refl
  word_weighed word.Start e = refl
  word_weighed word.Stop e = refl
  word_weighed word.TotalClear e = refl
  word_weighed word.Undo e = refl
  word_weighed word.DayClose e = refl
  word_weighed word.Discharge e = refl

  pub due_weighed : (c : Result Order LineFault) → (request_of c ≡ None → x ≡ y) → reply_due c st x o ≡ reply_due c st y o
  unfolding reply_due request_of
  due_weighed (Ok (order.Do w)) e = word_weighed w e
  due_weighed (Ok (order.Set p)) e = refl
  due_weighed (Err fault.NoLine) e = refl
  due_weighed (Err fault.LongLine) e = refl
  due_weighed (Err fault.OtherAddress) e = refl
  due_weighed (Err fault.Malformed) e = refl
  due_weighed (Err fault.Unknown) e = refl

-- ---- the tick with a line: of what it asks, where the reply fits, and else of nothing
-- what it leaves in its three buffers: `image`, `after` and `answer` are theirs, `number` what it answers, `blank` the answer's bytes before
pub record Lined (s : Settings) (st : State) (count : ℤ) (contact : Bool) (receive buffer : List ℕ) (number : ℕ) (blank image after answer : List ℕ) : Type 0 where
  pub told : number ≡ told_number (line_tick_of s st count contact receive buffer).told
  pub next : image ≡ image_of (line_tick_of s st count contact receive buffer).state
  pub replied : after ≡ reply_buffer s st count contact receive buffer
  pub shown : answer ≡ answer_buffer (told_number (line_tick_of s st count contact receive buffer).told) (line_tick_of s st count contact receive buffer).length (line_tick_of s st count contact receive buffer).answer blank

module _ (s : Settings) (st : State) (count : ℤ) (contact : Bool) (receive buffer : List ℕ) (c : Result Order LineFault) (q : Option Request) (x : Weights) (o : Result (Unit {0}) Refusal) (wrote : Result ℕ ShortBuffer) (after : List ℕ)
    (ec : c ≡ command_of receive s.address) (er : q ≡ request_of c) where
  abbrev short_buffer : Result ℕ ShortBuffer
  short_buffer = Err (record {})

  abbrev asked : Input
  asked = input_of count contact q

  abbrev entered : State
  entered = entered_of s st (raw_of s.calibration count) contact

  abbrev tick : Ticked
  tick = tick_of s st asked

  module _ (ex : x ≡ weights_of s entered (raw_of s.calibration count) contact) (eo : o ≡ ruling_of s entered x q) where
    weighed : request_of c ≡ None → reading_of x ≡ tick.answer.reading
    unfolding tick_of outputs_of served_of settled_of decided_of ruling_of granted_of
    weighed e = simp (er ∙ e, ex)

    settled : o ≡ tick.answer.outcome
    unfolding tick_of outputs_of settled_of decided_of
    settled = simp (eo, ex)

    same-due : reply_due c entered (reading_of x) o ≡ reply_due c st tick.answer.reading tick.answer.outcome
    unfolding entered_of
    same-due =
        due_shown entered st (reading_of x) o refl refl refl refl c
        ∙ due_weighed st (reading_of x) tick.answer.reading o c weighed
        ∙ ap (reply_due c st tick.answer.reading) settled

    module _ (ew : wrote ≡ wrote_of (reply_text s.address (reply_due c entered (reading_of x) o)) buffer)
        (ea : after ≡ written_of (reply_text s.address (reply_due c entered (reading_of x) o)) buffer) where
      abbrev due : Option Reply
      due = reply_due c st tick.answer.reading tick.answer.outcome

      written : wrote ≡ wrote_of (reply_text s.address due) buffer
      written = ew ∙ ap (λ (r : Option Reply). wrote_of (reply_text s.address r) buffer) same-due

      bytes : after ≡ written_of (reply_text s.address due) buffer
      bytes = ea ∙ ap (λ (r : Option Reply). written_of (reply_text s.address r) buffer) same-due

      module _ (number : ℕ) (blank image answer : List ℕ) where
        pub lined : (n : ℕ) → wrote ≡ Ok n → number ≡ told_number (told_of c o) → Ran s st asked o number n blank image answer
            → Lined s st count contact receive buffer number blank image after answer
        lined n e et r =
            let f = fitted s st count contact receive buffer c q tick due wrote after ec er refl refl written bytes n e (told_of c tick.answer.outcome) refl (line_ticked (told_of c tick.answer.outcome) n tick) refl in
            let same = et ∙ ap (λ (u : Result (Unit {0}) Refusal). told_number (told_of c u)) settled ∙ (λ k. told_number (f.0 k).told) in
            record {
              told = same;
              next = r.next ∙ (λ k. image_of (f.0 k).state);
              replied = f.1;
              shown = r.shown ∙ (λ k. answer_buffer (same k) (f.0 k).length (f.0 k).answer blank);
            }

        pub lined-short : wrote ≡ short_buffer → number ≡ 14 → Ran s st (unasked_of count contact) (Ok tt) number 0 blank image answer
            → Lined s st count contact receive buffer number blank image after answer
        lined-short e et r =
            let f = short s st count contact receive buffer c q tick due wrote after ec er refl refl written bytes e (line_ticked (Err told.ShortBuffer) 0 (tick_of s st (unasked_of count contact))) refl in
            let same = et ∙ (λ k. told_number (f.0 k).told) in
            record {
              told = same;
              next = r.next ∙ (λ k. image_of (f.0 k).state);
              replied = f.1;
              shown = r.shown ∙ (λ k. answer_buffer (same k) (f.0 k).length (f.0 k).answer blank);
            }
