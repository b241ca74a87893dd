-- A tick with a line, put together from what its parts give: the command, the tick, the reply due and what was written. Assumes nothing.
use Rattle.std.specs.Prelude.{Result, Ok, Err, Option}
use Prim.Native.Nat.{ℕ}
use native.Mathlib.Omega.{arith}
use mathlib.Core.Path.{◌≡◌, refl, sym, ap, ◌∙◌}
use mathlib.Core.Bool.{Bool, true, false, cond}
use mathlib.Core.List.{List}
use lib.Dec.{leb}
use lib.ListN.{length}
use lib.IntN.{ℤ}
use Rattle.types.specs.declared.settings.Settings.{Settings}
use Rattle.types.specs.declared.requests.Request.{Request}
use Rattle.types.specs.declared.machine.State.{State}
use Rattle.types.specs.declared.machine.Ticked.{Ticked}
use Rattle.types.specs.declared.lines.Order.{Order}
use Rattle.types.specs.declared.lines.LineFault.{LineFault}
use Rattle.types.specs.declared.lines.Reply.{Reply}
use Rattle.types.specs.declared.lines.LineRefusal.{LineRefusal}
use Rattle.types.specs.declared.lines.LineRefusal.TheVariants as told
use Rattle.types.specs.declared.lines.LineTick.{LineTick}
use Rattle.outline.specs.Tick.{settled_of, outputs_of, tick_of, unasked_of}
use Rattle.outline.specs.Lines.{command_of}
use Rattle.outline.specs.Replies.{request_of, reply_text, reply_due, told_of, asked_of, due_text, line_ticked, line_tick_of, written_of, reply_buffer}
use Rattle.outline.proofs.ReadLaw.{due_before}
use Rattle.replies.specs.declared.ShortBuffer.{ShortBuffer}
use Rattle.replies.specs.Wrote.{wrote_of}

abbrev short_buffer : Result ℕ ShortBuffer
short_buffer = Err (record {})

-- what the writer answered decides the case, and gives the length
fitted_case : (t : Bool) (k n : ℕ) (a : Result (Unit {0}) LineRefusal) (tick : Ticked) (other : LineTick) → cond t (Ok k) short_buffer ≡ Ok n → line_ticked a n tick ≡ cond t (line_ticked a k tick) other
fitted_case true k n a tick other e =
    let same : n ≡ k = cc in
    ap (λ (m : ℕ). line_ticked a m tick) same
fitted_case false k n a tick other e = let z : ◌≡◌ {A = ℕ} 0 1 = cc in absurd (omega arith)

short_case : (t : Bool) (k : ℕ) (fit short : LineTick) → cond t (Ok k) short_buffer ≡ short_buffer → short ≡ cond t fit short
short_case true k fit short e = let z : ◌≡◌ {A = ℕ} 0 1 = cc in absurd (omega arith)
short_case false k fit short e = refl

module _ (s : Settings) (st : State) (count : ℤ) (contact : Bool) (receive buffer : List ℕ)
    (command : Result Order LineFault) (request : Option Request) (tick : Ticked) (due : Option Reply) (wrote : Result ℕ ShortBuffer) (after : List ℕ)
    (ec : command ≡ command_of receive s.address)
    (er : request ≡ request_of command)
    (et : tick ≡ tick_of s st (record { count = count; contact = contact; request = request }))
    (ed : due ≡ reply_due command st tick.answer.reading tick.answer.outcome)
    (ew : wrote ≡ wrote_of (reply_text s.address due) buffer)
    (ea : after ≡ written_of (reply_text s.address due) buffer) where
  -- the tick is of the input that the line asks for
  asked : tick ≡ tick_of s st (asked_of s count contact receive)
  asked = et ∙ ap (λ (r : Option Request). tick_of s st (record { count = count; contact = contact; request = r })) (er ∙ ap request_of ec)

  text_due : reply_text s.address due ≡ due_text s st count contact receive
  unfolding due_text tick_of outputs_of
  text_due =
      ap (reply_text s.address)
      (ed ∙ (λ j. reply_due (ec j) st (asked j).answer.reading (asked j).answer.outcome)
      ∙ sym (due_before s st (asked_of s count contact receive) (command_of receive s.address) refl _ _))

  wrote_due : (w : Result ℕ ShortBuffer) → wrote ≡ w → wrote_of (due_text s st count contact receive) buffer ≡ w
  wrote_due w e = ap (λ (text : List ℕ). wrote_of text buffer) (sym text_due) ∙ sym ew ∙ e

  bytes_due : after ≡ reply_buffer s st count contact receive buffer
  unfolding reply_buffer
  bytes_due = ea ∙ ap (λ (text : List ℕ). written_of text buffer) text_due

  pub fitted : (n : ℕ) → wrote ≡ Ok n → (t : Result (Unit {0}) LineRefusal) → t ≡ told_of command tick.answer.outcome → (r : LineTick) → r ≡ line_ticked t n tick
      → (r ≡ line_tick_of s st count contact receive buffer) × (after ≡ reply_buffer s st count contact receive buffer)
  unfolding line_tick_of wrote_of tick_of outputs_of
  fitted n e t ett r err = (
    err ∙ (λ j. line_ticked ((ett ∙ (λ k. told_of (ec k) (asked k).answer.outcome)) j) n (asked j))
        ∙ fitted_case (leb (length (due_text s st count contact receive)) (length buffer)) (length (due_text s st count contact receive)) n
        (told_of (command_of receive s.address) (settled_of s st (asked_of s count contact receive)).outcome)
        (tick_of s st (asked_of s count contact receive)) _ (wrote_due (Ok n) e),
    bytes_due,
  )

  pub short : wrote ≡ short_buffer → (r : LineTick) → r ≡ line_ticked (Err told.ShortBuffer) 0 (tick_of s st (unasked_of count contact))
      → (r ≡ line_tick_of s st count contact receive buffer) × (after ≡ reply_buffer s st count contact receive buffer)
  unfolding line_tick_of wrote_of
  short e r err = (
    err ∙ short_case (leb (length (due_text s st count contact receive)) (length buffer)) (length (due_text s st count contact receive)) _ _
        (wrote_due short_buffer e),
    bytes_due,
  )
