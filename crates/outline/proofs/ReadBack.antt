-- Setpoints written on the line read back as the same figures: an accepted SS, ticks of which none writes setpoints, then RS.
-- Assumes nothing.
use Rattle.std.specs.Prelude.{Option, None, Some, Result, Ok, Err, ℤ, ℕ}
use Prim.Native.Nat.{ℕ, ◌+◌}
use native.Mathlib.Omega.{arith}
use mathlib.Core.Path.{◌≡◌, refl, ap, ◌∙◌}
use mathlib.Core.Bool.{Bool, true, false, cond, ◌&&◌}
use mathlib.Core.List.{List, [], ◌∷◌}
use lib.Dec.{leb, ltb, eqb}
use lib.ListN.{length, get_or}
use lib.IntN.{ℤ}
use Rattle.types.specs.declared.requests.Refusal.{Refusal}
use Rattle.types.specs.declared.settings.Settings.{Settings}
use Rattle.types.specs.declared.requests.Request.TheVariants as request
use Rattle.types.specs.declared.stages.Setpoints.{Setpoints}
use Rattle.types.specs.declared.machine.State.{State}
use Rattle.types.specs.declared.machine.Input.{Input}
use Rattle.types.specs.declared.lines.LineKind.{LineKind}
use Rattle.types.specs.declared.lines.LineKind.TheVariants as kind
use Rattle.types.specs.declared.lines.Letters.{Letters}
use Rattle.types.specs.declared.lines.Letters.TheVariants as letters
use Rattle.types.specs.declared.lines.Word.TheVariants as word
use Rattle.types.specs.declared.lines.Order.{Order}
use Rattle.types.specs.declared.lines.LineFault.{LineFault}
use Rattle.types.specs.declared.lines.Order.TheVariants as order
use Rattle.types.specs.declared.lines.LineFault.TheVariants as fault
use Rattle.types.specs.declared.lines.LineTick.{LineTick}
use Rattle.outline.specs.Tick.{settled_of, served_of, reading_of, next_of, unasked_of}
use Rattle.outline.specs.Lines.{line_of, kind_of, prefix_length, is_prefixed, letters_of, fields_of, set_of, decode_of, body_of, spoken_of, command_at, command_of}
use Rattle.outline.specs.Replies.{request_of}
use Rattle.outline.specs.Replies.{framed, reply_text, reply_due, points_text, outcome_told, told_of, asked_of, due_text, line_tick_of}
use Rattle.outline.specs.Run.{History, ◌▷◌, run_of, then_all, line_input}
use Rattle.outline.specs.Kinds.{request_kind, is_write}
use Rattle.outline.specs.Setpoints.{none_waiting}
use Rattle.outline.specs.Requests.{idle_now}
use Rattle.outline.specs.StaysTrue.{NoneSet, figures_of, ReadBack}
use Rattle.outline.proofs.DigitsBack.{fields_back}
use Rattle.outline.proofs.SetpointStep.{read_of, settled_kept, tick_kept, tick_set}
use Rattle.outline.proofs.RangeRun.{run_in}

-- ---- SS was read: its fields are the setpoints
set_fields : (f : Option Setpoints) (p : Setpoints) → set_of f ≡ Ok (order.Set p) → f ≡ Some p
set_fields (Some q) p e = cc
set_fields None p e = let z : ◌≡◌ {A = ℕ} 0 1 = cc in absurd (omega arith)

decoded : (l : Option Letters) (line : List ℕ) (at : ℕ) (p : Setpoints) → decode_of l line at ≡ Ok (order.Set p) → fields_of line (at + 2) ≡ Some p
unfolding decode_of
decoded (Some (letters.One w)) line at p = go (eqb (length line) (at + 2))
  where
    go : (t : Bool) → cond t (Ok (order.Do w)) (Err fault.Malformed) ≡ Ok (order.Set p) → fields_of line (at + 2) ≡ Some p
    go true e = let z : ◌≡◌ {A = ℕ} 0 1 = cc in absurd (omega arith)
    go false e = let z : ◌≡◌ {A = ℕ} 0 1 = cc in absurd (omega arith)
decoded (Some letters.Set) line at p = go (eqb (length line) (at + 44))
  where
    go : (t : Bool) → cond t (set_of (fields_of line (at + 2))) (Err fault.Malformed) ≡ Ok (order.Set p) → fields_of line (at + 2) ≡ Some p
    go true e = set_fields (fields_of line (at + 2)) p e
    go false e = let z : ◌≡◌ {A = ℕ} 0 1 = cc in absurd (omega arith)
decoded None line at p = λ e. let z : ◌≡◌ {A = ℕ} 0 1 = cc in absurd (omega arith)

-- neither refusal on the way is SS
prefixed : (t : Bool) (c : Result Order LineFault) (p : Setpoints) → cond t c (Err fault.OtherAddress) ≡ Ok (order.Set p) → c ≡ Ok (order.Set p)
prefixed true c p e = e
prefixed false c p e = let z : ◌≡◌ {A = ℕ} 0 1 = cc in absurd (omega arith)

lettered : (t : Bool) (c : Result Order LineFault) (p : Setpoints) → cond t (Err fault.Malformed) c ≡ Ok (order.Set p) → c ≡ Ok (order.Set p)
lettered true c p e = let z : ◌≡◌ {A = ℕ} 0 1 = cc in absurd (omega arith)
lettered false c p e = e

spoken_fields : (line : List ℕ) (address : ℕ) (p : Setpoints) → spoken_of line address ≡ Ok (order.Set p) → fields_of line (prefix_length address + 2) ≡ Some p
unfolding spoken_of body_of
spoken_fields line address p e =
    let at = prefix_length address in
    decoded (letters_of (get_or line at 0) (get_or line (at + 1) 0)) line at p
    (lettered (ltb (length line) (at + 2)) _ p (prefixed (is_prefixed line address) _ p e))

command_spoken : (k : LineKind) (c : Result Order LineFault) (p : Setpoints) → command_at k c ≡ Ok (order.Set p) → c ≡ Ok (order.Set p)
command_spoken kind.NoLine c p e = let z : ◌≡◌ {A = ℕ} 0 1 = cc in absurd (omega arith)
command_spoken kind.Long c p e = let z : ◌≡◌ {A = ℕ} 0 1 = cc in absurd (omega arith)
command_spoken kind.Empty c p e = e
command_spoken kind.Text c p e = e

-- the 42 digits of its setpoints are the 42 bytes after SS
figures : (s : Settings) (receive : List ℕ) (p : Setpoints) → command_of receive s.address ≡ Ok (order.Set p) → points_text p ≡ figures_of s receive
unfolding command_of
figures s receive p e =
    fields_back (line_of receive) (prefix_length s.address + 2) p
    (spoken_fields (line_of receive) s.address p (command_spoken (kind_of receive) (spoken_of (line_of receive) s.address) p e))

-- ---- SS was accepted: the tick leaves its setpoints
pub told_done : (o : Result (Unit {0}) Refusal) → outcome_told o ≡ Ok tt → o ≡ Ok tt
told_done (Ok tt) e = refl
told_done (Err n) e = let z : ◌≡◌ {A = ℕ} 0 1 = cc in absurd (omega arith)

set_told : (c : Result Order LineFault) (o : Result (Unit {0}) Refusal) (p : Setpoints) → c ≡ Ok (order.Set p) → told_of c o ≡ Ok tt → o ≡ Ok tt
unfolding told_of
set_told c o p e d = told_done o (rw e at d)

set_request : (c : Result Order LineFault) (p : Setpoints) → c ≡ Ok (order.Set p) → request_of c ≡ Some (request.Set p)
unfolding request_of
set_request c p e = rw e

-- where the reply does not fit, the line is not answered so
fitted : (s : Settings) (st : State) (p : Setpoints) (fits : Bool) (a b : LineTick) (i j : Input)
    → (a.told ≡ Ok tt → read_of (next_of s st i) ≡ p) → (b.told ≡ Ok tt → ⊥)
    → (cond fits a b).told ≡ Ok tt → read_of (next_of s st (cond fits i j)) ≡ p
fitted s st p true a b i j done never d = done d
fitted s st p false a b i j done never d = absurd (never d)

written : (s : Settings) (st : State) (count : ℤ) (contact : Bool) (receive buffer : List ℕ) (p : Setpoints)
    → (idle_now st ≡ true → st.waiting ≡ none_waiting) → command_of receive s.address ≡ Ok (order.Set p)
    → (line_tick_of s st count contact receive buffer).told ≡ Ok tt → read_of (next_of s st (line_input s st count contact receive buffer)) ≡ p
unfolding line_tick_of line_input
written s st count contact receive buffer p h e =
    let asked = asked_of s count contact receive in
    fitted s st p (leb (length (due_text s st count contact receive)) (length buffer)) _ _ asked (unasked_of count contact)
    (λ d. tick_set s st asked p h (set_request _ p e) (set_told _ _ p e d)) (λ d. let z : ◌≡◌ {A = ℕ} 0 1 = cc in omega arith)

-- ---- ticks that write no setpoints leave them
kept : (s : Settings) (h : History Input) (later : List Input) → NoneSet s (run_of s h) later → read_of (run_of s (then_all h later)) ≡ read_of (run_of s h)
unfolding run_of then_all
kept s h [] n = refl
kept s h (i ∷ later) n = kept s (h ▷ i) later n.1 ∙ tick_kept s (run_of s h) i n.0

-- ---- RS replies with the setpoints as they are
read_request : (c : Result Order LineFault) (done : Bool) → c ≡ Ok (order.Do word.ReadSetpoints) → is_write (request_kind (request_of c)).writes && done ≡ false
unfolding request_of
read_request c done e = rw e

due : (s : Settings) (st : State) (count : ℤ) (contact : Bool) (receive : List ℕ) → command_of receive s.address ≡ Ok (order.Do word.ReadSetpoints)
    → due_text s st count contact receive ≡ framed s.address (points_text (read_of st))
unfolding due_text reply_text reply_due
due s st count contact receive e =
    ap (λ (c : Result Order LineFault). reply_text s.address (reply_due c (settled_of s st asked).state (reading_of (served_of s st asked)) (settled_of s st asked).outcome)) e
    ∙ ap (λ (p : Setpoints). framed s.address (points_text p)) (settled_kept s st asked (read_request _ _ e))
  where
    asked : Input
    asked = asked_of s count contact receive

pub read_back : ReadBack
unfolding run_of
read_back s a h count contact receive buffer p e d later n count' contact' receive' r =
    due s _ count' contact' receive' r
    ∙ ap (λ (q : Setpoints). framed s.address (points_text q))
    (kept s (h ▷ line_input s (run_of s h) count contact receive buffer) later n ∙ written s (run_of s h) count contact receive buffer p (run_in s h).together.none_waits e d)
    ∙ ap (framed s.address) (figures s receive p e)
