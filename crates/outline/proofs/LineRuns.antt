-- What holds of the answer of a run's tick holds of that of a tick with a line: the gates, and the day that a DC closes. Assumes nothing.
use Rattle.std.specs.Prelude.{Option, Result, Ok, ℕ, Some}
use Prim.Native.Nat.{ℕ}
use native.Mathlib.Omega.{arith}
use mathlib.Core.Path.{◌≡◌, sym, subst}
use mathlib.Core.Bool.{Bool, true, false, cond}
use lib.Dec.{leb}
use lib.ListN.{length}
use Rattle.types.specs.declared.requests.Refusal.{Refusal}
use Rattle.types.specs.declared.daybook.Book.{Book}
use Rattle.types.specs.declared.requests.Request.TheVariants as request
use Rattle.types.specs.declared.machine.Answer.{Answer}
use Rattle.types.specs.declared.lines.Word.TheVariants as word
use Rattle.types.specs.declared.lines.Order.{Order}
use Rattle.types.specs.declared.lines.LineFault.{LineFault}
use Rattle.types.specs.declared.lines.Order.TheVariants as order
use Rattle.types.specs.declared.lines.LineTick.{LineTick}
use Rattle.outline.specs.Stages.{shut}
use Rattle.outline.specs.Tick.{outputs_of, tick_of}
use Rattle.outline.specs.Replies.{request_of, told_of, asked_of, due_text, line_tick_of}
use Rattle.outline.specs.Run.{run_of, line_input}
use Rattle.outline.specs.StaysTrue.{GatesShut, Ticket, LinesAreRuns}
use Rattle.outline.specs.EveryLine.{GatesShutOnLine, TicketOnLine}
use Rattle.outline.proofs.ReadBack.{told_done}
use Rattle.types.specs.declared.stages.SequenceError.TheVariants as error

-- ---- gates
pub gates_on_line : GatesShut → LinesAreRuns → GatesShutOnLine
gates_on_line law runs s ok h count contact receive buffer =
    subst (λ (a : Answer). (a.error ≡ error.None → ⊥) → a.gates ≡ shut) (sym (runs s h count contact receive buffer).answer)
    (law s ok h (line_input s (run_of s h) count contact receive buffer))

-- ---- the day that a DC closes
close_asks : (c : Result Order LineFault) → c ≡ Ok (order.Do word.DayClose) → request_of c ≡ Some request.DayClose
unfolding request_of
close_asks c e = rw e

close_told : (c : Result Order LineFault) (o : Result (Unit {0}) Refusal) → c ≡ Ok (order.Do word.DayClose) → told_of c o ≡ Ok tt → o ≡ Ok tt
unfolding told_of
close_told c o e d = told_done o (rw e at d)

-- where the reply does not fit, the line is not told so
fitted : (t : Bool) (a b : LineTick) (day : Option Book) → (a.told ≡ Ok tt → a.answer.closed ≡ day) → (b.told ≡ Ok tt → ⊥)
    → (cond t a b).told ≡ Ok tt → (cond t a b).answer.closed ≡ day
fitted true a b day done never d = done d
fitted false a b day done never d = absurd (never d)

pub ticket_on_line : Ticket → TicketOnLine
unfolding line_tick_of tick_of outputs_of
ticket_on_line law s st count contact receive buffer e =
    fitted (leb (length (due_text s st count contact receive)) (length buffer)) _ _ _
    (λ d. law s st (asked_of s count contact receive) (close_asks _ e) (close_told _ _ e d)) (λ d. let z : ◌≡◌ {A = ℕ} 0 1 = cc in omega arith)
