-- Setpoints read back on the line: the reply due to RS is the figures of SS, by the outline's law, and with room it is what the buffer
-- holds. Assumes nothing.
use Rattle.std.specs.Prelude.{Result, Ok, ℤ, ℕ, Option, None}
use Prim.Native.Nat.{ℕ, ◌≤◌}
use mathlib.Core.Path.{◌≡◌, ap}
use mathlib.Core.Bool.{Bool, true}
use mathlib.Core.List.{List}
use lib.ListN.{length}
use lib.IntN.{ℤ}
use borrow.Author.Tests.{le-leb}
use Rattle.types.specs.declared.requests.Refusal.{Refusal}
use Rattle.types.specs.declared.settings.Settings.{Settings}
use Rattle.types.specs.declared.requests.Request.{Request}
use Rattle.types.specs.declared.weight.Weights.{Weights}
use Rattle.types.specs.declared.machine.State.{State}
use Rattle.types.specs.declared.machine.Input.{Input}
use Rattle.types.specs.declared.lines.Word.TheVariants as word
use Rattle.types.specs.declared.lines.Order.{Order}
use Rattle.types.specs.declared.lines.LineFault.{LineFault}
use Rattle.types.specs.declared.lines.Order.TheVariants as order
use Rattle.outline.specs.Requests.{ruling_of, decided_of}
use Rattle.outline.specs.Tick.{settled_of}
use Rattle.outline.specs.Lines.{command_of}
use Rattle.outline.specs.Replies.{request_of}
use Rattle.outline.specs.Replies.{told_of, asked_of, due_text}
use Rattle.outline.specs.StaysTrue.{ReadBack}
use Rattle.outline.specs.EveryLine.{is_fitting, Replied, ReadBackOnLine}
use Rattle.outline.proofs.LineEnds.{fits, fits-bytes}

-- a tick that asks for nothing is answered 0
by_nothing : (s : Settings) (st : State) (x : Weights) (r : Option Request) → r ≡ None → (decided_of s st x r).outcome ≡ Ok tt
unfolding decided_of ruling_of
by_nothing s st x r e = rw e

settled_nothing : (s : Settings) (st : State) (i : Input) → i.request ≡ None → (settled_of s st i).outcome ≡ Ok tt
unfolding settled_of
settled_nothing s st i e = by_nothing s _ _ i.request e

read_asks_nothing : (c : Result Order LineFault) → c ≡ Ok (order.Do word.ReadSetpoints) → request_of c ≡ None
unfolding request_of
read_asks_nothing c e = rw e

read_told : (c : Result Order LineFault) (o : Result (Unit {0}) Refusal) → c ≡ Ok (order.Do word.ReadSetpoints) → o ≡ Ok tt → told_of c o ≡ Ok tt
unfolding told_of
read_told c o e d = rw (e, d)

-- RS with room for the text that is due
module _ (s : Settings) (st : State) (count : ℤ) (contact : Bool) (receive buffer text : List ℕ)
    (e : command_of receive s.address ≡ Ok (order.Do word.ReadSetpoints))
    (due : due_text s st count contact receive ≡ text) (room : length text ≤ length buffer) where
  fitting : is_fitting s st count contact receive buffer ≡ true
  fitting = rw due (le-leb (length text) (length buffer) room)

  replied : Replied s st count contact receive buffer text
  replied = record {
    done =
        rw (fits s st count contact receive buffer fitting)
        (read_told _ _ e (settled_nothing s st (asked_of s count contact receive) (read_asks_nothing _ e)));
    long = rw (fits s st count contact receive buffer fitting) (ap length due);
    bytes = rw (fits-bytes s st count contact receive buffer fitting, due);
  }

pub read_back_on_line : ReadBack → ReadBackOnLine
read_back_on_line law s a h count contact receive buffer p e d later n count' contact' receive' buffer' e' room =
    replied s _ count' contact' receive' buffer' _ e' (law s a h count contact receive buffer p e d later n count' contact' receive' e') room
