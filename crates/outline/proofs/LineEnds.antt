-- The two ways a tick with a line ends: the reply due fits the buffer, or it does not. Assumes nothing.
use Rattle.std.specs.Prelude.{Result, ℤ, ℕ, Ok, Err}
use Prim.Native.Nat.{ℕ, ◌≤◌}
use native.Mathlib.Omega.{arith}
use mathlib.Core.Path.{◌≡◌, refl}
use mathlib.Core.Bool.{Bool, true, false}
use mathlib.Core.List.{List, [], ◌++◌}
use lib.ListN.{length, drop}
use lib.IntN.{ℤ}
use borrow.Author.Tests.{le-leb}
use Rattle.types.specs.declared.requests.Refusal.{Refusal}
use Rattle.types.specs.declared.settings.Settings.{Settings}
use Rattle.types.specs.declared.machine.State.{State}
use Rattle.types.specs.declared.machine.Reading.{Reading}
use Rattle.types.specs.declared.lines.Order.{Order}
use Rattle.types.specs.declared.lines.LineFault.{LineFault}
use Rattle.types.specs.declared.lines.Order.TheVariants as order
use Rattle.types.specs.declared.lines.LineFault.TheVariants as fault
use Rattle.types.specs.declared.lines.LineRefusal.TheVariants as told
use Rattle.outline.specs.Limits.{line_limit}
use Rattle.outline.specs.Tick.{settled_of, tick_of, unasked_of}
use Rattle.outline.specs.Lines.{command_of}
use Rattle.outline.specs.Replies.{reply_text, reply_due, told_of, asked_of, due_text, line_ticked, line_tick_of, written_of, reply_buffer}
use Rattle.outline.proofs.Lengths.{within_limit}
use Rattle.outline.specs.EveryLine.{is_fitting, Empty}

-- a command whose reply is empty
abbrev pub is_silent : Result Order LineFault → Bool
is_silent (Ok (order.Do w)) = false
is_silent (Ok (order.Set p)) = false
is_silent (Err fault.NoLine) = true
is_silent (Err fault.LongLine) = true
is_silent (Err fault.OtherAddress) = true
is_silent (Err fault.Malformed) = false
is_silent (Err fault.Unknown) = false

pub no : {A : Type 0} → false ≡ true → A
no e = let z : ◌≡◌ {A = ℕ} 0 1 = cc in absurd (omega arith)

silent_text : (address : ℕ) (c : Result Order LineFault) (st : State) (x : Reading) (o : Result (Unit {0}) Refusal) → is_silent c ≡ true → reply_text address (reply_due c st x o) ≡ []
unfolding reply_text reply_due
silent_text address (Ok (order.Do w)) st x o e = no e
silent_text address (Ok (order.Set p)) st x o e = no e
silent_text address (Err fault.NoLine) st x o e = refl
silent_text address (Err fault.LongLine) st x o e = refl
silent_text address (Err fault.OtherAddress) st x o e = refl
silent_text address (Err fault.Malformed) st x o e = no e
silent_text address (Err fault.Unknown) st x o e = no e

module _ (s : Settings) (st : State) (count : ℤ) (contact : Bool) (receive : List ℕ) where
  pub due_short : length (due_text s st count contact receive) ≤ line_limit
  unfolding due_text
  due_short = within_limit s.address _

  pub due_silent : is_silent (command_of receive s.address) ≡ true → due_text s st count contact receive ≡ []
  unfolding due_text
  due_silent e = silent_text s.address (command_of receive s.address) _ _ _ e

module _ (s : Settings) (st : State) (count : ℤ) (contact : Bool) (receive buffer : List ℕ) where
  module _ (e : is_fitting s st count contact receive buffer ≡ true) where
    pub fits : line_tick_of s st count contact receive buffer
        ≡ line_ticked (told_of (command_of receive s.address) (settled_of s st (asked_of s count contact receive)).outcome)
        (length (due_text s st count contact receive)) (tick_of s st (asked_of s count contact receive))
    unfolding line_tick_of
    fits = rw e

    pub fits-bytes : reply_buffer s st count contact receive buffer
        ≡ due_text s st count contact receive ++ drop (length (due_text s st count contact receive)) buffer
    unfolding reply_buffer written_of
    fits-bytes = rw e

  module _ (e : is_fitting s st count contact receive buffer ≡ false) where
    pub lacks : line_tick_of s st count contact receive buffer ≡ line_ticked (Err told.ShortBuffer) 0 (tick_of s st (unasked_of count contact))
    unfolding line_tick_of
    lacks = rw e

    pub lacks-bytes : reply_buffer s st count contact receive buffer ≡ buffer
    unfolding reply_buffer written_of
    lacks-bytes = rw e

  -- an empty reply fits any buffer
  module _ (e : due_text s st count contact receive ≡ []) where
    pub empty-fits : is_fitting s st count contact receive buffer ≡ true
    empty-fits = rw e (le-leb 0 (length buffer) (omega arith))

    pub empty : Empty s st count contact receive buffer
    empty = record { none = rw (fits empty-fits, e); bytes = rw (fits-bytes empty-fits, e) }
