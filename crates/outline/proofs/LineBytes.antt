-- The reply's length, and the bytes that stay: by the two ways a tick with a line ends. Assumes nothing.
use Rattle.std.specs.Prelude.{Result, Ok, Err, ℤ, ℕ}
use Prim.Native.Nat.{ℕ}
use native.Mathlib.Omega.{arith}
use mathlib.Core.Path.{◌≡◌, refl}
use mathlib.Core.Bool.{Bool, true, false}
use mathlib.Core.List.{List}
use lib.ListN.{length, drop, length-append, length-drop}
use lib.Seq.{drop-append_seam}
use lib.IntN.{ℤ}
use borrow.Author.Tests.{leb-true}
use Rattle.types.specs.declared.requests.Refusal.{Refusal}
use Rattle.types.specs.declared.settings.Settings.{Settings}
use Rattle.types.specs.declared.machine.State.{State}
use Rattle.types.specs.declared.lines.LineKind.TheVariants as kind
use Rattle.types.specs.declared.lines.Order.{Order}
use Rattle.types.specs.declared.lines.LineFault.{LineFault}
use Rattle.types.specs.declared.lines.Order.TheVariants as order
use Rattle.types.specs.declared.lines.LineFault.TheVariants as fault
use Rattle.types.specs.declared.lines.LineRefusal.TheVariants as told
use Rattle.outline.specs.Lines.{kind_of, command_of}
use Rattle.outline.specs.Replies.{told_of, due_text, line_tick_of, reply_buffer}
use Rattle.outline.specs.EveryLine.{is_fitting, Bounded, ReplyBounded, Empty, BytesStay}
use Rattle.outline.proofs.LineEnds.{is_silent, due_short, due_silent, fits, fits-bytes, lacks, lacks-bytes, empty}

-- ---- which lines are told so
other_address_silent : (c : Result Order LineFault) (o : Result (Unit {0}) Refusal) → told_of c o ≡ Err told.OtherAddress → is_silent c ≡ true
unfolding told_of
other_address_silent (Ok (order.Do w)) (Ok tt) e = let z : ◌≡◌ {A = ℕ} 0 1 = cc in absurd (omega arith)
other_address_silent (Ok (order.Do w)) (Err n) e = let z : ◌≡◌ {A = ℕ} 0 1 = cc in absurd (omega arith)
other_address_silent (Ok (order.Set p)) (Ok tt) e = let z : ◌≡◌ {A = ℕ} 0 1 = cc in absurd (omega arith)
other_address_silent (Ok (order.Set p)) (Err n) e = let z : ◌≡◌ {A = ℕ} 0 1 = cc in absurd (omega arith)
other_address_silent (Err fault.NoLine) o e = refl
other_address_silent (Err fault.LongLine) o e = refl
other_address_silent (Err fault.OtherAddress) o e = refl
other_address_silent (Err fault.Malformed) o e = let z : ◌≡◌ {A = ℕ} 0 1 = cc in absurd (omega arith)
other_address_silent (Err fault.Unknown) o e = let z : ◌≡◌ {A = ℕ} 0 1 = cc in absurd (omega arith)

never_short : (c : Result Order LineFault) (o : Result (Unit {0}) Refusal) → told_of c o ≡ Err told.ShortBuffer → ⊥
unfolding told_of
never_short (Ok (order.Do w)) (Ok tt) e = let z : ◌≡◌ {A = ℕ} 0 1 = cc in omega arith
never_short (Ok (order.Do w)) (Err n) e = let z : ◌≡◌ {A = ℕ} 0 1 = cc in omega arith
never_short (Ok (order.Set p)) (Ok tt) e = let z : ◌≡◌ {A = ℕ} 0 1 = cc in omega arith
never_short (Ok (order.Set p)) (Err n) e = let z : ◌≡◌ {A = ℕ} 0 1 = cc in omega arith
never_short (Err fault.NoLine) o e = let z : ◌≡◌ {A = ℕ} 0 1 = cc in omega arith
never_short (Err fault.LongLine) o e = let z : ◌≡◌ {A = ℕ} 0 1 = cc in omega arith
never_short (Err fault.OtherAddress) o e = let z : ◌≡◌ {A = ℕ} 0 1 = cc in omega arith
never_short (Err fault.Malformed) o e = let z : ◌≡◌ {A = ℕ} 0 1 = cc in omega arith
never_short (Err fault.Unknown) o e = let z : ◌≡◌ {A = ℕ} 0 1 = cc in omega arith

no_line_silent : (receive : List ℕ) (address : ℕ) → kind_of receive ≡ kind.NoLine → is_silent (command_of receive address) ≡ true
unfolding command_of
no_line_silent receive address e = rw e

long_line_silent : (receive : List ℕ) (address : ℕ) → kind_of receive ≡ kind.Long → is_silent (command_of receive address) ≡ true
unfolding command_of
long_line_silent receive address e = rw e

-- ---- the statements
module _ (s : Settings) (st : State) (count : ℤ) (contact : Bool) (receive buffer : List ℕ) where
  bounded : (t : Bool) → is_fitting s st count contact receive buffer ≡ t → Bounded s st count contact receive buffer
  bounded true e = record {
    line = rw (fits s st count contact receive buffer e) (due_short s st count contact receive);
    room = rw (fits s st count contact receive buffer e) (leb-true _ _ e);
  }
  bounded false e = record {
    line = rw (lacks s st count contact receive buffer e) (omega arith);
    room = rw (lacks s st count contact receive buffer e) (omega arith);
  }

  silent : is_silent (command_of receive s.address) ≡ true → Empty s st count contact receive buffer
  silent e = empty s st count contact receive buffer (due_silent s st count contact receive e)

  other_address : (t : Bool) → is_fitting s st count contact receive buffer ≡ t → (line_tick_of s st count contact receive buffer).told ≡ Err told.OtherAddress
      → Empty s st count contact receive buffer
  other_address true e h = silent (other_address_silent _ _ (rw (fits s st count contact receive buffer e) at h))
  other_address false e h =
      let h' = rw (lacks s st count contact receive buffer e) at h in
      let z : ◌≡◌ {A = ℕ} 0 1 = cc in
      absurd (omega arith)

  short_buffer : (t : Bool) → is_fitting s st count contact receive buffer ≡ t → (line_tick_of s st count contact receive buffer).told ≡ Err told.ShortBuffer
      → Empty s st count contact receive buffer
  short_buffer true e h = absurd (never_short _ _ (rw (fits s st count contact receive buffer e) at h))
  short_buffer false e h = record { none = rw (lacks s st count contact receive buffer e); bytes = lacks-bytes s st count contact receive buffer e }

  past : (t : Bool) → is_fitting s st count contact receive buffer ≡ t
      → drop (line_tick_of s st count contact receive buffer).length (reply_buffer s st count contact receive buffer)
      ≡ drop (line_tick_of s st count contact receive buffer).length buffer
  past true e =
      rw (fits s st count contact receive buffer e, fits-bytes s st count contact receive buffer e)
      (drop-append_seam (due_text s st count contact receive) _)
  past false e = rw (lacks s st count contact receive buffer e, lacks-bytes s st count contact receive buffer e)

  size : (t : Bool) → is_fitting s st count contact receive buffer ≡ t → length (reply_buffer s st count contact receive buffer) ≡ length buffer
  size true e =
      rw (fits-bytes s st count contact receive buffer e)
      (simp (length-append, length-drop) (omega (arith, leb-true (length (due_text s st count contact receive)) (length buffer) e)))
  size false e = rw (lacks-bytes s st count contact receive buffer e)

pub reply_bounded : ReplyBounded
reply_bounded s st count contact receive buffer = bounded s st count contact receive buffer _ refl

pub bytes_stay : BytesStay
bytes_stay s st count contact receive buffer = record {
  no_line = λ e. silent s st count contact receive buffer (no_line_silent receive s.address e);
  long_line = λ e. silent s st count contact receive buffer (long_line_silent receive s.address e);
  other_address = other_address s st count contact receive buffer _ refl;
  short_buffer = short_buffer s st count contact receive buffer _ refl;
  past = past s st count contact receive buffer _ refl;
  size = size s st count contact receive buffer _ refl;
}
