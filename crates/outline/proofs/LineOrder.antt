-- What a line is answered, by the order of refusals, and that a refused line's tick is the one without a request. Assumes nothing.
use Rattle.std.specs.Prelude.{Result, Ok, Err, ℤ, ℕ, None}
use Prim.Native.Nat.{ℕ, ◌≤◌}
use native.Mathlib.Omega.{arith}
use mathlib.Core.Path.{◌≡◌, refl, ap, ◌∙◌}
use mathlib.Core.Bool.{Bool, true, false}
use mathlib.Core.List.{List}
use lib.IntN.{ℤ}
use Rattle.types.specs.declared.settings.Settings.{Settings}
use Rattle.types.specs.declared.requests.Refusal.{Refusal}
use Rattle.types.specs.declared.requests.Refusal.TheVariants as refusal
use Rattle.types.specs.declared.machine.State.{State}
use Rattle.types.specs.declared.lines.LineKind.{LineKind}
use Rattle.types.specs.declared.lines.LineKind.TheVariants as kind
use Rattle.types.specs.declared.lines.Order.{Order}
use Rattle.types.specs.declared.lines.LineFault.{LineFault}
use Rattle.types.specs.declared.lines.Order.TheVariants as order
use Rattle.types.specs.declared.lines.LineFault.TheVariants as fault
use Rattle.types.specs.declared.lines.LineRefusal.TheVariants as told
use Rattle.types.specs.declared.lines.LineTick.{LineTick}
use Rattle.outline.specs.Tick.{settled_of}
use Rattle.outline.specs.Lines.{line_of, kind_of, prefix_length, is_prefixed, body_of, spoken_of, command_at, command_of}
use Rattle.outline.specs.Numbers.{refusal_number, told_number}
use Rattle.outline.specs.Replies.{request_of, told_of, asked_of, line_tick_of}
use Rattle.outline.specs.EveryLine.{is_answer, is_line, is_fitting, AnsweredInOrder, AsWithout, RefusedLines}
use Rattle.outline.proofs.LineEnds.{is_silent, no, due_silent, fits, lacks, empty-fits}

-- ---- numbers
refusal_answer : (n : Refusal) → is_answer (refusal_number n) ≡ true
refusal_answer refusal.BadTick = refl
refusal_answer refusal.Overload = refl
refusal_answer refusal.NotIdle = refl
refusal_answer refusal.Unstable = refl
refusal_answer refusal.OutsideRules = refl
refusal_answer refusal.SetpointRules = refl
refusal_answer refusal.NothingToTakeBack = refl
refusal_answer refusal.ContactClosed = refl
refusal_answer refusal.LossInWeight = refl

refusal_small : (n : Refusal) → refusal_number n ≤ 9
refusal_small refusal.BadTick = omega arith
refusal_small refusal.Overload = omega arith
refusal_small refusal.NotIdle = omega arith
refusal_small refusal.Unstable = omega arith
refusal_small refusal.OutsideRules = omega arith
refusal_small refusal.SetpointRules = omega arith
refusal_small refusal.NothingToTakeBack = omega arith
refusal_small refusal.ContactClosed = omega arith
refusal_small refusal.LossInWeight = omega arith

told_answer : (c : Result Order LineFault) (o : Result (Unit {0}) Refusal) → is_answer (told_number (told_of c o)) ≡ true
unfolding told_of
told_answer (Ok (order.Do w)) (Ok tt) = refl
told_answer (Ok (order.Do w)) (Err n) = refusal_answer n
told_answer (Ok (order.Set p)) (Ok tt) = refl
told_answer (Ok (order.Set p)) (Err n) = refusal_answer n
told_answer (Err fault.NoLine) o = refl
told_answer (Err fault.LongLine) o = refl
told_answer (Err fault.OtherAddress) o = refl
told_answer (Err fault.Malformed) o = refl
told_answer (Err fault.Unknown) o = refl

-- 11 to 13 are of lines that ask for nothing
told_unasked : (c : Result Order LineFault) (o : Result (Unit {0}) Refusal) → 11 ≤ told_number (told_of c o) → request_of c ≡ None
unfolding told_of request_of
told_unasked (Ok (order.Do w)) (Ok tt) h = absurd (omega arith)
told_unasked (Ok (order.Do w)) (Err n) h = absurd (omega (arith, refusal_small n))
told_unasked (Ok (order.Set p)) (Ok tt) h = absurd (omega arith)
told_unasked (Ok (order.Set p)) (Err n) h = absurd (omega (arith, refusal_small n))
told_unasked (Err fault.NoLine) o h = refl
told_unasked (Err fault.LongLine) o h = refl
told_unasked (Err fault.OtherAddress) o h = refl
told_unasked (Err fault.Malformed) o h = refl
told_unasked (Err fault.Unknown) o h = refl

-- ---- what a buffer is decoded as
at_no_line : (k : LineKind) (c : Result Order LineFault) (o : Result (Unit {0}) Refusal) → is_line k ≡ false → (is_silent (command_at k c) ≡ true) × (told_of (command_at k c) o ≡ Err told.Malformed)
unfolding told_of
at_no_line kind.NoLine c o e = (refl, refl)
at_no_line kind.Long c o e = (refl, refl)
at_no_line kind.Empty c o e = let z : ◌≡◌ {A = ℕ} 0 1 = cc in absurd (omega arith)
at_no_line kind.Text c o e = let z : ◌≡◌ {A = ℕ} 0 1 = cc in absurd (omega arith)

at_line : (k : LineKind) (c : Result Order LineFault) → is_line k ≡ true → command_at k c ≡ c
at_line kind.NoLine c e = no e
at_line kind.Long c e = no e
at_line kind.Empty c e = refl
at_line kind.Text c e = refl

module _ (receive : List ℕ) (address : ℕ) (line : is_line (kind_of receive) ≡ true) where
  spoken : command_of receive address ≡ spoken_of (line_of receive) address
  unfolding command_of
  spoken = at_line (kind_of receive) (spoken_of (line_of receive) address) line

  spoken_other : is_prefixed (line_of receive) address ≡ false → command_of receive address ≡ Err fault.OtherAddress
  unfolding spoken_of
  spoken_other e = rw spoken (rw e)

  pub spoken_body : is_prefixed (line_of receive) address ≡ true → command_of receive address ≡ body_of (line_of receive) (prefix_length address)
  unfolding spoken_of
  spoken_body e = rw spoken (rw e)

-- ---- the statements
module _ (s : Settings) (st : State) (count : ℤ) (contact : Bool) (receive buffer : List ℕ) where
  -- where the reply due fits, the answer is that of the command
  pub told_fits : (c : Result Order LineFault) → command_of receive s.address ≡ c → is_fitting s st count contact receive buffer ≡ true
      → (line_tick_of s st count contact receive buffer).told ≡ told_of c (settled_of s st (asked_of s count contact receive)).outcome
  told_fits c ec e =
      rw (fits s st count contact receive buffer e)
      (ap (λ (d : Result Order LineFault). told_of d (settled_of s st (asked_of s count contact receive)).outcome) ec)

  silent_fits : is_silent (command_of receive s.address) ≡ true → is_fitting s st count contact receive buffer ≡ true
  silent_fits e = empty-fits s st count contact receive buffer (due_silent s st count contact receive e)

  number : (t : Bool) → is_fitting s st count contact receive buffer ≡ t → is_answer (told_number (line_tick_of s st count contact receive buffer).told) ≡ true
  number true e = rw (fits s st count contact receive buffer e) (told_answer _ _)
  number false e = rw (lacks s st count contact receive buffer e)

  no_line : is_line (kind_of receive) ≡ false → (line_tick_of s st count contact receive buffer).told ≡ Err told.Malformed
  unfolding command_of
  no_line e =
      let found = at_no_line (kind_of receive) (spoken_of (line_of receive) s.address) (settled_of s st (asked_of s count contact receive)).outcome e in
      told_fits (command_of receive s.address) refl (silent_fits found.0) ∙ found.1

  other_address : command_of receive s.address ≡ Err fault.OtherAddress → (line_tick_of s st count contact receive buffer).told ≡ Err told.OtherAddress
  unfolding told_of
  other_address e = told_fits (Err fault.OtherAddress) e (silent_fits (ap is_silent e))

  without : (t : Bool) → is_fitting s st count contact receive buffer ≡ t → 11 ≤ told_number (line_tick_of s st count contact receive buffer).told
      → AsWithout s st count contact receive buffer
  without true e h =
      let none = told_unasked _ _ (rw (fits s st count contact receive buffer e) at h) in
      record { answer = rw (fits s st count contact receive buffer e, none); state = rw (fits s st count contact receive buffer e, none) }
  without false e h = record { answer = rw (lacks s st count contact receive buffer e); state = rw (lacks s st count contact receive buffer e) }

pub answered_in_order : AnsweredInOrder
unfolding told_of
answered_in_order s st count contact receive buffer = record {
  number = number s st count contact receive buffer _ refl;
  no_line = no_line s st count contact receive buffer;
  other_address = λ l e. other_address s st count contact receive buffer (spoken_other receive s.address l e);
  short_buffer = λ e. ap (λ (t : LineTick). t.told) (lacks s st count contact receive buffer e);
  malformed = λ l p b. told_fits s st count contact receive buffer (Err fault.Malformed) (spoken_body receive s.address l p ∙ b);
  unknown = λ l p b. told_fits s st count contact receive buffer (Err fault.Unknown) (spoken_body receive s.address l p ∙ b);
  word = λ w c. told_fits s st count contact receive buffer (Ok (order.Do w)) c;
  set = λ p c. told_fits s st count contact receive buffer (Ok (order.Set p)) c;
}

pub refused_lines : RefusedLines
refused_lines s st count contact receive buffer = without s st count contact receive buffer _ refl
