-- What is read from bytes, whatever they are, fits its types; and written again it gives the same bytes where its flags are 0 or 1, its names are
-- numbered as they stand, what has no use is 0, and so are the bytes that stand in no place. Assumes nothing.
use Rattle.std.specs.Prelude.{Option, None, Some, ℕ}
use Prim.Native.Nat.{ℕ, suc, zero, ◌+◌, ◌*◌, ◌^◌, ◌<◌}
use native.Mathlib.Nat.{add-zero, add-suc, add_assoc}
use native.Mathlib.Omega.{arith}
use mathlib.Core.Path.{◌≡◌, refl, sym, ap, ◌∙◌, subst}
use mathlib.Core.Bool.{Bool, true, false, cond, ◌&&◌, ◌||◌}
use mathlib.Core.List.{List, [], ◌∷◌}
use lib.Dec.{eqb, leb}
use lib.ListN.{length, get_or, replicate}
use mir.Syntax.{w32, w64}
use borrow.Author.Tests.{eq-eqb, ne_eqb, lt-leb}
use Rattle.places.specs.Places.{Place, row, be_at, signed, coded, flag_of, flag_tag, get_all, same_bytes, zeros_at, gaps, zeros_in, Bytes}
use Rattle.places.proofs.Numbers.{be_lt, coded_signed, signed_fits, same_self}
use Rattle.places.proofs.Again.{again}
use Rattle.types.specs.declared.weight.Display.TheVariants as display
use Rattle.types.specs.declared.stages.Setpoints.{Setpoints}
use Rattle.types.specs.declared.stages.Stage.{Stage}
use Rattle.types.specs.declared.stages.Stage.TheVariants as stage
use Rattle.types.specs.declared.stages.SequenceError.{SequenceError}
use Rattle.types.specs.declared.stages.Judgement.{Judgement}
use Rattle.types.specs.declared.stages.Sequence.{Sequence}
use Rattle.types.specs.declared.stages.Totals.{Totals}
use Rattle.outline.specs.Numbers.{stage_number, error_number, judgement_number}
use Rattle.settings.specs.Held.{Held}
use Rattle.images.specs.StateImage.{display_number, display_of, stage_of, stage_timer, back_tag, back_weight, back_of, write_tag, write_points, write_of, waiting_rows, waiting_numbers, waiting_of, state_length, state_rows, state_numbers, put_state, image_of, state_at}
use Rattle.images.specs.GivenImage.{given_length, given_rows, given_numbers, put_given, given_image, given_at}
use Rattle.images.specs.Holds.{HeldSetpoints, HeldState}
use Rattle.images.specs.Buffers.{is_image, filled}
use Rattle.images.proofs.NameLaws.{none_held}
use Rattle.images.proofs.Alike.{all_zeros_alike, all_alike, state_alike}
use Rattle.images.proofs.Buffers.{filled_alike, filled_length}
use Rattle.images.proofs.Trip.{numbers_fit}
use Rattle.images.proofs.GivenTrip as given

-- ---- the types hold it
timer_fits : (x t : ℕ) → t < 2 ^ 16 → stage_timer (stage_of x t) < 2 ^ 16
unfolding stage_of stage_timer
timer_fits x t h = go (eqb x 3) (eqb x 4) (eqb x 5) (eqb x 6) (eqb x 7) (eqb x 8) (eqb x 9) (eqb x 10) (eqb x 11) (eqb x 14) (eqb x 15) (eqb x 16)
  where
    go : (a b c d e f g i j k m n : Bool) → stage_timer (cond a (stage.StartDelay t) (cond b (stage.LargeDisable t) (cond c stage.LargeFlow (cond d (stage.MediumDisable t) (cond e stage.MediumFlow (cond f (stage.SmallDisable t) (cond g stage.SmallFlow (cond i (stage.JudgeDelay t) (cond j stage.JudgeWait (cond k (stage.DischargeStart t) (cond m stage.Discharge (cond n (stage.DischargeEnd t) stage.Idle)))))))))))) < 2 ^ 16
    go true b c d e f g i j k m n = h
    go false true c d e f g i j k m n = h
    go false false true d e f g i j k m n = omega arith
    go false false false true e f g i j k m n = h
    go false false false false true f g i j k m n = omega arith
    go false false false false false true g i j k m n = h
    go false false false false false false true i j k m n = omega arith
    go false false false false false false false true j k m n = h
    go false false false false false false false false true k m n = omega arith
    go false false false false false false false false false true m n = h
    go false false false false false false false false false false true n = omega arith
    go false false false false false false false false false false false true = h
    go false false false false false false false false false false false false = omega arith

back_fits : (n v : ℕ) → v < 2 ^ 64 → back_weight (back_of n v) < 2 ^ 64
unfolding back_of back_weight
back_fits n v h = go (eqb n 1)
  where
    go : (a : Bool) → back_weight (cond a (Some v) None) < 2 ^ 64
    go true = h
    go false = omega arith

write_fits_lem : (n : ℕ) (p : Setpoints) → HeldSetpoints p → HeldSetpoints (write_points (write_of n p))
unfolding write_of write_points
write_fits_lem n p h = go (eqb n 1)
  where
    go : (a : Bool) → HeldSetpoints (write_points (cond a (Some p) None))
    go true = h
    go false = none_held

-- the seven numbers from `at` on
abbrev points : List ℕ → ℕ → Setpoints
points l at = record {
  target = be_at 4 l at;
  fall = be_at 4 l (at + 4);
  preliminary = be_at 4 l (at + 8);
  optional = be_at 4 l (at + 12);
  over = be_at 4 l (at + 16);
  under = be_at 4 l (at + 20);
  near = be_at 4 l (at + 24);
}

points_held : (l : List ℕ) → Bytes l → (at : ℕ) → HeldSetpoints (points l at)
points_held l b at = record {
  target = be_lt 4 l at b;
  fall = be_lt 4 l (at + 4) b;
  preliminary = be_lt 4 l (at + 8) b;
  optional = be_lt 4 l (at + 12) b;
  over = be_lt 4 l (at + 16) b;
  under = be_lt 4 l (at + 20) b;
  near = be_lt 4 l (at + 24) b;
}

pub held_at : (l : List ℕ) → Bytes l → HeldState (state_at l)
unfolding state_at get_all
held_at l b = record {
  book = record {
    opening = signed_fits w32 (be_lt 4 l 0 b);
    last = signed_fits w32 (be_lt 4 l 4 b);
    refilled = signed_fits w64 (be_lt 8 l 8 b);
    used = signed_fits w64 (be_lt 8 l 16 b);
    unbooked = signed_fits w64 (be_lt 8 l 24 b);
    ticks = be_lt 4 l 32 b;
  };
  run = be_lt 2 l 42 b;
  weighing = record {
    zero = signed_fits w32 (be_lt 4 l 44 b);
    tracked = signed_fits w32 (be_lt 4 l 48 b);
    tare = signed_fits w32 (be_lt 4 l 52 b);
    counter = be_lt 2 l 56 b;
  };
  setpoints = points_held l b 60;
  waiting = write_fits_lem (be_at 1 l 256) (points l 260) (points_held l b 260);
  sequence = record { timer = timer_fits (be_at 1 l 88) (be_at 2 l 90) (be_lt 2 l 90 b); clock = be_lt 2 l 92 b };
  totals = record { total = be_lt 8 l 96 b; count = be_lt 4 l 104 b; weight = back_fits (be_at 1 l 108) (be_at 8 l 112) (be_lt 8 l 112 b) };
}

-- ---- numbers written again, row by row: the same in any case, or tested; behind the rows others may stand
data Row : Type 0 where
  same : (x y : ℕ) → x ≡ y → Row
  test : (x y : ℕ) (t : Bool) → eqb x y ≡ t → Row

abbrev anew : List Row → List ℕ → List ℕ
anew [] xs = xs
anew (same x y e ∷ rs) xs = x ∷ anew rs xs
anew (test x y t e ∷ rs) xs = x ∷ anew rs xs

abbrev standing : List Row → List ℕ → List ℕ
standing [] ys = ys
standing (same x y e ∷ rs) ys = y ∷ standing rs ys
standing (test x y t e ∷ rs) ys = y ∷ standing rs ys

abbrev tests : Bool → List Row → Bool
tests a [] = a
tests a (same x y e ∷ rs) = tests a rs
tests a (test x y t e ∷ rs) = tests (a && t) rs

and_true : (a : Bool) → a && true ≡ a
and_true true = refl
and_true false = refl

deeper : (a t s : Bool) → a && (t && s) ≡ (a && t) && s
deeper true t s = refl
deeper false t s = refl

module _ (xs ys : List ℕ) where
  rows_same : (a : Bool) (rs : List Row) → a && same_bytes (anew rs xs) (standing rs ys) ≡ tests a rs && same_bytes xs ys
  unfolding same_bytes
  rows_same a [] = refl
  rows_same a (same x y e ∷ rs) = ap (λ (t : Bool). a && (t && same_bytes (anew rs xs) (standing rs ys))) (eq-eqb x y e) ∙ rows_same a rs
  rows_same a (test x y t e ∷ rs) =
      ap (λ (u : Bool). a && (u && same_bytes (anew rs xs) (standing rs ys))) e ∙ deeper a t (same_bytes (anew rs xs) (standing rs ys)) ∙ rows_same (a && t) rs

flag_again : (n : ℕ) → eqb (flag_tag (flag_of n)) n ≡ leb n 1
unfolding flag_of flag_tag
flag_again zero = refl
flag_again (suc zero) = refl
flag_again (suc (suc n)) =
    ap (λ (t : Bool). eqb (cond t 1 0) (suc (suc n))) (ne_eqb (suc (suc n)) 1 (λ e. omega (arith, e))) ∙ ne_eqb 0 (suc (suc n)) (λ e. omega (arith, e))
    ∙ sym (lt-leb (suc (suc n)) 1 (omega arith))

display_again : (n : ℕ) → eqb (display_number (display_of n)) n ≡ leb n 1
unfolding display_of display_number
display_again zero = refl
display_again (suc zero) = refl
display_again (suc (suc n)) =
    ap (λ (t : Bool). eqb (display_number (cond t display.Net display.Gross)) (suc (suc n))) (ne_eqb (suc (suc n)) 1 (λ e. omega (arith, e)))
    ∙ ne_eqb 0 (suc (suc n)) (λ e. omega (arith, e))
    ∙ sym (lt-leb (suc (suc n)) 1 (omega arith))

-- ---- what waits: all 0 where nothing does
write_again : (n a b c d e f g : ℕ) →
    let ns = a ∷ b ∷ c ∷ d ∷ e ∷ f ∷ g ∷ [] in
    same_bytes (waiting_numbers (waiting_of (n ∷ ns))) (n ∷ ns) ≡ leb n 1 && (eqb n 1 || same_bytes (replicate 7 0) ns)
unfolding write_of write_tag write_points same_bytes
write_again zero a b c d e f g = refl
write_again (suc zero) a b c d e f g = same_self (a ∷ b ∷ c ∷ d ∷ e ∷ f ∷ g ∷ [])
write_again (suc (suc n)) a b c d e f g =
    let ns = a ∷ b ∷ c ∷ d ∷ e ∷ f ∷ g ∷ [] in
    let p : Setpoints = record { target = a; fall = b; preliminary = c; optional = d; over = e; under = f; near = g } in
    ap (λ (t : Bool). same_bytes (waiting_numbers (cond t (Some p) None)) (suc (suc n) ∷ ns)) (ne_eqb (suc (suc n)) 1 (λ e. omega (arith, e)))
    ∙ ap (λ (t : Bool). t && same_bytes (replicate 7 0) ns) (ne_eqb 0 (suc (suc n)) (λ e. omega (arith, e)))
    ∙ ap (λ (t : Bool). t && (eqb (suc (suc n)) 1 || same_bytes (replicate 7 0) ns)) (sym (lt-leb (suc (suc n)) 1 (omega arith)))

-- a number is 0 where its bytes are; so are n numbers of four bytes, one after the other
digit_zero : (n d : ℕ) → eqb 0 n && eqb d 0 ≡ eqb 0 (n * 256 + d)
digit_zero zero zero = refl
digit_zero zero (suc d) = ne_eqb (suc d) 0 (λ e. omega (arith, e)) ∙ sym (ne_eqb 0 (0 * 256 + suc d) (λ e. omega (arith, e)))
digit_zero (suc n) d = ap (λ (t : Bool). t && eqb d 0) (ne_eqb 0 (suc n) (λ e. omega (arith, e))) ∙ sym (ne_eqb 0 (suc n * 256 + d) (λ e. omega (arith, e)))

abbrev fours : ℕ → ℕ → List Place
fours zero at = []
fours (suc n) at = row at 4 ∷ fours n (at + 4)

module _ (l : List ℕ) where
  zeros_number : (n at : ℕ) → zeros_at n at l ≡ eqb 0 (be_at n l at)
  unfolding zeros_at be_at
  zeros_number zero at = refl
  zeros_number (suc n) at = ap (λ (t : Bool). t && eqb (get_or l (at + n) 0) 0) (zeros_number n at) ∙ digit_zero (be_at n l at) (get_or l (at + n) 0)

  zeros_both : (m n at : ℕ) → zeros_at (m + n) at l ≡ zeros_at m at l && zeros_at n (at + m) l
  unfolding zeros_at
  zeros_both m zero at = ap (λ (k : ℕ). zeros_at k at l) (add-zero m) ∙ sym (and_true (zeros_at m at l))
  zeros_both m (suc n) at =
      ap (λ (k : ℕ). zeros_at k at l) (add-suc m n)
      ∙ (λ i. zeros_both m n at i && eqb (get_or l (sym (add_assoc at m n) i) 0) 0) ∙ sym (deeper (zeros_at m at l) (zeros_at n (at + m) l) (eqb (get_or l (at + m + n) 0) 0))

  zeros_fours : (n at : ℕ) → zeros_at (n * 4) at l ≡ same_bytes (replicate n 0) (get_all (fours n at) l)
  unfolding zeros_at get_all same_bytes
  zeros_fours zero at = refl
  zeros_fours (suc n) at =
      let more : suc n * 4 ≡ 4 + n * 4 = omega arith in
      ap (λ (k : ℕ). zeros_at k at l) more ∙ zeros_both 4 (n * 4) at ∙ (λ i. zeros_number 4 at i && zeros_fours n (at + 4) i)

  waiting_again : same_bytes (waiting_numbers (waiting_of (get_all waiting_rows l))) (get_all waiting_rows l)
      ≡ leb (be_at 1 l 256) 1 && (eqb (be_at 1 l 256) 1 || zeros_at 28 260 l)
  unfolding get_all
  waiting_again =
      write_again (be_at 1 l 256) (be_at 4 l 260) (be_at 4 l 264) (be_at 4 l 268) (be_at 4 l 272) (be_at 4 l 276) (be_at 4 l 280) (be_at 4 l 284)
      ∙ (λ i. leb (be_at 1 l 256) 1 && (eqb (be_at 1 l 256) 1 || sym (zeros_fours 7 260) i))

module _ (l : List ℕ) (b : Bytes l) where
  abbrev asked : Sequence → Totals → Bool
  asked q t =
      leb (be_at 1 l 36) 1 && leb (be_at 1 l 37) 1 && leb (be_at 1 l 40) 1 && leb (be_at 1 l 58) 1
      && eqb (stage_number q.stage) (be_at 1 l 88) && eqb (stage_timer q.stage) (be_at 2 l 90)
      && eqb (error_number q.error) (be_at 1 l 94) && eqb (judgement_number q.judgement) (be_at 1 l 95)
      && eqb (back_tag t.back) (be_at 1 l 108) && eqb (back_weight t.back) (be_at 8 l 112)
      && leb (be_at 1 l 256) 1 && (eqb (be_at 1 l 256) 1 || zeros_at 28 260 l)

  -- an unsigned number, a signed one, a flag; a name's number is asked as it stands
  abbrev plain : ℕ → ℕ → Row
  plain n at = same (be_at n l at) (be_at n l at) refl

  abbrev narrow : ℕ → Row
  narrow at = same (coded w32 (signed w32 (be_at 4 l at))) (be_at 4 l at) (coded_signed w32 (be_lt 4 l at b))

  abbrev broad : ℕ → Row
  broad at = same (coded w64 (signed w64 (be_at 8 l at))) (be_at 8 l at) (coded_signed w64 (be_lt 8 l at b))

  abbrev flag : ℕ → Row
  flag at = test (flag_tag (flag_of (be_at 1 l at))) (be_at 1 l at) (leb (be_at 1 l at) 1) (flag_again (be_at 1 l at))

  abbrev name : ℕ → ℕ → ℕ → Row
  name x n at = test x (be_at n l at) (eqb x (be_at n l at)) refl

  abbrev rows : Stage → SequenceError → Judgement → Option ℕ → List Row
  rows g e j v =
      narrow 0 ∷ narrow 4 ∷ broad 8 ∷ broad 16 ∷ broad 24 ∷ plain 4 32 ∷ flag 36 ∷ flag 37
      ∷ flag 40 ∷ plain 2 42
      ∷ narrow 44 ∷ narrow 48 ∷ narrow 52 ∷ plain 2 56
      ∷ test (display_number (display_of (be_at 1 l 58))) (be_at 1 l 58) (leb (be_at 1 l 58) 1) (display_again (be_at 1 l 58))
      ∷ plain 4 60 ∷ plain 4 64 ∷ plain 4 68 ∷ plain 4 72 ∷ plain 4 76 ∷ plain 4 80 ∷ plain 4 84
      ∷ name (stage_number g) 1 88 ∷ name (stage_timer g) 2 90 ∷ plain 2 92 ∷ name (error_number e) 1 94 ∷ name (judgement_number j) 1 95
      ∷ plain 8 96 ∷ plain 4 104 ∷ name (back_tag v) 1 108 ∷ name (back_weight v) 8 112 ∷ []

  read_whole : same_bytes (state_numbers (state_at l)) (get_all state_rows l) ≡ asked (state_at l).sequence (state_at l).totals
  unfolding state_at get_all
  read_whole =
      let rs = rows (state_at l).sequence.stage (state_at l).sequence.error (state_at l).sequence.judgement (state_at l).totals.back in
      rows_same (waiting_numbers (state_at l).waiting) (get_all waiting_rows l) true rs
      ∙ ap (λ (t : Bool). tests true rs && t) (waiting_again l)
      ∙ deeper (tests true rs) (leb (be_at 1 l 256) 1) (eqb (be_at 1 l 256) 1 || zeros_at 28 260 l)

  -- what the code asks, of the sequence and the totals that it read
  pub whole : (q : Sequence) (t : Totals) → q ≡ (state_at l).sequence → t ≡ (state_at l).totals → asked q t ≡ same_bytes (state_numbers (state_at l)) (get_all state_rows l)
  whole q t e f = (λ i. asked (e i) (f i)) ∙ sym read_whole

  -- and with it and the bytes in no place the comparison with an image of the state
  pub state_again : length l ≡ state_length
      → same_bytes (image_of (state_at l)) l ≡ same_bytes (state_numbers (state_at l)) (get_all state_rows l) && zeros_in (gaps 0 state_length state_rows) l
  unfolding image_of put_state
  state_again n = again state_rows (state_numbers (state_at l)) l state_length tt n b (numbers_fit (state_at l) (held_at l b))

-- an image of either length: a byte past the end of an earlier one is 0, as in what it grows to
pub written : (l : List ℕ) → Bytes l → is_image (length l) ≡ true
    → same_bytes (image_of (state_at l)) (filled l) ≡ same_bytes (state_numbers (state_at l)) (get_all state_rows l) && zeros_in (gaps 0 state_length state_rows) l
written l b k =
    let m = filled l in
    let f = filled_alike l in
    let st = state_alike m l f in
    (λ i. same_bytes (image_of (sym st i)) m)
    ∙ state_again m (λ i. subst (λ (x : ℕ). x < 256) (sym (f i)) (b i)) (filled_length l k)
    ∙ (λ i. same_bytes (state_numbers (st i)) (all_alike m l f state_rows tt i) && all_zeros_alike m l f (gaps 0 state_length state_rows) i)

pub unused_state : (l : List ℕ) →
    zeros_at 2 38 l && zeros_at 1 41 l && zeros_at 1 59 l && zeros_at 1 89 l && zeros_at 3 109 l && zeros_at 136 120 l && zeros_at 3 257 l ≡ zeros_in (gaps 0 state_length state_rows) l
unfolding zeros_at
unused_state l = seven (zeros_at 2 38 l) (zeros_at 1 41 l) (zeros_at 1 59 l) (zeros_at 1 89 l) (zeros_at 3 109 l) (zeros_at 136 120 l) (zeros_at 3 257 l)
  where
    seven : (a b c d e f g : Bool) → a && b && c && d && e && f && g ≡ a && (b && (c && (d && (e && (f && (g && true))))))
    seven false b c d e f g = refl
    seven true false c d e f g = refl
    seven true true false d e f g = refl
    seven true true true false e f g = refl
    seven true true true true false f g = refl
    seven true true true true true false g = refl
    seven true true true true true true g = sym (and_true g)

-- ---- settings: any numbers are read whole, so that only the bytes behind them are asked
module _ (l : List ℕ) (b : Bytes l) where
  held_given : Held (given_at l)
  unfolding given_at get_all
  held_given = record {
    zero = signed_fits w32 (be_lt 4 l 0 b);
    span = signed_fits w32 (be_lt 4 l 4 b);
    capacity = signed_fits w32 (be_lt 4 l 8 b);
    weight = signed_fits w32 (be_lt 4 l 12 b);
    division = signed_fits w32 (be_lt 4 l 16 b);
    zeroing = signed_fits w32 (be_lt 4 l 20 b);
    tracktime = signed_fits w32 (be_lt 4 l 24 b);
    trackwidth = signed_fits w32 (be_lt 4 l 28 b);
    allowance = signed_fits w32 (be_lt 4 l 32 b);
    stabletime = signed_fits w32 (be_lt 4 l 36 b);
    stablewidth = signed_fits w32 (be_lt 4 l 40 b);
    mode = signed_fits w32 (be_lt 4 l 44 b);
    start = signed_fits w32 (be_lt 4 l 48 b);
    large = signed_fits w32 (be_lt 4 l 52 b);
    medium = signed_fits w32 (be_lt 4 l 56 b);
    small = signed_fits w32 (be_lt 4 l 60 b);
    judge = signed_fits w32 (be_lt 4 l 64 b);
    flow = signed_fits w32 (be_lt 4 l 68 b);
    address = signed_fits w32 (be_lt 4 l 72 b);
    board = signed_fits w32 (be_lt 4 l 76 b);
    low = signed_fits w32 (be_lt 4 l 80 b);
    high = signed_fits w32 (be_lt 4 l 84 b);
    dischargestart = signed_fits w32 (be_lt 4 l 88 b);
    dischargeend = signed_fits w32 (be_lt 4 l 92 b);
    dischargelimit = signed_fits w32 (be_lt 4 l 96 b);
  }

  numbers_again : same_bytes (given_numbers (given_at l)) (get_all given_rows l) ≡ true
  unfolding given_at get_all same_bytes
  numbers_again =
      rows_same [] [] true (
      narrow l b 0 ∷ narrow l b 4 ∷ narrow l b 8 ∷ narrow l b 12 ∷ narrow l b 16 ∷ narrow l b 20 ∷ narrow l b 24 ∷ narrow l b 28 ∷ narrow l b 32 ∷ narrow l b 36 ∷ narrow l b 40 ∷ narrow l b 44
      ∷ narrow l b 48 ∷ narrow l b 52 ∷ narrow l b 56 ∷ narrow l b 60 ∷ narrow l b 64 ∷ narrow l b 68 ∷ narrow l b 72 ∷ narrow l b 76 ∷ narrow l b 80 ∷ narrow l b 84 ∷ narrow l b 88 ∷ narrow l b 92 ∷ narrow l b 96 ∷ []
      )

  pub given_again : length l ≡ given_length → zeros_at 28 100 l ≡ same_bytes (given_image (given_at l)) l
  unfolding given_image put_given zeros_at
  given_again n =
      sym
      (again given_rows (given_numbers (given_at l)) l given_length tt n b (given.numbers_fit (given_at l) held_given)
      ∙ ap (λ (t : Bool). t && zeros_in (gaps 0 given_length given_rows) l) numbers_again
      ∙ and_true (zeros_at 28 100 l))
