-- There and back, of settings: every number that is given is read from its image; an image that is not refused is its settings', and a byte of it that
-- no row has is 0. Assumes nothing.
use Prim.Native.Nat.{ℕ}
use native.Mathlib.Omega.{arith}
use mathlib.Core.Path.{◌≡◌, refl, sym, ap, ◌∙◌}
use mathlib.Core.Bool.{Bool, true, false, cond}
use mathlib.Core.List.{List, [], ◌∷◌}
use lib.Dec.{eqb}
use lib.ListN.{length, get_or, replicate}
use mir.Syntax.{w32}
use borrow.Author.Tests.{eq-eqb}
use Rattle.places.specs.Places.{get_all, same_bytes, Numbers}
use Rattle.places.proofs.Numbers.{coded_lt, signed_coded, same_yes, same_self, pad_get}
use Rattle.places.proofs.Layouts.{get_put_all, put_all_length, put_unused}
use Rattle.types.specs.declared.settings.Given.{Given}
use Rattle.settings.specs.Held.{Held}
use Rattle.images.specs.GivenImage.{given_length, count_rows, count_numbers, rule_rows, rule_numbers, delay_rows, delay_numbers, end_rows, end_numbers, given_rows, given_numbers, given_of, put_given, given_image, given_at, given_refusal, given_in}
use Rattle.images.specs.Owed.{GivenBack, OneGiven, UnusedGiven}
use Rattle.images.proofs.Tables.{table, fit_all}

-- ---- settings from their image
module _ (g : Given) (h : Held g) where
  pub numbers_fit : Numbers given_rows (given_numbers g)
  numbers_fit =
      fit_all (
      table count_rows (count_numbers g) (coded_lt h.zero, (coded_lt h.span, (coded_lt h.capacity, (coded_lt h.weight, (coded_lt h.division, (coded_lt h.zeroing, tt))))))
      ∷ table rule_rows (rule_numbers g) (coded_lt h.tracktime, (coded_lt h.trackwidth, (coded_lt h.allowance, (coded_lt h.stabletime, (coded_lt h.stablewidth, (coded_lt h.mode, tt))))))
      ∷ table delay_rows (delay_numbers g) (coded_lt h.start, (coded_lt h.large, (coded_lt h.medium, (coded_lt h.small, (coded_lt h.judge, (coded_lt h.flow, tt))))))
      ∷ table end_rows (end_numbers g) (coded_lt h.address, (coded_lt h.board, (coded_lt h.low, (coded_lt h.high, (coded_lt h.dischargestart, (coded_lt h.dischargeend, (coded_lt h.dischargelimit, tt)))))))
      ∷ []
      )

  image_numbers : get_all given_rows (given_image g) ≡ given_numbers g
  unfolding given_image put_given
  image_numbers = get_put_all given_rows (given_numbers g) (replicate given_length 0) 0 given_length tt (omega arith) numbers_fit

  image_given : given_at (given_image g) ≡ g
  unfolding given_at
  image_given =
      ap given_of image_numbers
      ∙ (λ i. record {
        zero = signed_coded w32 g.zero h.zero i;
        span = signed_coded w32 g.span h.span i;
        capacity = signed_coded w32 g.capacity h.capacity i;
        weight = signed_coded w32 g.weight h.weight i;
        division = signed_coded w32 g.division h.division i;
        zeroing = signed_coded w32 g.zeroing h.zeroing i;
        tracktime = signed_coded w32 g.tracktime h.tracktime i;
        trackwidth = signed_coded w32 g.trackwidth h.trackwidth i;
        allowance = signed_coded w32 g.allowance h.allowance i;
        stabletime = signed_coded w32 g.stabletime h.stabletime i;
        stablewidth = signed_coded w32 g.stablewidth h.stablewidth i;
        mode = signed_coded w32 g.mode h.mode i;
        start = signed_coded w32 g.start h.start i;
        large = signed_coded w32 g.large h.large i;
        medium = signed_coded w32 g.medium h.medium i;
        small = signed_coded w32 g.small h.small i;
        judge = signed_coded w32 g.judge h.judge i;
        flow = signed_coded w32 g.flow h.flow i;
        address = signed_coded w32 g.address h.address i;
        board = signed_coded w32 g.board h.board i;
        low = signed_coded w32 g.low h.low i;
        high = signed_coded w32 g.high h.high i;
        dischargestart = signed_coded w32 g.dischargestart h.dischargestart i;
        dischargeend = signed_coded w32 g.dischargeend h.dischargeend i;
        dischargelimit = signed_coded w32 g.dischargelimit h.dischargelimit i;
      })

image_length : (g : Given) → length (given_image g) ≡ given_length
unfolding given_image put_given
image_length g = put_all_length given_rows (given_numbers g) (replicate given_length 0)

-- ---- the tests in their order
module _ (l : List ℕ) (g : Given) where
  none : length l ≡ given_length → same_bytes (given_image g) l ≡ true → given_refusal l g ≡ 0
  unfolding given_refusal
  none n s = simp (eq-eqb (length l) given_length n, s)

  passes : given_refusal l g ≡ 0 → given_image g ≡ l
  unfolding given_refusal
  passes = go (eqb (length l) given_length) (same_bytes (given_image g) l) refl
    where
      go : (a d : Bool) → same_bytes (given_image g) l ≡ d → ◌≡◌ {A = ℕ} (cond a (cond d 0 21) 20) 0 → given_image g ≡ l
      go true true s h = same_yes (given_image g) l s
      go true false s h = absurd (omega arith)
      go false d s h = absurd (omega arith)

-- what is written is read back
pub given_back : GivenBack
unfolding given_in
given_back g h =
    (λ i. record { refusal = given_refusal (given_image g) (image_given g h i); given = image_given g h i })
    ∙ (λ i. record { refusal = none (given_image g) g (image_length g) (same_self (given_image g)) i; given = g })

-- an image that is not refused
pub one_given : OneGiven
unfolding given_in
one_given l h = passes l (given_at l) h

pub unused_given : UnusedGiven
unfolding given_image put_given
unused_given l i h u =
    sym (ap (λ (x : List ℕ). get_or x i 0) (one_given l h))
    ∙ put_unused given_rows (given_numbers (given_in l).given) (replicate given_length 0) i u
    ∙ pad_get [] given_length i
