-- The number of each answer is the one that the outline's tables and sentences give. The proofs of the calls cite these laws.
use Rattle.std.specs.Prelude.{Result, Ok, Err, ℤ, ℕ, Option, None, Some}
use Prim.Native.Nat.{ℕ, suc, ◌+◌}
use native.Mathlib.Omega.{arith}
use mathlib.Core.Path.{◌≡◌, refl, ap, ◌∙◌}
use mathlib.Core.Bool.{Bool, true, false, cond, ◌&&◌, ◌||◌}
use mathlib.Core.List.{List, [], ◌∷◌}
use lib.Dec.{leb, eqb}
use lib.ListN.{length, get_or}
use lib.IntN.{ℤ}
use Rattle.types.specs.declared.requests.Refusal.{Refusal}
use Rattle.types.specs.declared.settings.Given.{Given}
use Rattle.types.specs.declared.settings.Mode.{Mode}
use Rattle.types.specs.declared.settings.Mode.TheVariants as mode
use Rattle.types.specs.declared.settings.Settings.{Settings}
use Rattle.types.specs.declared.analog.Board.{Board}
use Rattle.types.specs.declared.analog.Board.TheVariants as board
use Rattle.types.specs.declared.analog.Scale.{Scale}
use Rattle.types.specs.declared.weight.Weights.{Weights}
use Rattle.types.specs.declared.requests.Request.{Request}
use Rattle.types.specs.declared.requests.Request.TheVariants as request
use Rattle.types.specs.declared.stages.Stage.{Stage}
use Rattle.types.specs.declared.stages.Stage.TheVariants as stage
use Rattle.types.specs.declared.lines.LineKind.{LineKind}
use Rattle.types.specs.declared.lines.LineKind.TheVariants as kind
use Rattle.types.specs.declared.lines.Order.{Order}
use Rattle.types.specs.declared.lines.LineFault.{LineFault}
use Rattle.types.specs.declared.lines.Order.TheVariants as order
use Rattle.types.specs.declared.lines.LineFault.TheVariants as fault
use Rattle.types.specs.declared.lines.NoEnd.{NoEnd}
use Rattle.types.specs.declared.lines.NoEnd.TheVariants.{Missing, Beyond}
use Rattle.types.specs.declared.machine.State.{State}
use Rattle.types.specs.declared.machine.Input.{Input}
use Rattle.types.specs.declared.machine.Blocked.{Blocked}
use Rattle.outline.specs.Limits.{block_limit, line_limit}
use Rattle.outline.specs.Settings.{settings_fit, open_of}
use Rattle.outline.specs.Stages.{idle_of}
use Rattle.outline.specs.Requests.{Row, loss_mode, rows_to, first_of, ruling_of, decided_of}
use Rattle.outline.specs.Tick.{settled_of, outputs_of, tick_of, unasked_of, block_of}
use Rattle.outline.specs.Analog.{analog_of}
use Rattle.outline.specs.Lines.{is_cr_lf, end_at, line_end_from, line_end_of, line_of, kind_at, kind_of, prefix_length, is_prefixed, body_of}
use Rattle.outline.specs.Replies.{told_of, asked_of, line_tick_of}
use Rattle.outline.specs.EveryLine.{is_line, is_fitting}
use Rattle.outline.specs.Numbers.{opening_number, refusal_number, outcome_number, stage_number, block_number, kind_number, told_number, analog_number, analog_values}
use Rattle.outline.specs.Answers.{opening_due, block_due, is_loss, request_due, tick_due, has_end, bytes_before, kind_due, has_line, body_due, line_due, analog_due, analog_values_due}
use Rattle.outline.proofs.LineOrder.{spoken_body, told_fits, answered_in_order}

-- ---- an opening and a block
picked : {A B : Type 0} (f : A → B) (t : Bool) (a b : A) → f (cond t a b) ≡ cond t (f a) (f b)
picked f true a b = refl
picked f false a b = refl

pub opening_number_lem : (g : Given) → opening_number (open_of g) ≡ opening_due g
unfolding open_of
opening_number_lem g = picked opening_number (settings_fit g) _ _

pub block_number_lem : (s : Settings) (st : State) (counts : List ℤ) (contact : Bool) → block_number (block_of s st counts contact).answer ≡ block_due counts
unfolding block_of
block_number_lem s st counts contact = picked (λ (r : Blocked). block_number r.answer) (leb (length counts) block_limit) _ _

-- ---- a request
-- the first row that applies, as a number
abbrev numbered : List Row → ℕ
numbered [] = 0
numbered (r ∷ rs) = cond r.applies (refusal_number r.number) (numbered rs)

first_number : (rs : List Row) → outcome_number (first_of rs) ≡ numbered rs
first_number [] = refl
first_number (r ∷ rs) = picked outcome_number r.applies _ _ ∙ ap (cond r.applies (refusal_number r.number)) (first_number rs)

stage_idle : (q : Stage) → idle_of q ≡ eqb (stage_number q) 0
stage_idle stage.Idle = refl
stage_idle (stage.StartDelay t) = refl
stage_idle (stage.LargeDisable t) = refl
stage_idle stage.LargeFlow = refl
stage_idle (stage.MediumDisable t) = refl
stage_idle stage.MediumFlow = refl
stage_idle (stage.SmallDisable t) = refl
stage_idle stage.SmallFlow = refl
stage_idle (stage.JudgeDelay t) = refl
stage_idle stage.JudgeWait = refl
stage_idle (stage.DischargeStart t) = refl
stage_idle stage.Discharge = refl
stage_idle (stage.DischargeEnd t) = refl

mode_loss : (m : Mode) → loss_mode m ≡ is_loss m
mode_loss mode.Normal = refl
mode_loss mode.Loss = refl

-- the rows that a request can meet are those of the table whose column "To" names it
row_number : (s : Settings) (st : State) (x : Weights) (r : Option Request)
    → numbered (rows_to s.range s.batching.mode st.sequence st.totals x r) ≡ request_due s st x r
row_number s st x None = refl
row_number s st x (Some request.Zero) = simp (stage_idle st.sequence.stage)
row_number s st x (Some request.Tare) = simp (stage_idle st.sequence.stage)
row_number s st x (Some request.TareClear) = simp (stage_idle st.sequence.stage)
row_number s st x (Some request.Start) = simp (stage_idle st.sequence.stage)
row_number s st x (Some request.Stop) = refl
row_number s st x (Some (request.Set p)) = refl
row_number s st x (Some request.TotalClear) = refl
row_number s st x (Some request.Undo) = refl
row_number s st x (Some request.ShowGross) = refl
row_number s st x (Some request.ShowNet) = refl
row_number s st x (Some request.DayClose) = refl
row_number s st x (Some request.Discharge) = simp (stage_idle st.sequence.stage, mode_loss s.batching.mode)

ruling_number : (s : Settings) (st : State) (x : Weights) (r : Option Request) → outcome_number (ruling_of s st x r) ≡ request_due s st x r
unfolding ruling_of
ruling_number s st x r = first_number (rows_to s.range s.batching.mode st.sequence st.totals x r) ∙ row_number s st x r

settled_number : (s : Settings) (st : State) (i : Input) → outcome_number (settled_of s st i).outcome ≡ tick_due s st i
unfolding settled_of decided_of tick_due
settled_number s st i = ruling_number s _ _ i.request

pub tick_number : (s : Settings) (st : State) (i : Input) → outcome_number (tick_of s st i).answer.outcome ≡ tick_due s st i
unfolding tick_of outputs_of
tick_number s st i = settled_number s st i

pub unasked_number : (s : Settings) (st : State) (count : ℤ) (contact : Bool) → outcome_number (tick_of s st (unasked_of count contact)).answer.outcome ≡ 0
unfolding tick_due
unasked_number s st count contact = tick_number s st (unasked_of count contact)

-- ---- a line's second answer
end_at_lem : (n : ℕ) (s : List ℕ) → line_end_from n s ≡ cond (has_end s) (end_at (n + bytes_before s)) (Err Missing)
end_at_lem n [] = refl
end_at_lem n (x ∷ s) = go (is_cr_lf x (get_or s 0 0)) (end_at_lem (suc n) s)
  where
    go : (t : Bool) → line_end_from (suc n) s ≡ cond (has_end s) (end_at (suc n + bytes_before s)) (Err Missing)
        → cond t (end_at n) (line_end_from (suc n) s) ≡ cond (t || has_end s) (end_at (n + cond t 0 (suc (bytes_before s)))) (Err Missing)
    go true h = let e : n ≡ n + 0 = omega arith in ap end_at e
    go false h = let e : suc n + bytes_before s ≡ n + suc (bytes_before s) = omega arith in h ∙ ap (λ (m : ℕ). cond (has_end s) (end_at m) (Err Missing)) e

found : (receive : List ℕ) → line_end_from 0 receive ≡ cond (has_end receive) (end_at (bytes_before receive)) (Err Missing)
found receive =
    let e : 0 + bytes_before receive ≡ bytes_before receive = omega arith in
    end_at_lem 0 receive ∙ ap (λ (m : ℕ). cond (has_end receive) (end_at m) (Err Missing)) e

-- what holds of the kind of no line, and of one of n bytes, holds of a buffer's
module _ {B : Type 0} (f : LineKind → B) where
  of_bytes : (n : ℕ) → f (kind_at (end_at n)) ≡ cond (leb n line_limit) (cond (eqb n 0) (f kind.Empty) (f kind.Text)) (f kind.Long)
  of_bytes n =
      picked (λ (e : Result ℕ NoEnd). f (kind_at e)) (leb n line_limit) (Ok n) (Err Beyond)
      ∙ ap (λ (k : B). cond (leb n line_limit) k (f kind.Long)) (picked f (eqb n 0) kind.Empty kind.Text)

  of_kind : (receive : List ℕ) → f (kind_of receive)
      ≡ cond (has_end receive) (cond (leb (bytes_before receive) line_limit) (cond (eqb (bytes_before receive) 0) (f kind.Empty) (f kind.Text)) (f kind.Long)) (f kind.NoLine)
  unfolding kind_of line_end_of
  of_kind receive =
      ap (λ (e : Result ℕ NoEnd). f (kind_at e)) (found receive)
      ∙ picked (λ (e : Result ℕ NoEnd). f (kind_at e)) (has_end receive) (end_at (bytes_before receive)) (Err Missing)
      ∙ ap (λ (k : B). cond (has_end receive) k (f kind.NoLine)) (of_bytes (bytes_before receive))

pub kind_number_lem : (receive : List ℕ) → kind_number (kind_of receive) ≡ kind_due receive
unfolding kind_due
kind_number_lem receive = of_kind kind_number receive

-- ---- a line
has_line_lem : (receive : List ℕ) → is_line (kind_of receive) ≡ has_line receive
has_line_lem receive = of_kind is_line receive ∙ go (has_end receive) (leb (bytes_before receive) line_limit) (eqb (bytes_before receive) 0)
  where
    go : (h t e : Bool) → cond h (cond t (cond e true true) false) false ≡ h && t
    go true true true = refl
    go true true false = refl
    go true false e = refl
    go false t e = refl

told_number_lem : (c : Result Order LineFault) (o : Result (Unit {0}) Refusal) → told_number (told_of c o) ≡ body_due c (outcome_number o)
unfolding told_of
told_number_lem (Ok (order.Do w)) (Ok tt) = refl
told_number_lem (Ok (order.Do w)) (Err n) = refl
told_number_lem (Ok (order.Set p)) (Ok tt) = refl
told_number_lem (Ok (order.Set p)) (Err n) = refl
told_number_lem (Err fault.NoLine) o = refl
told_number_lem (Err fault.LongLine) o = refl
told_number_lem (Err fault.OtherAddress) o = refl
told_number_lem (Err fault.Malformed) o = refl
told_number_lem (Err fault.Unknown) o = refl

module _ (s : Settings) (st : State) (count : ℤ) (contact : Bool) (receive buffer : List ℕ) where
  by_order : (l p f : Bool) → is_line (kind_of receive) ≡ l → is_prefixed (line_of receive) s.address ≡ p → is_fitting s st count contact receive buffer ≡ f
      → told_number (line_tick_of s st count contact receive buffer).told
      ≡ cond l (cond p (cond f (body_due (body_of (line_of receive) (prefix_length s.address)) (tick_due s st (asked_of s count contact receive))) 14) 12) 11
  by_order false p f el ep ef = ap told_number ((answered_in_order s st count contact receive buffer).no_line el)
  by_order true false f el ep ef = ap told_number ((answered_in_order s st count contact receive buffer).other_address el ep)
  by_order true true false el ep ef = ap told_number ((answered_in_order s st count contact receive buffer).short_buffer ef)
  by_order true true true el ep ef =
      let body = body_of (line_of receive) (prefix_length s.address) in
      ap told_number (told_fits s st count contact receive buffer body (spoken_body receive s.address el ep) ef)
      ∙ told_number_lem body (settled_of s st (asked_of s count contact receive)).outcome
      ∙ ap (body_due body) (settled_number s st (asked_of s count contact receive))

  pub line_number : told_number (line_tick_of s st count contact receive buffer).told ≡ line_due s st count contact receive buffer
  unfolding line_due
  line_number = rw (← has_line_lem receive) (by_order _ _ _ refl refl refl)

-- ---- an analog answer
pub analog_number_lem : (b : Option Board) (scale : Scale) (w : ℤ) (fit : Bool) → analog_number (analog_of b scale w fit) ≡ analog_due b fit
unfolding analog_of analog_due
analog_number_lem b scale w false = refl
analog_number_lem None scale w true = refl
analog_number_lem (Some board.Current) scale w true = refl
analog_number_lem (Some board.Voltage) scale w true = refl

pub analog_values_lem : (b : Option Board) (scale : Scale) (w : ℤ) (fit : Bool) → analog_values (analog_of b scale w fit) ≡ analog_values_due b scale w fit
unfolding analog_of analog_values_due
analog_values_lem b scale w false = refl
analog_values_lem None scale w true = refl
analog_values_lem (Some board.Current) scale w true = refl
analog_values_lem (Some board.Voltage) scale w true = refl
