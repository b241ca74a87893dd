-- A block that is too long is not run; a count more is a tick more of the fold.
use Rattle.std.proofs.Common.{rules, ◌≡◌, sym, ap, ◌∙◌, ◌<◌, ◌≤◌, ◌+◌, ℕ, List, take, length, get_or, pos, add-one, arith}
use mathlib.Core.List.{foldl, foldl-append}
use lib.Seq.{take_all, take-suc}
use lib.IntN.{ℤ}
use borrow.Author.Tests.{lt-leb, le-leb}
use Rattle.outline.specs.Limits.{block_limit}
use Rattle.outline.specs.Weight.{raw_of}
use Rattle.outline.specs.Tick.{count_in, block_of, entered_of, weights_of}
use Rattle.images.specs.StateImage.{image_of}
use Rattle.images.specs.Holds.{Holds}
use Rattle.board.proofs.Held.{held_as}
use Rattle.board.proofs.InOrder.{unasked-next}
use Rattle.board.proofs.run_block.Goals as goal

-- a fold over one element more
fold_more : {A B : Type 0} (f : B → A → B) (b : B) (l : List A) (i : ℕ) (d : A) → i < length l → foldl f b (take (i + 1) l) ≡ f (foldl f b (take i l)) (get_or l i d)
fold_more f b l i d h = rw (add-one, take-suc l i d h, foldl-append)

pub returns-then-counts-gt-BLOCK_LIMIT : goal.returns-then-counts-gt-BLOCK_LIMIT
unfolding block_of
returns-then-counts-gt-BLOCK_LIMIT c =
    let a = c.args in
    let long = lt-leb (length a.counts.now) block_limit (omega (arith, c.if-counts-gt-BLOCK_LIMIT.true)) in
    record { told = λ st h. simp long; image = λ st h. simp long (sym h.image) }

pub loop-count-preserved : goal.loop-count-preserved
unfolding count_in
loop-count-preserved c st h =
    let a = c.args in
    let i = c.loop-count.count-index in
    let within : i < length a.counts.now = omega arith in
    let count = get_or a.counts.now i (pos 0) in
    let before = foldl (count_in a.s a.contact) st (take i a.counts.now) in
    let g : Holds c.loop-count.state before = c.loop-count.invariant st h in
    let entered : Holds c.enter-x.new.state (entered_of a.s before (raw_of a.s.calibration count) a.contact) = search (rules, c.enter-x.ensures.state _ g) in
    let weights : c.enter-x.result ≡ weights_of a.s (entered_of a.s before (raw_of a.s.calibration count) a.contact) (raw_of a.s.calibration count) a.contact
    = search (rules, c.enter-x.ensures.weights _ g) in
    held_as (unasked-next a.s before count a.contact _ weights ∙ sym (fold_more (count_in a.s a.contact) st a.counts.now i (pos 0) within))
    (c.step.ensures _ (c.track.ensures _ entered))

pub returns : goal.returns
unfolding block_of
returns c =
    let a = c.args in
    let few = le-leb (length a.counts.now) block_limit c.if-counts-gt-BLOCK_LIMIT.false in
    let full : length a.counts.now ≤ c.loop-count.count-index = omega arith in
    record {
      told = λ st h. simp few;
      image = λ st h. simp few (sym (c.loop-count.invariant st h).image ∙ ap (λ (l : List ℤ). image_of (foldl (count_in a.s a.contact) st l)) (take_all c.loop-count.count-index a.counts.now full));
    }
