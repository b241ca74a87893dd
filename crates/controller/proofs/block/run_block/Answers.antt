-- One count more: steps 1 to 5, call by call; where the ways of step 6 meet, each is a case of its definition.
use Rattle.std.proofs.Common.{rules, ◌≡◌, sym, ap, ◌∙◌, get_or, pos, ◌+◌, ◌<◌, ℕ, List, take, length, add-one, arith}
use mathlib.Core.List.{foldl, foldl-append}
use lib.Seq.{take-suc}
use Rattle.types.specs.declared.machine.State.{State}
use Rattle.outline.specs.Stages.{idle_of, facts_of}
use Rattle.outline.specs.Steps.{parts_of, Parts}
use Rattle.outline.specs.Tick.{stepped_of, finished_of, count_in}
use Rattle.outline.proofs.Steps.{parts_next, step_idle, step-on, step_runs}
use Rattle.controller.proofs.block.run_block.Goals as goal
use Rattle.controller.proofs.block.run_block.Goals.{then-not-idle+then-is_idle, then-after, else-after, then-not-idle+else-is_idle, else-not-idle}

-- a fold over one element more
fold_more : {A B : Type 0} (f : B → A → B) (b : B) (l : List A) (i : ℕ) (d : A) → i < length l → foldl f b (take (i + 1) l) ≡ f (foldl f b (take i l)) (get_or l i d)
fold_more f b l i d h = rw (add-one, take-suc l i d h, foldl-append)

pub loop-count-preserved : goal.loop-count-preserved
unfolding count_in stepped_of finished_of facts_of
loop-count-preserved c =
    let a = c.args in
    let l = c.loop-count in
    let x = c.weigh-x.result in
    let count = get_or a.counts.now l.count-index (pos 0) in
    let parts : Parts a.s a.contact l.st count c.raw_of-raw.result c.steadied-steadied.result c.book_tick-st.result x c.is_idle-idle.result c.tracked-st.result
    = record {
      raws = search rules;
      steadied = search rules;
      booked = search rules;
      weighed = search rules;
      idles = search rules;
      tracked = search rules;
    } in
    let start = parts_of l.st c.book_tick-st.result c.steadied-steadied.result c.tracked-st.result in
    let stepped : c.if-not-idle.st ≡ stepped_of a.s start x
    = elim c.if-not-idle.branch [
      | then-not-idle+then-is_idle w ↦
          let same = sym (l.invariant.compared (sym c.is_idle-idle.ensures ∙ w.if-not-idle.true)) in
          elim w.if-after.branch [
            | then-after k ↦ search rules
            | else-after k ↦ search rules
          ]
      | then-not-idle+else-is_idle w ↦
          let same = sym (l.invariant.compared (sym c.is_idle-idle.ensures ∙ w.if-not-idle.true)) in
          w.st-is ∙ step-on a.s start x a.st.setpoints w.is_fit-unfit.result w.compared-v.result w.advance-after.result same (search rules) (search rules) (search rules) (search rules)
      | else-not-idle w ↦ w.st-is ∙ step_idle a.s start x (sym c.is_idle-idle.ensures ∙ w.if-not-idle.false)
    ] in
    record {
      folded = stepped ∙ parts_next parts ∙ ap (λ (st : State). count_in a.s a.contact st count) l.invariant.folded
          ∙ sym (fold_more (count_in a.s a.contact) a.st a.counts.now l.count-index (pos 0) (omega arith));
      compared = λ e.
          let runs = step_runs a.s start x (sym (ap (λ (st : State). idle_of st.sequence.stage) stepped) ∙ e) in
          ap (λ (st : State). st.setpoints) stepped ∙ runs.1 ∙ l.invariant.compared runs.0;
    }
