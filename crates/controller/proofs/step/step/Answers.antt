-- Each way that step 6 can go is a case of its definition.
use Rattle.std.proofs.Common.{rules, refl}
use Rattle.outline.specs.Stages.{facts_of}
use Rattle.outline.specs.Tick.{stepped_of, finished_of}
use Rattle.outline.proofs.Steps.{step_idle, step-on}
use Rattle.controller.proofs.step.step.Goals as goal
use Rattle.controller.proofs.step.step.Goals.{then-after, else-after}

pub returns-then-is_idle : goal.returns-then-is_idle
returns-then-is_idle c = search (rules, step_idle)

pub returns-else-is_idle-2 : goal.returns-else-is_idle-2
returns-else-is_idle-2 c =
    let a = c.args in
    step-on a.s a.st.now a.x a.st.now.setpoints c.is_fit-unfit.result c.compared-v.result c.advance-after.result refl (search rules) (search rules) (search rules) (search rules)

pub returns-after-after : goal.returns-after-after
unfolding stepped_of finished_of facts_of
returns-after-after c =
    elim c.if-after.branch [
      | then-after w ↦ search rules
      | else-after w ↦ search rules
    ]
