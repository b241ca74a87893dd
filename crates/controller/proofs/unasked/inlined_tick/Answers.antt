-- Steps 1 to 5, call by call, and the outputs.
use Rattle.std.proofs.Common.{rules, ap, ◌∙◌}
use Rattle.types.specs.declared.machine.Ticked.{Ticked}
use Rattle.outline.specs.Numbers.{outcome_number}
use Rattle.outline.specs.Steps.{Parts}
use Rattle.outline.proofs.AnswerLaws.{unasked_number}
use Rattle.outline.proofs.Steps.{parts_tick}
use Rattle.controller.proofs.unasked.inlined_tick.Goals as goal

pub returns-clause-ticked : goal.returns-clause-ticked
returns-clause-ticked c =
    let a = c.args in
    let parts : Parts a.s a.contact a.st a.count c.raw_of-raw.result c.steadied-steadied.result c.book_tick-st.result c.weigh-x.result c.is_idle-idle.result c.tracked-st.result
    = record {
      raws = search rules;
      steadied = search rules;
      booked = search rules;
      weighed = search rules;
      idles = search rules;
      tracked = search rules;
    } in
    parts_tick parts _ _ c.step.ensures c.outputs.ensures

pub returns-clause-number : goal.returns-clause-number
returns-clause-number c = ap (λ (t : Ticked). outcome_number t.answer.outcome) (returns-clause-ticked c) ∙ unasked_number c.args.s c.args.st c.args.count c.args.contact
