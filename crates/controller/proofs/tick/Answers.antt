-- Steps 1 to 5, call by call; where the ways of step 4 meet, and those of step 6, each is a case of its definition.
use Rattle.std.proofs.Common.{rules, ◌≡◌, ap, ◌∙◌, Ok}
use Rattle.types.specs.declared.machine.Ticked.{Ticked}
use Rattle.outline.specs.Numbers.{outcome_number}
use Rattle.outline.specs.Requests.{granted_of, grant_of}
use Rattle.outline.specs.Stages.{stop_sequence}
use Rattle.outline.specs.Tick.{next_of}
use Rattle.outline.specs.Steps.{parts_of, left_of, Asked}
use Rattle.outline.proofs.AnswerLaws.{tick_number}
use Rattle.outline.proofs.Steps.{asked_held, asked_stepped, asked_tick}
use Rattle.controller.proofs.tick.Goals as goal
use Rattle.controller.proofs.tick.Goals.{in-Ok+in_default-request, in-Ok+in-Some+in-Zero, in-Ok+in-Some+in-Tare, in-Ok+in-Some+in-TareClear, in-Ok+in-Some+in-Start, in-Ok+in-Some+in-Stop+then-not-is_idle, in-Ok+in-Some+in-Stop+else-not-is_idle, in-Ok+in-Some+in-Set+then-is_idle, in-Ok+in-Some+in-Set+else-is_idle, in-Ok+in-Some+in-TotalClear, in-Ok+in-Some+in-Undo, in-Ok+in-Some+in-ShowGross, in-Ok+in-Some+in-ShowNet, in-Ok+in-Some+in-DayClose, in-Ok+in-Some+in-Discharge, in_default}
use Rattle.controller.proofs.tick.Goals.{then-not-held, else-not-held}

pub returns-clause-ticked : goal.returns-clause-ticked
unfolding granted_of stop_sequence
returns-clause-ticked c =
    let a = c.args in
    let m = c.match-outcome in
    let d = grant_of c.ruling-outcome.result a.i.request in
    let left : left_of (Ok tt) m.st m.held m.keyed m.closed
    ≡ granted_of (parts_of a.st c.book_tick-st.result c.steadied-st.result a.st.weighing) c.weigh-x.result d
    = elim m.branch [
      | in-Ok+in-Some+in-Zero w ↦ search rules
      | in-Ok+in-Some+in-Tare w ↦ search rules
      | in-Ok+in-Some+in-TareClear w ↦ search rules
      | in-Ok+in-Some+in-Start w ↦ search rules
      | in-Ok+in-Some+in-Stop+then-not-is_idle w ↦ search rules
      | in-Ok+in-Some+in-Stop+else-not-is_idle w ↦ search rules
      | in-Ok+in-Some+in-Set+then-is_idle w ↦ search rules
      | in-Ok+in-Some+in-Set+else-is_idle w ↦ search rules
      | in-Ok+in-Some+in-TotalClear w ↦ search rules
      | in-Ok+in-Some+in-Undo w ↦ search rules
      | in-Ok+in-Some+in-ShowGross w ↦ search rules
      | in-Ok+in-Some+in-ShowNet w ↦ search rules
      | in-Ok+in-Some+in-DayClose w ↦ search rules
      | in-Ok+in-Some+in-Discharge w ↦ search rules
      | in-Ok+in_default-request w ↦ search rules
      | in_default w ↦ search rules
    ] in
    let asked : Asked a.s a.st a.i c.raw_of-raw.result c.steadied-st.result c.book_tick-st.result c.weigh-x.result c.ruling-outcome.result d
    m.st m.held m.keyed m.closed c.weigh-served.result c.is_idle-idle.result c.tracked-st.result
    = record {
      raws = search rules;
      steadied = search rules;
      booked = search rules;
      weighed = search rules;
      ruled = search rules;
      done = search rules;
      left = left;
      served = search rules;
      idles = search rules;
      tracked = search rules;
    } in
    let next : c.if-not-held.st ≡ next_of a.s a.st a.i
    = elim c.if-not-held.branch [
      | then-not-held w ↦ asked_stepped asked w.if-not-held.true _ (w.st-is ∙ w.step.ensures)
      | else-not-held w ↦ w.st-is ∙ asked_held asked w.if-not-held.false
    ] in
    asked_tick asked _ _ next c.outputs.ensures

pub returns-clause-number : goal.returns-clause-number
returns-clause-number c = ap (λ (t : Ticked). outcome_number t.answer.outcome) (returns-clause-ticked c) ∙ tick_number c.args.s c.args.st c.args.i
