-- The day book and the stability, each from the state that was held before, and the weights of both.
use Rattle.std.proofs.Common.{rules, ◌≡◌, ◌∙◌}
use Rattle.types.specs.declared.machine.State.{State}
use Rattle.outline.specs.Weight.{raw_of, steadied_of, weigh_of}
use Rattle.outline.specs.DayBook.{book_of}
use Rattle.outline.specs.Parts.{with_book, with_stability}
use Rattle.outline.specs.Tick.{entered_of, weights_of}
use Rattle.board.proofs.Held.{read_part, held_as}
use Rattle.board.proofs.steps.enter.Goals as goal

pub returns-clause-state : goal.returns-clause-state
unfolding entered_of
returns-clause-state c st h =
    let a = c.args in
    let b = read_part (λ (t : State). t.book) c.book_at-book.ensures h in
    let q = read_part (λ (t : State). t.stability) c.stability_at-stability.ensures h in
    let r : c.raw_of-raw.result ≡ raw_of a.s.calibration a.count = search rules in
    let booked = c.book_tick.ensures ∙ (λ i. book_of (b i) (r i) a.contact) in
    let e : c.steadied-steadied.result ≡ steadied_of a.s.steadiness c.stability_at-stability.result c.book_at-book.result.last c.raw_of-raw.result = search rules in
    let steadied = e ∙ (λ i. steadied_of a.s.steadiness (q i) (b i).last (r i)) in
    held_as (λ i. with_stability (with_book st (booked i)) (steadied i)) (c.put_stability.ensures.state _ (c.put_book.ensures.state st h))

pub returns-clause-weights : goal.returns-clause-weights
unfolding entered_of weights_of
returns-clause-weights c st h =
    let a = c.args in
    let b = read_part (λ (t : State). t.book) c.book_at-book.ensures h in
    let q = read_part (λ (t : State). t.stability) c.stability_at-stability.ensures h in
    let w = read_part (λ (t : State). t.weighing) c.weighing_at-weighing.ensures h in
    let r : c.raw_of-raw.result ≡ raw_of a.s.calibration a.count = search rules in
    let e : c.steadied-steadied.result ≡ steadied_of a.s.steadiness c.stability_at-stability.result c.book_at-book.result.last c.raw_of-raw.result = search rules in
    let steadied = e ∙ (λ i. steadied_of a.s.steadiness (q i) (b i).last (r i)) in
    c.weigh.ensures ∙ (λ i. weigh_of a.s (steadied i) (w i) (r i) a.contact)
