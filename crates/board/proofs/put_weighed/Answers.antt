-- Part by part, from the earlier image.
use Rattle.types.specs.declared.machine.State.{State}
use Rattle.outline.specs.Parts.{with_book, with_stability, with_weighing}
use Rattle.images.specs.Holds.{with_panel}
use Rattle.board.proofs.Held.{read_earlier, held_as}
use Rattle.board.proofs.put_weighed.Goals as goal

pub returns : goal.returns
returns c k st h =
    let book = read_earlier (λ (t : State). t.book) _ c.book_at.ensures k in
    let stability = read_earlier (λ (t : State). t.stability) _ c.stability_at.ensures k in
    let weighing = read_earlier (λ (t : State). t.weighing) _ c.weighing_at.ensures k in
    let panel = read_earlier (λ (t : State). t.panel) _ c.panel_at.ensures k in
    held_as (λ i. with_panel (with_weighing (with_stability (with_book st (book i)) (stability i)) (weighing i)) (panel i))
    (c.put_panel.ensures.state _ (c.put_weighing.ensures.state _ (c.put_stability.ensures.state _ (c.put_book.ensures.state st h))))
