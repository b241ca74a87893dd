-- Part by part: a day book, totals, a weighing or what waits that is not possible ends the test; after them the rest is asked.
use Rattle.std.proofs.Common.{sym, ap, ◌∙◌, Option}
use Rattle.types.specs.declared.stages.Setpoints.{Setpoints}
use Rattle.types.specs.declared.machine.State.{State}
use Rattle.outline.specs.Kinds.{is_write}
use Rattle.outline.specs.Ranges.{write_fits}
use Rattle.outline.specs.Settings.{settings_of}
use Rattle.images.specs.StateImage.{state_at}
use Rattle.images.specs.GivenImage.{given_at}
use Rattle.images.specs.Possible.{book_possible, weighing_possible, totals_possible, rest_possible}
use Rattle.images.proofs.Buffers.{part_here, waiting_here, possible_here, possible_no_settings, possible_no_state}
use Rattle.images.proofs.Tests.{not_book, not_weighing, not_totals, not_waiting, rest, write_is}
use Rattle.images.proofs.possible.is_possible.Goals as goal

pub returns-then-g-ne-GIVEN_LENGTH : goal.returns-then-g-ne-GIVEN_LENGTH
returns-then-g-ne-GIVEN_LENGTH c = sym (possible_no_settings _ _ c.if-g-ne-GIVEN_LENGTH.true)

pub returns-then-not-is_image : goal.returns-then-not-is_image
returns-then-not-is_image c = sym (possible_no_state _ _ c.if-g-ne-GIVEN_LENGTH.false (sym c.is_image.ensures ∙ c.if-not-is_image.true))

pub returns-then-not-is_book : goal.returns-then-not-is_book
returns-then-not-is_book c =
    let k = sym c.is_image.ensures ∙ c.if-not-is_image.false in
    let book = c.is_book.ensures ∙ ap book_possible (part_here _ k (λ (t : State). t.book) c.book_at-book.ensures) in
    not_book _ _ (sym book ∙ c.if-not-is_book.true) ∙ sym (possible_here _ _ c.if-g-ne-GIVEN_LENGTH.false k)

pub returns-then-not-is_totals : goal.returns-then-not-is_totals
returns-then-not-is_totals c =
    let k = sym c.is_image.ensures ∙ c.if-not-is_image.false in
    let totals = c.is_totals.ensures ∙ ap totals_possible (part_here _ k (λ (t : State). t.totals) c.totals_at-totals.ensures) in
    not_totals _ _ (sym totals ∙ c.if-not-is_totals.true) ∙ sym (possible_here _ _ c.if-g-ne-GIVEN_LENGTH.false k)

pub returns-then-not-is_weighing : goal.returns-then-not-is_weighing
returns-then-not-is_weighing c =
    let g = settings_of (given_at c.args.g.now) in
    let k = sym c.is_image.ensures ∙ c.if-not-is_image.false in
    let weighing = c.is_weighing.ensures ∙ ap (weighing_possible g.range g.tracking) (part_here _ k (λ (t : State). t.weighing) c.weighing_at-weighing.ensures) in
    not_weighing _ _ (sym weighing ∙ c.if-not-is_weighing.true) ∙ sym (possible_here _ _ c.if-g-ne-GIVEN_LENGTH.false k)

pub returns-then-not-write_fits : goal.returns-then-not-write_fits
returns-then-not-write_fits c =
    let g = settings_of (given_at c.args.g.now) in
    let k = sym c.is_image.ensures ∙ c.if-not-is_image.false in
    let waiting = c.write_fits.ensures ∙ ap (λ (w : Option Setpoints). write_fits g.batching.mode w) (waiting_here _ k c.waiting_at-waiting.ensures) in
    not_waiting _ _ (sym waiting ∙ c.if-not-write_fits.true) ∙ sym (possible_here _ _ c.if-g-ne-GIVEN_LENGTH.false k)

pub returns : goal.returns
returns c =
    let g = settings_of (given_at c.args.g.now) in
    let l = c.args.s.now in
    let k = sym c.is_image.ensures ∙ c.if-not-is_image.false in
    let book = part_here l k (λ (t : State). t.book) c.book_at-book.ensures in
    let totals = part_here l k (λ (t : State). t.totals) c.totals_at-totals.ensures in
    let weighing = part_here l k (λ (t : State). t.weighing) c.weighing_at-weighing.ensures in
    let waiting = waiting_here l k c.waiting_at-waiting.ensures in
    let q = part_here l k (λ (t : State). t.stability) c.stability_at.ensures in
    let p = part_here l k (λ (t : State). t.setpoints) c.setpoints_at.ensures in
    let x = part_here l k (λ (t : State). t.sequence) c.sequence_at.ensures in
    let waits = c.is_some.ensures ∙ write_is _ ∙ ap (λ (w : Option Setpoints). is_write w) waiting in
    c.is_rest.ensures
    ∙ (λ i. rest_possible g (q i) (p i) (x i) (book i).begun (weighing i).counter (waits i))
    ∙ rest g (state_at l)
    (ap book_possible (sym book) ∙ sym c.is_book.ensures ∙ c.if-not-is_book.false)
    (ap totals_possible (sym totals) ∙ sym c.is_totals.ensures ∙ c.if-not-is_totals.false)
    (ap (weighing_possible g.range g.tracking) (sym weighing) ∙ sym c.is_weighing.ensures ∙ c.if-not-is_weighing.false)
    (ap (λ (w : Option Setpoints). write_fits g.batching.mode w) (sym waiting) ∙ sym c.write_fits.ensures ∙ c.if-not-write_fits.false)
    ∙ sym (possible_here _ _ c.if-g-ne-GIVEN_LENGTH.false k)
