-- Each test as the law has it.
use Rattle.std.proofs.Common.{◌&&◌, ◌||◌, eqb, leb, ap, ◌∙◌}
use Rattle.std.specs.Int.{from_bool}
use Rattle.places.specs.Places.{flag_of}
use Rattle.images.proofs.NameLaws.{tag_is, weight_is}
use Rattle.images.proofs.Read.{whole}
use Rattle.images.proofs.state.is_read_whole.Goals as goal

pub returns : goal.returns
unfolding flag_of
returns c =
    let b = c.args.t.back in
    (λ i.
    (c.is_flag.ensures ∙ (λ k. leb (c.read.ensures k) 1)) i
    && (c.is_flag-2.ensures ∙ (λ k. leb (c.read-2.ensures k) 1)) i
    && (c.is_flag-3.ensures ∙ (λ k. leb (c.read-3.ensures k) 1)) i
    && (c.is_flag-4.ensures ∙ (λ k. leb (c.read-4.ensures k) 1)) i
    && eqb (c.stage_number.ensures i) (c.read-5.ensures i)
    && eqb (c.stage_timer.ensures i) (c.read-6.ensures i)
    && eqb (c.error_number.ensures i) (c.read-7.ensures i)
    && eqb (c.judgement_number.ensures i) (c.read-8.ensures i)
    && eqb ((c.from.ensures ∙ ap from_bool c.is_some.ensures ∙ tag_is b) i) (c.read-9.ensures i)
    && eqb ((c.unwrap_or.ensures ∙ weight_is b) i) (c.read-10.ensures i)
    && (c.is_flag-5.ensures ∙ (λ k. leb (c.read-11.ensures k) 1)) i
    && (c.read-12.ensures i || c.are_zero.ensures i))
    ∙ whole c.args.s.now (λ k. (c.type_inv.s k).fits) c.args.q c.args.t c.requires.q_value c.requires.t_value
