-- Sign, digits and LF, each behind the other.
use Rattle.std.proofs.Common.{refl, arith}
use Rattle.replies.specs.Writers.{more}
use Rattle.logs.specs.Amounts.{number_line}
use Rattle.logs.proofs.TextLaws.{number_length, signed_put, put_length, measured}
use Rattle.logs.proofs.pairs.put_number.Goals as goal

pub bounds-out-at : goal.bounds-out-at
bounds-out-at c = omega (arith, number_length c.args.a, c.requires)

pub bounds-out-next : goal.bounds-out-next
bounds-out-next c =
    let p = signed_put c.args.a c.sign_length.ensures c.digit_count.ensures c.requires c.digits_at-next.ensures.place c.digits_at-next.ensures.bytes in
    omega (arith, p.behind, put_length p, number_length c.args.a, c.requires)

pub overflow_add-result : goal.overflow_add-result
overflow_add-result c =
    let p = signed_put c.args.a c.sign_length.ensures c.digit_count.ensures c.requires c.digits_at-next.ensures.place c.digits_at-next.ensures.bytes in
    omega (arith, p.behind, number_length c.args.a, c.requires)

pub returns : goal.returns
unfolding number_line
returns c =
    let p = signed_put c.args.a c.sign_length.ensures c.digit_count.ensures c.requires c.digits_at-next.ensures.place c.digits_at-next.ensures.bytes in
    measured (more p (record { stored = refl; behind = refl; long = refl }))
