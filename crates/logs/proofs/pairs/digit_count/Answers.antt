-- A turn drops one digit; the last is counted from the start.
use Rattle.std.proofs.Common.{◌≡◌, ◌≤◌, ◌+◌, ◌-◌, arith}
use Prim.Native.Nat.{suc}
use Rattle.outline.specs.Ticket.{decimal_text}
use Rattle.logs.proofs.DecimalLaws.{digits_end, digits_go_on, tenth_below, two_allowed}
use Rattle.logs.proofs.pairs.digit_count.Goals as goal

pub loop-rest-init : goal.loop-rest-init
unfolding decimal_text
loop-rest-init c = (omega arith, omega arith, omega arith, omega arith)

pub loop-rest-preserved : goal.loop-rest-preserved
loop-rest-preserved c =
    let l = c.loop-rest in
    let more : 2 ≤ 21 - l.k = two_allowed (21 - l.k) l.rest l.invariant.2 c.loop-rest-test.true in
    let m : 21 - l.k ≡ suc (21 - (l.k + 1)) = omega arith in (
      omega arith,
      omega arith,
      tenth_below (21 - l.k) (21 - (l.k + 1)) l.rest m l.invariant.2,
      omega (arith, digits_go_on (21 - l.k) (21 - (l.k + 1)) l.rest m c.loop-rest-test.true),
    )

pub returns : goal.returns
returns c =
    let l = c.loop-rest in
    omega (arith, digits_end (21 - l.k) (20 - l.k) l.rest (omega arith) c.loop-rest-test.false)
