-- The digits counted, and those of what is left, are one more than all; what is left has no more than may follow. It is also the measure.
use Rattle.std.proofs.Common.{◌≡◌, ◌≤◌, ◌<◌, ◌+◌, ◌-◌, ◌^◌, length}
use Prim.Native.Nat.{suc}
use Rattle.outline.specs.Ticket.{decimal_in, decimal_text}
use Rattle.logs.proofs.pairs.digit_count.Given as goal

abbrev pub invariant-loop-rest : goal.invariant-loop-rest
invariant-loop-rest l = (1 ≤ l.k) × (l.k ≤ 20) × (l.rest < 10 ^ (21 - l.k)) × (l.k + length (decimal_in (21 - l.k) l.rest) ≡ suc (length (decimal_text l.n)))

abbrev pub decreases-loop-rest : goal.decreases-loop-rest
decreases-loop-rest l = l.rest
