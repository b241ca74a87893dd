-- The last tick is the one after which n have passed; n of 0 has it at once.
use Prim.Native.Nat.{suc}
use native.Mathlib.Numerals.{add-one}
use native.Mathlib.Omega.{arith}
use borrow.Author.Rules.{rules}
use borrow.Author.Tests.{le-leb, lt-leb}
use Rattle.outline.specs.Stages.{wait_of}
use Rattle.batch.proofs.stages.wait.Statement.{statement}
use Rattle.batch.proofs.stages.wait.Tie as tie

returns-then-n-t : tie.Need-returns-then-n-t
unfolding wait_of
returns-then-n-t c = simp (le-leb c.args.n (suc c.args.t) (omega arith))

returns-then-n-next : tie.Need-returns-then-n-next
unfolding wait_of
returns-then-n-next c = let s = c.before.before in simp (le-leb s.args.n (suc s.args.t) (omega arith))

returns-else-n-next : tie.Need-returns-else-n-next
unfolding wait_of
returns-else-n-next c = let s = c.before.before in simp (lt-leb s.args.n (suc s.args.t) (omega arith), add-one)

overflow_add-next : tie.Need-overflow_add-next
overflow_add-next c = search rules

pub wait_spec : {M : Type 1} → statement M
wait_spec = tie.close (tie.spec returns-then-n-t overflow_add-next returns-then-n-next returns-else-n-next)
