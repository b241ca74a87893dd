-- The answer of `is_idle` picks the sequence, the stage its error.
use borrow.Author.Rules.{rules}
use Rattle.outline.specs.Stages.{stop_sequence}
use Rattle.batch.proofs.sequence.stop_sequence.Statement.{statement}
use Rattle.batch.proofs.sequence.stop_sequence.Tie as tie

is_idle-requires : tie.Need-is_idle-requires
is_idle-requires c κs = search rules

returns-then-is_idle : tie.Need-returns-then-is_idle
unfolding stop_sequence
returns-then-is_idle c = simp (c.if-is_idle.true, ← c.is_idle.ensures)

stop_error-requires : tie.Need-stop_error-requires
stop_error-requires c κs = search rules

failed-requires : tie.Need-failed-requires
failed-requires c κs = search rules

returns : tie.Need-returns
unfolding stop_sequence
returns c =
    let e = c.before in
    simp (c.failed.ensures, e.stop_error.ensures, e.if-is_idle.false, ← e.is_idle.ensures)

pub stop_sequence_spec : {M : Type 1} → statement M
stop_sequence_spec = tie.close (tie.spec is_idle-requires returns-then-is_idle stop_error-requires failed-requires returns)
