-- `every_run` does nothing; what it ensures is proved beside it, each in its own file. Assumes nothing.
use Rattle.outline.proofs.BookRun.{balance_law, sums_law, nothing_else}
use Rattle.outline.proofs.ZeroRun.{zero_in_force}
use Rattle.outline.proofs.ConnectedLaw.{zero_while_connected, zero_through_refill, to_zero_only}
use Rattle.outline.proofs.EarlierRun.{earlier_keeps}
use Rattle.outline.proofs.TotalRun.{total_of_batches}
use Rattle.outline.proofs.GatesRun.{gates_shut}
use Rattle.outline.proofs.DischargeLaw.{never_together, discharge_is_no_batch}
use Rattle.outline.proofs.RangeRun.{in_range, from_range}
use Rattle.outline.proofs.WaitingRun.{waiting_of_writes, in_use_stays, latest_of_writes}
use Rattle.outline.proofs.WaitingAside.{waiting_aside, write_aside}
use Rattle.outline.proofs.RefusalLaw.{refusals}
use Rattle.outline.proofs.ReadBack.{read_back}
use Rattle.outline.proofs.TicketLaw.{ticket}
use Rattle.outline.proofs.RunForms.{blocks_are_runs, lines_are_runs, logs_are_runs}
use Rattle.outline.proofs.every_run.Statement.{statement}
use Rattle.outline.proofs.every_run.Tie as tie

returns : tie.Need-returns
returns c = (
  balance_law,
  (
    sums_law,
    (
      nothing_else,
      (
        zero_in_force,
        (total_of_batches, (gates_shut, (in_range, (refusals, (read_back, (ticket, (blocks_are_runs, (lines_are_runs, (logs_are_runs, (never_together, (discharge_is_no_batch, (from_range, (waiting_of_writes, (in_use_stays, (latest_of_writes, (waiting_aside, (write_aside, (zero_while_connected, (zero_through_refill, (to_zero_only, earlier_keeps)))))))))))))))))))),
      ),
    ),
  ),
)

pub every_run_spec : {M : Type 1} → statement M
every_run_spec = tie.close (tie.spec returns)
