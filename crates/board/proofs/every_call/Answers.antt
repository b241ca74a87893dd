-- `every_call` does nothing; what it ensures is proved in Calls. Assumes nothing.
use Rattle.board.proofs.Calls.{calls_are_ticks, opens_a_run, calls_are_runs, grows_pass, grows_a_run, grows_earlier, length_told}
use Rattle.board.proofs.every_call.Goals as goal

pub returns : goal.returns
returns c = record {
  ticks = calls_are_ticks;
  opens = opens_a_run;
  runs = calls_are_runs;
  grows = grows_pass;
  grows_a_run = grows_a_run;
  grows_earlier = grows_earlier;
  length = length_told;
}
