-- What is lent is the request, cut to its limit, with CR LF.
use Rattle.std.proofs.Common.{arith}
use Rattle.logs.proofs.ReceiveLaws.{cut}
use Rattle.logs.proofs.ticks.request_tick.Goals as goal

pub put_received-n-requires : goal.put_received-n-requires
put_received-n-requires c = omega (arith, cut c.args.request.now _ c.part-command.ensures)

pub slice_bounds-receive-end : goal.slice_bounds-receive-end
slice_bounds-receive-end c = omega (arith, cut c.args.request.now _ c.part-command.ensures, c.put_received-n.ensures.count)
