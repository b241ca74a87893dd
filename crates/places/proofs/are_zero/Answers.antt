-- The part is missing only where `at` is past the end.
use Rattle.std.proofs.Common.{arith, ◌∙◌}
use Rattle.places.proofs.Ends.{zeros_there, nothing_there}
use Rattle.places.proofs.are_zero.Goals as goal

pub returns-in-Some : goal.returns-in-Some
returns-in-Some c =
    let part = c.in-Some.ensures.lookup.0 in
    c.all_zero.ensures ∙ zeros_there c.args.s.now _ c.args.at c.args.n c.min-end.result part.2 (omega arith) part.0

pub returns-in-None : goal.returns-in-None
returns-in-None c = nothing_there c.args.s.now c.args.at c.args.n (omega (arith, c.in-None.ensures.lookup))
