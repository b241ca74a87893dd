-- Reading on from a digit with the number so far gives what reading from the start gives, and i digits say less than 10 ^ i.
use Rattle.std.proofs.Common.{◌≡◌, ◌<◌, ◌^◌, drop}
use Rattle.outline.specs.Lines.{number_from}
use Rattle.commands.proofs.fields.number_of.Given as goal

abbrev pub invariant-loop-b : goal.invariant-loop-b
invariant-loop-b l = (l.v < 10 ^ l.b-index) × (number_from l.v (drop l.b-index l.field) ≡ number_from 0 l.field)
