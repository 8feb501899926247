-- `recognised::number`: below 1 with as many zeros as digits are read. Assumes nothing.
use Rattle.std.proofs.Common.{◌<◌, ◌^◌}
use Rattle.recognised.proofs.number.Given as goal

abbrev pub invariant-loop-b : goal.invariant-loop-b
invariant-loop-b l = l.n < 10 ^ l.b-index
