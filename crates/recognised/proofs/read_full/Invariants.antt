-- `recognised::read_full`: what is read lies within the room, and each turn that goes on reads a byte at least. Assumes nothing.
use Rattle.std.proofs.Common.{◌≡◌, ◌-◌, ◌≤◌, length}
use Rattle.recognised.proofs.read_full.Given as goal

abbrev pub invariant-loop-done : goal.invariant-loop-done
invariant-loop-done g l = (length l.all ≡ length l.initial.all) × (l.done ≤ length l.all)

abbrev pub decreases-loop-done : goal.decreases-loop-done
decreases-loop-done g l = length l.initial.all - l.done
