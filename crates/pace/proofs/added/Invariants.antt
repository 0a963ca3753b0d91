use Rattle.pace.specs.Pace.{Within}
use Rattle.pace.proofs.added.Given as goal

abbrev pub invariant-loop-i : goal.invariant-loop-i
invariant-loop-i l = Within l.i l.sum
