use Rattle.std.proofs.Common.{◌*◌}
use Rattle.pace.specs.Pace.{Within}
use Rattle.pace.proofs.joined.Given as goal

abbrev pub invariant-loop-sum : goal.invariant-loop-sum
invariant-loop-sum l = Within (100000 * l.sum-index) l.all
