use Rattle.std.proofs.Common.{length, vec_items}
use Rattle.sheets.proofs.SheetLaws.{Done}
use Rattle.sheets.proofs.run.follow.Given as goal

abbrev pub invariant-loop-rest : goal.invariant-loop-rest
invariant-loop-rest l = Done l.sheet (vec_items l.initial.lines) (vec_items l.lines) l.bench l.number l.rest

abbrev pub decreases-loop-rest : goal.decreases-loop-rest
decreases-loop-rest l = length l.rest
