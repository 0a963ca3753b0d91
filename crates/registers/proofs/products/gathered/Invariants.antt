use Rattle.registers.proofs.RunLaws.{Walk}
use Rattle.registers.proofs.products.gathered.Given as goal

abbrev pub invariant-loop-i : goal.invariant-loop-i
invariant-loop-i g l =
    Walk (g.F.Format.meaning l.x_format) (g.G.Format.meaning l.y_format) l.scale.power l.run l.pairs l.i-iterator.iter.size l.i-iterator.iter.rest.now l.i-iterator.count l.sum
