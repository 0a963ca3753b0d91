use Rattle.std.proofs.Common.{eqb, ap}
use Rattle.sums.proofs.CutLaws.{bit_at}
use Rattle.sums.proofs.magnitude.Magnitude.bit.Goals as goal

pub returns : goal.returns
returns c = rw c.from.ensures (ap (λ b. eqb b 1) (bit_at c.args.self.now.words c.args.place c.args.self.now.eight c.ranges.place.fits))
