use Rattle.std.proofs.Common.{w8}
use Rattle.std.proofs.lemmas.Int.{to_z-of_z}
use Rattle.sheets.proofs.bench.dot.Goals as goal

pub returns-in-OfP3109-OfP3109 : goal.returns-in-OfP3109-OfP3109
returns-in-OfP3109-OfP3109 c = rw (c.in-OfP3109-OfP3109.is-0, c.in-OfP3109-OfP3109.is-1) (rw (to_z-of_z w8 c.args.scale c.ranges.scale) at c.dot.ensures.answers)

pub returns-in-OfP3109-OfBinary16 : goal.returns-in-OfP3109-OfBinary16
returns-in-OfP3109-OfBinary16 c = rw (c.in-OfP3109-OfBinary16.is-0, c.in-OfP3109-OfBinary16.is-1) (rw (to_z-of_z w8 c.args.scale c.ranges.scale) at c.dot-in-OfP3109-OfBinary16.ensures.answers)

pub returns-in-OfBinary16-OfP3109 : goal.returns-in-OfBinary16-OfP3109
returns-in-OfBinary16-OfP3109 c = rw (c.in-OfBinary16-OfP3109.is-0, c.in-OfBinary16-OfP3109.is-1) (rw (to_z-of_z w8 c.args.scale c.ranges.scale) at c.dot-in-OfBinary16-OfP3109.ensures.answers)
