use Rattle.std.proofs.Common.{arith}
use Rattle.formats.proofs.p3109.P3109Format.decode.Goals as goal

pub returns : goal.returns
returns c = let h = c.decode.ensures _ c.coding.ensures in grind (arith, h)
