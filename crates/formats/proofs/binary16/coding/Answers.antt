use Rattle.std.proofs.Common.{refl}
use Rattle.formats.specs.Binary16Laws.{laid, specials}
use Rattle.formats.proofs.binary16.coding.Goals as goal

pub returns : goal.returns
returns c = record { width = refl; precision = refl; least = refl; finite = laid; specials = specials }
