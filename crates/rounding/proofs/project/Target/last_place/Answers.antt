use Rattle.std.proofs.Common.{◌≡◌, ◌+◌, ◌-◌, arith}
use Rattle.layout.specs.Sizes.{bottom}
use Rattle.std.proofs.lemmas.Int.{ints}
use Rattle.sums.specs.Words.{number}
use Rattle.rounding.proofs.StepLaws.{place_is}
use Rattle.rounding.proofs.project.Target.last_place.Goals as goal

pub returns : goal.returns
returns g c =
    let m = g.F.Format.meaning c.args.self.now.format.now in
    let laws = g.met.F.Format.lawful c.args.self.now.format.now in
    let least : c.unsigned_abs-least.result ≡ bottom m.least + 64 =
    omega (arith, ints, c.unsigned_abs-least.ensures.value, c.from.ensures, c.shape-shape.ensures.least, laws.deep) in
    let full : c.saturating_sub-full.result ≡ c.bit_length.result - m.precision =
    omega (arith, c.saturating_sub-full.ensures, c.from-2.ensures, c.shape-shape.ensures.precision) in
    let (place, low, high, fits) =
    place_is m laws (number c.args.size.now.words) c.bit_length.result c.max.result c.bit_length.ensures.0 c.bit_length.ensures.1
    (omega (arith, c.max.ensures, full, least)) in
    record { place = place; bounds = (low, high); fits = fits }
