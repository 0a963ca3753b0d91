use Rattle.std.proofs.Common.{◌≡◌, ◌+◌, ◌*◌, ◌^◌, subst, pow-suc, arith, rules}
use Rattle.std.proofs.lemmas.Int.{ints}
use Rattle.layout.specs.Sizes.{bottom}
use Rattle.layout.specs.Codes.{Placed}
use Rattle.layout.proofs.CodeLaws.{placed, biased_is}
use Rattle.layout.proofs.magnitudes.Layout.place.Goals as goal

pub returns : goal.returns
returns c =
    let l = c.args.self.now in
    let z = c.args.size in
    let low = biased_is c.biased.result z.exponent (search rules) c.biased.ensures.0 in
    let least : c.biased-2.result ≡ bottom l.least_exponent + 96 = omega (arith, ints, c.biased-2.ensures.0, l.deep) in (
      subst (λ x. Placed l.precision (bottom l.least_exponent) (z.significand * 2 ^ x) c.max.result) low
          (placed l.precision (bottom l.least_exponent) z.significand c.biased.result c.ilog2.result c.max.result l.precise c.ilog2.ensures.power_le (omega (arith, c.ilog2.ensures.next_power_gt, pow-suc 2 c.ilog2.result)) (omega (arith, c.max.ensures, c.saturating_sub.ensures, c.from.ensures))),
      omega (arith, c.max.ensures, c.saturating_sub.ensures, c.from.ensures),
    )
