use Rattle.std.proofs.Common.{◌≡◌, ◌+◌, ◌^◌, ◌-◌, true, false, ap, ◌∙◌, refl, arith}
use Rattle.formats.specs.SignLaws.{encodes_layout, encodes_special}
use Rattle.formats.specs.Value.{infinite}
use Rattle.formats.proofs.signs.SignMagnitude.encode.Goals as goal

pub returns-in-PositiveInfinity : goal.returns-in-PositiveInfinity
returns-in-PositiveInfinity c m means =
    encodes_special m (infinite false) c.args.reading c.args.self.now.magnitudes.count (rw c.in-PositiveInfinity.is refl) (means.specials.infinite_read false) (omega (arith, means.specials.infinite_code false))

pub returns-in-NegativeInfinity : goal.returns-in-NegativeInfinity
returns-in-NegativeInfinity c m means =
    let sign : c.sign.result ≡ 2 ^ (m.width - 1) = c.sign.ensures.is ∙ ap (λ w. 2 ^ (w - 1)) means.width in
    encodes_special m (infinite true) c.args.reading (c.args.self.now.magnitudes.count + c.sign.result) (rw c.in-NegativeInfinity.is refl) (means.specials.infinite_read true) (omega (arith, means.specials.infinite_code true))

pub returns-in-Finite : goal.returns-in-Finite
returns-in-Finite c m means =
    let s = c.args.self.now in
    rw (c.in-Finite.is, c.ok_or.ensures.value)
    (encodes_layout m (2 ^ (m.width - 1)) s.magnitudes.count means.finite s.magnitudes c.in-Finite.value c.finite_code.result means.precision means.least refl (rw means.width at c.finite_code.ensures))
