use Rattle.std.proofs.Common.{◌≡◌, ◌*◌, ◌^◌, ◌≤◌, ap, ◌∙◌, arith, rules}
use Rattle.std.proofs.lemmas.Int.{ints}
use Rattle.layout.specs.Codes.{fine_size}
use Rattle.layout.proofs.CodeLaws.{biased_is, in_shift}
use Rattle.layout.proofs.magnitudes.units.Goals as goal

pub returns : goal.returns
returns c =
    let z = c.args.size in
    let x = biased_is c.biased.result z.exponent (search rules) c.biased.ensures.0 in
    let deep : 96 ≤ c.biased.result = omega (arith, ints, c.requires.deep) in
    let held : z.significand * 2 ^ c.biased.result ≡ fine_size z = ap (λ y. z.significand * 2 ^ y) x in
    rw c.from.ensures (in_shift z.significand c.biased.result deep (omega (arith, held, c.requires.below)) ∙ held)
