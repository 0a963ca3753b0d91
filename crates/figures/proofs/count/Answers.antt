use Rattle.std.proofs.Common.{refl}
use Rattle.layout.specs.Digits.{digits}
use Rattle.layout.specs.Sizes.{size_at, code_of}
use Rattle.rounding.specs.Projection.{last_place, significand_of, left_of, goes_away, rounded, of_size}
use Rattle.terms.specs.Terms.{exact_sum}
use Rattle.figures.proofs.count.Goals as goal

pub returns : goal.returns
unfolding digits size_at code_of last_place significand_of left_of goes_away rounded of_size exact_sum
returns c = record {
  number = refl;
  hold = (refl, (refl, (refl, (refl, (refl, (refl, (refl, (refl, (refl, (refl, (refl, (refl, (refl, (refl, ((refl, refl), tt)))))))))))))));
}
