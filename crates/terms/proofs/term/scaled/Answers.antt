use Rattle.std.proofs.Common.{arith}
use Rattle.std.proofs.lemmas.Int.{ints}
use Rattle.terms.proofs.ProductLaws.{scaled_signed, scaled_small}
use Rattle.terms.proofs.term.scaled.Goals as goal

pub invariant_of-result : goal.invariant_of-result
invariant_of-result c =
    record {
      short = omega arith;
      low = omega (arith, ints);
      small = scaled_small _ _ _ _ c.from.ensures (omega (arith, ints)) c.args.small.small.small;
    }

pub returns : goal.returns
returns c = scaled_signed c.args.small.value.negative c.args.small.value.significand _ _ _ c.from.ensures (omega (arith, ints))
