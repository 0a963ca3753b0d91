use Rattle.std.proofs.Common.{arith}
use Rattle.std.proofs.lemmas.Int.{ints}
use Rattle.terms.proofs.PlaceLaws.{place_low}
use Rattle.terms.proofs.ProductLaws.{below_both, multiplied_signed, multiplied_small}
use Rattle.terms.proofs.term.multiplied.Goals as goal

pub invariant_of-result : goal.invariant_of-result
invariant_of-result c =
    let f = c.args.x.small in
    let g = c.args.y.small in
    let h = c.args.scale.fits in
    let short = below_both 12 c.args.x.value.significand c.args.y.value.significand f.short g.short in
    record {
      short = rw (c.from.ensures, c.from-2.ensures) short;
      low = rw c.place_of-place.ensures (place_low f g h);
      small = multiplied_small _ _ _ _ _ _ _ _ c.from.ensures c.from-2.ensures c.place_of-place.ensures f.small g.small (omega (arith, ints));
    }

pub returns : goal.returns
returns c =
    multiplied_signed c.args.x.value.negative c.args.y.value.negative c.args.x.value.significand c.args.y.value.significand _ _ _ _ _ _
    c.from.ensures c.from-2.ensures c.place_of-place.ensures
