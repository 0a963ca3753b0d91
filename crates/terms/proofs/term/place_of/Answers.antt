use Rattle.std.proofs.Common.{nat_abs, ap}
use Rattle.terms.proofs.PlaceLaws.{fits_byte, place_is, place_low}
use Rattle.terms.proofs.term.place_of.Goals as goal

pub overflow_cast-result : goal.overflow_cast-result
overflow_cast-result c =
    let f = c.args.x.small in
    let g = c.args.y.small in
    let h = c.args.scale.fits in
    fits_byte (place_is f g h c.from.ensures c.from-2.ensures c.from-3.ensures) (place_low f g h)

pub returns : goal.returns
returns c = ap nat_abs (place_is c.args.x.small c.args.y.small c.args.scale.fits c.from.ensures c.from-2.ensures c.from-3.ensures)
