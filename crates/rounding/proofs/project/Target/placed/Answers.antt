use Rattle.std.proofs.Common.{sym, subst, arith}
use Rattle.std.proofs.lemmas.Nat.{shr_below}
use Rattle.sums.specs.Cuts.{CutAt}
use Rattle.sums.specs.Words.{number}
use Rattle.rounding.proofs.project.Target.placed.Goals as goal

pub invariant_of-result-clause-short : goal.invariant_of-result-clause-short
invariant_of-result-clause-short g c =
    omega (arith, c.cut.ensures.digits, shr_below (number c.magnitude-size.result.words) 12 c.last_place-place.result c.last_place-place.ensures.fits)

pub returns : goal.returns
returns g c =
    let is = c.magnitude-size.ensures in
    let place = c.last_place-place.result in
    record {
      negative = c.is_negative.ensures;
      place = rw (sym is) c.last_place-place.ensures.place;
      cut = subst (λ n. CutAt n place c.cut.result) is c.cut.ensures;
    }
