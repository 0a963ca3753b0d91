use Rattle.std.proofs.Common.{◌≡◌, ◌*◌, ◌-◌, ◌%◌, ◌^◌, arith, refl, w8, to_z, of_z}
use Rattle.std.proofs.lemmas.Nat.{one_shl}
use Rattle.std.proofs.lemmas.Int.{ints}
use Rattle.formats.specs.P3109.{least}
use Rattle.formats.specs.OwnFacts.{exists}
use Rattle.formats.specs.P3109Laws.{deep, top, laid, specials, sign_least}
use Rattle.formats.specs.declared.p3109.P3109.{P3109}
use Rattle.formats.proofs.p3109.P3109.coding.Goals as goal

-- the sign bit as the code has it
sign : (f : P3109) → 1 * 2 ^ (f.width - 1) % 2 ^ 16 ≡ 2 ^ (f.width - 1)
sign f = one_shl (f.width - 1) 16 (omega (arith, f.narrow))

pub invariant_of-result : goal.invariant_of-result
invariant_of-result c =
    let f = c.args.self.now in
    let e = exists f in
    let q : to_z w8 (of_z w8 c.least_exponent.result) ≡ least f.width f.precision = omega (arith, ints, c.least_exponent.ensures) in
    record {
      precise = f.precise;
      short = omega (arith, f.narrow, f.short);
      deep = rw q (deep f.width f.precision e);
      some = omega (arith, sign f, sign_least f.width f.precision e);
      top = rw (q, sign f) (top f.width f.precision e);
    }

pub returns : goal.returns
returns c =
    let f = c.args.self.now in
    let e = exists f in
    record {
      width = refl;
      precision = refl;
      least = omega (arith, ints, c.least_exponent.ensures);
      finite = rw (sign f) (laid f.width f.precision e);
      specials = rw (sign f) (specials f.width f.precision e);
    }
