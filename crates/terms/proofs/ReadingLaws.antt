-- A code's reading in a lawful format, in units of 2^-32.
use Rattle.std.proofs.Common.{◌≡◌, ℕ, ◌+◌, ◌*◌, ◌^◌, ◌<◌, pos, negsuc, ◌+ℤ◌, nat_abs, ◌≤ℤ◌, Ok, sym, ap, ◌∙◌, arith, pow_mono}
use Rattle.std.proofs.lemmas.Int.{ints}
use Rattle.formats.specs.Meaning.{Meaning, Lawful}
use Rattle.formats.specs.Readings.{fine, Decodes}
use Rattle.formats.specs.Value.{Value, nan, infinite, finite, signed, finer}
use Rattle.formats.specs.declared.reading.Dyadic.{Dyadic}
use Rattle.formats.specs.declared.reading.Reading.TheVariants.{Finite}
use Rattle.formats.specs.ValueLaws.{abs_signed}
use Rattle.terms.specs.Readings.{units_of}
use Rattle.terms.specs.Smalls.{SmallValue}
use Rattle.terms.proofs.ProductLaws.{unit_down}

-- a value known in units of 2^-128
down_finite : (v : Value) (d : Dyadic) → negsuc 31 ≤ℤ d.exponent → fine (Finite d) ≡ finer 96 v → v ≡ finite (units_of d)
down_finite nan d deep e = cc
down_finite (infinite s) d deep e = cc
down_finite (finite z) d deep e =
    let up : nat_abs (d.exponent +ℤ pos 128) ≡ 96 + nat_abs (d.exponent +ℤ pos 32) = omega (arith, ints) in
    ap finite (unit_down z d.negative d.significand _ (sym e ∙ ap (λ k. finite (signed d.negative (d.significand * 2 ^ k))) up))

pub read_finite : (m : Meaning) (c : ℕ) (d : Dyadic) → Lawful m → Decodes m c (Ok (Finite d)) → (c < 2 ^ m.width) × (m.decode c ≡ finite (units_of d))
read_finite m c d laws (lt, e, (form, _)) =
    let deep : negsuc 31 ≤ℤ d.exponent = omega (arith, ints, laws.deep, form.least) in
    (lt, down_finite (m.decode c) d deep e)

pub read_small : (m : Meaning) (c : ℕ) (d : Dyadic) → Lawful m → Decodes m c (Ok (Finite d)) → SmallValue d
read_small m c d laws (lt, e, (form, _)) =
    let deep : negsuc 31 ≤ℤ d.exponent = omega (arith, ints, laws.deep, form.least) in
    let is = down_finite (m.decode c) d deep e in
    let size = d.significand * 2 ^ nat_abs (d.exponent +ℤ pos 32) in
    record {
      short = omega (arith, form.short, pow_mono {i = m.precision} {j = 12} laws.short);
      deep = deep;
      high = form.most;
      small = omega (arith, (laws.only_those c (units_of d) lt is).1, abs_signed d.negative size, laws.below);
    }
