-- Readings and terms as the code holds them, by their values.
use Rattle.std.specs.Prelude.{◌≡◌, ℕ, ◌*◌, ◌^◌, ◌<◌, ◌≤◌, Bool, true, false, ◌&&◌, ℤ, pos, ◌+ℤ◌, Some, None, Ok, Err, Option, Result, unsigned_abs}
use Rattle.formats.specs.Meaning.{Meaning}
use Rattle.formats.specs.Refusals.{Refuses}
use Rattle.formats.specs.Value.{Value, nan, infinite, finite, signed}
use Rattle.formats.specs.declared.fault.Fault.{Fault}
use Rattle.formats.specs.declared.reading.Dyadic.{Dyadic}
use Rattle.terms.specs.declared.factor.Factor.{Factor}
use Rattle.terms.specs.declared.factor.Factor.TheVariants.{Nan, Infinite, Finite}
use Rattle.terms.specs.declared.term.Term.{Term}
use Rattle.terms.specs.declared.term.Term.TheVariants

-- a finite reading's value in units of 2^-32, where its exponent is at least -32
abbrev pub units_of : Dyadic → ℤ
units_of d = signed d.negative (d.significand * 2 ^ unsigned_abs (d.exponent +ℤ pos 32))

abbrev pub factor_value : Factor → Value
factor_value Nan = nan
factor_value (Infinite negative) = infinite negative
factor_value (Finite s) = finite (units_of s.value)

-- a code's reading, or refusal 2 at a code of 2^K or more
abbrev pub Reads : Meaning → ℕ → Result Factor Fault → Type 0
Reads m c (Ok r) = (c < 2 ^ m.width) × (m.decode c ≡ factor_value r)
Reads m c (Err f) = (2 ^ m.width ≤ c) × Refuses 2 0 f

-- the value of a term, in units of 2^-96
abbrev pub term_value : Term → Value
term_value TheVariants.Nan = nan
term_value (TheVariants.Infinite negative) = infinite negative
term_value (TheVariants.Finite t) = finite (signed t.negative (t.digits * 2 ^ t.place))

abbrev pub is_finite : Factor → Bool
is_finite Nan = false
is_finite (Infinite negative) = false
is_finite (Finite s) = true

abbrev pub both_finite : Factor → Factor → Bool
both_finite x y = is_finite x && is_finite y

-- the sign of a factor; NaN and zero have none
abbrev pub Signed : Factor → Option Bool → Type 0
Signed Nan r = r ≡ None
Signed (Infinite negative) r = r ≡ Some negative
Signed (Finite s) r = (s.value.significand ≡ 0 → r ≡ None) × (0 < s.value.significand → r ≡ Some s.value.negative)
