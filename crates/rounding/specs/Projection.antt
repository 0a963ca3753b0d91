-- The projection of an exact value, in units of 2^-96, into a format.
use Rattle.std.specs.Prelude.{ℕ, ◌+◌, ◌-◌, ◌*◌, ◌/◌, ◌%◌, ◌^◌, max, Bool, cond, not, ◌&&◌, ◌==◌, nat_le, unsigned_abs}
use Rattle.std.specs.Int.Signed.{non_neg}
use Rattle.layout.specs.Digits.{digits}
use Rattle.layout.specs.Sizes.{bottom}
use Rattle.formats.specs.Meaning.{Meaning}
use Rattle.formats.specs.Value.{Value, nan, infinite, finite, is_nan, signed, finer, less}
use Rattle.sums.specs.Cuts.{remainder_of}
use Rattle.rounding.specs.Rule.{Rule}
use Rattle.rounding.specs.declared.answers.Mark.{Mark}
use Rattle.rounding.specs.declared.answers.Mark.TheVariants.{Exact, Low, High, Unordered}
use Rattle.rounding.specs.declared.answers.Saturation.{Saturation}
use Rattle.rounding.specs.declared.answers.Saturation.TheVariants.{SatFinite, SatPropagate, OvfInf}

-- e, counted from 2^-96: the greater of q and floor(log2 |X|) - P + 1
unfoldable pub last_place : Meaning → ℕ → ℕ
last_place m n = max (bottom m.least + 64) (digits n - m.precision)

-- S and what is left below it, for a size of n
unfoldable pub significand_of : Meaning → ℕ → ℕ
significand_of m n = n / 2 ^ last_place m n

unfoldable pub left_of : Meaning → ℕ → ℕ
left_of m n = n % 2 ^ last_place m n

abbrev pub is_odd : ℕ → Bool
is_odd n = n % 2 == 1

-- whether a size of n goes to S + 1: something is left, and the rule says "away"
unfoldable pub goes_away : Meaning → Rule → Bool → ℕ → Bool
goes_away m rule negative n =
    not (left_of m n == 0)
    && rule.away negative (is_odd (significand_of m n)) (remainder_of (left_of m n) (2 ^ (last_place m n - 1)))

-- the size of Z: S × 2^e, or (S + 1) × 2^e
unfoldable pub rounded : Meaning → Rule → Bool → ℕ → ℕ
rounded m rule negative n =
    cond (goes_away m rule negative n) (significand_of m n + 1) (significand_of m n) * 2 ^ last_place m n

abbrev pub end : Meaning → Bool → Value
end m negative = finite (signed negative m.largest)

-- an infinite Z
abbrev pub of_infinity : Meaning → Saturation → Bool → Value
of_infinity m SatFinite negative = end m negative
of_infinity m SatPropagate negative = infinite negative
of_infinity m OvfInf negative = infinite negative

-- a finite Z beyond the finite end
abbrev pub of_overflow : Meaning → Rule → Saturation → Bool → Value
of_overflow m rule SatFinite negative = end m negative
of_overflow m rule SatPropagate negative = end m negative
of_overflow m rule OvfInf negative = cond (rule.overflows negative) (infinite negative) (end m negative)

-- the reading that is answered for a size of n with a sign, in units of 2^-32
unfoldable pub of_size : Meaning → Rule → Saturation → Bool → ℕ → Value
of_size m rule mode negative n =
    let z = rounded m rule negative n in
    cond (nat_le z (m.largest * 2 ^ 64)) (finite (signed negative (z / 2 ^ 64))) (of_overflow m rule mode negative)

-- the reading that is answered
abbrev pub answered : Meaning → Rule → Saturation → Value → Value
answered m rule mode nan = nan
answered m rule mode (infinite negative) = of_infinity m mode negative
answered m rule mode (finite x) = of_size m rule mode (not (non_neg x)) (unsigned_abs x)

-- how the answered reading lies to the exact value
abbrev pub mark_of : Value → Value → Mark
mark_of x v = cond (is_nan x) Unordered (cond (less (finer 64 v) x) Low (cond (less x (finer 64 v)) High Exact))

abbrev pub projected : Meaning → Rule → Saturation → Value → ℕ × Mark
projected m rule mode x = let v = answered m rule mode x in (m.encode v, mark_of x v)
