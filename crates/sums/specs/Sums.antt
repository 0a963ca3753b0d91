-- The value that a sum stands for, in units of 2^-96. The order of the words (the lowest first) and the place of the sign
-- (two's complement) are this program's own choice; what counts is the value.
use Rattle.std.specs.Prelude.{ℕ, Bool, true, false, not, unsigned_abs}
use Rattle.std.specs.Int.Signed.{non_neg}
use Rattle.formats.specs.Value.{Value, nan, infinite, finite}
use Rattle.sums.specs.Words.{twos_complement}
use Rattle.sums.specs.declared.sum.Sum.{Sum}
use Rattle.sums.specs.declared.sum.Sum.TheVariants.{NotANumber, PositiveInfinity, NegativeInfinity, Finite}

abbrev pub value : Sum → Value
value NotANumber = nan
value PositiveInfinity = infinite false
value NegativeInfinity = infinite true
value (Finite w) = finite (twos_complement w.words)

-- the size of a finite value; 0 where it is not finite
abbrev pub size_of : Value → ℕ
size_of nan = 0
size_of (infinite negative) = 0
size_of (finite z) = unsigned_abs z

-- whether a value is finite and below zero
abbrev pub below_zero : Value → Bool
below_zero nan = false
below_zero (infinite negative) = false
below_zero (finite z) = not (non_neg z)

abbrev pub size : Sum → ℕ
size s = size_of (value s)

abbrev pub is_below_zero : Sum → Bool
is_below_zero s = below_zero (value s)
