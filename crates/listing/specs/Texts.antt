-- The texts of numbers, digit by digit.
use Rattle.std.specs.Prelude.{ℕ, zero, suc, ◌-◌, ◌*◌, ◌/◌, ◌%◌, ◌^◌, Bool, false, cond, List, [], ◌∷◌, ◌++◌, max, pos, ◌+ℤ◌, codes, decimal, unsigned_abs}
use Rattle.std.specs.Fmt.{digit_glyph}
use Rattle.std.specs.Int.{trailing_zeros, w32}
use Rattle.formats.specs.declared.reading.Reading.{Reading}
use Rattle.formats.specs.declared.reading.Reading.TheVariants.{Nan, PositiveInfinity, NegativeInfinity, Finite}

-- the last digits of n, so many
unfoldable pub numeral_text : ℕ → ℕ → ℕ → List ℕ
numeral_text base zero n = []
numeral_text base (suc count) n = numeral_text base count (n / base) ++ (digit_glyph false (n % base) ∷ [])

-- the bits of a code of width k, parted after the sign and before the last p - 1
abbrev pub bits_text : ℕ → ℕ → ℕ → List ℕ
bits_text k p c =
    numeral_text 2 1 (2 * c / 2 ^ k) ++ (codes "_" ++ (numeral_text 2 (k - p) (c / 2 ^ (p - 1) % 2 ^ (k - p)) ++ (codes "_" ++ numeral_text 2 (p - 1) (c % 2 ^ (p - 1)))))

-- how many decimal digits f / 2^32 has after the point, and the digits as a whole number: n / 2^p is n × 5^p / 10^p
abbrev pub places_after : ℕ → ℕ
places_after f = 32 - trailing_zeros w32 f

abbrev pub number_after : ℕ → ℕ
number_after f = f / 2 ^ trailing_zeros w32 f * 5 ^ places_after f

-- n units of 2^-32
unfoldable pub units_text : Bool → ℕ → List ℕ
units_text negative n = cond negative (codes "-") [] ++ (decimal (n / 2 ^ 32) ++ (codes "." ++ numeral_text 10 (max (places_after (n % 2 ^ 32)) 1) (number_after (n % 2 ^ 32))))

-- where a finite reading's exponent stands above that of its units, and the units
abbrev pub places_of : Reading → ℕ
places_of Nan = 0
places_of PositiveInfinity = 0
places_of NegativeInfinity = 0
places_of (Finite d) = unsigned_abs (d.exponent +ℤ pos 32)

abbrev pub units_of : Reading → ℕ
units_of Nan = 0
units_of PositiveInfinity = 0
units_of NegativeInfinity = 0
units_of (Finite d) = d.significand * 2 ^ unsigned_abs (d.exponent +ℤ pos 32)

-- the value of a reading
abbrev pub value_text : Reading → List ℕ
value_text Nan = codes "NaN"
value_text PositiveInfinity = codes "+Inf"
value_text NegativeInfinity = codes "-Inf"
value_text (Finite d) = units_text d.negative (units_of (Finite d))
