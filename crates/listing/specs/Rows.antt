-- The row of a format's table.
use Rattle.std.specs.Prelude.{◌≡◌, ℕ, ◌+◌, ◌*◌, ◌/◌, ◌^◌, ◌<◌, ◌≤◌, true, false, not, List, ◌++◌, pos, negsuc, ◌≤ℤ◌, codes, decimal, unsigned_abs}
use Rattle.std.specs.Int.Signed.{non_neg}
use Rattle.std.specs.Fmt.{signed_decimal}
use Rattle.formats.specs.Meaning.{Meaning}
use Rattle.formats.specs.Readings.{fine, Canonical}
use Rattle.formats.specs.Refusals.{Refuses}
use Rattle.formats.specs.Value.{Value, nan, infinite, finite, finer}
use Rattle.formats.specs.declared.reading.Reading.{Reading}
use Rattle.formats.specs.declared.reading.Reading.TheVariants.{Nan, PositiveInfinity, NegativeInfinity, Finite}
use Rattle.formats.specs.Signs.{size_of}
use Rattle.listing.specs.declared.rows.Unlisted.{Unlisted}
use Rattle.listing.specs.declared.rows.Unlisted.TheVariants.{Refused, NoMemory}
use Rattle.listing.specs.Numerals.{Numeral, Decimal, Grouped}

-- S and e in decimal, or a dash for each
abbrev pub parts_of : Reading → List ℕ
parts_of Nan = codes "- -"
parts_of PositiveInfinity = codes "- -"
parts_of NegativeInfinity = codes "- -"
parts_of (Finite d) = decimal d.significand ++ (codes " " ++ signed_decimal d.exponent)

-- a value in units of 2^-32 as text
abbrev pub Spelled : Value → List ℕ → Type 0
Spelled nan text = text ≡ codes "NaN"
Spelled (infinite false) text = text ≡ codes "+Inf"
Spelled (infinite true) text = text ≡ codes "-Inf"
Spelled (finite z) text = Decimal (not (non_neg z)) (unsigned_abs z) text

-- the line of code c: the code in hexadecimal, its bits, S and e, and the exact value
pub record Line (m : Meaning) (c : ℕ) (text : List ℕ) : Type 0 where
  pub hex : List ℕ
  pub bits : List ℕ
  pub reading : Reading
  pub value : List ℕ
  pub hex_is : Numeral 16 ((m.width + 3) / 4) c hex
  pub bits_are : Grouped m.width m.precision c bits
  pub reading_is : fine reading ≡ finer 96 (m.decode c)
  pub canonical : Canonical m reading
  pub value_is : Spelled (m.decode c) value
  pub spelled : text ≡ codes "0x" ++ (hex ++ (codes " " ++ (bits ++ (codes " " ++ (parts_of reading ++ (codes " " ++ value))))))

-- why code c has no line: refusal 2 at a code of 2^K or more, or memory is wanting
abbrev pub Lacks : Meaning → ℕ → Unlisted → Type 0
Lacks m c (Refused f) = (2 ^ m.width ≤ c) × Refuses 2 0 f
Lacks m c NoMemory = Unit {0}

-- a finite reading that is a whole number of 2^-32, below 2^32
abbrev pub Printable : Reading → Type 0
Printable Nan = Unit {0}
Printable PositiveInfinity = Unit {0}
Printable NegativeInfinity = Unit {0}
Printable (Finite d) = (negsuc 31 ≤ℤ d.exponent) × (d.exponent ≤ℤ pos 31) × (size_of d < 2 ^ 160)

-- its text
abbrev pub Valued : Reading → List ℕ → Type 0
Valued Nan text = text ≡ codes "NaN"
Valued PositiveInfinity text = text ≡ codes "+Inf"
Valued NegativeInfinity text = text ≡ codes "-Inf"
Valued (Finite d) text = (n : ℕ) × (n * 2 ^ 96 ≡ size_of d) × Decimal d.negative n text
