-- The values that a format's codes read as, by their significand S and exponent e.
use Rattle.std.specs.Prelude.{◌*◌, ◌^◌, ◌<◌, pos, negsuc, ◌+ℤ◌, ◌≤ℤ◌, unsigned_abs}
use Rattle.formats.specs.declared.reading.Dyadic.{Dyadic}

-- S below 2^12, e from -32 to 31, and a size below 2^32
pub record SmallValue (d : Dyadic) : Type 0 where
  pub short : d.significand < 2 ^ 12
  pub deep : negsuc 31 ≤ℤ d.exponent
  pub high : d.exponent ≤ℤ pos 31
  pub small : d.significand * 2 ^ unsigned_abs (d.exponent +ℤ pos 32) < 2 ^ 64
