-- IEEE 754 binary16.
use Rattle.std.specs.Prelude.{ℕ, ◌+◌, ◌-◌, ◌*◌, ◌^◌, false, cond, pos, negsuc, ◌==◌, nat_lt}
use Rattle.layout.specs.Sizes.{size_at}
use Rattle.formats.specs.Value.{Value, nan, infinite, finite, negated}
use Rattle.formats.specs.Meaning.{Meaning}
use Rattle.formats.specs.Signs.{signed_code}

-- a code below 0x8000: finite below 0x7C00, where the exponent field is not full; then +Inf, and NaN where there is a fraction
abbrev pub magnitude : ℕ → Value
magnitude c = cond (nat_lt c 0x7C00) (finite (pos (size_at 11 8 c))) (cond (c == 0x7C00) (infinite false) nan)

-- 0x8000 and up: the negative, so that 0x8000 is zero
abbrev pub decode : ℕ → Value
decode c = cond (nat_lt c 0x8000) (magnitude c) (negated (magnitude (c - 0x8000)))

abbrev pub encode : Value → ℕ
encode nan = 0x7E00
encode (infinite negative) = 0x7C00 + cond negative 0x8000 0
encode (finite z) = signed_code 0x8000 11 8 z

-- K = 16, P = 11, q = -24, M = 65504
abbrev pub binary16 : Meaning
binary16 = record {
  width = 16;
  precision = 11;
  least = negsuc 23;
  largest = 65504 * 2 ^ 32;
  decode = decode;
  encode = encode;
}
