-- Numbers as text.
use Rattle.std.specs.Prelude.{◌≡◌, ℕ, ◌-◌, ◌*◌, ◌/◌, ◌%◌, ◌^◌, ◌<◌, Bool, false, cond, List, [], ◌++◌, map, length, codes, decimal, slice_index_or}
use Rattle.std.specs.Fmt.{digit_glyph}
use Rattle.std.specs.Int.Digits.{number_from_digits, AllBelowBase}

-- n in the base, in just that many digits, lowercase
pub record Numeral (base count n : ℕ) (text : List ℕ) : Type 0 where
  pub digits : List ℕ
  pub spelled : text ≡ map (digit_glyph false) digits
  pub long : length digits ≡ count
  pub under : AllBelowBase base digits
  pub value : number_from_digits base digits ≡ n

-- the decimal digits of f / 2^32 after the point: they are just that fraction, at least one, and no zero at the end but a lone one
pub record Fraction (f : ℕ) (text : List ℕ) : Type 0 where
  pub digits : List ℕ
  pub spelled : text ≡ map (digit_glyph false) digits
  pub under : AllBelowBase 10 digits
  pub some : 0 < length digits
  pub value : number_from_digits 10 digits * 2 ^ 32 ≡ f * 10 ^ length digits
  pub short : slice_index_or digits (length digits - 1) 0 ≡ 0 → length digits ≡ 1

-- n units of 2^-32 in decimal
pub record Decimal (negative : Bool) (n : ℕ) (text : List ℕ) : Type 0 where
  pub after : List ℕ
  pub fraction : Fraction (n % 2 ^ 32) after
  pub spelled : text ≡ cond negative (codes "-") [] ++ (decimal (n / 2 ^ 32) ++ (codes "." ++ after))

-- the bits of a code of width k, parted after the sign and before the last p - 1
pub record Grouped (k p c : ℕ) (text : List ℕ) : Type 0 where
  pub sign : List ℕ
  pub exponent : List ℕ
  pub fraction : List ℕ
  pub sign_is : Numeral 2 1 (2 * c / 2 ^ k) sign
  pub exponent_is : Numeral 2 (k - p) (c / 2 ^ (p - 1) % 2 ^ (k - p)) exponent
  pub fraction_is : Numeral 2 (p - 1) (c % 2 ^ (p - 1)) fraction
  pub spelled : text ≡ sign ++ (codes "_" ++ (exponent ++ (codes "_" ++ fraction)))
