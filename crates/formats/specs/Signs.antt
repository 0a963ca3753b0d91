-- Codes of a sign bit over a magnitude.
use Rattle.std.specs.Prelude.{◌≡◌, ℕ, ◌+◌, ◌-◌, ◌*◌, ◌/◌, ◌^◌, ◌<◌, ◌≤◌, Bool, cond, not, ◌&&◌, ℤ, pos, negsuc, ◌+ℤ◌, neg_ℤ, ◌≤ℤ◌, Some, None, Option, Ok, Err, Result, ◌==◌, ◌≢◌, unsigned_abs}
use Rattle.std.specs.Int.Signed.{non_neg}
use Rattle.layout.specs.Layouts.{layout_size}
use Rattle.layout.specs.Sizes.{bottom, size_at, code_of}
use Rattle.layout.specs.declared.Size.{Size}
use Rattle.layout.specs.declared.magnitudes.Layout.{Layout}
use Rattle.formats.specs.Meaning.{Meaning, Coded}
use Rattle.formats.specs.Refusals.{Refuses}
use Rattle.formats.specs.Value.{nan, infinite, finite}
use Rattle.formats.specs.declared.fault.Fault.{Fault}
use Rattle.formats.specs.declared.reading.Dyadic.{Dyadic}

-- the code of z units of 2^-32: that of its size, and the sign bit where z is below zero
abbrev pub signed_code : ℕ → ℕ → ℕ → ℤ → ℕ
signed_code sign p b z = code_of p b (unsigned_abs z) + cond (non_neg z) 0 sign

-- a size with a sign, and none at zero
abbrev pub Joined : Bool → Size → Dyadic → Type 0
Joined negative z d =
    (d.significand ≡ z.significand) × (d.exponent ≡ z.exponent) × (d.negative ≡ (negative && not (z.significand == 0)))

-- the size of a finite value in units of 2^-128
abbrev pub size_of : Dyadic → ℕ
size_of d = d.significand * 2 ^ unsigned_abs (d.exponent +ℤ pos 128)

-- the code of a value over the first n magnitudes, or refusal 3 where no magnitude has its size
abbrev pub SignCoded : ℕ → ℕ → ℕ → ℕ → Dyadic → Result ℕ Fault → Type 0
SignCoded sign p b n d (Ok c) =
    (k : ℕ) × (k < n) × (size_at p b k * 2 ^ 96 ≡ size_of d) × (c ≡ k + cond (d.negative && not (k == 0)) sign 0)
SignCoded sign p b n d (Err f) = Refuses 3 0 f × ((k : ℕ) → k < n → size_at p b k * 2 ^ 96 ≢ size_of d)

-- the code of a value over the magnitudes of a layout, or none where no magnitude has its size
abbrev pub LayoutCoded : ℕ → Layout → Dyadic → Option ℕ → Type 0
LayoutCoded sign l d (Some c) =
    (k : ℕ) × (k < l.count) × (layout_size l k * 2 ^ 96 ≡ size_of d) × (c ≡ k + cond (d.negative && not (k == 0)) sign 0)
LayoutCoded sign l d None = (k : ℕ) → k < l.count → layout_size l k * 2 ^ 96 ≢ size_of d

-- the size at a magnitude code of the format
abbrev pub size_in : Meaning → ℕ → ℕ
size_in m k = size_at m.precision (bottom m.least) k

-- n magnitudes from code 0 up, and the same with the sign bit, but for zero
pub record IsSignMagnitude (m : Meaning) (sign n : ℕ) : Type 0 where
  pub precise : 2 ≤ m.precision
  pub short : m.precision ≤ 12
  pub deep : negsuc 31 ≤ℤ m.least
  pub some : 0 < n
  pub room : n ≤ sign
  pub double : 2 ^ m.width ≡ 2 * sign
  pub top : bottom m.least + m.precision + (n - 1) / 2 ^ (m.precision - 1) ≤ 65
  pub one : 2 ^ 32 ≤ m.largest
  pub largest_is : m.largest ≡ size_in m (n - 1)
  pub positive : (k : ℕ) → k < n → m.decode k ≡ finite (pos (size_in m k))
  pub negative : (k : ℕ) → 0 < k → k < n → m.decode (sign + k) ≡ finite (neg_ℤ (pos (size_in m k)))
  pub answer : (z : ℤ) → m.encode (finite z) ≡ signed_code sign m.precision (bottom m.least) z
  pub only : (c : ℕ) (z : ℤ) → c < 2 ^ m.width → m.decode c ≡ finite z → (k : ℕ) × (k < n) × (unsigned_abs z ≡ size_in m k)

-- infinity's codes after the n magnitudes, and NaN at one code and at all past infinity's
pub record HasSpecials (m : Meaning) (sign n none : ℕ) : Type 0 where
  pub nan_code : m.encode nan ≡ none
  pub nan_read : Coded m nan
  pub infinite_code : (negative : Bool) → m.encode (infinite negative) ≡ n + cond negative sign 0
  pub infinite_read : (negative : Bool) → Coded m (infinite negative)
  pub past : (negative : Bool) (k : ℕ) → n < k → k < sign → m.decode (k + cond negative sign 0) ≡ nan
  -- the sign bit alone is zero where it is not NaN
  pub zero : sign ≢ none → m.decode sign ≡ finite (pos 0)
