-- Sizes as a format writes them, and their places.
use Rattle.std.specs.Prelude.{◌≡◌, ℕ, ◌+◌, ◌-◌, ◌*◌, ◌^◌, ◌<◌, ◌≤◌, ◌⊎◌, ℤ, pos, negsuc, ◌+ℤ◌, ◌≤ℤ◌, Some, None, Option, ◌≢◌, unsigned_abs}
use Rattle.layout.specs.Sizes.{bottom, size_at}
use Rattle.layout.specs.declared.Size.{Size}

-- a size in units of 2^-128, the finest that an exponent of a signed byte reaches
abbrev pub fine_size : Size → ℕ
fine_size z = z.significand * 2 ^ unsigned_abs (z.exponent +ℤ pos 128)

-- S and e as a format of precision P and least exponent q writes them: S below 2^P, e from q to 31, and S at least 2^(P-1) unless e is q
pub record Normalized (p : ℕ) (q : ℤ) (significand : ℕ) (exponent : ℤ) : Type 0 where
  pub short : significand < 2 ^ p
  pub least : q ≤ℤ exponent
  pub most : exponent ≤ℤ pos 31
  pub full : (2 ^ (p - 1) ≤ significand) ⊎ (exponent ≡ q)

-- the size at the code c
abbrev pub Stands : ℕ → ℤ → ℕ → Size → Type 0
Stands p q c z = (fine_size z ≡ size_at p (bottom q) c * 2 ^ 96) × Normalized p q z.significand z.exponent

-- a size that is a number of 64 bits in units of 2^-32
pub record InUnits (z : Size) : Type 0 where
  pub deep : negsuc 31 ≤ℤ z.exponent
  pub most : z.exponent ≤ℤ pos 31
  pub below : fine_size z < 2 ^ 160

-- the place of the last digit for a size of n units of 2^-128, counted from there: the size has at most P digits from there up,
-- and has P of them unless the place is the least exponent
pub record Placed (p b n place : ℕ) : Type 0 where
  pub short : n < 2 ^ (p + place)
  pub least : b + 96 ≤ place
  pub full : (place ≡ b + 96) ⊎ (2 ^ (place + (p - 1)) ≤ n)

-- s × 2^from as a whole number of 2^to
abbrev pub WholeShift : ℕ → ℕ → ℕ → Option ℕ → Type 0
WholeShift s from to (Some t) = t * 2 ^ to ≡ s * 2 ^ from
WholeShift s from to None = (t : ℕ) → t * 2 ^ to ≢ s * 2 ^ from
