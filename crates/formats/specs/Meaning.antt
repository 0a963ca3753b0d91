-- What a number format means, and what every format shows of its meaning.
use Rattle.std.specs.Prelude.{◌≡◌, ℕ, ◌^◌, ◌<◌, ◌≤◌, Bool, ℤ, negsuc, ◌≤ℤ◌, unsigned_abs}
use Rattle.layout.specs.Sizes.{bottom, Shaped}
use Rattle.formats.specs.Value.{Value, nan, infinite, finite}

pub record Meaning : Type 0 where
  -- K, P, q, and M in units of 2^-32
  pub width : ℕ
  pub precision : ℕ
  pub least : ℤ
  pub largest : ℕ
  -- the reading of each code below 2^K, in units of 2^-32, and the code answered for each reading
  pub decode : ℕ → Value
  pub encode : Value → ℕ

-- a size of n units of 2^-32 is S × 2^e with S below 2^P and e at least q, and at most M
abbrev pub Representable : Meaning → ℕ → Type 0
Representable m n = Shaped m.precision (bottom m.least) n × (n ≤ m.largest)

-- the value is read from the code that is answered for it
abbrev pub Coded : Meaning → Value → Type 0
Coded m v = (m.encode v < 2 ^ m.width) × (m.decode (m.encode v) ≡ v)

pub record Lawful (m : Meaning) : Type 0 where
  pub narrow : m.width ≤ 16
  pub precise : 2 ≤ m.precision
  pub short : m.precision ≤ 12
  pub deep : negsuc 31 ≤ℤ m.least
  pub one : 2 ^ 32 ≤ m.largest
  pub below : m.largest < 2 ^ 64
  pub largest_read : Representable m m.largest
  pub nan_read : Coded m nan
  pub infinite_read : (negative : Bool) → Coded m (infinite negative)
  -- the finite readings are exactly the representable values
  pub finite_read : (z : ℤ) → Representable m (unsigned_abs z) → Coded m (finite z)
  pub only_those : (c : ℕ) (z : ℤ) → c < 2 ^ m.width → m.decode c ≡ finite z → Representable m (unsigned_abs z)
