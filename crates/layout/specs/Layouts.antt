-- What the calls on a layout answer.
use Rattle.std.specs.Prelude.{◌≡◌, ℕ, ◌*◌, ◌^◌, ◌<◌, ◌≤◌, Some, None, Option, ◌≢◌}
use Rattle.layout.specs.Sizes.{bottom, size_at}
use Rattle.layout.specs.Codes.{fine_size, Stands, Placed}
use Rattle.layout.specs.declared.Size.{Size}
use Rattle.layout.specs.declared.magnitudes.Layout.{Layout}

-- the size at the code c, in units of 2^-32
abbrev pub layout_size : Layout → ℕ → ℕ
layout_size l c = size_at l.precision (bottom l.least_exponent) c

-- the code c has the size
abbrev pub HasSize : Layout → Size → ℕ → Type 0
HasSize l z c = layout_size l c * 2 ^ 96 ≡ fine_size z

-- the size at the code c, as a format writes it
abbrev pub StandsIn : Layout → ℕ → Size → Type 0
StandsIn l c z = Stands l.precision l.least_exponent c z

-- the same, where c is among the codes
abbrev pub SizeAt : Layout → ℕ → Option Size → Type 0
SizeAt l c (Some z) = (c < l.count) × StandsIn l c z
SizeAt l c None = l.count ≤ c

-- the code that has the size, or none has it
abbrev pub CodeFound : Layout → Size → Option ℕ → Type 0
CodeFound l z (Some c) = (c < l.count) × HasSize l z c
CodeFound l z None = (c : ℕ) → c < l.count → layout_size l c * 2 ^ 96 ≢ fine_size z

-- the one code that has the size, were there codes without end, or none has it
abbrev pub OneCode : Layout → Size → Option ℕ → Type 0
OneCode l z (Some c) = HasSize l z c × ((k : ℕ) → HasSize l z k → k ≡ c)
OneCode l z None = (k : ℕ) → layout_size l k * 2 ^ 96 ≢ fine_size z

-- the place of the last digit of the size
abbrev pub PlacedIn : Layout → Size → ℕ → Type 0
PlacedIn l z place = Placed l.precision (bottom l.least_exponent) (fine_size z) place
