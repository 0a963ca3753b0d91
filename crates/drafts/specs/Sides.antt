-- A printed number and a finite value as two whole numbers in the same proportion.
use Rattle.std.specs.Prelude.{◌≡◌, ℕ, suc, ◌+◌, ◌-◌, ◌*◌, ◌^◌, ◌≤◌, ℤ, pos, negsuc, ◌-ℤ◌}
use Rattle.formats.specs.declared.reading.Dyadic.{Dyadic}
use Rattle.drafts.specs.declared.printed.Number.{Number}

-- an integer's part above zero and its part below
abbrev pub up : ℤ → ℕ
up (pos n) = n
up (negsuc n) = 0

abbrev pub down : ℤ → ℕ
down (pos n) = 0
down (negsuc n) = suc n

-- numerator / denominator × 10^tens × 2^twos beside S × 2^e
abbrev pub left_side : Number → Dyadic → ℕ
left_side n d = n.numerator * 10 ^ up n.tens * 2 ^ up (n.twos -ℤ d.exponent)

abbrev pub right_side : Number → Dyadic → ℕ
right_side n d = d.significand * n.denominator * 10 ^ down n.tens * 2 ^ down (n.twos -ℤ d.exponent)

-- the number is the value
pub record Equals (n : Number) (d : Dyadic) : Type 0 where
  pub sign : n.negative ≡ d.negative
  pub size : left_side n d ≡ right_side n d

-- the number is off by at most one part of the value in so many
pub record Near (n : Number) (d : Dyadic) (parts : ℕ) : Type 0 where
  pub sign : n.negative ≡ d.negative
  pub size : ((left_side n d - right_side n d) + (right_side n d - left_side n d)) * parts ≤ right_side n d
