-- What a rounding rule means: its two tables of answers, with the law that it shows.
use Rattle.std.specs.Prelude.{◌≡◌, Bool, true, false}
use Rattle.sums.specs.declared.magnitude.Remainder.{Remainder}
use Rattle.sums.specs.declared.magnitude.Remainder.TheVariants.{BelowHalf, Half, AboveHalf}

pub record Rule : Type 0 where
  -- by the sign (true: negative), whether the last place is odd, and what is left below it
  pub away : Bool → Bool → Remainder → Bool
  -- by the sign: to infinity (true) or to the finite end
  pub overflows : Bool → Bool

-- for one sign and parity, a larger remainder never turns "away" into "toward"
abbrev pub Monotone : Rule → Type 0
Monotone r = (negative odd : Bool) →
    (r.away negative odd BelowHalf ≡ true → r.away negative odd Half ≡ true)
    × (r.away negative odd Half ≡ true → r.away negative odd AboveHalf ≡ true)

-- "toward" below the half and "away" above it
abbrev pub NearestAt : Rule → Bool → Bool → Type 0
NearestAt r negative odd = (r.away negative odd BelowHalf ≡ false) × (r.away negative odd AboveHalf ≡ true)

-- "toward" below the half and "away" above it, for either sign and parity
abbrev pub Nearest : Rule → Type 0
Nearest rule = (negative odd : Bool) → NearestAt rule negative odd
