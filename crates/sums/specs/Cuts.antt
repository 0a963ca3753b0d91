-- A whole number cut at a bit.
use Rattle.std.specs.Prelude.{◌≡◌, ℕ, ◌-◌, ◌/◌, ◌%◌, ◌^◌, cond, ◌==◌, nat_lt, Some, None, Option}
use Rattle.sums.specs.declared.magnitude.Cut.{Cut}
use Rattle.sums.specs.declared.magnitude.Remainder.{Remainder}
use Rattle.sums.specs.declared.magnitude.Remainder.TheVariants.{BelowHalf, Half, AboveHalf}

-- how what is left lies to the half
abbrev pub remainder_of : ℕ → ℕ → Remainder
remainder_of left half = cond (nat_lt left half) BelowHalf (cond (left == half) Half AboveHalf)

-- what is left of n below bit e, if anything is
abbrev pub left_below : ℕ → ℕ → Option Remainder
left_below n e = cond (n % 2 ^ e == 0) None (Some (remainder_of (n % 2 ^ e) (2 ^ (e - 1))))

-- n cut at bit e: how often 2^e goes into it, and what is left
pub record CutAt (n e : ℕ) (c : Cut) : Type 0 where
  pub digits : c.digits ≡ n / 2 ^ e
  pub remainder : c.remainder ≡ left_below n e
