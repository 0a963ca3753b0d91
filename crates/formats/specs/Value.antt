-- An exact value: not a number, an infinity, or a whole number of a unit that the context fixes
-- (2^-32 for a reading of a format, 2^-96 for a sum). Zero has no sign.
use Rattle.std.specs.Prelude.{ℕ, ◌^◌, Bool, true, false, not, ◌&&◌, ℤ, pos, ◌*ℤ◌, neg_ℤ, int_lt}

pub data Value : Type 0 where
  nan : Value
  -- true for the negative one
  infinite : Bool → Value
  finite : ℤ → Value

abbrev pub is_nan : Value → Bool
is_nan nan = true
is_nan (infinite negative) = false
is_nan (finite z) = false

abbrev pub signed : Bool → ℕ → ℤ
signed true n = neg_ℤ (pos n)
signed false n = pos n

abbrev pub negated : Value → Value
negated nan = nan
negated (infinite negative) = infinite (not negative)
negated (finite z) = finite (neg_ℤ z)

-- the same value in a unit 2^k times finer
abbrev pub finer : ℕ → Value → Value
finer k nan = nan
finer k (infinite negative) = infinite negative
finer k (finite z) = finite (z *ℤ pos (2 ^ k))

-- -Inf is the least and +Inf the greatest; a NaN is neither less nor greater
abbrev pub less : Value → Value → Bool
less nan y = false
less (infinite s) nan = false
less (infinite s) (infinite t) = s && not t
less (infinite s) (finite y) = s
less (finite x) nan = false
less (finite x) (infinite t) = not t
less (finite x) (finite y) = int_lt x y
