-- Terms, in units of 2^-96, and their exact sum.
use Rattle.std.specs.Prelude.{ℕ, ◌^◌, Bool, true, false, cond, not, ◌&&◌, ◌||◌, List, [], ◌∷◌, ℤ, pos, ◌+ℤ◌, ◌*ℤ◌, ◌==◌, unsigned_abs}
use Rattle.std.specs.Int.Signed.{non_neg}
use Rattle.formats.specs.Value.{Value, nan, infinite, finite, is_nan, finer}
use Rattle.sums.specs.Exact.{same}

-- a lone reading, given in units of 2^-32
abbrev pub single : Value → Value
single x = finer 64 x

-- an infinity times a finite value: NaN at zero, else the infinity of the product's sign
abbrev pub times_infinity : Bool → ℤ → Value
times_infinity negative z = cond (unsigned_abs z == 0) nan (infinite (not (same negative (not (non_neg z)))))

-- X × Y × 2^s of two readings in units of 2^-32, where `up` is s + 32
abbrev pub product : ℕ → Value → Value → Value
product up nan y = nan
product up (infinite s) nan = nan
product up (infinite s) (infinite t) = infinite (not (same s t))
product up (infinite s) (finite y) = times_infinity s y
product up (finite x) nan = nan
product up (finite x) (infinite t) = times_infinity t x
product up (finite x) (finite y) = finite (x *ℤ y *ℤ pos (2 ^ up))

abbrev pub any : (Value → Bool) → List Value → Bool
any p [] = false
any p (t ∷ ts) = p t || any p ts

abbrev pub is_infinite : Bool → Value → Bool
is_infinite negative nan = false
is_infinite negative (infinite s) = same negative s
is_infinite negative (finite z) = false

-- the finite part of a term
abbrev pub part : Value → ℤ
part nan = pos 0
part (infinite s) = pos 0
part (finite z) = z

abbrev pub total : List Value → ℤ
total [] = pos 0
total (t ∷ ts) = part t +ℤ total ts

-- NaN if one is NaN or both infinities occur, else the infinity that occurs, else the sum of the values
unfoldable pub exact_sum : List Value → Value
exact_sum ts =
    cond (any is_nan ts || (any (is_infinite false) ts && any (is_infinite true) ts)) nan
    (cond (any (is_infinite false) ts) (infinite false)
    (cond (any (is_infinite true) ts) (infinite true) (finite (total ts))))
