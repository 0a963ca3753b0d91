-- Binary digits.
use Rattle.std.specs.Prelude.{ℕ, zero, suc, ◌/◌}

-- how many binary digits n has, floor(log2 n) + 1, and 0 at 0; the first argument is how many may be looked at, and n is enough
abbrev pub digits_in : ℕ → ℕ → ℕ
digits_in zero n = 0
digits_in (suc k) zero = 0
digits_in (suc k) (suc n) = suc (digits_in k (suc n / 2))

unfoldable pub digits : ℕ → ℕ
digits n = digits_in n n
