-- The sizes that a format of precision P and least exponent q can have, and how they are laid out over the codes from 0 up.
-- A size is a whole number of units of 2^-32, and b is q counted from there.
use Rattle.std.specs.Prelude.{◌≡◌, ℕ, zero, suc, ◌+◌, ◌-◌, ◌*◌, ◌/◌, ◌%◌, ◌^◌, ◌<◌, ◌≤◌, max, ℤ, pos, ◌+ℤ◌, unsigned_abs}
use Rattle.layout.specs.Digits.{digits}

-- the least exponent q, counted from 2^-32
abbrev pub bottom : ℤ → ℕ
bottom q = unsigned_abs (q +ℤ pos 32)

-- n is S × 2^k with S below 2^P and k at least b
abbrev pub Shaped : ℕ → ℕ → ℕ → Type 0
Shaped p b n = (s : ℕ) × (k : ℕ) × (n ≡ s * 2 ^ k) × (s < 2 ^ p) × (b ≤ k)

-- the size of a fraction field T and an exponent field E: T × 2^b where E = 0, else (2^(P-1) + T) × 2^(b + E - 1)
abbrev pub of_fields : ℕ → ℕ → ℕ → ℕ → ℕ
of_fields p b t zero = t * 2 ^ b
of_fields p b t (suc e) = (2 ^ (p - 1) + t) * 2 ^ (b + e)

-- the size at the code c = T + 2^(P-1) × E
unfoldable pub size_at : ℕ → ℕ → ℕ → ℕ
size_at p b c = of_fields p b (c % 2 ^ (p - 1)) (c / 2 ^ (p - 1))

-- the code of a size n = S × 2^e, where e is the greater of b and floor(log2 n) - P + 1: S + (e - b) × 2^(P-1)
unfoldable pub code_of : ℕ → ℕ → ℕ → ℕ
code_of p b n = let e = max b (digits n - p) in n / 2 ^ e + (e - b) * 2 ^ (p - 1)
