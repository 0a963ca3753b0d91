-- The signed P3109 formats with infinities, by width K and precision P (IEEE P3109 interim report 3.0.2).
use Rattle.std.specs.Prelude.{ℕ, ◌+◌, ◌-◌, ◌^◌, ◌<◌, ◌≤◌, false, cond, ℤ, pos, ◌-ℤ◌, ◌==◌, nat_lt}
use Rattle.layout.specs.Sizes.{bottom, size_at}
use Rattle.formats.specs.Value.{Value, nan, infinite, finite, negated}
use Rattle.formats.specs.Meaning.{Meaning}
use Rattle.formats.specs.Signs.{signed_code}

-- the widths and precisions that there are: K from 3 to 8, P from 2 to K - 1
abbrev pub Exists : ℕ → ℕ → Type 0
Exists k p = (3 ≤ k) × (k ≤ 8) × (2 ≤ p) × (p < k)

-- B
abbrev pub bias : ℕ → ℕ → ℕ
bias k p = 2 ^ (k - p - 1)

-- q = 2 - B - P
abbrev pub least : ℕ → ℕ → ℤ
least k p = pos 2 -ℤ pos (bias k p + p)

-- a code below 2^(K-1): the last is +Inf. At c = T + 2^(P-1) × E the size is T × 2^(2-B-P) where E = 0, else (2^(P-1) + T) × 2^(E-B-P+1)
abbrev pub magnitude : ℕ → ℕ → ℕ → Value
magnitude k p c =
    cond (c == 2 ^ (k - 1) - 1) (infinite false) (finite (pos (size_at p (bottom (least k p)) c)))

-- 2^(K-1) is NaN; a code above it is the negative of what the code less 2^(K-1) is
abbrev pub decode : ℕ → ℕ → ℕ → Value
decode k p c =
    cond (nat_lt c (2 ^ (k - 1))) (magnitude k p c)
    (cond (c == 2 ^ (k - 1)) nan (negated (magnitude k p (c - 2 ^ (k - 1)))))

abbrev pub encode : ℕ → ℕ → Value → ℕ
encode k p nan = 2 ^ (k - 1)
encode k p (infinite negative) = 2 ^ (k - 1) - 1 + cond negative (2 ^ (k - 1)) 0
encode k p (finite z) = signed_code (2 ^ (k - 1)) p (bottom (least k p)) z

abbrev pub p3109 : ℕ → ℕ → Meaning
p3109 k p = record {
  width = k;
  precision = p;
  least = least k p;
  largest = size_at p (bottom (least k p)) (2 ^ (k - 1) - 2);
  decode = decode k p;
  encode = encode k p;
}
