-- Sums of terms below 2^24 × 2^127.
use Rattle.std.specs.Prelude.{ℕ, ◌*◌, ◌^◌, ◌≤◌}
use Rattle.sums.specs.Sums.{size}
use Rattle.sums.specs.declared.sum.Sum.{Sum}

-- a sum of at most n terms
abbrev pub Within : ℕ → Sum → Type 0
Within n s = size s ≤ n * 2 ^ 151
