-- Laws of a sum of many terms.
use Rattle.std.proofs.Common.{◌≡◌, ℕ, ◌+◌, ◌*◌, ◌^◌, ◌<◌, ◌≤◌, Bool, pos, ap, arith, pow_mono}
use Rattle.std.proofs.lemmas.Nat.{mul-le}
use Rattle.formats.specs.Value.{finite, signed}
use Rattle.sums.specs.Exact.{plus}
use Rattle.sums.specs.Sums.{value, size_of, size}
use Rattle.sums.specs.declared.sum.Sum.{Sum}
use Rattle.sums.proofs.SizeBound.{term_size}
use Rattle.pace.specs.Pace.{Within}

pub term_most : (d p : ℕ) → d < 2 ^ 24 → p < 128 → d * 2 ^ p ≤ 2 ^ 151
term_most d p lt in' = omega (arith, mul-le d (2 ^ p) (2 ^ 24) (2 ^ 127) (omega arith) (pow_mono {i = p} {j = 127} (omega arith)))

pub within_zero : (s : Sum) → value s ≡ finite (pos 0) → Within 0 s
within_zero s e = omega (arith, ap size_of e)

pub within_more : (s : Sum) (n m : ℕ) → n ≤ m → Within n s → Within m s
within_more s n m le most = omega arith

-- the next term fits
pub next_fits : (s : Sum) (n d p : ℕ) → Within n s → n < 100000 → d < 2 ^ 24 → p < 128 → size s + d * 2 ^ p < 2 ^ 255
next_fits s n d p most few lt in' = omega (arith, term_most d p lt in', most)

-- one term more
pub within_next : (s s' : Sum) (n d p : ℕ) (negative : Bool) → Within n s → d < 2 ^ 24 → p < 128 → value s' ≡ plus (value s) (finite (signed negative (d * 2 ^ p))) → Within (n + 1) s'
within_next s s' n d p negative most lt in' e = omega (arith, most, term_most d p lt in', term_size s s' (d * 2 ^ p) negative e)
