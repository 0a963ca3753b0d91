-- Products of sizes with signs, and of sizes with places.
use Rattle.std.proofs.Common.{◌≡◌, ℕ, zero, suc, ◌+◌, ◌*◌, ◌^◌, ◌<◌, ◌≤◌, Bool, true, false, not, eqb, ℤ, pos, ◌*ℤ◌, neg_ℤ, nat_abs, sym, refl, ap, ◌∙◌, mul_assoc, mul_comm, mul-le-mul_left, mul-zero, zero-mul, arith, pow_mono}
use mathlib.Core.Bool.{beq}
use native.Mathlib.Nat.{mul-mul-mul_comm}
use lib.IntN.{*ℤ_comm, zero-*ℤ}
use lib.Signed.{non_neg}
use Rattle.std.proofs.lemmas.Nat.{pow-add, shl_below}
use Rattle.std.proofs.lemmas.Int.{ints}
use Rattle.formats.specs.Value.{infinite, finite, signed, finer}
use Rattle.formats.specs.ValueLaws.{signed-*, abs_signed, no_size}
use Rattle.sums.specs.Exact.{same}
use Rattle.terms.specs.Terms.{part, times_infinity}

-- two sizes with signs
negated_negated : (m n : ℕ) → neg_ℤ (pos m) *ℤ neg_ℤ (pos n) ≡ pos (m * n)
negated_negated zero n = rw (zero-mul n, zero-*ℤ (neg_ℤ (pos n))) refl
negated_negated (suc m) zero = rw (mul-zero (suc m)) refl
negated_negated (suc m) (suc n) = refl

signed-signed : (s t : Bool) (m n : ℕ) → signed s m *ℤ signed t n ≡ signed (not (same s t)) (m * n)
signed-signed true true m n = negated_negated m n
signed-signed true false m n = signed-* true m n
signed-signed false true m n = *ℤ_comm (pos m) (neg_ℤ (pos n)) ∙ signed-* true n m ∙ ap (signed true) (mul_comm n m)
signed-signed false false m n = refl

-- the product of two signed sizes is the product of the sizes with the sign of both
pub product_signed : (up : ℕ) (s t : Bool) (m n : ℕ) → signed s m *ℤ signed t n *ℤ pos (2 ^ up) ≡ signed (not (same s t)) (m * n * 2 ^ up)
product_signed up s t m n = ap (λ z. z *ℤ pos (2 ^ up)) (signed-signed s t m n) ∙ signed-* (not (same s t)) (m * n) (2 ^ up)

-- the zero test and the sign of a signed size
pub zero_signed : (s : Bool) (n : ℕ) → eqb (nat_abs (signed s n)) 0 ≡ eqb n 0
zero_signed s n = ap (λ k. eqb k 0) (abs_signed s n)

pub sign_signed : (s : Bool) (n : ℕ) → 0 < n → not (non_neg (signed s n)) ≡ s
sign_signed s zero h = absurd (omega arith)
sign_signed true (suc n) h = refl
sign_signed false (suc n) h = refl

-- from the finest unit back: a value in units of 2^-128 that is finer 96 of a finite one
pub unit_down : (z : ℤ) (s : Bool) (m e : ℕ) → finer 96 (finite z) ≡ finite (signed s (m * 2 ^ (96 + e))) → z ≡ signed s (m * 2 ^ e)
unit_down z s m e h =
    let parts : m * 2 ^ (96 + e) ≡ m * 2 ^ e * 2 ^ 96 = ap (λ x. m * x) (pow-add 2 96 e ∙ mul_comm (2 ^ 96) (2 ^ e)) ∙ sym (mul_assoc m (2 ^ e) (2 ^ 96)) in
    let whole : z *ℤ pos (2 ^ 96) ≡ signed s (m * 2 ^ e) *ℤ pos (2 ^ 96) = ap part h ∙ ap (signed s) parts ∙ sym (signed-* s (m * 2 ^ e) (2 ^ 96)) in
    omega (arith, ints)

-- powers gathered
pub places : (m n a b up : ℕ) → m * 2 ^ a * (n * 2 ^ b) * 2 ^ up ≡ m * n * 2 ^ (a + b + up)
places m n a b up = rw (pow-add 2 (a + b) up, pow-add 2 a b, mul-mul-mul_comm m (2 ^ a) n (2 ^ b)) (mul_assoc (m * n) (2 ^ a * 2 ^ b) (2 ^ up))

-- the code's test that two signs differ
pub differ : (s t : Bool) → beq s t ≡ same s t
differ true true = refl
differ true false = refl
differ false true = refl
differ false false = refl

-- an infinity times a signed size that is not zero
pub infinity_signed : (s t : Bool) (m e : ℕ) → (m ≡ 0 → ⊥) → infinite (not (beq s t)) ≡ times_infinity s (signed t (m * 2 ^ e))
infinity_signed s t m e some =
    let size : m * 2 ^ e ≡ 0 → ⊥ = λ none. some (no_size m e none) in
    let zero_is : eqb (m * 2 ^ e) 0 ≡ false = grind arith in
    rw (zero_signed t (m * 2 ^ e), zero_is, sign_signed t (m * 2 ^ e) (omega arith), differ s t) refl

-- a size m × 2^e of units of 2^-32 with its sign, in units of 2^-96
pub scaled_signed : (s : Bool) (m n e p : ℕ) → n ≡ m → p ≡ e + 64 → finite (signed s (n * 2 ^ p)) ≡ finer 64 (finite (signed s (m * 2 ^ e)))
scaled_signed s m n e p same_size place =
    ap finite (rw (same_size, place, pow-add 2 e 64) (ap (signed s) (sym (mul_assoc m (2 ^ e) (2 ^ 64))) ∙ sym (signed-* s (m * 2 ^ e) (2 ^ 64))))

pub scaled_small : (m n e p : ℕ) → n ≡ m → p ≡ e + 64 → m * 2 ^ e < 2 ^ 64 → n * 2 ^ p < 2 ^ 191
scaled_small m n e p same_size place small =
    rw (same_size, place, pow-add 2 e 64, ← mul_assoc m (2 ^ e) (2 ^ 64)) (omega arith)

pub below_both : (j m n : ℕ) → m < 2 ^ j → n < 2 ^ j → m * n < 2 ^ (j + j)
below_both j m n f g = omega (arith, mul-le-mul_left {m = n} {n = 2 ^ j} m (omega arith), shl_below m j j f)

-- two sizes m × 2^a and n × 2^b of units of 2^-32 with their signs, times 2^up units of 2^-32, in units of 2^-96
pub multiplied_signed : (s t : Bool) (m n k l a b up p : ℕ) → k ≡ m → l ≡ n → p ≡ a + b + up →
    finite (signed (not (beq s t)) (k * l * 2 ^ p)) ≡ finite (signed s (m * 2 ^ a) *ℤ signed t (n * 2 ^ b) *ℤ pos (2 ^ up))
multiplied_signed s t m n k l a b up p first second place =
    ap finite (rw (differ s t, first, second, place, ← places m n a b up) (sym (product_signed up s t (m * 2 ^ a) (n * 2 ^ b))))

pub multiplied_small : (m n k l a b up p : ℕ) → k ≡ m → l ≡ n → p ≡ a + b + up → m * 2 ^ a < 2 ^ 64 → n * 2 ^ b < 2 ^ 64 → up ≤ 63 → k * l * 2 ^ p < 2 ^ 191
multiplied_small m n k l a b up p first second place f g h =
    rw (first, second, place, ← places m n a b up)
    (omega (arith, shl_below (m * 2 ^ a * (n * 2 ^ b)) 128 up (below_both 64 (m * 2 ^ a) (n * 2 ^ b) f g), pow_mono {i = 128 + up} {j = 191} (omega arith)))
