-- Values that are known in two ways, their negatives, and sizes with a sign.
use Rattle.std.specs.Prelude.{◌≡◌, ℕ, zero, suc, ◌*◌, ◌^◌, Bool, true, false, not, ℤ, pos, negsuc, ◌*ℤ◌, neg_ℤ, ◌≢◌, unsigned_abs, refl}
use Rattle.std.proofs.Common.{sym, ap, ◌∙◌, zero-mul, arith, pow_pos}
use Rattle.std.proofs.Math.Nat.{eq_of_mul-eq-mul_right}
use Rattle.std.proofs.Math.IntN.{neg_ℤ-neg_ℤ}
use Rattle.std.specs.Int.Signed.{non_neg}
use Rattle.formats.specs.Value.{Value, nan, infinite, finite, signed, negated}

pub same_finite : (v : Value) (x z : ℤ) → v ≡ finite x → v ≡ finite z → x ≡ z
same_finite v x z e f = cc

pub not_infinite : (v : Value) (negative : Bool) (z : ℤ) → v ≡ infinite negative → v ≢ finite z
not_infinite v negative z e f = let n : ◌≡◌ {A = ℕ} 0 1 = cc in omega arith

pub not_nan : (v : Value) (z : ℤ) → v ≡ nan → v ≢ finite z
not_nan v z e f = let n : ◌≡◌ {A = ℕ} 0 1 = cc in omega arith

pub negated_twice : (v : Value) → negated (negated v) ≡ v
negated_twice nan = refl
negated_twice (infinite true) = refl
negated_twice (infinite false) = refl
negated_twice (finite z) = ap finite (neg_ℤ-neg_ℤ z)

-- a size with a sign, times a number
negated-* : (n k : ℕ) → neg_ℤ (pos n) *ℤ pos k ≡ neg_ℤ (pos (n * k))
negated-* zero k = rw (zero-mul k) refl
negated-* (suc n) k = refl

pub signed-* : (negative : Bool) (n k : ℕ) → signed negative n *ℤ pos k ≡ signed negative (n * k)
signed-* true n k = negated-* n k
signed-* false n k = refl

-- the size of a product and of a size with a sign
abs_negated : (n : ℕ) → unsigned_abs (neg_ℤ (pos n)) ≡ n
abs_negated zero = refl
abs_negated (suc n) = refl

pub abs-* : (z : ℤ) (k : ℕ) → unsigned_abs (z *ℤ pos k) ≡ unsigned_abs z * k
abs-* (pos n) k = refl
abs-* (negsuc n) k = abs_negated (suc n * k)

pub abs_signed : (negative : Bool) (n : ℕ) → unsigned_abs (signed negative n) ≡ n
abs_signed true n = abs_negated n
abs_signed false n = refl

pub signed_abs : (z : ℤ) → signed (not (non_neg z)) (unsigned_abs z) ≡ z
signed_abs (pos n) = refl
signed_abs (negsuc n) = refl

-- a size of zero has no significand
pub no_size : (s k : ℕ) → s * 2 ^ k ≡ 0 → s ≡ 0
no_size s k e = eq_of_mul-eq-mul_right (2 ^ k) (pow_pos k) s 0 (e ∙ sym (zero-mul (2 ^ k)))
