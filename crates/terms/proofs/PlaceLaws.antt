-- The place of a product as the code computes it, in 16 bits.
use Rattle.std.proofs.Common.{◌≡◌, ℕ, ◌+◌, ◌≤◌, T, ℤ, pos, negsuc, ◌+ℤ◌, nat_abs, ◌≤ℤ◌, ◌∙◌, arith, w8, w16, Fits, to_z, of_z}
use lib.Signed.{non_neg}
use Rattle.std.proofs.lemmas.Int.{ints}
use Rattle.formats.specs.declared.reading.Dyadic.{Dyadic}
use Rattle.terms.specs.Scales.{ScaleFits}
use Rattle.terms.specs.Smalls.{SmallValue}

-- a number kept in 16 bits and read back
abbrev held : ℤ → ℤ
held z = to_z w16 (of_z w16 z)

held_is : (z : ℤ) → negsuc 127 ≤ℤ z → z ≤ℤ pos 255 → held z ≡ z
held_is z low high = omega (arith, ints)

-- a number from -32 to 31, widened
widened : (z a : ℤ) → ScaleFits z → a ≡ to_z w8 (of_z w8 z) → held a ≡ z
widened z a (low, high) e = omega (arith, ints)

sum_is : (x y s : ℤ) → ScaleFits x → ScaleFits y → ScaleFits s →
    held (held (held (x +ℤ y) +ℤ s) +ℤ pos 96) ≡ pos (nat_abs (x +ℤ pos 32) + nat_abs (y +ℤ pos 32) + nat_abs (s +ℤ pos 32))
sum_is x y s (xl, xh) (yl, yh) (sl, sh) =
    let two : held (x +ℤ y) ≡ x +ℤ y = held_is (x +ℤ y) (omega (arith, ints)) (omega (arith, ints)) in
    let three : held (x +ℤ y +ℤ s) ≡ x +ℤ y +ℤ s = held_is (x +ℤ y +ℤ s) (omega (arith, ints)) (omega (arith, ints)) in
    rw (two, three) (held_is (x +ℤ y +ℤ s +ℤ pos 96) (omega (arith, ints)) (omega (arith, ints)) ∙ omega (arith, ints))

abbrev up_of : Dyadic → ℕ
up_of d = nat_abs (d.exponent +ℤ pos 32)

pub place_is : {x y : Dyadic} {s a b k : ℤ} → SmallValue x → SmallValue y → ScaleFits s →
    a ≡ to_z w8 (of_z w8 x.exponent) → b ≡ to_z w8 (of_z w8 y.exponent) → k ≡ to_z w8 (of_z w8 s) →
    held (held (held (held a +ℤ held b) +ℤ held k) +ℤ pos 96) ≡ pos (up_of x + up_of y + nat_abs (s +ℤ pos 32))
place_is {x} {y} {s} {a} {b} {k} f g h d e i =
    rw (widened x.exponent a (f.deep, f.high) d, widened y.exponent b (g.deep, g.high) e, widened s k h i)
    (sum_is x.exponent y.exponent s (f.deep, f.high) (g.deep, g.high) h)

-- each part is at most 63
pub place_low : {x y : Dyadic} {s : ℤ} → SmallValue x → SmallValue y → ScaleFits s → up_of x + up_of y + nat_abs (s +ℤ pos 32) ≤ 189
place_low f g (low, high) = omega (arith, ints)

-- a place fits a byte
pub fits_byte : {z : ℤ} {n : ℕ} → z ≡ pos n → n ≤ 189 → T (non_neg z) × Fits w8 (nat_abs z)
fits_byte e h = rw e (tt, omega arith)
