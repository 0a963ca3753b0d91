-- What the row of a code needs of a format's laws.
use Rattle.std.proofs.Common.{◌≡◌, ℕ, zero, suc, ◌+◌, ◌*◌, ◌/◌, ◌^◌, ◌<◌, ◌≤◌, Bool, true, false, not, List, ◌++◌, ℤ, pos, negsuc, ◌+ℤ◌, ◌*ℤ◌, nat_abs, ◌≤ℤ◌, Ok, codes, sym, refl, ap, ◌∙◌, ⊎_elim, mul_assoc, arith, lit<, lit≤, pow_mono, pow-add}
use lib.Signed.{non_neg}
use Rattle.std.proofs.lemmas.Int.{ints}
use Rattle.std.proofs.lemmas.Bool.{cases_eq}
use Rattle.formats.specs.Meaning.{Meaning, Lawful}
use Rattle.formats.specs.Readings.{fine, Canonical, Decodes}
use Rattle.formats.specs.Signs.{size_of}
use Rattle.formats.specs.Value.{Value, nan, infinite, finite, signed, finer}
use Rattle.formats.specs.declared.reading.Dyadic.{Dyadic}
use Rattle.formats.specs.declared.reading.Reading.{Reading}
use Rattle.formats.specs.declared.reading.Reading.TheVariants.{Nan, PositiveInfinity, NegativeInfinity, Finite}
use Rattle.formats.specs.ValueLaws.{abs-*, abs_signed, no_size}
use Rattle.listing.specs.Rows.{parts_of, Printable, Valued, Spelled, Line}
use Rattle.listing.specs.Texts.{numeral_text, bits_text, places_of, units_of, value_text}
use Rattle.listing.proofs.NumeralLaws.{numeral_text_lem, bits_grouped, units_decimal}

sixteen : (j : ℕ) → 16 ^ j ≡ 2 ^ (4 * j)
sixteen zero = refl
sixteen (suc j) =
    let e : 4 * suc j ≡ 4 * j + 4 = omega arith in
    let f : suc j ≡ j + 1 = omega arith in
    rw (e, f, pow-add 2 (4 * j) 4, pow-add 16 j 1, sixteen j)

-- a number of k bits has as many hexadecimal digits as cover them
pub hex_covers : (c k : ℕ) → c < 2 ^ k → c < 16 ^ ((k + 3) / 4)
hex_covers c k lt =
    let le : k ≤ 4 * ((k + 3) / 4) = omega arith in
    let p : 2 ^ k ≤ 2 ^ (4 * ((k + 3) / 4)) = pow_mono le in
    omega (arith, sixteen ((k + 3) / 4))

-- NaN and infinity are told apart by some bit
pub some_width : (m : Meaning) → Lawful m → 0 < m.width
some_width m laws =
    ⊎_elim
    (λ z.
    let one : 2 ^ m.width ≡ 1 = ap (λ k. 2 ^ k) z in
    let a : m.encode nan ≡ 0 = omega (arith, laws.nan_read.0) in
    let b : m.encode (infinite false) ≡ 0 = omega (arith, (laws.infinite_read false).0) in
    let same : nan ≡ infinite false = sym laws.nan_read.1 ∙ ap m.decode (a ∙ sym b) ∙ (laws.infinite_read false).1 in
    let x : ◌≡◌ {A = ℕ} 0 1 = cc in absurd (omega arith))
    (λ n. omega arith)
    (cases_eq m.width 0)

-- the size in units of 2^-32, where the exponent allows it
units : (d : Dyadic) (k : ℕ) → negsuc 31 ≤ℤ d.exponent → k ≡ nat_abs (d.exponent +ℤ pos 32) → (d.significand * 2 ^ k) * 2 ^ 96 ≡ size_of d
units d k deep is =
    let e : nat_abs (d.exponent +ℤ pos 128) ≡ k + 96 = omega (arith, ints) in
    rw (e, pow-add 2 k 96) (mul_assoc d.significand (2 ^ k) (2 ^ 96))

-- a reading that can be printed has its value's text
valued : (r : Reading) → Printable r → Valued r (value_text r)
valued Nan h = refl
valued PositiveInfinity h = refl
valued NegativeInfinity h = refl
valued (Finite d) (deep, most, below) = (units_of (Finite d), units d _ deep refl, units_decimal d.negative (units_of (Finite d)))

roomy : (r : Reading) → Printable r → (places_of r < 64) × (units_of r < 2 ^ 64)
roomy Nan h = (lit< tt, lit< tt)
roomy PositiveInfinity h = (lit< tt, lit< tt)
roomy NegativeInfinity h = (lit< tt, lit< tt)
roomy (Finite d) (deep, most, below) = (omega (arith, ints), omega (arith, units d (places_of (Finite d)) deep refl))

-- the size in units of 2^-32 of a finite reading's value
size_of_lem : (d : Dyadic) (z : ℤ) → signed d.negative (size_of d) ≡ z *ℤ pos (2 ^ 96) → nat_abs z * 2 ^ 96 ≡ size_of d
size_of_lem d z same = sym (abs-* z (2 ^ 96)) ∙ sym (ap nat_abs same) ∙ abs_signed d.negative (size_of d)

finite_read : (d : Dyadic) (v : Value) → fine (Finite d) ≡ finer 96 v → (z : ℤ) × (v ≡ finite z) × (nat_abs z * 2 ^ 96 ≡ size_of d)
finite_read d nan e = let x : ◌≡◌ {A = ℕ} 0 1 = cc in absurd (omega arith)
finite_read d (infinite negative) e = let x : ◌≡◌ {A = ℕ} 0 1 = cc in absurd (omega arith)
finite_read d (finite z) e = (z, refl, size_of_lem d z (cc))

-- what a format reads can be printed
printable : (m : Meaning) → Lawful m → (c : ℕ) (r : Reading) → c < 2 ^ m.width → fine r ≡ finer 96 (m.decode c) → Canonical m r → Printable r
printable m laws c Nan lt e h = tt
printable m laws c PositiveInfinity lt e h = tt
printable m laws c NegativeInfinity lt e h = tt
printable m laws c (Finite d) lt e (normal, unsigned) =
    let (z, is, size) = finite_read d (m.decode c) e in
    let most = (laws.only_those c z lt is).1 in
    (omega (arith, ints, laws.deep, normal.least), normal.most, omega (arith, most, laws.below, size))

sign_of : (negative : Bool) (n : ℕ) (z : ℤ) → signed negative n ≡ z *ℤ pos (2 ^ 96) → (n ≡ 0 → negative ≡ false) → not (non_neg z) ≡ negative
sign_of true n (pos a) e unsigned = sym (unsigned (omega (arith, ints)))
sign_of true n (negsuc a) e unsigned = refl
sign_of false n (pos a) e unsigned = refl
sign_of false n (negsuc a) e unsigned = absurd (omega (arith, ints))

-- the text of a reading is that of the value
spelled : (m : Meaning) (v : Value) (r : Reading) (text : List ℕ) → fine r ≡ finer 96 v → Canonical m r → Valued r text → Spelled v text
spelled m nan Nan text e h is = is
spelled m nan PositiveInfinity text e h is = cc
spelled m nan NegativeInfinity text e h is = cc
spelled m nan (Finite d) text e h is = cc
spelled m (infinite false) Nan text e h is = cc
spelled m (infinite false) PositiveInfinity text e h is = is
spelled m (infinite false) NegativeInfinity text e h is = cc
spelled m (infinite false) (Finite d) text e h is = cc
spelled m (infinite true) Nan text e h is = cc
spelled m (infinite true) PositiveInfinity text e h is = cc
spelled m (infinite true) NegativeInfinity text e h is = is
spelled m (infinite true) (Finite d) text e h is = cc
spelled m (finite z) Nan text e h is = let x : ◌≡◌ {A = ℕ} 0 1 = cc in absurd (omega arith)
spelled m (finite z) PositiveInfinity text e h is = let x : ◌≡◌ {A = ℕ} 0 1 = cc in absurd (omega arith)
spelled m (finite z) NegativeInfinity text e h is = let x : ◌≡◌ {A = ℕ} 0 1 = cc in absurd (omega arith)
spelled m (finite z) (Finite d) text e (normal, unsigned) (n, size, is) =
    let same : signed d.negative (size_of d) ≡ z *ℤ pos (2 ^ 96) = cc in
    let number : nat_abs z ≡ n = omega (arith, size_of_lem d z same) in
    let sign : not (non_neg z) ≡ d.negative = sign_of d.negative (size_of d) z same (λ none. unsigned (no_size d.significand _ none)) in
    rw (number, sign) is

-- what a format reads fits its units
pub fits : (m : Meaning) → Lawful m → (c : ℕ) (r : Reading) → Decodes m c (Ok r) → (places_of r < 64) × (units_of r < 2 ^ 64)
fits m laws c r (lt, e, canonical) = roomy r (printable m laws c r lt e canonical)

-- the line from its parts
pub line : (m : Meaning) → Lawful m → (c w p : ℕ) (r : Reading) (text : List ℕ) → w ≡ m.width → p ≡ m.precision → Decodes m c (Ok r)
    → text ≡ codes "0x" ++ (numeral_text 16 ((w + 3) / 4) c ++ (codes " " ++ (bits_text w p c ++ (codes " " ++ (parts_of r ++ (codes " " ++ value_text r))))))
    → Line m c text
line m laws c w p r text wide precise (lt, read_is, canonical) whole = record {
  hex = numeral_text 16 ((m.width + 3) / 4) c;
  bits = bits_text m.width m.precision c;
  reading = r;
  value = value_text r;
  hex_is = numeral_text_lem 16 ((m.width + 3) / 4) c (lit≤ tt) (hex_covers c m.width lt);
  bits_are = bits_grouped m.width m.precision c lt;
  reading_is = read_is;
  canonical = canonical;
  value_is = spelled m (m.decode c) r (value_text r) read_is canonical (valued r (printable m laws c r lt read_is canonical));
  spelled = rw (wide, precise) at whole;
}
