-- A format's meaning determines what its functions answer.
use Rattle.std.proofs.Common.{◌≡◌, ℕ, ◌-◌, ◌*◌, ◌^◌, ◌≤◌, Bool, true, false, ◌⊎◌, ℤ, pos, negsuc, ◌+ℤ◌, nat_abs, ◌≤ℤ◌, Ok, Err, Result, sym, refl, ap, ◌∙◌, inl, inr, ⊎_elim, mul-le-mul_right, arith, pow_pos, pow-add}
use native.Mathlib.Nat.{eq_of_mul-eq-mul_right}
use Rattle.std.proofs.lemmas.Int.{ints}
use Rattle.layout.specs.Codes.{Normalized}
use Rattle.layout.proofs.SizeLaws.{size_aligned}
use Rattle.formats.specs.Meaning.{Meaning, Lawful}
use Rattle.formats.specs.Readings.{fine, Canonical, Decodes}
use Rattle.formats.specs.Refusals.{Refuses}
use Rattle.formats.specs.Value.{signed}
use Rattle.formats.specs.declared.fault.Fault.{Fault}
use Rattle.formats.specs.declared.fault.Fault.TheVariants.{NoSuchFormat, CodeTooLarge, ValueNotRepresentable, ScaleOutOfRange, RegisterFull, NotWholeCodes}
use Rattle.formats.specs.declared.reading.Dyadic.{Dyadic}
use Rattle.formats.specs.declared.reading.Reading.{Reading}
use Rattle.formats.specs.declared.reading.Reading.TheVariants.{Nan, PositiveInfinity, NegativeInfinity, Finite}
use Rattle.formats.specs.ValueLaws.{abs_signed, no_size}

-- an exponent counted from -128
abbrev up : ℤ → ℕ
up e = nat_abs (e +ℤ pos 128)

-- of one size in two normal forms, neither exponent passes the other
no_higher : (p : ℕ) (q e f : ℤ) (s t : ℕ) → 1 ≤ p → negsuc 31 ≤ℤ q → Normalized p q s e → Normalized p q t f → s * 2 ^ up e ≡ t * 2 ^ up f → up f ≤ up e
no_higher p q e f s t h deep a b same =
    ⊎_elim
    (λ full. size_aligned p s (up e) (up f) h a.short (omega (arith, pow-add 2 (up f) (p - 1), mul-le-mul_right (2 ^ up f) full)))
    (λ is. omega (arith, ints))
    b.full

-- a sign is known but at zero
sign_known : (a b : Bool) (n : ℕ) → signed a n ≡ signed b n → (a ≡ b) ⊎ (n ≡ 0)
sign_known true true n e = inl refl
sign_known true false n e = inr (omega (arith, ints))
sign_known false true n e = inr (omega (arith, ints))
sign_known false false n e = inl refl

-- a reading's number by its parts
abbrev made : Bool → ℕ → ℤ → Dyadic
made negative s e = record { negative = negative; significand = s; exponent = e }

dyadic_once : (m : Meaning) → Lawful m → (d e : Dyadic) → Canonical m (Finite d) → Canonical m (Finite e) → fine (Finite d) ≡ fine (Finite e) → d ≡ e
dyadic_once m laws d e (a, unsigned-d) (b, unsigned-e) same =
    let x = up d.exponent in
    let y = up e.exponent in
    let z : signed d.negative (d.significand * 2 ^ x) ≡ signed e.negative (e.significand * 2 ^ y) = cc in
    let n : d.significand * 2 ^ x ≡ e.significand * 2 ^ y =
    sym (abs_signed d.negative (d.significand * 2 ^ x)) ∙ ap nat_abs z ∙ abs_signed e.negative (e.significand * 2 ^ y) in
    let h : 1 ≤ m.precision = omega (arith, laws.precise) in
    let xy : x ≡ y =
    omega (
      arith,
      no_higher m.precision m.least d.exponent e.exponent d.significand e.significand h laws.deep a b n,
      no_higher m.precision m.least e.exponent d.exponent e.significand d.significand h laws.deep b a (sym n),
    ) in
    let exponents : d.exponent ≡ e.exponent = omega (arith, ints, laws.deep) in
    let significands : d.significand ≡ e.significand = eq_of_mul-eq-mul_right (2 ^ y) (pow_pos y) d.significand e.significand (rw xy at n) in
    let z' : signed d.negative (e.significand * 2 ^ y) ≡ signed e.negative (e.significand * 2 ^ y) = cc in
    let signs : d.negative ≡ e.negative =
    ⊎_elim (λ s. s)
    (λ none. let s = no_size e.significand y none in unsigned-d (significands ∙ s) ∙ sym (unsigned-e s))
    (sign_known d.negative e.negative (e.significand * 2 ^ y) z') in
    let parts : made d.negative d.significand d.exponent ≡ made e.negative e.significand e.exponent = cc in
    parts

-- a value has one canonical reading
reading_once : (m : Meaning) → Lawful m → (r s : Reading) → Canonical m r → Canonical m s → fine r ≡ fine s → r ≡ s
reading_once m laws Nan Nan a b e = refl
reading_once m laws Nan PositiveInfinity a b e = cc
reading_once m laws Nan NegativeInfinity a b e = cc
reading_once m laws Nan (Finite y) a b e = cc
reading_once m laws PositiveInfinity Nan a b e = cc
reading_once m laws PositiveInfinity PositiveInfinity a b e = refl
reading_once m laws PositiveInfinity NegativeInfinity a b e = cc
reading_once m laws PositiveInfinity (Finite y) a b e = cc
reading_once m laws NegativeInfinity Nan a b e = cc
reading_once m laws NegativeInfinity PositiveInfinity a b e = cc
reading_once m laws NegativeInfinity NegativeInfinity a b e = refl
reading_once m laws NegativeInfinity (Finite y) a b e = cc
reading_once m laws (Finite x) Nan a b e = cc
reading_once m laws (Finite x) PositiveInfinity a b e = cc
reading_once m laws (Finite x) NegativeInfinity a b e = cc
reading_once m laws (Finite x) (Finite y) a b e = ap Finite (dyadic_once m laws x y a b e)

refusal_two : (f : Fault) → Refuses 2 0 f → f ≡ CodeTooLarge 0
refusal_two NoSuchFormat (number, place) = absurd (omega arith)
refusal_two (CodeTooLarge at) (number, place) = ap CodeTooLarge place
refusal_two ValueNotRepresentable (number, place) = absurd (omega arith)
refusal_two ScaleOutOfRange (number, place) = absurd (omega arith)
refusal_two RegisterFull (number, place) = absurd (omega arith)
refusal_two NotWholeCodes (number, place) = absurd (omega arith)

pub decodes_once : (m : Meaning) → Lawful m → (c : ℕ) (r s : Result Reading Fault) → Decodes m c r → Decodes m c s → r ≡ s
decodes_once m laws c (Ok r) (Ok s) (_, e, a) (_, f, b) = ap Ok (reading_once m laws r s a b (e ∙ sym f))
decodes_once m laws c (Ok r) (Err g) (lt, _, _) (le, _) = absurd (omega arith)
decodes_once m laws c (Err f) (Ok s) (le, _) (lt, _, _) = absurd (omega arith)
decodes_once m laws c (Err f) (Err g) (_, a) (_, b) = ap Err (refusal_two f a ∙ sym (refusal_two g b))
