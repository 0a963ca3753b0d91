-- The product of two readings of which one is not finite.
use Rattle.std.proofs.Common.{◌≡◌, ℕ, ◌*◌, ◌^◌, ◌<◌, Bool, true, false, not, pos, ◌+ℤ◌, nat_abs, Some, None, Option, refl, ap, ◌∙◌, ⊎_elim, zero-mul, arith}
use mathlib.Core.Bool.{beq}
use Rattle.std.proofs.lemmas.Bool.{cases_lt, true≢false}
use Rattle.formats.specs.Value.{Value, nan, infinite, signed}
use Rattle.formats.specs.declared.reading.Dyadic.{Dyadic}
use Rattle.terms.specs.declared.factor.Factor.{Factor}
use Rattle.terms.specs.declared.factor.Factor.TheVariants.{Nan, Infinite, Finite}
use Rattle.terms.specs.Readings.{units_of, factor_value, both_finite, Signed}
use Rattle.terms.specs.Terms.{product, times_infinity}
use Rattle.terms.proofs.ProductLaws.{zero_signed, infinity_signed, differ}

-- an infinity with the sign of both, where both have one
abbrev pub special_of : Option Bool → Option Bool → Value
special_of None t = nan
special_of (Some s) None = nan
special_of (Some s) (Some t) = infinite (not (beq s t))

-- the sign of a value; zero has none
abbrev SignOf : Dyadic → Option Bool → Type 0
SignOf d r = (d.significand ≡ 0 → r ≡ None) × (0 < d.significand → r ≡ Some d.negative)

either_order : (s t : Bool) → beq s t ≡ beq t s
either_order true true = refl
either_order true false = refl
either_order false true = refl
either_order false false = refl

nothing : (s t : Bool) (m e : ℕ) → m ≡ 0 → nan ≡ times_infinity s (signed t (m * 2 ^ e))
nothing s t m e none = rw (zero_signed t (m * 2 ^ e), none, zero-mul (2 ^ e)) refl

infinity_first : (s : Bool) (d : Dyadic) (t : Option Bool) → SignOf d t → special_of (Some s) t ≡ times_infinity s (units_of d)
infinity_first s d t (none, some) =
    let place = nat_abs (d.exponent +ℤ pos 32) in
    ⊎_elim
    (λ lt. rw (some lt) (infinity_signed s d.negative d.significand place (λ e. omega arith)))
    (λ le. let zero : d.significand ≡ 0 = omega arith in rw (none zero) (nothing s d.negative d.significand place zero))
    (cases_lt 0 d.significand)

infinity_last : (s : Bool) (d : Dyadic) (t : Option Bool) → SignOf d t → special_of t (Some s) ≡ times_infinity s (units_of d)
infinity_last s d None signs = infinity_first s d None signs
infinity_last s d (Some t) signs = ap (λ b. infinite (not b)) (either_order t s) ∙ infinity_first s d (Some t) signs

pub special_product : (x y : Factor) (s t : Option Bool) → Signed x s → Signed y t → both_finite x y ≡ false → (up : ℕ) → special_of s t ≡ product up (factor_value x) (factor_value y)
special_product Nan y s t g h e up = rw g refl
special_product (Infinite a) Nan s t g h e up = rw (g, h) refl
special_product (Infinite a) (Infinite b) s t g h e up = rw (g, h) (ap (λ s. infinite (not s)) (differ a b))
special_product (Infinite a) (Finite d) s t g h e up = rw g (infinity_first a d.value t h)
special_product (Finite d) Nan None t g h e up = refl
special_product (Finite d) Nan (Some s) t g h e up = rw h refl
special_product (Finite d) (Infinite a) s t g h e up = rw h (infinity_last a d.value s g)
special_product (Finite d) (Finite f) s t g h e up = absurd (true≢false e)
