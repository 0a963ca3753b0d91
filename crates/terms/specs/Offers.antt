-- What a call on a register comes to, before the register is asked whether it is full.
use Rattle.std.specs.Prelude.{◌≡◌, ℕ, ◌^◌, Bool, cond, ◌&&◌, List, [], ◌∷◌, ℤ, pos, negsuc, ◌+ℤ◌, Ok, Err, Result, int_le, nat_lt, unsigned_abs}
use Rattle.formats.specs.Meaning.{Meaning}
use Rattle.formats.specs.Refusals.{Refuses}
use Rattle.formats.specs.Value.{Value}
use Rattle.formats.specs.declared.fault.Fault.{Fault}
use Rattle.terms.specs.Readings.{term_value}
use Rattle.terms.specs.Scales.{ScaleFits}
use Rattle.terms.specs.Terms.{single, product}
use Rattle.terms.specs.declared.scale.Scale.{Scale}
use Rattle.terms.specs.declared.term.Term.{Term}

-- a refusal by its number and place, or terms in their order
pub data Offer : Type 0 where
  refusal : (number place : ℕ) → Offer
  terms : List Value → Offer

-- a scale is from -32 to 31
abbrev pub scale_fits : ℤ → Bool
scale_fits s = int_le (negsuc 31) s && int_le s (pos 31)

-- the scale of a power that fits, or refusal 4
abbrev pub ScaleFound : ℤ → Result Scale Fault → Type 0
ScaleFound power (Ok s) = s.power ≡ power
ScaleFound power (Err f) = (ScaleFits power → ⊥) × Refuses 4 0 f

-- a code is below 2^K
abbrev pub code_fits : Meaning → ℕ → Bool
code_fits m c = nat_lt c (2 ^ m.width)

-- one term, the code's reading
abbrev pub add_offer : Meaning → ℕ → Offer
add_offer m c = cond (code_fits m c) (terms (single (m.decode c) ∷ [])) (refusal 2 0)

-- the term of two codes' readings X and Y: X × Y × 2^s
abbrev pub pair_term : Meaning → Meaning → ℤ → ℕ → ℕ → Value
pair_term m n s x y = product (unsigned_abs (s +ℤ pos 32)) (m.decode x) (n.decode y)

-- the product where the scale is in range
abbrev pub pair_offer : Meaning → Meaning → ℤ → ℕ → ℕ → Offer
pair_offer m n s x y = cond (code_fits m x && code_fits n y) (terms (pair_term m n s x y ∷ [])) (refusal 2 0)

abbrev pub product_offer : Meaning → Meaning → ℤ → ℕ → ℕ → Offer
product_offer m n s x y = cond (scale_fits s) (pair_offer m n s x y) (refusal 4 0)

-- the one term of an offer, or its refusal
abbrev pub Offers : Offer → Result Term Fault → Type 0
Offers (refusal number place) (Ok t) = ⊥
Offers (refusal number place) (Err f) = Refuses number place f
Offers (terms ts) (Ok t) = ts ≡ (term_value t ∷ [])
Offers (terms ts) (Err f) = ⊥
