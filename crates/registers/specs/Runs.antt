-- Runs of code bytes: x code then y code, pair after pair.
use Rattle.std.specs.Prelude.{◌≡◌, ℕ, zero, suc, ◌+◌, ◌*◌, ◌/◌, ◌%◌, ◌^◌, ◌<◌, ◌≤◌, Bool, cond, List, [], ◌∷◌, ◌++◌, length, ℤ, Ok, Err, Result, ◌==◌, nat_lt, slice_index}
use Rattle.formats.specs.Meaning.{Meaning}
use Rattle.formats.specs.Refusals.{Refuses}
use Rattle.formats.specs.Value.{Value}
use Rattle.formats.specs.declared.fault.Fault.{Fault}
use Rattle.terms.specs.Offers.{Offer, refusal, terms, scale_fits, code_fits, pair_term}
use Rattle.registers.specs.declared.codes.Codes.{Codes}

-- a code takes one byte up to 8 bits, and else two, the lower byte first
abbrev pub wide_at : ℕ → Bool
wide_at width = nat_lt 8 width

abbrev pub wide : Meaning → Bool
wide m = wide_at m.width

abbrev pub bytes_of : Bool → ℕ
bytes_of w = cond w 2 1

-- the code whose first byte is at a place
abbrev pub code_at : Bool → List ℕ → ℕ → ℕ
code_at w run place = cond w (slice_index run place + 256 * slice_index run (place + 1)) (slice_index run place)

-- a code, or refusal 2 at its place if it is 2^K or more
abbrev pub CodeRead : (width code place : ℕ) → Result ℕ Fault → Type 0
CodeRead width code place (Ok c) = (c ≡ code) × (c < 2 ^ width)
CodeRead width code place (Err f) = Refuses 2 place f × (2 ^ width ≤ code)

-- the codes of a format
abbrev pub CodesOf : Meaning → Codes → Type 0
CodesOf m c = c.width ≡ m.width

abbrev pub code_bytes : Meaning → ℕ
code_bytes m = bytes_of (wide m)

abbrev pub pair_bytes : Meaning → Meaning → ℕ
pair_bytes m n = code_bytes m + code_bytes n

-- where the i-th pair's codes begin
abbrev pub x_place : Meaning → Meaning → ℕ → ℕ
x_place m n i = i * pair_bytes m n

abbrev pub y_place : Meaning → Meaning → ℕ → ℕ
y_place m n i = i * pair_bytes m n + code_bytes m

abbrev pub x_code : Meaning → Meaning → List ℕ → ℕ → ℕ
x_code m n run i = code_at (wide m) run (x_place m n i)

abbrev pub y_code : Meaning → Meaning → List ℕ → ℕ → ℕ
y_code m n run i = code_at (wide n) run (y_place m n i)

-- the term of the i-th pair
abbrev pub term_at : Meaning → Meaning → ℤ → List ℕ → ℕ → Value
term_at m n s run i = pair_term m n s (x_code m n run i) (y_code m n run i)

-- the terms of the first i pairs, in their order
abbrev pub pair_terms : Meaning → Meaning → ℤ → List ℕ → ℕ → List Value
pair_terms m n s run zero = []
pair_terms m n s run (suc i) = pair_terms m n s run i ++ (term_at m n s run i ∷ [])

-- the place of the first code of 2^K or more, where there is one
pub data Found : Type 0 where
  none : Found
  at : ℕ → Found

abbrev pub or_else : Found → Found → Found
or_else none y = y
or_else (at place) y = at place

-- in the i-th pair
abbrev pub bad_pair : Meaning → Meaning → List ℕ → ℕ → Found
bad_pair m n run i =
    cond (code_fits m (x_code m n run i))
    (cond (code_fits n (y_code m n run i)) none (at (y_place m n i)))
    (at (x_place m n i))

-- in the first i pairs
abbrev pub bad_code : Meaning → Meaning → List ℕ → ℕ → Found
bad_code m n run zero = none
bad_code m n run (suc i) = or_else (bad_code m n run i) (bad_pair m n run i)

abbrev pub unless_bad : Found → Offer → Offer
unless_bad none o = o
unless_bad (at place) o = refusal 2 place

abbrev pub pairs : Meaning → Meaning → List ℕ → ℕ
pairs m n run = length run / pair_bytes m n

-- a scale out of range is refused first, then bytes that are not whole pairs, then the first code that is too large
abbrev pub dot_offer : Meaning → Meaning → ℤ → List ℕ → Offer
dot_offer m n s run =
    cond (scale_fits s)
    (cond (length run % pair_bytes m n == 0)
    (unless_bad (bad_code m n run (pairs m n run)) (terms (pair_terms m n s run (pairs m n run))))
    (refusal 6 0))
    (refusal 4 0)
