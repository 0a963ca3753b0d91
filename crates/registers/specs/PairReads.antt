-- Pairs of codes as they are read from a run.
use Rattle.std.specs.Prelude.{◌⊎◌, ◌≡◌, ℕ, ◌+◌, ◌*◌, ◌^◌, ◌<◌, ◌≤◌, List, take, drop, ℤ, Ok, Err, Result}
use Rattle.formats.specs.Meaning.{Meaning}
use Rattle.formats.specs.Refusals.{Refuses}
use Rattle.formats.specs.declared.fault.Fault.{Fault}
use Rattle.terms.specs.Offers.{Offer, terms}
use Rattle.registers.specs.Runs.{code_at, bytes_of, wide_at, CodesOf, x_code, y_code, pair_terms, at, bad_pair, bad_code, unless_bad, pairs}
use Rattle.registers.specs.declared.pairs.Pairs.{Pairs}

pub record PairsOf (m n : Meaning) (p : Pairs) : Type 0 where
  pub x : CodesOf m p.x
  pub y : CodesOf n p.y

abbrev pub bytes_of_pair : Pairs → ℕ
bytes_of_pair p = bytes_of (wide_at p.x.width) + bytes_of (wide_at p.y.width)

-- the i-th pair of a run lies at a place and is these bytes
pub record IsPair (p : Pairs) (run : List ℕ) (i place : ℕ) (bytes : List ℕ) : Type 0 where
  pub place_is : place ≡ i * bytes_of_pair p
  pub bytes_are : bytes ≡ take (bytes_of_pair p) (drop place run)

pub record BothFit (m n : Meaning) (run : List ℕ) (i x y : ℕ) : Type 0 where
  pub x_is : x ≡ x_code m n run i
  pub y_is : y ≡ y_code m n run i
  pub x_fits : x < 2 ^ m.width
  pub y_fits : y < 2 ^ n.width

pub record OneDoesNot (m n : Meaning) (run : List ℕ) (i : ℕ) (f : Fault) : Type 0 where
  pub place : ℕ
  pub found : bad_pair m n run i ≡ at place
  pub refuses : Refuses 2 place f

-- the codes of a pair's bytes: the x code lies in the first of them, and the y code in the others
abbrev pub x_in : Pairs → List ℕ → ℕ
x_in p bytes = code_at (wide_at p.x.width) (take (bytes_of (wide_at p.x.width)) bytes) 0

abbrev pub y_in : Pairs → List ℕ → ℕ
y_in p bytes = code_at (wide_at p.y.width) (drop (bytes_of (wide_at p.x.width)) bytes) 0

-- the codes of the bytes that lie at a place, or the refusal of the first of them that is 2^K or more
abbrev pub PairRead : Pairs → List ℕ → (place : ℕ) → Result (ℕ × ℕ) Fault → Type 0
PairRead p bytes place (Ok (x, y)) = (x ≡ x_in p bytes) × (y ≡ y_in p bytes) × (x < 2 ^ p.x.width) × (y < 2 ^ p.y.width)
PairRead p bytes place (Err f) =
    (2 ^ p.x.width ≤ x_in p bytes × Refuses 2 place f)
    ⊎ ((x_in p bytes < 2 ^ p.x.width) × (2 ^ p.y.width ≤ y_in p bytes) × Refuses 2 (place + bytes_of (wide_at p.x.width)) f)

-- what a run of whole pairs comes to, where the scale is in range
abbrev pub whole_offer : Meaning → Meaning → ℤ → List ℕ → Offer
whole_offer m n s run = unless_bad (bad_code m n run (pairs m n run)) (terms (pair_terms m n s run (pairs m n run)))
