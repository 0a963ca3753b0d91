-- What each call on a register answers and leaves, by the count and the value of the sum.
use Rattle.std.specs.Prelude.{◌≡◌, ℕ, ◌+◌, ◌<◌, ◌≤◌, List, length, pos, Ok, Err, Result}
use Rattle.formats.specs.Meaning.{Meaning}
use Rattle.formats.specs.Refusals.{Refuses}
use Rattle.formats.specs.Value.{Value, finite}
use Rattle.formats.specs.declared.fault.Fault.{Fault}
use Rattle.rounding.specs.Projection.{projected}
use Rattle.rounding.specs.Rule.{Rule}
use Rattle.rounding.specs.declared.answers.Mark.{Mark}
use Rattle.rounding.specs.declared.answers.Saturation.{Saturation}
use Rattle.sums.specs.Exact.{plus}
use Rattle.sums.specs.Sums.{value}
use Rattle.terms.specs.Offers.{Offer, refusal, terms}
use Rattle.terms.specs.Terms.{exact_sum}
use Rattle.registers.specs.declared.register.Register.{Register}

-- no term yet
pub record New (r : Register) : Type 0 where
  pub none : r.count ≡ 0
  pub zero : value r.sum ≡ finite (pos 0)

-- the register has just these terms
pub record Has (r : Register) (ts : List Value) : Type 0 where
  pub counted : r.count ≡ length ts
  pub summed : value r.sum ≡ exact_sum ts

-- the most terms that a register counts
abbrev pub limit : ℕ
limit = 4294967295

-- n terms of the exact sum v went in
pub record Brought (n : ℕ) (v : Value) (old new : Register) : Type 0 where
  pub fits : old.count + n ≤ limit
  pub counted : new.count ≡ old.count + n
  pub summed : value new.sum ≡ plus (value old.sum) v

-- n terms of the exact sum v go in whole, or the full register refuses them and stays as it was
abbrev pub Brings : ℕ → Value → Register → Result Unit Fault → Register → Type 0
Brings n v old (Ok done) new = Brought n v old new
Brings n v old (Err f) new = (limit < old.count + n) × Refuses 5 0 f × (new ≡ old)

abbrev pub Refused : ℕ → ℕ → Register → Result Unit Fault → Register → Type 0
Refused number place old (Ok done) new = ⊥
Refused number place old (Err f) new = Refuses number place f × (new ≡ old)

-- an offer is refused as it says, or its terms are brought
abbrev pub Answers : Offer → Register → Result Unit Fault → Register → Type 0
Answers (refusal number place) old r new = Refused number place old r new
Answers (terms ts) old r new = Brings (length ts) (exact_sum ts) old r new

-- a join brings the other register's terms
abbrev pub Joins : Register → Register → Result Unit Fault → Register → Type 0
Joins other old r new = Brings other.count (value other.sum) old r new

-- what a register reads: the code and the mark of the projection of its sum, and its count
abbrev pub read_of : Meaning → Rule → Saturation → Register → (ℕ × Mark) × ℕ
read_of m rule mode r = (projected m rule mode (value r.sum), r.count)
