-- Terms that go in together, by their number and their exact sum.
use Rattle.std.specs.Prelude.{◌≡◌, ℕ, ◌+◌, ◌<◌, ◌≤◌, length, Some, None, Ok, Err, Option, Result}
use Rattle.formats.specs.Refusals.{Refuses}
use Rattle.formats.specs.Value.{Value}
use Rattle.formats.specs.declared.fault.Fault.{Fault}
use Rattle.sums.specs.Sums.{value}
use Rattle.terms.specs.Offers.{Offer, refusal, terms}
use Rattle.terms.specs.Terms.{exact_sum}
use Rattle.registers.specs.Calls.{limit}
use Rattle.registers.specs.declared.batch.Batch.{Batch}

-- the terms of an offer together, by their number and their total, or its refusal
abbrev pub Comes : {T : Type 0} → (T → ℕ) → (T → Value) → Offer → Result T Fault → Type 0
Comes number total (refusal n place) (Ok t) = ⊥
Comes number total (refusal n place) (Err f) = Refuses n place f
Comes number total (terms ts) (Ok t) = (number t ≡ length ts) × (total t ≡ exact_sum ts)
Comes number total (terms ts) (Err f) = ⊥

abbrev pub Gathers : Offer → Result Batch Fault → Type 0
Gathers = Comes (λ b. b.count) (λ b. value b.sum)

-- a count with more terms, or none past the limit
abbrev pub Grows : ℕ → ℕ → Option ℕ → Type 0
Grows n more (Some c) = (c ≡ n + more) × (c ≤ limit)
Grows n more None = limit < n + more
