-- What a record asks for: a register to be made new, or a call.
use Rattle.std.specs.Prelude.{ℕ}
use Rattle.registers.specs.Histories.{Call}
use Rattle.records.specs.Refusals.{Refusal}

pub data Entry : Type 0 where
  clearing : ℕ → Entry
  calling : Call → Entry

-- a refusal, or what the record asks for
pub data Parsed : Type 0 where
  refused : Refusal → Parsed
  asks : Entry → Parsed
