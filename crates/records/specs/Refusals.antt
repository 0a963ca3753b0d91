-- Refusals by number, layer and place.
use Rattle.std.specs.Prelude.{ℕ, ◌+◌}
use Rattle.formats.specs.Refusals.{number_of, place_of}
use Rattle.records.specs.declared.fault.RecordFault.{RecordFault}
use Rattle.records.specs.declared.fault.RecordFault.TheVariants.{BodyLength, NoSuchNumber, Arithmetic}

-- the layer where a refusal arose
pub data Layer : Type 0 where
  in_arithmetic : Layer
  in_record : Layer
  in_sheet : Layer

pub record Refusal : Type 0 where
  pub number : ℕ
  pub layer : Layer
  pub place : ℕ

abbrev pub refusal : ℕ → Layer → ℕ → Refusal
refusal number layer place = record { number = number; layer = layer; place = place }

-- the same refusal, its place counted from so many bytes before
abbrev pub shifted : ℕ → Refusal → Refusal
shifted before r = refusal r.number r.layer (before + r.place)

-- a record's fault, its place counted from the record's first byte; an arithmetic fault has its own number, and its place from the offset on
abbrev pub refusal_of : RecordFault → Refusal
refusal_of BodyLength = refusal 9 in_record 0
refusal_of (NoSuchNumber offset) = refusal 10 in_record offset
refusal_of (Arithmetic offset f) = refusal (number_of f) in_arithmetic (offset + place_of f)
