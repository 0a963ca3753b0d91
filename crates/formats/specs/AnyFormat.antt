-- The formats by their format byte.
use Rattle.std.specs.Prelude.{◌≡◌, ℕ, ◌/◌, ◌%◌, cond, ◌⊎◌, Ok, Err, Result, ◌==◌}
use Rattle.formats.specs.Binary16.{binary16}
use Rattle.formats.specs.Meaning.{Meaning}
use Rattle.formats.specs.P3109.{Exists, p3109}
use Rattle.formats.specs.Refusals.{Refuses}
use Rattle.formats.specs.declared.any.AnyFormat.{AnyFormat}
use Rattle.formats.specs.declared.any.AnyFormat.TheVariants.{OfBinary16, OfP3109}
use Rattle.formats.specs.declared.fault.Fault.{Fault}

abbrev pub meaning_of : AnyFormat → Meaning
meaning_of (OfBinary16 f) = binary16
meaning_of (OfP3109 f) = p3109 f.width f.precision

-- 0 for binary16, else 16 × K + P
abbrev pub byte_meaning : ℕ → Meaning
byte_meaning b = cond (b == 0) binary16 (p3109 (b / 16) (b % 16))

abbrev pub IsFormatByte : ℕ → Type 0
IsFormatByte b = (b ≡ 0) ⊎ Exists (b / 16) (b % 16)

-- the format of a byte, or refusal 1 at a byte that has none
abbrev pub ByByte : ℕ → Result AnyFormat Fault → Type 0
ByByte b (Ok f) = IsFormatByte b × (meaning_of f ≡ byte_meaning b)
ByByte b (Err e) = Refuses 1 0 e × (IsFormatByte b → ⊥)
