-- The names of the formats.
use Rattle.std.specs.Prelude.{◌≡◌, ℕ, ◌+◌, ◌-◌, ◌≤◌, List, [], ◌∷◌, ◌++◌, Some, None, codes, Option, ◌≢◌}
use Rattle.formats.specs.P3109.{Exists}
use Rattle.formats.specs.declared.any.AnyFormat.{AnyFormat}
use Rattle.formats.specs.declared.p3109.P3109.{P3109}
use Rattle.formats.specs.declared.any.AnyFormat.TheVariants.{OfBinary16, OfP3109}

-- binary16, and binaryKpP
abbrev pub name_of : AnyFormat → List ℕ
name_of (OfBinary16 f) = codes "binary16"
name_of (OfP3109 f) = codes "binary" ++ ((48 + f.width) ∷ (codes "p" ++ ((48 + f.precision) ∷ [])))

-- the format of a name, or no format has it
abbrev pub ByName : List ℕ → Option AnyFormat → Type 0
ByName name (Some f) = name ≡ name_of f
ByName name None = (f : AnyFormat) → name ≢ name_of f

-- a width and a precision, as they stand in a name
abbrev pub sizes_of : P3109 → List ℕ
sizes_of f = (48 + f.width) ∷ (112 ∷ ((48 + f.precision) ∷ []))

abbrev pub BySizes : List ℕ → Option P3109 → Type 0
BySizes sizes (Some f) = sizes ≡ sizes_of f
BySizes sizes None = (f : P3109) → sizes ≢ sizes_of f

-- the same, by the two digits
abbrev pub ByDigits : ℕ → ℕ → Option P3109 → Type 0
ByDigits width precision (Some f) = (width ≡ 48 + f.width) × (precision ≡ 48 + f.precision)
ByDigits width precision None = 48 ≤ width → 48 ≤ precision → Exists (width - 48) (precision - 48) → ⊥

-- the name of a width and a precision
abbrev pub with_sizes : ℕ → ℕ → List ℕ
with_sizes width precision = codes "binary" ++ ((48 + width) ∷ (112 ∷ ((48 + precision) ∷ [])))
