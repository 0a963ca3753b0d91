-- A refusal of the arithmetic layer by its number and place.
use Rattle.std.specs.Prelude.{◌≡◌, ℕ}
use Rattle.formats.specs.declared.fault.Fault.{Fault}
use Rattle.formats.specs.declared.fault.Fault.TheVariants.{NoSuchFormat, CodeTooLarge, ValueNotRepresentable, ScaleOutOfRange, RegisterFull, NotWholeCodes}

abbrev pub number_of : Fault → ℕ
number_of NoSuchFormat = 1
number_of (CodeTooLarge place) = 2
number_of ValueNotRepresentable = 3
number_of ScaleOutOfRange = 4
number_of RegisterFull = 5
number_of NotWholeCodes = 6

abbrev pub place_of : Fault → ℕ
place_of NoSuchFormat = 0
place_of (CodeTooLarge place) = place
place_of ValueNotRepresentable = 0
place_of ScaleOutOfRange = 0
place_of RegisterFull = 0
place_of NotWholeCodes = 0

abbrev pub Refuses : ℕ → ℕ → Fault → Type 0
Refuses number place f = (number_of f ≡ number) × (place_of f ≡ place)
