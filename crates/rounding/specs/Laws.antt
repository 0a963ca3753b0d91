-- What the projection keeps, for every lawful meaning.
use Rattle.std.specs.Prelude.{◌≡◌, ℕ, ◌*◌, ◌^◌, ◌<◌, ◌≤◌, true, false, not, ℤ, pos, ◌-ℤ◌, ◌*ℤ◌, unsigned_abs}
use Rattle.std.specs.Int.Signed.{non_neg}
use Rattle.formats.specs.Meaning.{Meaning, Representable}
use Rattle.formats.specs.Value.{Value, finite, is_nan, less}
use Rattle.rounding.specs.Projection.{is_odd, significand_of, projected}
use Rattle.rounding.specs.Rule.{Rule, NearestAt}
use Rattle.rounding.specs.declared.answers.Mark.TheVariants.{Exact}
use Rattle.rounding.specs.declared.answers.Saturation.{Saturation}

-- the reading of the code that is answered, in units of 2^-32
abbrev pub read_back : Meaning → Rule → Saturation → Value → Value
read_back m rule mode x = m.decode (projected m rule mode x).0

-- of two values, neither NaN, the lesser is never answered the greater reading
abbrev pub KeepsOrder : Meaning → Rule → Saturation → Type 0
KeepsOrder m rule mode = (x y : Value) → is_nan x ≡ false → is_nan y ≡ false → less x y ≡ true →
    less (read_back m rule mode y) (read_back m rule mode x) ≡ false

-- how far a reading of w units of 2^-32 is from x units of 2^-96
abbrev pub distance : ℤ → ℤ → ℕ
distance w x = unsigned_abs (w *ℤ pos (2 ^ 64) -ℤ x)

-- the reading r is answered for x, and no finite reading of the format is nearer
abbrev pub AnswersNearest : Meaning → Rule → Saturation → ℤ → Type 0
AnswersNearest m rule mode x = (r : ℤ) × (read_back m rule mode (finite x) ≡ finite r)
    × ((c : ℕ) (w : ℤ) → c < 2 ^ m.width → m.decode c ≡ finite w → distance r x ≤ distance w x)

-- a value within the finite ends, where the rule is nearest at its sign and parity
abbrev pub KeepsNearest : Meaning → Rule → Saturation → Type 0
KeepsNearest m rule mode = (x : ℤ) → unsigned_abs x ≤ m.largest * 2 ^ 64 →
    NearestAt rule (not (non_neg x)) (is_odd (significand_of m (unsigned_abs x))) → AnswersNearest m rule mode x

-- a finite value that the format has is answered by its own code, exactly
abbrev pub KeepsReadings : Meaning → Rule → Saturation → Type 0
KeepsReadings m rule mode = (z : ℤ) → Representable m (unsigned_abs z) →
    projected m rule mode (finite (z *ℤ pos (2 ^ 64))) ≡ (m.encode (finite z), Exact)

-- a finite value within the finite ends is answered a nearest reading
abbrev pub NearestFor : Meaning → Rule → Saturation → Value → Type 0
NearestFor m rule mode v = (x : ℤ) → v ≡ finite x → unsigned_abs x ≤ m.largest * 2 ^ 64 → AnswersNearest m rule mode x
