-- What the answers of a format's two functions mean.
use Rattle.std.specs.Prelude.{◌≡◌, ℕ, ◌*◌, ◌^◌, ◌<◌, ◌≤◌, true, false, pos, ◌+ℤ◌, Ok, Err, Result, ◌≢◌, unsigned_abs}
use Rattle.layout.specs.Codes.{Normalized}
use Rattle.formats.specs.Value.{Value, nan, infinite, finite, signed, finer}
use Rattle.formats.specs.Meaning.{Meaning}
use Rattle.formats.specs.Refusals.{Refuses}
use Rattle.formats.specs.declared.fault.Fault.{Fault}
use Rattle.formats.specs.declared.reading.Reading.{Reading}
use Rattle.formats.specs.declared.reading.Reading.TheVariants.{Nan, PositiveInfinity, NegativeInfinity, Finite}

-- the value of a reading, in units of 2^-128: the finest that an exponent of a signed byte reaches
abbrev pub fine : Reading → Value
fine Nan = nan
fine PositiveInfinity = infinite false
fine NegativeInfinity = infinite true
fine (Finite d) = finite (signed d.negative (d.significand * 2 ^ unsigned_abs (d.exponent +ℤ pos 128)))

-- a finite reading as the format itself writes it: S below 2^P, e from q to 31, S at least 2^(P-1) unless e is q,
-- and no sign at zero. A value has one such form.
abbrev pub Canonical : Meaning → Reading → Type 0
Canonical m Nan = Unit {0}
Canonical m PositiveInfinity = Unit {0}
Canonical m NegativeInfinity = Unit {0}
Canonical m (Finite d) =
    Normalized m.precision m.least d.significand d.exponent × (d.significand ≡ 0 → d.negative ≡ false)

-- "decode" at a code: its reading, or refusal 2 at a code of 2^K or more
abbrev pub Decodes : Meaning → ℕ → Result Reading Fault → Type 0
Decodes m c (Ok r) = (c < 2 ^ m.width) × (fine r ≡ finer 96 (m.decode c)) × Canonical m r
Decodes m c (Err f) = (2 ^ m.width ≤ c) × Refuses 2 0 f

-- "encode" at a reading: the code that the meaning has for it, or refusal 3 where no code reads so
abbrev pub Encodes : Meaning → Reading → Result ℕ Fault → Type 0
Encodes m r (Ok c) = (v : Value) × (finer 96 v ≡ fine r) × (c ≡ m.encode v) × (c < 2 ^ m.width) × (m.decode c ≡ v)
Encodes m r (Err f) = Refuses 3 0 f × ((c : ℕ) → c < 2 ^ m.width → finer 96 (m.decode c) ≢ fine r)
