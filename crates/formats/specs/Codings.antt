-- What a sign bit over magnitudes means.
use Rattle.std.specs.Prelude.{◌≡◌, ◌-◌, ◌^◌}
use Rattle.formats.specs.Meaning.{Meaning}
use Rattle.formats.specs.Signs.{IsSignMagnitude, HasSpecials}
use Rattle.formats.specs.declared.signs.SignMagnitude.{SignMagnitude}

-- the codes are those of the meaning
pub record Means (m : Meaning) (s : SignMagnitude) : Type 0 where
  pub width : s.width ≡ m.width
  pub precision : s.magnitudes.precision ≡ m.precision
  pub least : s.magnitudes.least_exponent ≡ m.least
  pub finite : IsSignMagnitude m (2 ^ (m.width - 1)) s.magnitudes.count
  pub specials : HasSpecials m (2 ^ (m.width - 1)) s.magnitudes.count s.nan
