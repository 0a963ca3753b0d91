-- The scale of a product.
use Rattle.std.specs.Prelude.{ℤ, pos, negsuc, ◌≤ℤ◌}

-- a scale is from -32 to 31
abbrev pub ScaleFits : ℤ → Type 0
ScaleFits s = (negsuc 31 ≤ℤ s) × (s ≤ℤ pos 31)
