-- The whole table of a format.
use Rattle.std.specs.Prelude.{◌≡◌, ℕ, ◌^◌, ◌<◌, false, List, ◌++◌, length, codes, decimal, slice_index_or}
use Rattle.std.specs.Fmt.{signed_decimal}
use Rattle.formats.specs.Meaning.{Meaning}
use Rattle.listing.specs.Numerals.{Decimal}
use Rattle.listing.specs.Rows.{Line}
use Rattle.listing.specs.declared.rows.Unlisted.{Unlisted}
use Rattle.listing.specs.declared.rows.Unlisted.TheVariants.{Refused, NoMemory}

-- the name with K, P, q and M
pub record Title (name : List ℕ) (m : Meaning) (text : List ℕ) : Type 0 where
  pub largest : List ℕ
  pub largest_is : Decimal false m.largest largest
  pub spelled : text ≡ name ++ (codes " K=" ++ (decimal m.width ++ (codes " P=" ++ (decimal m.precision ++ (codes " q=" ++ (signed_decimal m.least ++ (codes " M=" ++ largest)))))))

-- a line for each code below 2^K, in their order
pub record Complete {S : Type 0} (bytes : S → List ℕ) (m : Meaning) (lines : List S) : Type 0 where
  pub all : length lines ≡ 2 ^ m.width
  pub each : (c : ℕ) (none : S) → c < 2 ^ m.width → Line m c (bytes (slice_index_or lines c none))

-- the lines of the first codes
abbrev pub Listed : {S : Type 0} → (S → List ℕ) → Meaning → List S → ℕ → Type 0
Listed {S} bytes m lines count = (length lines ≡ count) × ((c : ℕ) (none : S) → c < count → Line m c (bytes (slice_index_or lines c none)))

-- only for want of memory
abbrev pub OnlyMemory : Unlisted → Type 0
OnlyMemory (Refused f) = ⊥
OnlyMemory NoMemory = Unit {0}
