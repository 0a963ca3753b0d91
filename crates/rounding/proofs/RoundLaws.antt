-- The projection keeps order, readings and nearness.
use Rattle.std.proofs.Common.{◌≡◌, ℕ, suc, ◌+◌, ◌*◌, ◌/◌, ◌^◌, ◌<◌, ◌≤◌, Bool, true, false, not, ◌⊎◌, ℤ, pos, negsuc, ◌-ℤ◌, ◌*ℤ◌, nat_abs, sym, ap, ◌∙◌, ⊎_elim, arith, rules}
use lib.Signed.{non_neg}
use Rattle.std.proofs.lemmas.Bool.{ltb-true}
use Rattle.std.proofs.lemmas.Int.{ints}
use Rattle.layout.specs.Sizes.{bottom}
use Rattle.formats.specs.Meaning.{Meaning, Lawful, Representable, Coded}
use Rattle.formats.specs.Value.{Value, nan, infinite, finite, signed, less}
use Rattle.formats.specs.ValueLaws.{signed-*, abs-*, abs_signed, signed_abs}
use Rattle.rounding.specs.Laws.{KeepsOrder, KeepsNearest, KeepsReadings, read_back}
use Rattle.rounding.specs.Projection.{rounded, end, of_infinity, of_overflow, of_size, answered}
use Rattle.rounding.specs.Rule.{Rule, Monotone}
use Rattle.rounding.specs.declared.answers.Saturation.{Saturation}
use Rattle.rounding.proofs.CellLaws.{shaped_finer, shaped_coarser}
use Rattle.rounding.proofs.SizedLaws.{largest_fine, rounded_fine, rounded_exact, rounded_most, rounded_rises, gap}

-- the rounded size is within the end and answered, or the end is passed
abbrev pub Within : Meaning → Rule → Saturation → Bool → ℕ → Type 0
Within m rule mode negative n =
    (rounded m rule negative n ≤ m.largest * 2 ^ 64) × (of_size m rule mode negative n ≡ finite (signed negative (rounded m rule negative n / 2 ^ 64)))

abbrev pub Beyond : Meaning → Rule → Saturation → Bool → ℕ → Type 0
Beyond m rule mode negative n =
    (m.largest * 2 ^ 64 < rounded m rule negative n) × (of_size m rule mode negative n ≡ of_overflow m rule mode negative)

pub size_ways : (m : Meaning) (rule : Rule) (mode : Saturation) (negative : Bool) (n : ℕ) → Within m rule mode negative n ⊎ Beyond m rule mode negative n
unfolding of_size
size_ways m rule mode negative n = search rules

sign_finer : (z : ℤ) → non_neg (z *ℤ pos (2 ^ 64)) ≡ non_neg z
sign_finer y0 = search rules

-- a value at a distance g from x, where each size of v is at least as far
near : (x v : ℤ) (r g : ℕ) → r ≤ nat_abs x + g → nat_abs x ≤ r + g → g ≤ nat_abs x → (nat_abs v + g ≤ nat_abs x) ⊎ (nat_abs x + g ≤ nat_abs v) → nat_abs (signed (not (non_neg x)) r -ℤ x) ≤ nat_abs (v -ℤ x)
near y0 v r g a b c d = search rules

module _ (m : Meaning) (laws : Lawful m) where
  end_coded : (negative : Bool) → Coded m (end m negative)
  end_coded negative = search rules

  size_coded : (rule : Rule) (mode : Saturation) (negative : Bool) (n : ℕ) → Coded m (of_size m rule mode negative n)
  size_coded rule mode negative n =
      ⊎_elim
      (λ t.
      let k = rounded m rule negative n / 2 ^ 64 in
      let (shaped, is) = shaped_coarser m.precision (bottom m.least) (rounded m rule negative n) (rounded_fine m laws rule negative n) in
      rw t.1 (laws.finite_read (signed negative k) (rw (abs_signed negative k) (shaped, omega arith))))
      (λ t. rw t.1 (grind (arith, ints)))
      (size_ways m rule mode negative n)

  pub answered_coded : (rule : Rule) (mode : Saturation) (x : Value) → Coded m (answered m rule mode x)
  answered_coded rule mode nan = laws.nan_read
  answered_coded rule mode (infinite negative) = grind (arith, ints)
  answered_coded rule mode (finite x) = size_coded rule mode (not (non_neg x)) (nat_abs x)

  -- the code that is answered reads as the value that is answered
  read_back_lem : (rule : Rule) (mode : Saturation) (x : Value) → read_back m rule mode x ≡ answered m rule mode x
  read_back_lem rule mode x = (answered_coded rule mode x).1

  answered_exact : (rule : Rule) (mode : Saturation) (z : ℤ) → Representable m (nat_abs z) → answered m rule mode (finite (z *ℤ pos (2 ^ 64))) ≡ finite z
  answered_exact rule mode z (shaped, most) =
      let negative = not (non_neg z) in
      let n = nat_abs z * 2 ^ 64 in
      let is = rounded_exact m laws rule negative n (shaped_finer m.precision (bottom m.least) (nat_abs z) shaped) in
      let back : rounded m rule negative n / 2 ^ 64 ≡ nat_abs z = omega arith in
      let w = size_ways m rule mode negative n in
      rw (sign_finer z, abs-* z (2 ^ 64)) (grind (arith, ints, signed_abs z))

pub keeps_readings : (m : Meaning) (rule : Rule) (mode : Saturation) → Lawful m → KeepsReadings m rule mode
keeps_readings m rule mode laws z shown = rw (answered_exact m laws rule mode z shown) (search rules)

pub keeps_nearest : (m : Meaning) (rule : Rule) (mode : Saturation) → Lawful m → KeepsNearest m rule mode
keeps_nearest m rule mode laws x most nearest =
    let negative = not (non_neg x) in
    let n = nat_abs x in
    let size = rounded m rule negative n in
    let r = signed negative (size / 2 ^ 64) in
    let within : size ≤ m.largest * 2 ^ 64 = rounded_most m laws rule negative n (m.largest * 2 ^ 64) (largest_fine m laws) most in
    let is : answered m rule mode (finite x) ≡ finite r = ⊎_elim (λ t. t.1) (λ t. absurd (omega arith)) (size_ways m rule mode negative n) in
    let whole = (shaped_coarser m.precision (bottom m.least) size (rounded_fine m laws rule negative n)).1 in
    let fine : r *ℤ pos (2 ^ 64) ≡ signed negative size = signed-* negative (size / 2 ^ 64) (2 ^ 64) ∙ ap (signed negative) whole in
    let (g, a, b, c, apart) = gap m laws rule negative n nearest in (
      r,
      read_back_lem m laws rule mode (finite x) ∙ is,
      λ code w lt e.
          let shown = shaped_finer m.precision (bottom m.least) (nat_abs w) (laws.only_those code w lt e).0 in
          let v = w *ℤ pos (2 ^ 64) in
          let d = rw (sym (abs-* w (2 ^ 64))) at (apart (nat_abs w * 2 ^ 64) shown) in
          rw fine (near x v size g a b c d),
    )

-- on the side of a sign, v is not farther out than w
abbrev Inside : Bool → Value → Value → Type 0
Inside true v w = less v w ≡ false
Inside false v w = less w v ≡ false

-- v is zero or has the sign
abbrev Sided : Bool → Value → Type 0
Sided negative v = Inside negative (finite (pos 0)) v

across : (v w : Value) → Sided true v → Sided false w → less w v ≡ false
across v w a b = search rules

module _ (m : Meaning) (laws : Lawful m) (rule : Rule) (mode : Saturation) where
  size_inside : (negative : Bool) (n : ℕ) → Inside negative (of_size m rule mode negative n) (of_infinity m mode negative)
  size_inside negative n = let w = size_ways m rule mode negative n in search rules

  sizes_inside : Monotone rule → (negative : Bool) (n n' : ℕ) → n ≤ n' → Inside negative (of_size m rule mode negative n) (of_size m rule mode negative n')
  sizes_inside mono negative n n' le =
      let rises = rounded_rises m laws rule negative mono n n' le in
      let w = size_ways m rule mode negative n in
      let w' = size_ways m rule mode negative n' in
      search rules

  infinity_sided : (way : Saturation) (negative : Bool) → Sided negative (of_infinity m way negative)
  infinity_sided y0 negative = search rules

  size_sided : (negative : Bool) (n : ℕ) → Sided negative (of_size m rule mode negative n)
  size_sided negative n = let w = size_ways m rule mode negative n in search rules

  answers_ordered : Monotone rule → (x y : Value) → less x y ≡ true → less (answered m rule mode y) (answered m rule mode x) ≡ false
  answers_ordered mono nan y lt = search rules
  answers_ordered mono (infinite s) nan lt = search rules
  answers_ordered mono (infinite s) (infinite t) lt = search rules
  answers_ordered mono (infinite true) (finite (pos b)) lt = search (rules, across, infinity_sided, size_sided)
  answers_ordered mono (infinite true) (finite (negsuc b)) lt = size_inside true (suc b)
  answers_ordered mono (infinite false) (finite y) lt = search rules
  answers_ordered mono (finite x) nan lt = search rules
  answers_ordered mono (finite x) (infinite true) lt = search rules
  answers_ordered mono (finite (pos a)) (infinite false) lt = size_inside false a
  answers_ordered mono (finite (negsuc a)) (infinite false) lt = search (rules, across, infinity_sided, size_sided)
  answers_ordered mono (finite (pos a)) (finite (pos b)) lt = sizes_inside mono false a b (omega (arith, ltb-true a b lt))
  answers_ordered mono (finite (pos a)) (finite (negsuc b)) lt = search rules
  answers_ordered mono (finite (negsuc a)) (finite (pos b)) lt = search (rules, across, size_sided)
  answers_ordered mono (finite (negsuc a)) (finite (negsuc b)) lt = sizes_inside mono true (suc b) (suc a) (omega (arith, ltb-true b a lt))

pub keeps_order : (m : Meaning) (rule : Rule) (mode : Saturation) → Lawful m → Monotone rule → KeepsOrder m rule mode
keeps_order m rule mode laws monotone x y a b lt = rw (read_back_lem m laws rule mode x, read_back_lem m laws rule mode y) (answers_ordered m laws rule mode monotone x y lt)
