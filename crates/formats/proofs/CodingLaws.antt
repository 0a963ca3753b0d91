-- What the codes of a sign bit over magnitudes read as.
use Rattle.std.proofs.Common.{◌≡◌, ℕ, ◌+◌, ◌-◌, ◌%◌, ◌^◌, ◌<◌, ◌≤◌, ◌≢◌, Bool, true, false, cond, pos, neg_ℤ, Ok, refl, sym, ap, ◌∙◌, ⊎_elim, mod-eq_of_lt, mod-lt, arith}
use Rattle.std.proofs.Math.Nat.{mod-eq-sub-mod}
use Rattle.std.proofs.lemmas.Bool.{cases_lt, cases_eq}
use Rattle.layout.specs.Layouts.{StandsIn}
use Rattle.layout.specs.Sizes.{bottom}
use Rattle.layout.specs.declared.Size.{Size}
use Rattle.layout.proofs.SizeLaws.{size_zero}
use Rattle.formats.specs.Codings.{Means}
use Rattle.formats.specs.Meaning.{Meaning}
use Rattle.formats.specs.Readings.{Decodes}
use Rattle.formats.specs.SignLaws.{decodes}
use Rattle.formats.specs.Signs.{size_in, Joined}
use Rattle.formats.specs.Value.{nan, infinite, finite, signed, finer}
use Rattle.formats.specs.declared.reading.Dyadic.{Dyadic}
use Rattle.formats.specs.declared.reading.Reading.TheVariants.{Nan, PositiveInfinity, NegativeInfinity, Finite}
use Rattle.formats.specs.declared.signs.SignMagnitude.{SignMagnitude}

-- a code from the sign bit up is the sign bit and a magnitude
over : (c sign : ℕ) → sign ≤ c → c < sign + sign → c % sign + sign ≡ c
over c sign le lt =
    let short : c - sign < sign = omega arith in
    let e : c % sign ≡ c - sign = mod-eq-sub-mod le ∙ mod-eq_of_lt short in
    omega arith

-- the code is the magnitude with the sign bit where it has that
parted : (c sign : ℕ) (negative : Bool) → (negative ≡ true → sign ≤ c) → (negative ≡ false → c < sign) → c < sign + sign → c ≡ c % sign + cond negative sign 0
parted c sign true high low lt = sym (over c sign (high refl) lt)
parted c sign false high low lt = omega (arith, mod-eq_of_lt (low refl))

module _ (m : Meaning) (s : SignMagnitude) (means : Means m s) (c sign : ℕ) (is : sign ≡ 2 ^ (s.width - 1)) (inside : c < 2 ^ s.width) where
  same : sign ≡ 2 ^ (m.width - 1)
  same = is ∙ ap (λ w. 2 ^ (w - 1)) means.width

  fits : c < 2 ^ m.width
  fits = rw means.width at inside

  twofold : c < sign + sign
  twofold = omega (arith, means.finite.double, same, fits)

  is_nan : m.decode c ≡ nan → Decodes m c (Ok Nan)
  is_nan e = (fits, sym (ap (finer 96) e), tt)

  -- the code that is answered for NaN, and those past infinity's
  pub reads_nan : c ≡ s.nan → Decodes m c (Ok Nan)
  reads_nan e = is_nan (ap m.decode (e ∙ sym means.specials.nan_code) ∙ means.specials.nan_read.1)

  pub reads_past : 0 < sign → s.magnitudes.count < c % sign → Decodes m c (Ok Nan)
  reads_past some past =
      let short : c % sign < sign = mod-lt c some in
      let at = λ (negative : Bool). rw (← same) at (means.specials.past negative (c % sign) past (rw (← same) short)) in
      is_nan
      (⊎_elim
      (λ l. ap m.decode (parted c sign false (λ e. absurd (cc)) (λ _. l) twofold) ∙ at false)
      (λ g. ap m.decode (parted c sign true (λ _. g) (λ e. absurd (cc)) twofold) ∙ at true)
      (cases_lt c sign))

  reads : (negative : Bool) → (negative ≡ true → sign ≤ c) → (negative ≡ false → c < sign) → c ≢ s.nan → c % sign < s.magnitudes.count → m.decode c ≡ finite (signed negative (size_in m (c % sign)))
  reads false high low other lt = let e = mod-eq_of_lt (low refl) in rw e (means.finite.positive c (rw e at lt))
  reads true high low other lt =
      let whole : c ≡ 2 ^ (m.width - 1) + c % sign = omega (arith, over c sign (high refl) twofold, same) in
      ⊎_elim
      (λ z. let at : c ≡ 2 ^ (m.width - 1) = omega arith in
      let none : size_in m (c % sign) ≡ 0 = ap (size_in m) z ∙ size_zero m.precision (bottom m.least) (omega (arith, means.finite.precise)) in
      ap m.decode at ∙ means.specials.zero (λ e. other (at ∙ e)) ∙ sym (ap (λ n. finite (neg_ℤ (pos n))) none))
      (λ n. ap m.decode whole ∙ means.finite.negative (c % sign) (omega arith) lt)
      (cases_eq (c % sign) 0)

  pub reads_finite : (negative : Bool) (z : Size) (d : Dyadic) → (negative ≡ true → sign ≤ c) → (negative ≡ false → c < sign) → c ≢ s.nan → c % sign < s.magnitudes.count → StandsIn s.magnitudes (c % sign) z → Joined negative z d → Decodes m c (Ok (Finite d))
  reads_finite negative z d high low other lt stands joined =
      decodes m c (c % sign) negative z d fits (reads negative high low other lt) (rw (means.precision, means.least) at stands) joined

  -- infinity's codes come after the finite ones
  infinite_at : (negative : Bool) → (negative ≡ true → sign ≤ c) → (negative ≡ false → c < sign) → s.magnitudes.count ≡ c % sign → m.decode c ≡ infinite negative
  infinite_at negative high low e =
      ap m.decode (parted c sign negative high low twofold ∙ rw (← e, same) (sym (means.specials.infinite_code negative)))
      ∙ (means.specials.infinite_read negative).1

  pub reads_infinite : c < sign → s.magnitudes.count ≡ c % sign → Decodes m c (Ok PositiveInfinity)
  reads_infinite low e = (fits, sym (ap (finer 96) (infinite_at false (λ no. absurd (cc)) (λ _. low) e)), tt)

  pub reads_negative_infinite : sign ≤ c → s.magnitudes.count ≡ c % sign → Decodes m c (Ok NegativeInfinity)
  reads_negative_infinite high e = (fits, sym (ap (finer 96) (infinite_at true (λ _. high) (λ no. absurd (cc)) e)), tt)
