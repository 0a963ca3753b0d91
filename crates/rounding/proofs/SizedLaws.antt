-- The rounded size: it is one of the two neighbours, it keeps order, and where the rule is nearest none is nearer.
use Rattle.std.proofs.Common.{◌≡◌, ℕ, ◌+◌, ◌-◌, ◌*◌, ◌^◌, ◌<◌, ◌≤◌, Bool, true, false, cond, not, ◌&&◌, eqb, ◌⊎◌, refl, inl, inr, ⊎_elim, arith, rules, pow_pos}
use native.Mathlib.Nat.{max-le, le-max_left, le-max_right}
use Rattle.layout.specs.Digits.{digits}
use Rattle.layout.specs.Sizes.{bottom, Shaped}
use Rattle.layout.proofs.DigitLaws.{digits_mono}
use Rattle.layout.proofs.SizeLaws.{twice}
use Rattle.formats.specs.Meaning.{Meaning, Lawful}
use Rattle.sums.specs.Cuts.{remainder_of}
use Rattle.rounding.specs.Rule.{Rule, Monotone, NearestAt}
use Rattle.rounding.specs.Projection.{last_place, significand_of, left_of, is_odd, goes_away, rounded}
use Rattle.rounding.proofs.CellLaws.{Cell, cell_at, cell_order, cell_exact, nothing_between, lower_shaped, upper_shaped, shaped_finer}

-- a size in units of 2^-96 that the precision has
abbrev pub Fine : Meaning → ℕ → Type 0
Fine m n = Shaped m.precision (bottom m.least + 64) n

-- the two neighbours of a size
abbrev lower : Meaning → ℕ → ℕ
lower m n = significand_of m n * 2 ^ last_place m n

abbrev upper : Meaning → ℕ → ℕ
upper m n = significand_of m n * 2 ^ last_place m n + 2 ^ last_place m n

-- what the rule says of a size
abbrev says : Meaning → Rule → Bool → ℕ → Bool
says m rule negative n = rule.away negative (is_odd (significand_of m n)) (remainder_of (left_of m n) (2 ^ (last_place m n - 1)))

abbrev Toward : Meaning → Rule → Bool → ℕ → Type 0
Toward m rule negative n = (rounded m rule negative n ≡ lower m n) × ((left_of m n ≡ 0) ⊎ (says m rule negative n ≡ false))

abbrev Away : Meaning → Rule → Bool → ℕ → Type 0
Away m rule negative n = (rounded m rule negative n ≡ upper m n) × (0 < left_of m n) × (says m rule negative n ≡ true)

picked : (left s e : ℕ) (a : Bool) → let r = cond (not (eqb left 0) && a) (s + 1) s * 2 ^ e in ((r ≡ s * 2 ^ e) × ((left ≡ 0) ⊎ (a ≡ false))) ⊎ ((r ≡ s * 2 ^ e + 2 ^ e) × (0 < left) × (a ≡ true))
picked y0 s e a = search rules

pub rounded_ways : (m : Meaning) (rule : Rule) (negative : Bool) (n : ℕ) → Toward m rule negative n ⊎ Away m rule negative n
unfolding rounded goes_away
rounded_ways m rule negative n = search rules

module _ (rule : Rule) (negative odd : Bool) where
  -- where the rule is nearest, it says "toward" only up to the half, and "away" only from there
  toward_half : (l h : ℕ) → NearestAt rule negative odd → rule.away negative odd (remainder_of l h) ≡ false → l ≤ h
  toward_half l h nearest e = search rules

  away_half : (l h : ℕ) → NearestAt rule negative odd → rule.away negative odd (remainder_of l h) ≡ true → h ≤ l
  away_half l h nearest e = search rules

  -- a larger remainder is never turned back
  away_rises : (l l' h : ℕ) → Monotone rule → l ≤ l' → rule.away negative odd (remainder_of l h) ≡ true → rule.away negative odd (remainder_of l' h) ≡ true
  away_rises l l' h mono le e = search rules

place_rises : (m : Meaning) (n n' : ℕ) → n ≤ n' → last_place m n ≤ last_place m n'
unfolding last_place
place_rises m n n' le =
    let b = bottom m.least + 64 in
    let d = digits_mono n n' le in
    max-le (le-max_left b (digits n' - m.precision)) (omega (arith, le-max_right b (digits n' - m.precision)))

module _ (m : Meaning) (laws : Lawful m) where
  precise : 1 ≤ m.precision
  precise = search rules

  place : (n : ℕ) → Cell m.precision (bottom m.least + 64) n (last_place m n) (significand_of m n) (left_of m n)
  unfolding last_place significand_of left_of
  place n = cell_at m.precision (bottom m.least + 64) n precise

  -- a significand of zero has the least exponent
  pub place_some : (n : ℕ) → (0 < significand_of m n) ⊎ (last_place m n ≡ bottom m.least + 64)
  place_some n = let cell = place n in let some = pow_pos (m.precision - 1) in search rules

  between : (n v : ℕ) → Fine m v → (v ≤ lower m n) ⊎ (upper m n ≤ v)
  between n = nothing_between precise (place n)

  pub largest_fine : Fine m (m.largest * 2 ^ 64)
  largest_fine = shaped_finer m.precision (bottom m.least) m.largest laws.largest_read.0

  module _ (rule : Rule) (negative : Bool) where
    pub rounded_fine : (n : ℕ) → Fine m (rounded m rule negative n)
    rounded_fine n = let lower = lower_shaped precise (place n) in let upper = upper_shaped precise (place n) in let w = rounded_ways m rule negative n in search rules

    pub rounded_exact : (n : ℕ) → Fine m n → rounded m rule negative n ≡ n
    rounded_exact n fine = let z = cell_exact precise (place n) fine in let is = (place n).is in let w = rounded_ways m rule negative n in search rules

    -- no size of the precision lies between a size and the rounded one
    pub rounded_most : (n v : ℕ) → Fine m v → n ≤ v → rounded m rule negative n ≤ v
    rounded_most n v fine le = let apart = between n v fine in let is = (place n).is in let w = rounded_ways m rule negative n in search rules

    rounded-lower : (n : ℕ) → lower m n ≤ rounded m rule negative n
    rounded-lower n = let w = rounded_ways m rule negative n in search rules

    rounded-upper : (n : ℕ) → rounded m rule negative n ≤ upper m n
    rounded-upper n = let w = rounded_ways m rule negative n in search rules

    says_rises : Monotone rule → (n n' : ℕ) → last_place m n ≡ last_place m n' → significand_of m n ≡ significand_of m n' → left_of m n ≤ left_of m n' → says m rule negative n ≡ true → says m rule negative n' ≡ true
    says_rises mono n n' e s left away = search rules

    rises_within : Monotone rule → (n n' : ℕ) → last_place m n ≡ last_place m n' → significand_of m n ≡ significand_of m n' → left_of m n ≤ left_of m n' → rounded m rule negative n ≤ rounded m rule negative n'
    rises_within mono n n' e s left =
        let lo : lower m n ≡ lower m n' = rw (e, s) refl in
        let unit : 2 ^ last_place m n ≡ 2 ^ last_place m n' = rw e refl in
        let w = rounded_ways m rule negative n in
        let w' = rounded_ways m rule negative n' in
        let rises = says_rises mono n n' e s left in
        search rules

    pub rounded_rises : Monotone rule → (n n' : ℕ) → n ≤ n' → rounded m rule negative n ≤ rounded m rule negative n'
    rounded_rises mono n n' le =
        let apart = cell_order precise (place n) (place n') (place_rises m n n' le) le in
        let above = rounded-upper n in
        let below = rounded-lower n' in
        let within = rises_within mono n n' in
        search rules

    -- how far the rounded size is, and that none is nearer
    pub gap : (n : ℕ) → NearestAt rule negative (is_odd (significand_of m n)) → (g : ℕ) × (rounded m rule negative n ≤ n + g) × (n ≤ rounded m rule negative n + g) × (g ≤ n) × ((v : ℕ) → Fine m v → (v + g ≤ n) ⊎ (n + g ≤ v))
    gap n nearest =
        let is = (place n).is in
        let below = (place n).below in
        let odd = is_odd (significand_of m n) in
        let half = 2 ^ (last_place m n - 1) in
        let two = twice (last_place m n) (omega (arith, (place n).above)) in
        ⊎_elim
        (λ t.
        let most : left_of m n ≤ half = ⊎_elim (λ z. omega arith) (toward_half rule negative odd (left_of m n) half nearest) t.1 in (
          left_of m n,
          omega arith,
          omega arith,
          omega arith,
          λ v fine. ⊎_elim (λ l. inl (omega arith)) (λ l. inr (omega arith)) (between n v fine),
        ))
        (λ t.
        let least : half ≤ left_of m n = away_half rule negative odd (left_of m n) half nearest t.2 in (
          2 ^ last_place m n - left_of m n,
          omega arith,
          omega arith,
          omega arith,
          λ v fine. ⊎_elim (λ l. inl (omega arith)) (λ l. inr (omega arith)) (between n v fine),
        ))
        (rounded_ways m rule negative n)
