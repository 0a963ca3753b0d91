-- Laws of the projection's steps.
use Rattle.std.proofs.Common.{◌≡◌, ℕ, suc, ◌+◌, ◌-◌, ◌*◌, ◌/◌, ◌%◌, ◌^◌, ◌<◌, ◌≤◌, max, Bool, true, false, cond, not, None, ◌⊎◌, pos, ℤ, ◌*ℤ◌, sym, refl, ap, ◌∙◌, ap₂, ⊎_elim, mod-lt, mul_assoc, suc-mul, add-one, arith, pow_pos, pow_mono, pow-add, shr_lt, rules}
use lib.Count.{count_leading_zeros}
use lib.Pow.{shl-shr}
use mir.Val.{bool_byte}
use Rattle.std.proofs.lemmas.Nat.{leading_top, mul-le}
use Rattle.std.proofs.lemmas.Int.{ints}
use Rattle.std.specs.Option.{is_some}
use Rattle.std.proofs.lemmas.Bool.{cases_lt}
use Rattle.layout.proofs.CodeLaws.{lowered}
use Rattle.layout.specs.Digits.{digits}
use Rattle.layout.specs.Sizes.{bottom}
use Rattle.layout.proofs.DigitLaws.{digits_below, pow_order}
use Rattle.layout.proofs.SizeLaws.{size_aligned}
use Rattle.formats.specs.Meaning.{Meaning, Lawful, Coded}
use Rattle.formats.specs.Readings.{fine}
use Rattle.formats.specs.Value.{Value, finite, signed, finer}
use Rattle.sums.specs.Cuts.{CutAt}
use Rattle.sums.specs.declared.magnitude.Cut.{Cut}
use Rattle.rounding.specs.Answers.{Answers, IsPlaced, Settles, beside, cut_mark, cut_away}
use Rattle.rounding.specs.Projection.{last_place, significand_of, left_of, goes_away, rounded, of_overflow, of_size, answered, projected, mark_of}
use Rattle.rounding.specs.Rule.{Rule}
use Rattle.rounding.specs.declared.answers.Mark.{Mark}
use Rattle.rounding.specs.declared.answers.Mark.TheVariants.{Exact}
use Rattle.rounding.specs.declared.answers.Saturation.{Saturation}
use Rattle.rounding.specs.declared.project.Answer.{Answer}
use Rattle.rounding.specs.declared.placed.Placed.{Placed}
use Rattle.rounding.proofs.RoundLaws.{size_ways, answered_coded}
use Rattle.rounding.proofs.SizedLaws.{largest_fine, rounded_most, place_some}

-- ±s × 2^e as a finer ±n
pub reads : (negative : Bool) (s e n k : ℕ) → s * 2 ^ e ≡ n * 2 ^ k → finite (signed negative (s * 2 ^ e)) ≡ finite (signed negative n *ℤ pos (2 ^ k))
reads negative s e n k is = search rules

-- s × 2^e, shifted by k
pub shifted : (s e k n : ℕ) → s * 2 ^ e ≡ n → s * 2 ^ (e + k) ≡ n * 2 ^ k
shifted s e k n is = ap (λ x. s * x) (pow-add 2 e k) ∙ sym (mul_assoc s (2 ^ e) (2 ^ k)) ∙ ap (λ x. x * 2 ^ k) is

module _ (m : Meaning) (laws : Lawful m) where
  -- the least exponent is below that of the largest value
  bottom_below : bottom m.least < 64
  bottom_below =
      let (s, k, is, short, bk) = laws.largest_read.0 in
      let some : 0 < s = ⊎_elim (λ l. l) (λ z. absurd (let e : s ≡ 0 = omega arith in omega (arith, laws.one, rw e at is))) (cases_lt 0 s) in
      omega (arith, pow_order k 64 (omega (arith, laws.below, mul-le 1 (2 ^ k) s (2 ^ k) some (omega arith))))

  -- the largest value, cut to its precision
  cut_end : (shift : ℕ) → shift ≡ 64 - count_leading_zeros 64 m.largest - m.precision → (m.largest / 2 ^ shift < 2 ^ 12) × (m.largest / 2 ^ shift * 2 ^ shift ≡ m.largest) × (shift < 64)
  cut_end shift is =
      let p = m.precision in
      let (j, top, reach, below) = leading_top 64 m.largest (omega (arith, laws.one)) laws.below in
      let (s, k, size, short, bk) = laws.largest_read.0 in
      let room : 2 ^ suc j ≤ 2 ^ (12 + shift) = pow_mono (omega (arith, laws.short)) in
      let sk : shift ≤ k =
      ⊎_elim
      (λ lt.
      let x : shift + (p - 1) ≡ j = omega (arith, laws.precise) in
      let far : 2 ^ j ≤ s * 2 ^ k = omega arith in
      size_aligned p s k shift (omega (arith, laws.precise)) short (rw x far))
      (λ z. omega arith)
      (cases_lt 0 shift) in
      let units : m.largest ≡ s * 2 ^ (k - shift) * 2 ^ shift = size ∙ sym (lowered s k shift sk) in
      let q : m.largest / 2 ^ shift ≡ s * 2 ^ (k - shift) = ap (λ x. x / 2 ^ shift) units ∙ shl-shr (s * 2 ^ (k - shift)) shift in
      (shr_lt 12 shift (omega arith), ap (λ x. x * 2 ^ shift) q ∙ sym units, omega arith)

  pub end_cut : (n p shift : ℕ) → n ≡ m.largest → p ≡ m.precision → shift ≡ 64 - count_leading_zeros 64 n - p → (n / 2 ^ shift < 2 ^ 12) × (n / 2 ^ shift * 2 ^ shift ≡ m.largest) × (shift < 64)
  end_cut n p shift most precision is = rw most (cut_end shift (is ∙ ap₂ (λ x y. 64 - count_leading_zeros 64 x - y) most precision))

  -- the place as the code has it
  pub place_is : (n d r : ℕ) → d ≡ digits n → d ≤ 256 → r ≡ max (d - m.precision) (bottom m.least + 64) → (r ≡ last_place m n) × (64 ≤ r) × (r < 256) × (n < 2 ^ (12 + r))
  unfolding last_place
  place_is n d r is top e =
      let b = bottom_below in
      let room : 2 ^ digits n ≤ 2 ^ (12 + r) = pow_mono (omega (arith, laws.short)) in
      (omega (arith, e, is), omega arith, omega (arith, laws.precise), omega (arith, digits_below n))

-- beyond the end, in units of 2^-96 and of 2^-32
pub beyond_place : (s place most : ℕ) → 128 ≤ place → 0 < s → most < 2 ^ 64 → most * 2 ^ 64 < s * 2 ^ place
beyond_place s place most h some lt =
    let far : 2 ^ 128 ≤ 2 ^ place = pow_mono h in
    let once : 1 * 2 ^ place ≤ s * 2 ^ place = mul-le 1 (2 ^ place) s (2 ^ place) some (omega arith) in
    omega arith

-- how a reading of k units of 2^-32 lies to n units of 2^-96, on the side of a sign
abbrev marked : Bool → ℕ → ℕ → Mark
marked negative n k = mark_of (finite (signed negative n)) (finite (signed negative k))

mark_inward : (negative : Bool) (n k : ℕ) → k * 2 ^ 64 < n → marked negative n k ≡ beside negative
mark_inward negative n k lt = search rules

mark_outward : (negative : Bool) (n k : ℕ) → n < k * 2 ^ 64 → marked negative n k ≡ beside (not negative)
mark_outward negative n k lt = search rules

mark_exact : (negative : Bool) (n k : ℕ) → n ≡ k * 2 ^ 64 → marked negative n k ≡ Exact
mark_exact negative n k e = search rules

-- nothing is left below the cut, or something is
left_ways : (n e : ℕ) (cut : Cut) → CutAt n e cut → ((n % 2 ^ e ≡ 0) × (cut.remainder ≡ None)) ⊎ ((0 < n % 2 ^ e) × (is_some cut.remainder ≡ true))
left_ways n e cut is = search rules

-- a size cut at its last place
module _ (m : Meaning) (laws : Lawful m) (rule : Rule) (n : ℕ) (p : Placed) (at : p.place ≡ last_place m n) (is : CutAt n p.place p.cut) where
  digits_are : significand_of m n ≡ p.cut.digits
  unfolding significand_of
  digits_are = search rules

  away_is : goes_away m rule p.negative n ≡ cut_away rule p.negative p.cut
  unfolding goes_away left_of significand_of
  away_is = search rules

  module _ (away : Bool) (s : ℕ) (aw : away ≡ cut_away rule p.negative p.cut) (e : s ≡ p.cut.digits + bool_byte away) where
    rounded_is : rounded m rule p.negative n ≡ s * 2 ^ p.place
    unfolding rounded
    rounded_is =
        let picks : cond away (p.cut.digits + 1) p.cut.digits ≡ p.cut.digits + bool_byte away = search rules in
        rw (away_is, sym aw, sym at, digits_are, e) (ap (λ x. x * 2 ^ p.place) picks)

    size_is : n ≡ p.cut.digits * 2 ^ p.place + n % 2 ^ p.place
    size_is = grind (arith, ints)

    by_away : (way : Bool) → way ≡ away → 0 < n % 2 ^ p.place → marked p.negative n (s * 2 ^ (p.place - 64)) ≡ beside (cond way (not p.negative) p.negative)
    by_away true w left =
        let next : s * 2 ^ p.place ≡ p.cut.digits * 2 ^ p.place + 2 ^ p.place = rw (e, sym w, add-one p.cut.digits) (suc-mul p.cut.digits (2 ^ p.place)) in
        let below : n % 2 ^ p.place < 2 ^ p.place = mod-lt n (pow_pos p.place) in
        mark_outward p.negative n (s * 2 ^ (p.place - 64)) (omega (arith, lowered s p.place 64 p.deep, size_is))
    by_away false w left =
        let same : s * 2 ^ p.place ≡ p.cut.digits * 2 ^ p.place = ap (λ x. x * 2 ^ p.place) (omega (arith, rw (sym w) at e)) in
        mark_inward p.negative n (s * 2 ^ (p.place - 64)) (omega (arith, lowered s p.place 64 p.deep, size_is))

    mark_is : marked p.negative n (s * 2 ^ (p.place - 64)) ≡ cut_mark p.negative p.cut away
    mark_is =
        ⊎_elim
        (λ none.
        let still : away ≡ false = aw ∙ rw none.1 refl in
        let same : s * 2 ^ p.place ≡ p.cut.digits * 2 ^ p.place = ap (λ x. x * 2 ^ p.place) (omega (arith, rw still at e)) in
        rw none.1 (mark_exact p.negative n (s * 2 ^ (p.place - 64)) (omega (arith, lowered s p.place 64 p.deep, size_is))))
        (λ some. rw some.1 (by_away away refl some.0))
        (left_ways n p.place p.cut is)

    pub settled : (mode : Saturation) (a : Answer) → s * 2 ^ p.place ≤ m.largest * 2 ^ 64 → fine a.reading ≡ finite (signed p.negative (s * 2 ^ (p.place + 32))) → a.mark ≡ cut_mark p.negative p.cut away → Answers (finite (signed p.negative n)) (of_size m rule mode p.negative n) a
    settled mode a most reading mark =
        let k = s * 2 ^ (p.place - 64) in
        let q : rounded m rule p.negative n / 2 ^ 64 ≡ k = omega (arith, rounded_is, lowered s p.place 64 p.deep) in
        let v : of_size m rule mode p.negative n ≡ finite (signed p.negative k) =
        ⊎_elim (λ t. t.1 ∙ ap (λ x. finite (signed p.negative x)) q) (λ t. absurd (omega (arith, rounded_is))) (size_ways m rule mode p.negative n) in
        let x : p.place + 32 ≡ p.place - 64 + 96 = omega (arith, p.deep) in
        let up : s * 2 ^ (p.place + 32) ≡ k * 2 ^ 96 = rw x (shifted s (p.place - 64) 96 k refl) in
        rw v (record { reading = reading ∙ reads p.negative s (p.place + 32) k 96 up; mark = mark ∙ sym mark_is })

    some_digits : 128 ≤ p.place → 0 < s
    some_digits far = let w = place_some m laws n in let b = bottom_below m laws in let d = digits_are in search rules

    pub overflown : (mode : Saturation) (a : Answer) → ((128 ≤ p.place → 0 < s) → m.largest * 2 ^ 64 < s * 2 ^ p.place) → ((k : ℕ) → m.largest * 2 ^ 64 < k → Answers (finite (signed p.negative k)) (of_overflow m rule mode p.negative) a) → Answers (finite (signed p.negative n)) (of_size m rule mode p.negative n) a
    overflown mode a far answers =
        let past : m.largest * 2 ^ 64 < rounded m rule p.negative n = rw rounded_is (far some_digits) in
        let most = rounded_most m laws rule p.negative n (m.largest * 2 ^ 64) (largest_fine m laws) in
        let beyond : m.largest * 2 ^ 64 < n = ⊎_elim (λ l. l) (λ le. absurd (omega (arith, most le))) (cases_lt (m.largest * 2 ^ 64) n) in
        let v : of_size m rule mode p.negative n ≡ of_overflow m rule mode p.negative = ⊎_elim (λ t. absurd (omega arith)) (λ t. t.1) (size_ways m rule mode p.negative n) in
        rw v (answers n beyond)

-- the code and the mark of an answer
pub projected_is : (m : Meaning) (rule : Rule) (mode : Saturation) (x : Value) (a : Answer) (code : ℕ) → Lawful m → Answers x (answered m rule mode x) a → ((v : Value) → finer 96 v ≡ fine a.reading → Coded m v → code ≡ m.encode v) → (code, a.mark) ≡ projected m rule mode x
projected_is m rule mode x a code laws is coded =
    ap₂ (λ c k. (c, k)) (coded (answered m rule mode x) (sym is.reading) (answered_coded m laws rule mode x)) is.mark

-- the answer for a finite value is that for its sign and its size
pub finite_answers : (m : Meaning) (rule : Rule) (mode : Saturation) (v : Value) (x : ℤ) (p : Placed) (a : Answer) → v ≡ finite x → IsPlaced m v p → Settles m rule mode p a → Answers v (answered m rule mode v) a
finite_answers m rule mode v x p a e is settles = search rules
