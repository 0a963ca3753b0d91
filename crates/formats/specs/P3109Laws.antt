-- The P3109 formats, by width k and precision p.
use Rattle.std.specs.Prelude.{◌≡◌, ℕ, suc, ◌+◌, ◌-◌, ◌*◌, ◌/◌, ◌^◌, ◌<◌, ◌≤◌, Bool, true, false, ℤ, pos, negsuc, neg_ℤ, ◌≤ℤ◌, Ok, unsigned_abs, refl}
use Rattle.std.proofs.Common.{sym, ap, ◌∙◌, inl, ⊎_elim, pow-suc, add-mul, arith, pow_pos, pow_mono, pow-add, shr_lt}
use Rattle.std.proofs.lemmas.Int.{ints}
use Rattle.std.proofs.lemmas.Bool.{cases_lt, lt-ltb, le-ltb, eq-eqb, ne_eqb}
use Rattle.layout.specs.Codes.{Stands}
use Rattle.layout.specs.Sizes.{bottom, size_at}
use Rattle.layout.specs.declared.Size.{Size}
use Rattle.layout.proofs.SizeLaws.{twice, size_packed, size_rises}
use Rattle.formats.specs.Value.{nan, infinite, finite, negated, finer}
use Rattle.formats.specs.Meaning.{Coded, Lawful}
use Rattle.formats.specs.P3109.{Exists, bias, least, magnitude, decode, p3109}
use Rattle.formats.specs.Readings.{Decodes}
use Rattle.formats.specs.SignLaws.{lawful, decodes}
use Rattle.formats.specs.Signs.{IsSignMagnitude, HasSpecials, Joined}
use Rattle.formats.specs.declared.reading.Dyadic.{Dyadic}
use Rattle.formats.specs.declared.reading.Reading.TheVariants.{PositiveInfinity, NegativeInfinity, Finite}
use Rattle.formats.specs.ValueLaws.{same_finite, not_infinite, not_nan}

module _ (k p : ℕ) (there : Exists k p) where
  pub bias_most : bias k p ≤ 32
  bias_most = let le : k - p - 1 ≤ 5 = omega arith in let m : 2 ^ (k - p - 1) ≤ 2 ^ 5 = pow_mono le in m

  pub bias_room : bias k p + p ≤ 34
  bias_room =
      ⊎_elim (λ l. omega (arith, bias_most))
      (λ l. let le : k - p - 1 ≤ 4 = omega arith in let m : 2 ^ (k - p - 1) ≤ 2 ^ 4 = pow_mono le in omega arith)
      (cases_lt p 3)

  pub deep : negsuc 31 ≤ℤ least k p
  deep = omega (arith, ints, bias_room)

  bottom_is : bottom (least k p) ≡ 34 - (bias k p + p)
  bottom_is = omega (arith, ints, bias_room)

  -- the sign bit is 2^(P-1) times twice the bias
  sign_is : 2 ^ (k - 1) ≡ 2 * (bias k p * 2 ^ (p - 1))
  sign_is =
      let x : k - 1 ≡ suc ((k - p - 1) + (p - 1)) = omega arith in
      ap (λ y. 2 ^ y) x ∙ omega (arith, pow-suc 2 ((k - p - 1) + (p - 1)), pow-add 2 (k - p - 1) (p - 1))

  pub sign_least : 4 ≤ 2 ^ (k - 1)
  sign_least = let le : 2 ≤ k - 1 = omega arith in let m : 2 ^ 2 ≤ 2 ^ (k - 1) = pow_mono le in m

  pub sign_double : 2 ^ k ≡ 2 * 2 ^ (k - 1)
  sign_double = twice k (omega arith)

  pub top : bottom (least k p) + p + (2 ^ (k - 1) - 1 - 1) / 2 ^ (p - 1) ≤ 65
  top =
      let c = 2 ^ (k - 1) - 1 - 1 in
      let x : (k - p - 1) + 1 + (p - 1) ≡ k - 1 = omega arith in
      let lt : c < 2 ^ ((k - p - 1) + 1 + (p - 1)) = rw x (omega (arith, sign_least)) in
      omega (arith, shr_lt {n = c} ((k - p - 1) + 1) (p - 1) lt, pow-add 2 (k - p - 1) 1, bottom_is, bias_room, bias_most)

  -- the code 2^(K-2) is 1
  one_at : size_at p (bottom (least k p)) (bias k p * 2 ^ (p - 1)) ≡ 2 ^ 32
  one_at =
      let h = 2 ^ (p - 1) in
      let b = bottom (least k p) in
      let some = pow_pos (k - p - 1) in
      let z : bias k p ≡ 1 + (bias k p - 1) = omega arith in
      let x : bias k p * h ≡ h + (bias k p - 1) * h = omega (arith, ap (λ n. n * h) z, add-mul 1 (bias k p - 1) h) in
      let y : (p - 1) + (b + (bias k p - 1)) ≡ 32 = omega (arith, bottom_is, bias_room, some) in
      ap (size_at p b) x ∙ size_packed p b h (bias k p - 1) (omega arith) (omega (arith, twice p (omega arith), pow_pos (p - 1))) (inl (omega arith))
      ∙ sym (pow-add 2 (p - 1) (b + (bias k p - 1))) ∙ ap (λ n. 2 ^ n) y

  pub one : 2 ^ 32 ≤ size_at p (bottom (least k p)) (2 ^ (k - 1) - 2)
  one =
      let c = bias k p * 2 ^ (p - 1) in
      let le : c ≤ 2 ^ (k - 1) - 2 = omega (arith, sign_is, sign_least) in
      ⊎_elim (λ lt. omega (arith, one_at, size_rises p (bottom (least k p)) c (2 ^ (k - 1) - 2) (omega arith) lt))
      (λ ge. let same : c ≡ 2 ^ (k - 1) - 2 = omega arith in omega (arith, one_at, ap (size_at p (bottom (least k p))) same))
      (cases_lt c (2 ^ (k - 1) - 2))

  -- the readings, by where the code lies
  pub reads_positive : (c : ℕ) → c < 2 ^ (k - 1) - 1 → decode k p c ≡ finite (pos (size_at p (bottom (least k p)) c))
  reads_positive c lt = rw (lt-ltb c (2 ^ (k - 1)) (omega arith), ne_eqb c (2 ^ (k - 1) - 1) (λ e. omega arith))

  pub reads_infinite : (c : ℕ) → c ≡ 2 ^ (k - 1) - 1 → decode k p c ≡ infinite false
  reads_infinite c e = rw (lt-ltb c (2 ^ (k - 1)) (omega (arith, sign_least)), eq-eqb c (2 ^ (k - 1) - 1) e)

  pub reads_nan : (c : ℕ) → c ≡ 2 ^ (k - 1) → decode k p c ≡ nan
  reads_nan c e = rw (le-ltb c (2 ^ (k - 1)) (omega arith), eq-eqb c (2 ^ (k - 1)) e)

  pub reads_negated : (c : ℕ) → 2 ^ (k - 1) < c → decode k p c ≡ negated (magnitude k p (c - 2 ^ (k - 1)))
  reads_negated c lt = rw (le-ltb c (2 ^ (k - 1)) (omega arith), ne_eqb c (2 ^ (k - 1)) (λ e. omega arith))

  pub reads_negative : (c d : ℕ) → c ≡ 2 ^ (k - 1) + d → 0 < d → d < 2 ^ (k - 1) - 1 → decode k p c ≡ finite (neg_ℤ (pos (size_at p (bottom (least k p)) d)))
  reads_negative c d e some lt =
      let x : c - 2 ^ (k - 1) ≡ d = omega arith in
      reads_negated c (omega arith) ∙ rw (x, ne_eqb d (2 ^ (k - 1) - 1) (λ y. omega arith))

  pub reads_negative_infinite : (c : ℕ) → c ≡ 2 ^ (k - 1) + (2 ^ (k - 1) - 1) → decode k p c ≡ infinite true
  reads_negative_infinite c e =
      let x : c - 2 ^ (k - 1) ≡ 2 ^ (k - 1) - 1 = omega arith in
      reads_negated c (omega (arith, sign_least)) ∙ rw (eq-eqb (c - 2 ^ (k - 1)) (2 ^ (k - 1) - 1) x)

  -- a finite reading is that of a magnitude
  only : (c : ℕ) (z : ℤ) → c < 2 ^ k → decode k p c ≡ finite z → (d : ℕ) × (d < 2 ^ (k - 1) - 1) × (unsigned_abs z ≡ size_at p (bottom (least k p)) d)
  only c z lt e =
      let s = 2 ^ (k - 1) in
      let b = bottom (least k p) in
      ⊎_elim
      (λ low. ⊎_elim
      (λ l. (c, l, omega (arith, ints, same_finite (decode k p c) (pos (size_at p b c)) z (reads_positive c l) e)))
      (λ g. absurd (not_infinite (decode k p c) false z (reads_infinite c (omega arith)) e))
      (cases_lt c (s - 1)))
      (λ high. ⊎_elim
      (λ l. ⊎_elim
      (λ n. let d = c - s in (d, omega arith, omega (arith, ints, same_finite (decode k p c) (neg_ℤ (pos (size_at p b d))) z (reads_negative c d (omega arith) (omega arith) (omega arith)) e)))
      (λ n. absurd (not_infinite (decode k p c) true z (reads_negative_infinite c (omega (arith, sign_double))) e))
      (cases_lt c (s + (s - 1))))
      (λ n. absurd (not_nan (decode k p c) z (reads_nan c (omega arith)) e))
      (cases_lt s c))
      (cases_lt c s)

  pub laid : IsSignMagnitude (p3109 k p) (2 ^ (k - 1)) (2 ^ (k - 1) - 1)
  laid = record {
    precise = omega arith;
    short = omega arith;
    deep = deep;
    some = omega (arith, sign_least);
    room = omega arith;
    double = sign_double;
    top = top;
    one = one;
    largest_is = ap (size_at p (bottom (least k p))) (omega arith);
    positive = reads_positive;
    negative = λ d some lt. reads_negative (2 ^ (k - 1) + d) d refl some lt;
    answer = λ z. refl;
    only = only;
  }

  infinities : (negative : Bool) → Coded (p3109 k p) (infinite negative)
  infinities true = (omega (arith, sign_double, sign_least), reads_negative_infinite _ (omega arith))
  infinities false = (omega (arith, sign_double, sign_least), reads_infinite _ (omega arith))

  pub specials : HasSpecials (p3109 k p) (2 ^ (k - 1)) (2 ^ (k - 1) - 1) (2 ^ (k - 1))
  specials = record {
    nan_code = refl;
    nan_read = (omega (arith, sign_double, sign_least), reads_nan (2 ^ (k - 1)) refl);
    infinite_code = λ negative. refl;
    infinite_read = infinities;
    past = λ negative d lt short. absurd (omega arith);
    zero = λ other. absurd (other refl);
  }

  pub p3109_lawful : Lawful (p3109 k p)
  p3109_lawful = lawful (p3109 k p) (2 ^ (k - 1)) (2 ^ (k - 1) - 1) laid (omega arith) specials.nan_read specials.infinite_read

  -- a magnitude with its sign is the reading of a code
  pub decodes_signed : (d : ℕ) (negative : Bool) (p' : ℕ) (q : ℤ) (n : ℕ) (z : Size) (y : Dyadic) → d < 2 ^ (k - 1) → p' ≡ p → q ≡ least k p → n ≡ 2 ^ (k - 1) - 1 → (d < n) × Stands p' q d z → Joined negative z y →
      (negative ≡ false → Decodes (p3109 k p) d (Ok (Finite y))) ×
      ((c : ℕ) → negative ≡ true → 0 < d → c ≡ 2 ^ (k - 1) + d → Decodes (p3109 k p) c (Ok (Finite y)))
  decodes_signed d negative p' q n z y lt pp qq nn (small, stands) joined =
      let below : d < 2 ^ (k - 1) - 1 = omega arith in
      let stands' = rw (pp, qq) at stands in (
        λ no. decodes (p3109 k p) d d negative z y (omega (arith, sign_double)) (rw no (reads_positive d below)) stands' joined,
        λ c yes some e. decodes (p3109 k p) c d negative z y (omega (arith, sign_double)) (rw yes (reads_negative c d e some below)) stands' joined,
      )

  pub decodes_infinite : (c n : ℕ) → c < 2 ^ (k - 1) → n ≡ 2 ^ (k - 1) - 1 → n ≤ c → Decodes (p3109 k p) c (Ok PositiveInfinity)
  decodes_infinite c n lt nn le = (omega (arith, sign_double), sym (ap (finer 96) (reads_infinite c (omega arith))), tt)

  pub decodes_negative_infinite : (c d n : ℕ) → d < 2 ^ (k - 1) → n ≡ 2 ^ (k - 1) - 1 → n ≤ d → c ≡ 2 ^ (k - 1) + d → Decodes (p3109 k p) c (Ok NegativeInfinity)
  decodes_negative_infinite c d n lt nn le e = (omega (arith, sign_double), sym (ap (finer 96) (reads_negative_infinite c (omega arith))), tt)
