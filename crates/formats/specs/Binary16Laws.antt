-- Binary16.
use Rattle.std.specs.Prelude.{◌≡◌, ℕ, ◌+◌, ◌-◌, ◌*◌, ◌^◌, ◌<◌, ◌≤◌, Bool, true, false, cond, ℤ, pos, neg_ℤ, ◌==◌, ◌≢◌, unsigned_abs, refl}
use Rattle.std.proofs.Common.{sym, ap, ◌∙◌, ⊎_elim, arith, lit<, lit≤}
use Rattle.std.specs.Int.Signed.{le_z_yes}
use Rattle.std.proofs.lemmas.Int.{ints}
use Rattle.std.proofs.lemmas.Bool.{cases_lt, cond_both, lt-ltb, le-ltb, ne_eqb}
use Rattle.layout.specs.Sizes.{size_at}
use Rattle.formats.specs.Binary16.{magnitude, decode, binary16}
use Rattle.formats.specs.Meaning.{Coded, Lawful}
use Rattle.formats.specs.Value.{nan, infinite, finite, negated}
use Rattle.formats.specs.SignLaws.{lawful}
use Rattle.formats.specs.Signs.{IsSignMagnitude, HasSpecials}
use Rattle.formats.specs.ValueLaws.{same_finite, not_infinite, not_nan, negated_twice}

-- the readings, by where the code lies
size_of_lem : (c : ℕ) → c < 0x7C00 → magnitude c ≡ finite (pos (size_at 11 8 c))
size_of_lem c lt = rw (lt-ltb c 0x7C00 lt)

pub reads_positive : (c : ℕ) → c < 0x7C00 → decode c ≡ finite (pos (size_at 11 8 c))
reads_positive c lt = rw (lt-ltb c 0x8000 (omega arith)) (size_of_lem c lt)

pub reads_negative : (c d : ℕ) → c ≡ 0x8000 + d → d < 0x7C00 → decode c ≡ finite (neg_ℤ (pos (size_at 11 8 d)))
reads_negative c d e lt =
    let x : c - 0x8000 ≡ d = omega arith in
    rw (le-ltb c 0x8000 (omega arith), x) (ap negated (size_of_lem d lt))

-- from infinity's code up nothing is finite
reads_past : (c : ℕ) (z : ℤ) → 0x7C00 ≤ c → magnitude c ≢ finite z
reads_past c z le e =
    cond_both (c == 0x7C00) (infinite false) nan (λ v. v ≢ finite z)
    (λ _. not_infinite (infinite false) false z refl) (λ _. not_nan nan z refl) (rw (le-ltb c 0x7C00 le) at e)

reads_past_negated : (c : ℕ) (z : ℤ) → 0x7C00 ≤ c → negated (magnitude c) ≢ finite z
reads_past_negated c z le e = reads_past c (neg_ℤ z) le (sym (negated_twice (magnitude c)) ∙ ap negated e)

only : (c : ℕ) (z : ℤ) → c < 2 ^ 16 → decode c ≡ finite z → (d : ℕ) × (d < 0x7C00) × (unsigned_abs z ≡ size_at 11 8 d)
only c z lt e =
    ⊎_elim
    (λ low. ⊎_elim
    (λ l. (c, l, omega (arith, ints, same_finite (decode c) (pos (size_at 11 8 c)) z (reads_positive c l) e)))
    (λ g. absurd (reads_past c z g (rw (lt-ltb c 0x8000 low) at e)))
    (cases_lt c 0x7C00))
    (λ high. let d = c - 0x8000 in
    let f : negated (magnitude d) ≡ finite z = rw (le-ltb c 0x8000 high) at e in
    ⊎_elim
    (λ l. (d, l, omega (arith, ints, same_finite (negated (magnitude d)) (neg_ℤ (pos (size_at 11 8 d))) z (ap negated (size_of_lem d l)) f)))
    (λ g. absurd (reads_past_negated d z g f))
    (cases_lt d 0x7C00))
    (cases_lt c 0x8000)

pub largest_is : 65504 * 2 ^ 32 ≡ size_at 11 8 (0x7C00 - 1)
unfolding size_at
largest_is = refl

pub laid : IsSignMagnitude binary16 0x8000 0x7C00
laid = record {
  precise = lit≤ tt;
  short = lit≤ tt;
  deep = le_z_yes tt;
  some = lit< tt;
  room = lit≤ tt;
  double = refl;
  top = lit≤ tt;
  one = lit≤ tt;
  largest_is = largest_is;
  positive = reads_positive;
  negative = λ d some lt. reads_negative (0x8000 + d) d refl lt;
  answer = λ z. refl;
  only = only;
}

infinities : (negative : Bool) → Coded binary16 (infinite negative)
infinities true = (lit< tt, refl)
infinities false = (lit< tt, refl)

-- past infinity's code there is no number
nan_past : (k : ℕ) → 0x7C00 < k → magnitude k ≡ nan
nan_past k lt = rw (le-ltb k 0x7C00 (omega arith), ne_eqb k 0x7C00 (λ e. omega arith)) refl

past : (negative : Bool) (k : ℕ) → 0x7C00 < k → k < 0x8000 → decode (k + cond negative 0x8000 0) ≡ nan
past true k lt short =
    let x : k + 0x8000 - 0x8000 ≡ k = omega arith in
    rw (le-ltb (k + 0x8000) 0x8000 (omega arith), x, nan_past k lt) refl
past false k lt short = let x : k + 0 ≡ k = omega arith in rw (x, lt-ltb k 0x8000 short) (nan_past k lt)

pub specials : HasSpecials binary16 0x8000 0x7C00 0x7E00
unfolding size_at
specials = record {
  nan_code = refl;
  nan_read = (lit< tt, refl);
  infinite_code = λ negative. refl;
  infinite_read = infinities;
  past = past;
  zero = λ _. refl;
}

pub binary16_lawful : Lawful binary16
binary16_lawful = lawful binary16 0x8000 0x7C00 laid (lit≤ tt) specials.nan_read specials.infinite_read
