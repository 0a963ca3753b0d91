-- What the calls on a layout rest on.
use Rattle.std.proofs.Common.{◌≡◌, ℕ, zero, suc, ◌+◌, ◌-◌, ◌*◌, ◌/◌, ◌%◌, ◌^◌, ◌<◌, ◌≤◌, max, ◌⊎◌, ℤ, pos, negsuc, ◌+ℤ◌, nat_abs, ◌≤ℤ◌, Bool, true, false, IsTrue, ◌↔◌, sym, refl, ap, ◌∙◌, inl, inr, ⊎_elim, mul-le-mul_right, mod-lt, mod-eq_of_lt, mul_assoc, lt_of_mul-lt-mul_right, zero-mul, le_of_mul-le-mul_right, arith, pow_pos, pow_mono, pow-add, shl_lt, w8, SFits, to_z, of_z}
use native.Mathlib.Nat.{mul-mod_left, eq_of_mul-eq-mul_right}
use lib.Pow.{shr_mono, split}
use Rattle.std.specs.Bool.{then_some}
use Rattle.std.proofs.lemmas.Int.{ints, to_z-of_z}
use Rattle.std.proofs.lemmas.Bool.{cases_lt}
use Rattle.layout.specs.Sizes.{bottom, of_fields, size_at}
use Rattle.layout.specs.Codes.{Stands, InUnits, Placed, WholeShift}
use Rattle.layout.specs.declared.Size.{Size}
use Rattle.layout.proofs.DigitLaws.{pow_order}
use Rattle.layout.proofs.SizeLaws.{twice, size_packed, size_shaped, size_below, size_aligned, size_injective}

-- an exponent of -32 or more, counted from -128 and from -32
pub counted : (q : ℤ) → negsuc 31 ≤ℤ q → nat_abs (q +ℤ pos 128) ≡ bottom q + 96
counted q h = omega (arith, ints)

pub counted_up : (q : ℤ) (e : ℕ) → negsuc 31 ≤ℤ q → nat_abs ((q +ℤ pos e) +ℤ pos 128) ≡ bottom q + e + 96
counted_up q e h = omega (arith, ints)

-- the same of an exponent that was passed
pub biased_is : (r : ℕ) (e : ℤ) → SFits w8 e → r ≡ nat_abs (to_z w8 (of_z w8 e) +ℤ pos 128) → r ≡ nat_abs (e +ℤ pos 128)
biased_is r e fits is = is ∙ ap (λ x. nat_abs (x +ℤ pos 128)) (to_z-of_z w8 e fits)

-- s × 2^(k + 96) is s × 2^k units of 2^-32
raised : (s k : ℕ) → s * 2 ^ (k + 96) ≡ s * 2 ^ k * 2 ^ 96
raised s k = ap (λ x. s * x) (pow-add 2 k 96) ∙ sym (mul_assoc s (2 ^ k) (2 ^ 96))

size_low : (p b c : ℕ) → 1 ≤ p → c < 2 ^ (p - 1) → size_at p b c ≡ c * 2 ^ b
size_low p b c h lt =
    let e : c ≡ c + 0 * 2 ^ (p - 1) = omega arith in
    let x : b + 0 ≡ b = omega arith in
    ap (size_at p b) e ∙ size_packed p b c 0 h (omega (arith, twice p h)) (inr refl) ∙ ap (λ y. c * 2 ^ y) x

size_high : (p b c e : ℕ) → c / 2 ^ (p - 1) ≡ suc e → size_at p b c ≡ (2 ^ (p - 1) + c % 2 ^ (p - 1)) * 2 ^ (b + e)
unfolding size_at
size_high p b c e is = ap (of_fields p b (c % 2 ^ (p - 1))) is

-- a code without the leading bit
pub stands_low : (p c : ℕ) (q z : ℤ) → z ≡ q → 2 ≤ p → negsuc 31 ≤ℤ q → bottom q + p ≤ 65 → c < 2 ^ (p - 1) → Stands p q c (record { significand = c; exponent = z })
stands_low p c q z zq precise deep top lt =
    rw zq (
      ap (λ x. c * 2 ^ x) (counted q deep) ∙ raised c (bottom q) ∙ ap (λ x. x * 2 ^ 96) (sym (size_low p (bottom q) c (omega arith) lt)),
      record { short = omega (arith, twice p (omega arith)); least = omega (arith, ints); most = omega (arith, ints); full = inr refl },
    )

-- an exponent field of e + 1
pub stands_high : (p h c e : ℕ) (q z : ℤ) → h ≡ 2 ^ (p - 1) → z ≡ q +ℤ pos e → 2 ≤ p → negsuc 31 ≤ℤ q → bottom q + p + suc e ≤ 65 → c / h ≡ suc e → Stands p q c (record { significand = h + c % h; exponent = z })
stands_high p h c e q z hh zq precise deep top is =
    rw (hh, zq)
    (let is' : c / 2 ^ (p - 1) ≡ suc e = rw hh at is in
    let lt : c % 2 ^ (p - 1) < 2 ^ (p - 1) = mod-lt c (pow_pos (p - 1)) in
    let s = 2 ^ (p - 1) + c % 2 ^ (p - 1) in (
      ap (λ x. s * 2 ^ x) (counted_up q e deep) ∙ raised s (bottom q + e) ∙ ap (λ x. x * 2 ^ 96) (sym (size_high p (bottom q) c e is')),
      record { short = omega (arith, twice p (omega arith)); least = omega (arith, ints); most = omega (arith, ints); full = inl (omega arith) },
    ))

-- the exponent field is at most that of the last code
pub field_top : (p n c b : ℕ) → c < n → b + p + (n - 1) / 2 ^ (p - 1) ≤ 65 → b + p + c / 2 ^ (p - 1) ≤ 65
field_top p n c b lt top = let le : c ≤ n - 1 = omega arith in omega (arith, shr_mono {a = c} {b = n - 1} (p - 1) le)

-- the size at a code of the layout is below 2^32
pub in_units : (p n c : ℕ) (q : ℤ) (z : Size) → 2 ≤ p → negsuc 31 ≤ℤ q → c < n → bottom q + p + (n - 1) / 2 ^ (p - 1) ≤ 65 → Stands p q c z → InUnits z
in_units p n c q z precise deep lt top (size, normal) =
    let le : bottom q + (p - 1) + c / 2 ^ (p - 1) ≤ 64 = omega (arith, field_top p n c (bottom q) lt top) in
    let m : 2 ^ (bottom q + (p - 1) + c / 2 ^ (p - 1)) ≤ 2 ^ 64 = pow_mono le in
    record {
      deep = omega (arith, ints, normal.least);
      most = normal.most;
      below = omega (arith, size_below p (bottom q) c (omega arith));
    }

-- s × 2^from is s × 2^(from - to) × 2^to
pub lowered : (s from to : ℕ) → to ≤ from → s * 2 ^ (from - to) * 2 ^ to ≡ s * 2 ^ from
lowered s from to le =
    let e : from - to + to ≡ from = omega arith in
    mul_assoc s (2 ^ (from - to)) (2 ^ to) ∙ ap (λ x. s * x) (sym (pow-add 2 (from - to) to)) ∙ ap (λ x. s * 2 ^ x) e

pub shift_room : (s from to : ℕ) → 0 < s → s * 2 ^ from < 2 ^ (16 + to) → from - to < 16
shift_room s from to some fits =
    let m : 1 * 2 ^ from ≤ s * 2 ^ from = mul-le-mul_right (2 ^ from) some in
    omega (arith, pow_order from (16 + to) (omega arith))

pub shift_left : (s from to : ℕ) → to ≤ from → 0 < s → s * 2 ^ from < 2 ^ (16 + to) → (s * 2 ^ (from - to)) % 2 ^ 16 * 2 ^ to ≡ s * 2 ^ from
shift_left s from to le some fits =
    let whole : s * 2 ^ (from - to) < 2 ^ 16 = lt_of_mul-lt-mul_right (2 ^ to) (omega (arith, lowered s from to le, pow-add 2 16 to)) in
    rw (mod-eq_of_lt whole) (lowered s from to le)

-- a whole number of 2^to leaves nothing below it
pub shift_odd : (s from to t : ℕ) → from < to → t * 2 ^ to ≡ s * 2 ^ from → s ≡ t * 2 ^ (to - from)
shift_odd s from to t lt e =
    eq_of_mul-eq-mul_right (2 ^ from) (pow_pos from) s (t * 2 ^ (to - from)) (sym e ∙ sym (lowered t to from (omega arith)))

shift_right : (s k from to : ℕ) → from < to → k ≡ to - from → s % 2 ^ k ≡ 0 → s / 2 ^ k * 2 ^ to ≡ s * 2 ^ from
shift_right s k from to lt is none =
    let whole : s / 2 ^ k * 2 ^ k ≡ s = omega (arith, split s k) in
    let e : to - from ≡ k = sym is in
    sym (lowered (s / 2 ^ k) to from (omega arith)) ∙ ap (λ x. s / 2 ^ k * 2 ^ x * 2 ^ from) e ∙ ap (λ x. x * 2 ^ from) whole

-- s / unit, where that is whole
pub shift_divided : (s from to unit : ℕ) (whole : Bool) → from < to → unit ≡ 2 ^ (to - from) → IsTrue whole ↔ (s % unit ≡ 0) → WholeShift s from to (then_some whole (s / unit))
shift_divided s from to unit true lt is whole = rw is (shift_right s (to - from) from to lt refl (rw is at (whole.0 refl)))
shift_divided s from to unit false lt is whole =
    λ t same.
    let multiple : s ≡ t * 2 ^ (to - from) = shift_odd s from to t lt same in
    let z : s % unit ≡ 0 = rw (is, multiple) (mul-mod_left t (2 ^ (to - from))) in
    let n : ◌≡◌ {A = ℕ} 0 1 = let b = whole.1 z in cc in
    omega arith

-- a multiple of 2^16 and more is no number of 16 bits but 0
pub shift_past : (s t k : ℕ) → 0 < s → s < 2 ^ 16 → 16 ≤ k → s ≡ t * 2 ^ k → ⊥
shift_past s zero k some short le e = absurd (omega (arith, zero-mul (2 ^ k)))
shift_past s (suc t) k some short le e =
    let m : 2 ^ 16 ≤ 2 ^ k = pow_mono le in
    let n : 1 * 2 ^ k ≤ suc t * 2 ^ k = mul-le-mul_right (2 ^ k) (omega arith) in
    absurd (omega arith)

-- s has d + 1 digits, and the place leaves P of them above it where that is at least b
pub placed : (p b s low d place : ℕ) → 2 ≤ p → 2 ^ d ≤ s → s < 2 ^ suc d → place ≡ max (low + suc d - p) (b + 96) → Placed p b (s * 2 ^ low) place
placed p b s low d place precise reach below is =
    let le : suc d + low ≤ p + place = omega arith in
    let m : 2 ^ (suc d + low) ≤ 2 ^ (p + place) = pow_mono le in
    let r : 2 ^ (d + low) ≤ s * 2 ^ low = omega (arith, pow-add 2 d low, mul-le-mul_right (2 ^ low) reach) in
    record {
      short = omega (arith, shl_lt (suc d) low below);
      least = omega arith;
      full =
          ⊎_elim (λ l. inl (omega arith)) (λ l. inr (let x : place + (p - 1) ≡ d + low = omega arith in rw x r))
          (cases_lt (low + suc d - p) (b + 96 + 1));
    }

module _ (p b n place : ℕ) (precise : 2 ≤ p) (at : Placed p b n place) where
  -- the code made of the significand t
  pub packed : (t : ℕ) → t * 2 ^ place ≡ n → size_at p b (t + (place - (b + 96)) * 2 ^ (p - 1)) * 2 ^ 96 ≡ n
  packed t e =
      let k = place - (b + 96) in
      let fits : t < 2 ^ p = lt_of_mul-lt-mul_right (2 ^ place) (omega (arith, at.short, pow-add 2 p place)) in
      let full : (2 ^ (p - 1) ≤ t) ⊎ (k ≡ 0) =
      ⊎_elim (λ l. inr (omega arith))
      (λ l. inl (le_of_mul-le-mul_right (omega (arith, l, pow-add 2 place (p - 1))) (pow_pos place)))
      at.full in
      let x : b + k + 96 ≡ place = omega (arith, at.least) in
      ap (λ y. y * 2 ^ 96) (size_packed p b t k (omega arith) fits full) ∙ sym (raised t (b + k)) ∙ ap (λ y. t * 2 ^ y) x ∙ e

  -- any size that equals n is a whole number of 2^place
  pub whole : (c : ℕ) → size_at p b c * 2 ^ 96 ≡ n → (t : ℕ) × (t * 2 ^ place ≡ n)
  whole c e =
      let (s, k, is, short, bk) = size_shaped p b c (omega arith) in
      let up : s * 2 ^ (k + 96) ≡ n = raised s k ∙ ap (λ y. y * 2 ^ 96) (sym is) ∙ e in
      let le : place ≤ k + 96 =
      ⊎_elim (λ l. omega arith) (λ l. size_aligned p s (k + 96) place (omega arith) short (omega (arith, l))) at.full in
      (s * 2 ^ (k + 96 - place), lowered s (k + 96) place le ∙ up)

-- a size is at one code
pub one_code : (p b n c : ℕ) → 2 ≤ p → size_at p b c * 2 ^ 96 ≡ n → (k : ℕ) → size_at p b k * 2 ^ 96 ≡ n → k ≡ c
one_code p b n c precise is k e =
    size_injective p b k c (omega arith) (eq_of_mul-eq-mul_right (2 ^ 96) (pow_pos 96) (size_at p b k) (size_at p b c) (e ∙ sym is))

-- a size in units of 2^-32, as a shift of its significand
pub in_shift : (s x : ℕ) → 96 ≤ x → s * 2 ^ x < 2 ^ 160 → (s * 2 ^ (x - 96)) % 2 ^ 64 * 2 ^ 96 ≡ s * 2 ^ x
in_shift s x deep below =
    let is = lowered s x 96 deep in
    let lt : s * 2 ^ (x - 96) < 2 ^ 64 = omega arith in
    rw (mod-eq_of_lt lt) is
