-- Laws of the sizes and their codes.
use Rattle.std.proofs.Common.{◌≡◌, ℕ, zero, suc, ◌+◌, ◌-◌, ◌*◌, ◌/◌, ◌%◌, ◌^◌, ◌<◌, ◌≤◌, max, ◌⊎◌, sym, refl, ap, ◌∙◌, ap₂, inl, inr, ⊎_elim, mod-lt, mul_assoc, add-mul, mul-lt-mul_of_pos_right, pow-suc, zero-mul, le_of_mul-le-mul_right, arith, pow_pos, pow_mono, pow-add, shl_lt, shr_lt}
use native.Mathlib.Nat.{max-eq_left, max-eq_right}
use lib.Pow.{split, high, low, shl-shr, shr_mono}
use Rattle.std.proofs.lemmas.Bool.{cases_lt, cases_eq, cases_order}
use Rattle.layout.specs.Digits.{digits}
use Rattle.layout.specs.Sizes.{Shaped, of_fields, size_at, code_of}
use Rattle.layout.proofs.DigitLaws.{digits_zero, digits_below, digits_reach, pow_order}

-- 2^P is twice 2^(P-1)
pub twice : (p : ℕ) → 1 ≤ p → 2 ^ p ≡ 2 * 2 ^ (p - 1)
twice p h = let e : p ≡ suc (p - 1) = omega arith in omega (arith, ap (λ x. 2 ^ x) e, pow-suc 2 (p - 1))

-- the code of the fields T and E
fields : (p b t e : ℕ) → t < 2 ^ (p - 1) → size_at p b (e * 2 ^ (p - 1) + t) ≡ of_fields p b t e
unfolding size_at
fields p b t e h = ap₂ (of_fields p b) (low e (p - 1) h) (high e (p - 1) h)

packed_low : (p b s k : ℕ) → s < 2 ^ (p - 1) → k ≡ 0 → size_at p b (s + k * 2 ^ (p - 1)) ≡ s * 2 ^ (b + k)
packed_low p b s k lt z =
    let c : s + k * 2 ^ (p - 1) ≡ 0 * 2 ^ (p - 1) + s = rw z (omega arith) in
    let e : b + k ≡ b = omega arith in
    rw (c, e) (fields p b s 0 lt)

packed_high : (p b s k : ℕ) → 1 ≤ p → s < 2 ^ p → 2 ^ (p - 1) ≤ s → size_at p b (s + k * 2 ^ (p - 1)) ≡ s * 2 ^ (b + k)
packed_high p b s k h short full =
    let c : s + k * 2 ^ (p - 1) ≡ suc k * 2 ^ (p - 1) + (s - 2 ^ (p - 1)) = omega (arith, add-mul 1 k (2 ^ (p - 1))) in
    let t : s - 2 ^ (p - 1) < 2 ^ (p - 1) = omega (arith, twice p h) in
    let s' : 2 ^ (p - 1) + (s - 2 ^ (p - 1)) ≡ s = omega arith in
    ap (size_at p b) c ∙ fields p b (s - 2 ^ (p - 1)) (suc k) t ∙ ap (λ x. x * 2 ^ (b + k)) s'

-- S + k × 2^(P-1) is the code of S × 2^(b + k)
pub size_packed : (p b s k : ℕ) → 1 ≤ p → s < 2 ^ p → (2 ^ (p - 1) ≤ s) ⊎ (k ≡ 0) → size_at p b (s + k * 2 ^ (p - 1)) ≡ s * 2 ^ (b + k)
size_packed p b s k h short full =
    ⊎_elim
    (λ lt. packed_low p b s k lt (⊎_elim (λ ge. absurd (omega arith)) (λ z. z) full))
    (λ ge. packed_high p b s k h short ge)
    (cases_lt s (2 ^ (p - 1)))

pub size_zero : (p b : ℕ) → 1 ≤ p → size_at p b 0 ≡ 0
size_zero p b h =
    let c : 0 ≡ 0 * 2 ^ (p - 1) + 0 = omega arith in
    ap (size_at p b) c ∙ fields p b 0 0 (pow_pos (p - 1)) ∙ zero-mul (2 ^ b)

fields_shaped : (p b t e : ℕ) → 1 ≤ p → t < 2 ^ (p - 1) → Shaped p b (of_fields p b t e)
fields_shaped p b t zero h lt = (t, b, refl, omega (arith, twice p h), omega arith)
fields_shaped p b t (suc e) h lt = (2 ^ (p - 1) + t, b + e, refl, omega (arith, twice p h), omega arith)

pub size_shaped : (p b c : ℕ) → 1 ≤ p → Shaped p b (size_at p b c)
unfolding size_at
size_shaped p b c h = fields_shaped p b (c % 2 ^ (p - 1)) (c / 2 ^ (p - 1)) h (mod-lt c (pow_pos (p - 1)))

fields_below : (p b t e : ℕ) → 1 ≤ p → t < 2 ^ (p - 1) → of_fields p b t e < 2 ^ (b + (p - 1) + e)
fields_below p b t zero h lt =
    let e : b + (p - 1) + 0 ≡ (p - 1) + b = omega arith in rw e (shl_lt (p - 1) b lt)
fields_below p b t (suc e) h lt =
    let x : b + (p - 1) + suc e ≡ p + (b + e) = omega arith in
    let s : 2 ^ (p - 1) + t < 2 ^ p = omega (arith, twice p h) in
    rw x (shl_lt p (b + e) s)

pub size_below : (p b c : ℕ) → 1 ≤ p → size_at p b c < 2 ^ (b + (p - 1) + c / 2 ^ (p - 1))
unfolding size_at
size_below p b c h = fields_below p b (c % 2 ^ (p - 1)) (c / 2 ^ (p - 1)) h (mod-lt c (pow_pos (p - 1)))

-- a larger exponent field passes all sizes of a smaller one
fields_reach : (p b t i e : ℕ) → i < e → 2 ^ (b + (p - 1) + i) ≤ of_fields p b t e
fields_reach p b t i zero lt = absurd (omega arith)
fields_reach p b t i (suc e) lt =
    let m : 2 ^ (b + (p - 1) + i) ≤ 2 ^ ((p - 1) + (b + e)) = pow_mono (omega arith) in
    omega (arith, pow-add 2 (p - 1) (b + e), add-mul (2 ^ (p - 1)) t (2 ^ (b + e)))

-- a larger fraction field
fields_rise : (p b t u e : ℕ) → t < u → of_fields p b t e < of_fields p b u e
fields_rise p b t u zero lt = mul-lt-mul_of_pos_right lt (pow_pos b)
fields_rise p b t u (suc e) lt =
    let s : 2 ^ (p - 1) + t < 2 ^ (p - 1) + u = omega arith in mul-lt-mul_of_pos_right s (pow_pos (b + e))

size_reach : (p b i d : ℕ) → i < d / 2 ^ (p - 1) → 2 ^ (b + (p - 1) + i) ≤ size_at p b d
unfolding size_at
size_reach p b i d lt = fields_reach p b (d % 2 ^ (p - 1)) i (d / 2 ^ (p - 1)) lt

size_rise : (p b c d : ℕ) → c / 2 ^ (p - 1) ≡ d / 2 ^ (p - 1) → c % 2 ^ (p - 1) < d % 2 ^ (p - 1) → size_at p b c < size_at p b d
unfolding size_at
size_rise p b c d e lt = rw e (fields_rise p b (c % 2 ^ (p - 1)) (d % 2 ^ (p - 1)) (d / 2 ^ (p - 1)) lt)

-- a larger code has a larger size
pub size_rises : (p b c d : ℕ) → 1 ≤ p → c < d → size_at p b c < size_at p b d
size_rises p b c d h lt =
    ⊎_elim
    (λ l. omega (arith, size_below p b c h, size_reach p b (c / 2 ^ (p - 1)) d l))
    (λ g.
    let m : c / 2 ^ (p - 1) ≤ d / 2 ^ (p - 1) = shr_mono (p - 1) (omega arith) in
    let e : c / 2 ^ (p - 1) ≡ d / 2 ^ (p - 1) = omega arith in
    size_rise p b c d e (omega (arith, split c (p - 1), split d (p - 1), ap (λ x. x * 2 ^ (p - 1)) e)))
    (cases_lt (c / 2 ^ (p - 1)) (d / 2 ^ (p - 1)))

pub size_injective : (p b c d : ℕ) → 1 ≤ p → size_at p b c ≡ size_at p b d → c ≡ d
size_injective p b c d h e =
    ⊎_elim (λ q. q)
    (⊎_elim (λ l. absurd (omega (arith, size_rises p b c d h l))) (λ l. absurd (omega (arith, size_rises p b d c h l))))
    (cases_order c d)

-- a size of at least 2^(e + P - 1) with a significand below 2^P is a multiple of 2^e
pub size_aligned : (p s k e : ℕ) → 1 ≤ p → s < 2 ^ p → 2 ^ (e + (p - 1)) ≤ s * 2 ^ k → e ≤ k
size_aligned p s k e h short reach =
    omega (arith, pow_order (e + (p - 1)) (p + k) (omega (arith, shl_lt p k short)))

-- n = S × 2^k in the binade of e
code_at : (p b n e s k : ℕ) → 1 ≤ p → n ≡ s * 2 ^ k → b ≤ e → e ≤ k → n < 2 ^ (p + e) → (2 ^ (e + (p - 1)) ≤ n) ⊎ (e ≡ b) → size_at p b (n / 2 ^ e + (e - b) * 2 ^ (p - 1)) ≡ n
code_at p b n e s k h is be ek short full =
    let q = s * 2 ^ (k - e) in
    let x : k ≡ (k - e) + e = omega arith in
    let nq : n ≡ q * 2 ^ e = is ∙ ap (λ y. s * 2 ^ y) x ∙ ap (λ y. s * y) (pow-add 2 (k - e) e) ∙ sym (mul_assoc s (2 ^ (k - e)) (2 ^ e)) in
    let d : n / 2 ^ e ≡ q = ap (λ y. y / 2 ^ e) nq ∙ shl-shr q e in
    let y : b + (e - b) ≡ e = omega arith in
    size_packed p b (n / 2 ^ e) (e - b) h (shr_lt p e short)
    (⊎_elim
    (λ r. inl (rw d (le_of_mul-le-mul_right (omega (arith, pow-add 2 e (p - 1))) (pow_pos e))))
    (λ r. inr (omega arith))
    full)
    ∙ rw (y, d) (sym nq)

-- n has at most P digits from the place e up, and P of them unless e is the least place b
abbrev pub LastPlace : (p b n e : ℕ) → Type 0
LastPlace p b n e = (b ≤ e) × (n < 2 ^ (p + e)) × ((2 ^ (e + (p - 1)) ≤ n) ⊎ (e ≡ b))

pub last_place : (p b n : ℕ) → 1 ≤ p → LastPlace p b n (max b (digits n - p))
last_place p b n h =
    let e = digits n - p in
    ⊎_elim
    (λ lt.
    let some : 0 < n = ⊎_elim (λ z. absurd (omega (arith, ap digits z, digits_zero))) (λ z. omega arith) (cases_eq n 0) in
    let x : digits n ≡ p + e = omega arith in
    let y : digits n - 1 ≡ e + (p - 1) = omega arith in
    let be : b ≤ e = omega arith in
    let top : n < 2 ^ (p + e) = rw x at (digits_below n) in
    let reach : 2 ^ (e + (p - 1)) ≤ n = rw y at (digits_reach n some) in
    rw (max-eq_right be) (be, top, inl reach))
    (λ le.
    let fits : digits n ≤ p + b = omega arith in
    let m : 2 ^ digits n ≤ 2 ^ (p + b) = pow_mono fits in
    let top : n < 2 ^ (p + b) = omega (arith, digits_below n) in
    let bb : b ≤ b = omega arith in
    rw (max-eq_left {n = b} {m = digits n - p} le) (bb, top, inr refl))
    (cases_lt b e)

pub size_code : (p b n : ℕ) → 1 ≤ p → Shaped p b n → size_at p b (code_of p b n) ≡ n
unfolding code_of
size_code p b n h (s, k, is, short, bk) =
    let (be, top, full) = last_place p b n h in
    let e = max b (digits n - p) in
    let ek : e ≤ k = ⊎_elim (λ reach. size_aligned p s k e h short (omega arith)) (λ eq. omega arith) full in
    code_at p b n e s k h is be ek top full

pub code_size : (p b c : ℕ) → 1 ≤ p → code_of p b (size_at p b c) ≡ c
code_size p b c h = size_injective p b (code_of p b (size_at p b c)) c h (size_code p b (size_at p b c) h (size_shaped p b c h))
