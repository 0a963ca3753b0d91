-- Laws of binary digits.
use Rattle.std.proofs.Common.{◌≡◌, ℕ, zero, suc, ◌-◌, ◌/◌, ◌^◌, ◌<◌, ◌≤◌, refl, ap, ◌∙◌, ⊎_elim, pow-suc, arith, pow_mono}
use Rattle.std.proofs.lemmas.Bool.{cases_lt, cases_eq}
use Rattle.layout.specs.Digits.{digits, digits_in}

pub digits_zero : digits 0 ≡ 0
unfolding digits
digits_zero = refl

none : (k : ℕ) → digits_in k 0 ≡ 0
none zero = refl
none (suc k) = refl

-- n of d + 1 digits is from 2^d up to 2^(d + 1)
spans : (k n : ℕ) → n ≤ k → 0 < n → (d : ℕ) × (digits_in k n ≡ suc d) × (2 ^ d ≤ n) × (n < 2 ^ suc d)
spans zero n le pos = absurd (omega arith)
spans (suc k) zero le pos = absurd (omega arith)
spans (suc k) (suc n) le pos =
    ⊎_elim
    (λ z. (0, ap suc (ap (digits_in k) z ∙ none k), omega arith, omega arith))
    (λ z. let r = spans k (suc n / 2) (omega arith) (omega arith) in
    (suc r.0, ap suc r.1, omega (arith, pow-suc 2 r.0), omega (arith, pow-suc 2 (suc r.0))))
    (cases_eq (suc n / 2) 0)

range : (n : ℕ) → 0 < n → (d : ℕ) × (digits n ≡ suc d) × (2 ^ d ≤ n) × (n < 2 ^ suc d)
unfolding digits
range n h = spans n n (omega arith) h

-- of two powers, the greater has the greater exponent
pub pow_order : (i j : ℕ) → 2 ^ i < 2 ^ j → i < j
pow_order i j h = ⊎_elim (λ l. l) (λ l. absurd (let m : 2 ^ j ≤ 2 ^ i = pow_mono l in omega arith)) (cases_lt i j)

pub digits_below : (n : ℕ) → n < 2 ^ digits n
digits_below zero = rw digits_zero (omega arith)
digits_below (suc n) = let r = range (suc n) (omega arith) in rw r.1 r.3

pub digits_reach : (n : ℕ) → 0 < n → 2 ^ (digits n - 1) ≤ n
digits_reach n h = let r = range n h in let e : digits n - 1 ≡ r.0 = omega arith in rw e r.2

pub digits_unique : (n d : ℕ) → 2 ^ d ≤ n → n < 2 ^ suc d → digits n ≡ suc d
digits_unique n d lo hi =
    let some : 0 < n = omega (arith, pow_mono {i = 0} {j = d} (omega arith)) in
    let r = range n some in
    omega (arith, pow_order d (suc r.0) (omega arith), pow_order r.0 (suc d) (omega arith))

pub digits_mono : (m n : ℕ) → m ≤ n → digits m ≤ digits n
digits_mono zero n h = rw digits_zero (omega arith)
digits_mono (suc m) n h =
    let r = range (suc m) (omega arith) in
    omega (arith, pow_order r.0 (digits n) (omega (arith, digits_below n)))
