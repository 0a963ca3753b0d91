-- A size between its two neighbours of a precision: n = S × 2^e + left.
use Rattle.std.proofs.Common.{◌≡◌, ℕ, suc, ◌+◌, ◌-◌, ◌*◌, ◌/◌, ◌%◌, ◌^◌, ◌<◌, ◌≤◌, max, ◌⊎◌, sym, refl, ap, ◌∙◌, inl, inr, ⊎_elim, mul-le-mul_right, mod-lt, mul_assoc, suc-mul, arith, rules, pow_pos, pow_mono, pow-add, shr_lt}
use lib.Pow.{split, shl-shr, shr_mono}
use Rattle.std.proofs.lemmas.Bool.{cases_lt, cases_order}
use Rattle.layout.specs.Digits.{digits}
use Rattle.layout.specs.Sizes.{Shaped}
use Rattle.layout.proofs.CodeLaws.{lowered}
use Rattle.layout.proofs.SizeLaws.{twice, last_place}

pub record Cell (p b n e s left : ℕ) : Type 0 where
  pub is : n ≡ s * 2 ^ e + left
  pub below : left < 2 ^ e
  pub short : s < 2 ^ p
  pub above : b ≤ e
  pub full : (2 ^ (p - 1) ≤ s) ⊎ (e ≡ b)

cell_of : (p b n e : ℕ) → b ≤ e → n < 2 ^ (p + e) → (2 ^ (e + (p - 1)) ≤ n) ⊎ (e ≡ b) → Cell p b n e (n / 2 ^ e) (n % 2 ^ e)
cell_of p b n e be top full =
    let turned : e + (p - 1) ≡ p - 1 + e = omega arith in
    let quarter : 2 ^ (e + (p - 1)) ≤ n → 2 ^ (p - 1) ≤ n / 2 ^ e = λ r.
    omega (arith, ap (λ x. x / 2 ^ e) (pow-add 2 (p - 1) e) ∙ shl-shr (2 ^ (p - 1)) e, shr_mono e (rw turned at r)) in
    record { is = sym (split n e); below = mod-lt n (pow_pos e); short = shr_lt p e top; above = be; full = search rules }

pub cell_at : (p b n : ℕ) → 1 ≤ p → let e = max b (digits n - p) in Cell p b n e (n / 2 ^ e) (n % 2 ^ e)
cell_at p b n h =
    let (be, top, full) = last_place p b n h in
    cell_of p b n (max b (digits n - p)) be top full

-- of two multiples of 2^e, one is at least the next of the other
pub next_unit : (q s e : ℕ) → (q * 2 ^ e ≤ s * 2 ^ e) ⊎ (s * 2 ^ e + 2 ^ e ≤ q * 2 ^ e)
next_unit q s e =
    let a = mul-le-mul_right {m = suc s} {n = q} (2 ^ e) in
    let b = mul-le-mul_right {m = q} {n = s} (2 ^ e) in
    let c = suc-mul s (2 ^ e) in
    search rules

-- 2^(P-1+e) passes every size of a smaller exponent
pub passes : (p t k e : ℕ) → 1 ≤ p → t ≤ 2 ^ p → k < e → t * 2 ^ k ≤ 2 ^ (p - 1) * 2 ^ e
passes p t k e h short lt =
    let a : t * 2 ^ k ≤ 2 ^ p * 2 ^ k = mul-le-mul_right (2 ^ k) short in
    let m : 2 ^ (p + k) ≤ 2 ^ (p - 1 + e) = pow_mono (omega arith) in
    omega (arith, pow-add 2 p k, pow-add 2 (p - 1) e)

module _ {p b n e s left : ℕ} (precise : 1 ≤ p) (cell : Cell p b n e s left) where
  pub cell_full : b < e → 2 ^ (p - 1) * 2 ^ e ≤ s * 2 ^ e
  cell_full lt =
      let full = cell.full in
      let times = mul-le-mul_right {m = 2 ^ (p - 1)} {n = s} (2 ^ e) in
      search rules

  -- nothing lies strictly between the two neighbours
  pub nothing_between : (v : ℕ) → Shaped p b v → (v ≤ s * 2 ^ e) ⊎ (s * 2 ^ e + 2 ^ e ≤ v)
  nothing_between v (t, k, is, short, bk) =
      let units = lowered t k e in
      let next = next_unit (t * 2 ^ (k - e)) s e in
      let full = cell_full in
      let past = passes p t k e precise in
      search rules

  pub lower_shaped : Shaped p b (s * 2 ^ e)
  lower_shaped = search rules

  pub upper_shaped : Shaped p b (s * 2 ^ e + 2 ^ e)
  upper_shaped =
      ⊎_elim
      (λ lt. (suc s, e, sym (suc-mul s (2 ^ e)), lt, cell.above))
      (λ le.
      let x : suc s ≡ 2 ^ p = omega (arith, cell.short) in
      let y : p + e ≡ p - 1 + suc e = omega arith in
      let is : s * 2 ^ e + 2 ^ e ≡ 2 ^ (p - 1) * 2 ^ suc e =
      sym (suc-mul s (2 ^ e)) ∙ ap (λ z. z * 2 ^ e) x ∙ sym (pow-add 2 p e) ∙ ap (λ z. 2 ^ z) y ∙ pow-add 2 (p - 1) (suc e) in
      (2 ^ (p - 1), suc e, is, omega (arith, twice p precise, pow_pos (p - 1)), omega (arith, cell.above)))
      (cases_lt (suc s) (2 ^ p))

  -- a size of the precision has nothing left
  pub cell_exact : Shaped p b n → left ≡ 0
  cell_exact shaped =
      let apart = nothing_between n shaped in
      let c = cell in
      search rules

-- a size and a larger one: the neighbour above is at most the neighbour below, or both lie between the same two
pub cell_order : {p b n e s left n' e' s' left' : ℕ} → 1 ≤ p → Cell p b n e s left → Cell p b n' e' s' left' → e ≤ e' → n ≤ n' → (s * 2 ^ e + 2 ^ e ≤ s' * 2 ^ e') ⊎ ((e ≡ e') × (s ≡ s') × (left ≤ left'))
cell_order {p} {b} {n} {e} {s} {left} {n'} {e'} {s'} {left'} h cell cell' ee le =
    ⊎_elim
    (λ lt.
    let be : b < e' = omega arith in
    let short : suc s ≤ 2 ^ p = cell.short in
    inl (omega (arith, passes p (suc s) e e' h short lt, suc-mul s (2 ^ e), cell_full h cell' be)))
    (λ ge.
    let x : e ≡ e' = omega arith in
    let y : 2 ^ e ≡ 2 ^ e' = ap (λ z. 2 ^ z) x in
    ⊎_elim
    (λ q. inr (x, q, let z : s * 2 ^ e ≡ s' * 2 ^ e' = rw (x, q) refl in omega arith))
    (⊎_elim
    (λ l. let m : suc s * 2 ^ e ≤ s' * 2 ^ e = mul-le-mul_right (2 ^ e) l in inl (omega (arith, suc-mul s (2 ^ e), ap (λ z. s' * z) y)))
    (λ l. let m : suc s' * 2 ^ e' ≤ s * 2 ^ e' = mul-le-mul_right (2 ^ e') l in absurd (omega (arith, suc-mul s' (2 ^ e'), ap (λ z. s * z) y))))
    (cases_order s s'))
    (cases_lt e e')

-- units of 2^-32 and of 2^-96
pub shaped_finer : (p b n : ℕ) → Shaped p b n → Shaped p (b + 64) (n * 2 ^ 64)
shaped_finer p b n (s, k, is, short, bk) =
    let e : n * 2 ^ 64 ≡ s * 2 ^ (k + 64) = ap (λ x. x * 2 ^ 64) is ∙ mul_assoc s (2 ^ k) (2 ^ 64) ∙ ap (λ x. s * x) (sym (pow-add 2 k 64)) in
    (s, k + 64, e, short, omega arith)

pub shaped_coarser : (p b n : ℕ) → Shaped p (b + 64) n → Shaped p b (n / 2 ^ 64) × (n / 2 ^ 64 * 2 ^ 64 ≡ n)
shaped_coarser p b n (s, k, is, short, bk) =
    let e : n ≡ s * 2 ^ (k - 64) * 2 ^ 64 = is ∙ sym (lowered s k 64 (omega arith)) in
    let q : n / 2 ^ 64 ≡ s * 2 ^ (k - 64) = ap (λ x. x / 2 ^ 64) e ∙ shl-shr (s * 2 ^ (k - 64)) 64 in
    ((s, k - 64, q, short, omega arith), omega arith)
