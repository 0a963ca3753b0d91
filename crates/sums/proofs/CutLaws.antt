-- Laws of numbers in words, cut at a bit.
use Rattle.std.proofs.Common.{◌≡◌, ℕ, zero, suc, cond, Some, None, ◌+◌, ◌-◌, ◌*◌, ◌/◌, ◌%◌, ◌^◌, ◌<◌, ◌≤◌, not, eqb, List, [], ◌∷◌, get_or, take, drop, sym, refl, ap, ◌∙◌, mul_assoc, mul_comm, add-mul, zero-mul, arith, pow_mono}
use lib.Count.{count_leading_zeros}
use Rattle.layout.specs.Digits.{digits}
use Rattle.layout.proofs.DigitLaws.{digits_unique}
use Rattle.std.specs.List.{AllByRecursion, list_any}
use Rattle.std.proofs.lemmas.Bool.Decides.{nat_tests}
use Rattle.std.proofs.lemmas.Nat.{pow-add, pow_pos, shr-shr, shr_split, shr_high, shr_below, mod_low, mod-pow-add, field_of, leading_top, mul-le, mod_below, one_shl}
use Rattle.sums.specs.Cuts.{remainder_of, left_below}
use Rattle.sums.specs.Words.{number, Eight}
use Rattle.sums.specs.declared.magnitude.Remainder.TheVariants.{BelowHalf, Half, AboveHalf}
use Rattle.sums.proofs.WordLaws.{word_below, take_below, take_word, number_split}

-- the words from one up are the number shifted down, and the words below it what is left
number_shr : (ws : List ℕ) (i : ℕ) → AllByRecursion (λ w. w < 2 ^ 32) ws → number ws / 2 ^ (32 * i) ≡ number (drop i ws)
number_shr ws i h = ap (λ x. x / 2 ^ (32 * i)) (sym (number_split ws i)) ∙ shr_high (number (drop i ws)) (32 * i) (number (take i ws)) (take_below ws i h)

number_mod : (ws : List ℕ) (i : ℕ) → AllByRecursion (λ w. w < 2 ^ 32) ws → number ws % 2 ^ (32 * i) ≡ number (take i ws)
number_mod ws i h = ap (λ x. x % 2 ^ (32 * i)) (sym (number_split ws i)) ∙ mod_low (number (drop i ws)) (32 * i) (number (take i ws)) (take_below ws i h)

-- one word more, past the last one too
drop_word : (ws : List ℕ) (i : ℕ) → number (drop i ws) ≡ get_or ws i 0 + 2 ^ 32 * number (drop (suc i) ws)
drop_word [] zero = refl
drop_word [] (suc i) = refl
drop_word (w ∷ ws) zero = refl
drop_word (w ∷ ws) (suc i) = drop_word ws i

-- words that are all zero
pub any_number : (ws : List ℕ) → list_any (λ w. not (eqb w 0)) ws ≡ not (eqb (number ws) 0)
any_number [] = refl
any_number (w ∷ ws) = let rest = any_number ws in grind (arith, nat_tests)

-- a zero word adds no digit
pub no_digits : (ws : List ℕ) (i : ℕ) → get_or ws i 0 ≡ 0 → number (take (i + 1) ws) ≡ number (take i ws)
no_digits ws i z = let x : i + 1 ≡ suc i = omega arith in rw x (omega (arith, take_word ws i, ap (λ w. w * 2 ^ (32 * i)) z, zero-mul (2 ^ (32 * i))))

-- the digits of a number with its highest word at i
pub top_digits : (ws : List ℕ) (i : ℕ) → Eight ws → i < 8 → (get_or ws i 0 ≡ 0 → ⊥) → 32 * i + 32 - count_leading_zeros 32 (get_or ws i 0) ≡ digits (number (take (i + 1) ws))
top_digits ws i h in' some =
    let y : i + 1 ≡ suc i = omega arith in
    let w = get_or ws i 0 in
    let W = 2 ^ (32 * i) in
    let n = number (take (suc i) ws) in
    let (b, z, lo, hi) = leading_top 32 w (omega (arith, some)) (word_below ws i h in') in
    let whole = take_word ws i in
    let rest = take_below ws i h.words32 in
    let from : 2 ^ (b + 32 * i) ≤ n = omega (arith, pow-add 2 b (32 * i), mul-le (2 ^ b) W w W lo (omega arith)) in
    let to : n < 2 ^ (suc b + 32 * i) = omega (arith, pow-add 2 (suc b) (32 * i), mul-le (w + 1) W (2 ^ suc b) W (omega arith) (omega arith), add-mul w 1 W) in
    let x : suc b + 32 * i ≡ suc (b + 32 * i) = omega arith in
    rw y (omega (arith, digits_unique n (b + 32 * i) from (rw x at to)))

-- the number from a bit up, in the word that has the bit
from_bit : (ws : List ℕ) (place : ℕ) → Eight ws → number ws / 2 ^ place ≡ number (drop (place / 32) ws) / 2 ^ (place % 32)
from_bit ws place h =
    let x : 32 * (place / 32) + place % 32 ≡ place = omega arith in
    ap (λ y. number ws / 2 ^ y) (sym x) ∙ sym (shr-shr (number ws) (32 * (place / 32)) (place % 32)) ∙ ap (λ y. y / 2 ^ (place % 32)) (number_shr ws (place / 32) h.words32)

-- two words have all digits of a short number
pub two_from : (ws : List ℕ) (place : ℕ) → Eight ws → number ws < 2 ^ (12 + place) →
    ((get_or ws (place / 32 + 1) 0 * 2 ^ 32) % 2 ^ 64 + get_or ws (place / 32) 0) / 2 ^ (place % 32) ≡ number ws / 2 ^ place
two_from ws place h fits =
    let a = place / 32 in
    let r = place % 32 in
    let x : 12 + place ≡ (12 + r) + 32 * a = omega arith in
    let y : a + 1 ≡ suc a = omega arith in
    let short : number (drop a ws) < 2 ^ (12 + r) = rw (number_shr ws a h.words32) at (shr_below (number ws) (12 + r) (32 * a) (rw x at fits)) in
    let p : 2 ^ (12 + r) ≤ 2 ^ 44 = pow_mono {i = 12 + r} {j = 44} (omega arith) in
    let words : (get_or ws (suc a) 0 * 2 ^ 32) % 2 ^ 64 + get_or ws a 0 ≡ number (drop a ws) = omega (arith, drop_word ws a, drop_word ws (suc a)) in
    rw y (ap (λ n. n / 2 ^ r) words ∙ sym (from_bit ws place h))

-- low bits of a word are those of the number that it begins
low_bits : (w e r : ℕ) → w < 2 ^ 32 → r < 32 → (w / 2 ^ r % 2 ≡ (w + 2 ^ 32 * e) / 2 ^ r % 2) × (w % 2 ^ r ≡ (w + 2 ^ 32 * e) % 2 ^ r)
low_bits w e r lt in' =
    let d = w + 2 ^ 32 * e in
    let j = 32 - r in
    let x : j + r ≡ 32 = omega arith in
    let k : j ≡ 1 + (j - 1) = omega arith in
    let word : d % 2 ^ 32 ≡ w = omega arith in
    let high : w / 2 ^ r ≡ d / 2 ^ r % 2 ^ j = rw (x, word) at (field_of d j r) in
    let low : w ≡ d / 2 ^ r % 2 ^ j * 2 ^ r + d % 2 ^ r = rw (x, word) at (mod-pow-add d j r) in
    let two : 2 ^ j ≡ 2 * 2 ^ (j - 1) = ap (λ y. 2 ^ y) k ∙ pow-add 2 1 (j - 1) in
    let q = d / 2 ^ r / 2 ^ j in
    let even : q * 2 ^ j ≡ 2 * (q * 2 ^ (j - 1)) = ap (λ y. q * y) two ∙ sym (mul_assoc q 2 (2 ^ (j - 1))) ∙ ap (λ y. y * 2 ^ (j - 1)) (mul_comm q 2) ∙ mul_assoc 2 q (2 ^ (j - 1)) in
    (omega (arith, high, even, shr_split (d / 2 ^ r) j), ap (λ y. y % 2 ^ r) low ∙ mod_low (d / 2 ^ r % 2 ^ j) r (d % 2 ^ r) (mod_below d (2 ^ r) (pow_pos r)))

pub bit_at : (ws : List ℕ) (place : ℕ) → Eight ws → place < 256 → get_or ws (place / 32) 0 / 2 ^ (place % 32) % 2 ≡ number ws / 2 ^ place % 2
bit_at ws place h lt =
    let a = place / 32 in
    let r = place % 32 in
    (low_bits (get_or ws a 0) (number (drop (suc a) ws)) r (word_below ws a h (omega arith)) (omega arith)).0
    ∙ ap (λ n. n / 2 ^ r % 2) (sym (drop_word ws a)) ∙ ap (λ n. n % 2) (sym (from_bit ws place h))

-- what is below a bit: the rest of its word, and the words below
below_bit : (ws : List ℕ) (place : ℕ) → Eight ws → place < 256 →
    number ws % 2 ^ place ≡ get_or ws (place / 32) 0 % ((1 * 2 ^ (place % 32)) % 2 ^ 32) * 2 ^ (32 * (place / 32)) + number (take (place / 32) ws)
below_bit ws place h lt =
    let a = place / 32 in
    let r = place % 32 in
    let W = 2 ^ (32 * a) in
    let x : r + 32 * a ≡ place = omega arith in
    let high = ap (λ n. n % 2 ^ r) (number_shr ws a h.words32 ∙ drop_word ws a) ∙ sym (low_bits (get_or ws a 0) (number (drop (suc a) ws)) r (word_below ws a h (omega arith)) (omega arith)).1 in
    let m = one_shl r 32 (omega arith) in
    rw m (ap (λ y. number ws % 2 ^ y) (sym x) ∙ mod-pow-add (number ws) r (32 * a) ∙ ap (λ y. y * W + number ws % W) high ∙ ap (λ y. get_or ws a 0 % 2 ^ r * W + y) (number_mod ws a h.words32))

pub rest_some : (ws : List ℕ) (place : ℕ) → Eight ws → place < 256 → (get_or ws (place / 32) 0 % ((1 * 2 ^ (place % 32)) % 2 ^ 32) ≡ 0 → ⊥) → number ws % 2 ^ place ≡ 0 → ⊥
rest_some ws place h lt some e =
    let v = get_or ws (place / 32) 0 % ((1 * 2 ^ (place % 32)) % 2 ^ 32) in
    let W = 2 ^ (32 * (place / 32)) in
    omega (arith, below_bit ws place h lt, mul-le 1 1 v W (omega (arith, some)) (omega (arith, pow_pos (32 * (place / 32)))))

pub rest_none : (ws : List ℕ) (place : ℕ) → Eight ws → place < 256 → get_or ws (place / 32) 0 % ((1 * 2 ^ (place % 32)) % 2 ^ 32) ≡ 0 → number ws % 2 ^ place ≡ number (take (place / 32) ws)
rest_none ws place h lt none =
    let W = 2 ^ (32 * (place / 32)) in
    omega (arith, below_bit ws place h lt, ap (λ y. y * W) none, zero-mul W)

-- what is left below a bit, by the bit below it and what is left below that
pub half_and_rest : (n e : ℕ) → 0 < e → n % 2 ^ e ≡ n / 2 ^ (e - 1) % 2 * 2 ^ (e - 1) + n % 2 ^ (e - 1)
half_and_rest n e some = let x : e ≡ 1 + (e - 1) = omega arith in ap (λ y. n % 2 ^ y) x ∙ mod-pow-add n 1 (e - 1)

four_cases : (left unit bit rest : ℕ) → rest < unit → bit < 2 → left ≡ bit * unit + rest → cond (eqb left 0) None (Some (remainder_of left unit)) ≡ cond (eqb bit 1) (Some (cond (eqb rest 0) Half AboveHalf)) (cond (eqb rest 0) None (Some BelowHalf))
four_cases left unit zero rest short two is = grind (arith, nat_tests)
four_cases left unit (suc zero) rest short two is = grind (arith, nat_tests)
four_cases left unit (suc (suc bit)) rest short two is = absurd (omega arith)

pub left_is : (n e : ℕ) → 0 < e → left_below n e ≡ cond (eqb (n / 2 ^ (e - 1) % 2) 1) (Some (cond (eqb (n % 2 ^ (e - 1)) 0) Half AboveHalf)) (cond (eqb (n % 2 ^ (e - 1)) 0) None (Some BelowHalf))
left_is n e some = four_cases (n % 2 ^ e) (2 ^ (e - 1)) (n / 2 ^ (e - 1) % 2) (n % 2 ^ (e - 1)) (mod_below n (2 ^ (e - 1)) (pow_pos (e - 1))) (mod_below (n / 2 ^ (e - 1)) 2 (omega arith)) (half_and_rest n e some)
