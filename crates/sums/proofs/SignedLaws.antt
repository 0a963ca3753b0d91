-- Laws of words as two's complement.
use Rattle.std.proofs.Common.{◌≡◌, ℕ, ◌+◌, ◌-◌, ◌*◌, ◌/◌, ◌%◌, ◌^◌, ◌<◌, ◌≤◌, Bool, true, false, not, ltb, leb, ◌⊎◌, List, [], ◌∷◌, length, get_or, take, ℤ, pos, ◌+ℤ◌, neg_ℤ, nat_abs, sym, refl, ap, ◌∙◌, mul_assoc, arith}
use lib.Signed.{non_neg}
use Rattle.std.specs.List.{AllByRecursion}
use Rattle.std.proofs.lemmas.Nat.{pow-add, shl_whole}
use Rattle.std.proofs.lemmas.Int.{ints}
use Rattle.std.proofs.lemmas.Bool.Decides.{nat_tests}
use Rattle.formats.specs.Value.{signed}
use Rattle.sums.specs.Words.{number, Eight, Moved, twos_complement}
use Rattle.sums.proofs.WordLaws.{number-drop, number_past, number_below, take_below, number_split}

-- the number that n stands for, read either way
abbrev Read : ℕ → ℤ → Type 0
Read n z = ((n < 2 ^ 255) × (z ≡ pos n)) ⊎ ((2 ^ 255 ≤ n) × (n < 2 ^ 256) × (z ≡ neg_ℤ (pos (2 ^ 256 - n))))

read : (ws : List ℕ) → number ws < 2 ^ 256 → Read (number ws) (twos_complement ws)
read ws lt = grind (arith, nat_tests)

pub moved_signed : (down : Bool) (ws vs : List ℕ) (n : ℕ) → Eight ws → nat_abs (twos_complement ws) + n < 2 ^ 255 → Moved down ws n vs → twos_complement vs ≡ twos_complement ws +ℤ signed down n
moved_signed false ws vs n g fits (h, (r, most, e)) = let a = read ws (number_below ws g) in let b = read vs (number_below vs h) in grind (arith, ints)
moved_signed true ws vs n g fits (h, (r, most, e)) = let a = read ws (number_below ws g) in let b = read vs (number_below vs h) in grind (arith, ints)

pub summed_signed : (ws os vs : List ℕ) → Eight ws → Eight os → nat_abs (twos_complement ws) + nat_abs (twos_complement os) < 2 ^ 255 → Moved false ws (number os) vs → twos_complement vs ≡ twos_complement ws +ℤ twos_complement os
summed_signed ws os vs f g fits (h, (r, most, e)) = let a = read ws (number_below ws f) in let b = read os (number_below os g) in let c = read vs (number_below vs h) in grind (arith, ints)

pub negated_signed : (ws vs : List ℕ) → Eight ws → Eight vs → nat_abs (twos_complement ws) < 2 ^ 255 → (number vs + number ws) % 2 ^ 256 ≡ 0 → twos_complement vs ≡ neg_ℤ (twos_complement ws)
negated_signed ws vs g h fits e = let a = read ws (number_below ws g) in let b = read vs (number_below vs h) in grind (arith, ints)

-- the sign
sign_signed : (ws : List ℕ) → Eight ws → non_neg (twos_complement ws) ≡ ltb (number ws) (2 ^ 255)
sign_signed ws h = let a = read ws (number_below ws h) in grind (arith, ints, nat_tests)

-- the words of the size
pub size_positive : (ws : List ℕ) → Eight ws → non_neg (twos_complement ws) ≡ true → number ws ≡ nat_abs (twos_complement ws)
size_positive ws h s = let a = read ws (number_below ws h) in let b = sign_signed ws h in grind (arith, ints, nat_tests)

pub size_negative : (ws vs : List ℕ) → Eight ws → Eight vs → non_neg (twos_complement ws) ≡ false → (number vs + number ws) % 2 ^ 256 ≡ 0 → number vs ≡ nat_abs (twos_complement ws)
size_negative ws vs g h s e = let a = read ws (number_below ws g) in let b = sign_signed ws g in let c = number_below vs h in grind (arith, ints, nat_tests)

-- the highest word has the sign
pub top_word : (ws : List ℕ) → Eight ws → leb (2 ^ 31) (get_or ws 7 0) ≡ not (non_neg (twos_complement ws))
top_word ws h =
    let w = get_or ws 7 0 in
    let d = number-drop ws 7 (omega (arith, h.long)) in
    let none = number_past ws 8 (omega (arith, h.long)) in
    let rest = take_below ws 7 h.words32 in
    let whole : w * 2 ^ 224 + number (take 7 ws) ≡ number ws = omega (arith, number_split ws 7) in
    let sign : non_neg (twos_complement ws) ≡ ltb (number ws) (2 ^ 255) = sign_signed ws h in
    rw sign (grind (arith, nat_tests))

-- each number is in one list of words
words_of : (vs ws : List ℕ) → length vs ≡ length ws → AllByRecursion (λ w. w < 2 ^ 32) vs → AllByRecursion (λ w. w < 2 ^ 32) ws → number vs ≡ number ws → vs ≡ ws
words_of [] [] l p q e = refl
words_of [] (w ∷ ws) l p q e = absurd (omega arith)
words_of (v ∷ vs) [] l p q e = absurd (omega arith)
words_of (v ∷ vs) (w ∷ ws) l (p, ps) (q, qs) e =
    let head : v ≡ w = omega arith in
    let tail : vs ≡ ws = words_of vs ws (omega arith) ps qs (omega arith) in
    cc

-- each number is in eight words in one way
pub words_signed : (vs ws : List ℕ) → Eight vs → Eight ws → twos_complement vs ≡ twos_complement ws → vs ≡ ws
words_signed vs ws g h e =
    let a = read vs (number_below vs g) in
    let b = read ws (number_below ws h) in
    words_of vs ws (g.long ∙ sym h.long) g.words32 h.words32 (grind (arith, ints))

-- the two words of a term, from the word that its place has
pub term_words : (d digits at place : ℕ) → digits < 2 ^ 24 → d ≡ digits → at ≡ place / 32 →
    (((d * 2 ^ (place % 32)) % 2 ^ 64) % 2 ^ 32 + 2 ^ 32 * (((d * 2 ^ (place % 32)) % 2 ^ 64) / 2 ^ 32)) * 2 ^ (32 * at) ≡ digits * 2 ^ place
term_words d digits at place lt e f =
    let r = place % 32 in
    let a = 32 * (place / 32) in
    let whole = shl_whole digits 24 r 64 lt (omega arith) in
    let two : ((digits * 2 ^ r) % 2 ^ 64) % 2 ^ 32 + 2 ^ 32 * (((digits * 2 ^ r) % 2 ^ 64) / 2 ^ 32) ≡ digits * 2 ^ r = omega (arith, whole) in
    let parts : r + a ≡ place = omega arith in
    rw (e, f) (ap (λ x. x * 2 ^ a) two ∙ mul_assoc digits (2 ^ r) (2 ^ a) ∙ ap (λ x. digits * x) (sym (pow-add 2 r a)) ∙ ap (λ x. digits * 2 ^ x) parts)
