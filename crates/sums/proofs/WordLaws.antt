-- Laws of numbers in words.
use Rattle.std.proofs.Common.{◌≡◌, ℕ, zero, suc, ◌+◌, ◌*◌, ◌^◌, ◌<◌, ◌≤◌, Bool, true, false, List, [], ◌∷◌, ◌++◌, length, get_or, take, drop, set, sym, refl, ap, ◌∙◌, mul_assoc, mul_comm, add-mul, zero-mul, arith, length-set, drop-cons, pow_pos, pow-add, mul-add, length-drop, length-append}
use borrow.Rule.Slice.PartMut.{mid_of, put_mid}
use lib.Seq.{length-take-le}
use Rattle.std.specs.List.{AllByRecursion}
use Rattle.std.proofs.ByRecursion.{All-set, All-get_or}
use Rattle.sums.specs.Words.{number, Eight, Balanced, PassesOn, Moved}

-- the weight of the next word
pub weight_suc : (i : ℕ) → 2 ^ (32 * suc i) ≡ 2 ^ 32 * 2 ^ (32 * i)
weight_suc i = let e : 32 * suc i ≡ 32 + 32 * i = omega arith in rw e (pow-add 2 32 (32 * i))

pub scaled : (x i : ℕ) → x * 2 ^ (32 * suc i) ≡ 2 ^ 32 * (x * 2 ^ (32 * i))
scaled x i =
    ap (λ y. x * y) (weight_suc i) ∙ sym (mul_assoc x (2 ^ 32) (2 ^ (32 * i))) ∙ ap (λ y. y * 2 ^ (32 * i)) (mul_comm x (2 ^ 32))
    ∙ mul_assoc (2 ^ 32) x (2 ^ (32 * i))

-- a word that is written changes the number by its weight
pub number-set : (ws : List ℕ) (i v : ℕ) → i < length ws → number (set ws i v) + get_or ws i 0 * 2 ^ (32 * i) ≡ number ws + v * 2 ^ (32 * i)
number-set [] i v lt = absurd (omega arith)
number-set (w ∷ ws) zero v lt = omega arith
number-set (w ∷ ws) (suc i) v lt = omega (arith, number-set ws i v (omega arith), scaled (get_or ws i 0) i, scaled v i)

pub all_below : (ws : List ℕ) → ((i : ℕ) → get_or ws i 0 < 2 ^ 32) → AllByRecursion (λ w. w < 2 ^ 32) ws
all_below [] fits = tt
all_below (w ∷ ws) fits = (fits 0, all_below ws (λ i. fits (suc i)))

pub eight_set : (ws : List ℕ) (i v : ℕ) → Eight ws → v < 2 ^ 32 → Eight (set ws i v)
eight_set ws i v h lt = record { long = length-set ws i v ∙ h.long; words32 = All-set (λ w. w < 2 ^ 32) ws i v lt h.words32 }

pub eight_of : (ws : List ℕ) → length ws ≡ 8 → ((i : ℕ) → get_or ws i 0 < 2 ^ 32) → Eight ws
eight_of ws long fits = record { long = long; words32 = all_below ws fits }

pub word_below : (ws : List ℕ) (i : ℕ) → Eight ws → i < 8 → get_or ws i 0 < 2 ^ 32
word_below ws i h lt = All-get_or (λ w. w < 2 ^ 32) ws i 0 (omega (arith, h.long)) h.words32

-- r × 2^32 words of one place are r of the next
up_one : (r i : ℕ) → r * 2 ^ 32 * 2 ^ (32 * i) ≡ r * 2 ^ (32 * (i + 1))
up_one r i =
    let x : i + 1 ≡ suc i = omega arith in
    mul_assoc r (2 ^ 32) (2 ^ (32 * i)) ∙ ap (λ y. r * y) (sym (weight_suc i)) ∙ ap (λ y. r * 2 ^ (32 * y)) (sym x)

-- a word is written for itself and x more, and r carried
stepped : (ws : List ℕ) (i v r x : ℕ) → i < length ws → v + r * 2 ^ 32 ≡ get_or ws i 0 + x → number (set ws i v) + r * 2 ^ (32 * (i + 1)) ≡ number ws + x * 2 ^ (32 * i)
stepped ws i v r x lt e =
    let W = 2 ^ (32 * i) in
    omega (arith, number-set ws i v lt, ap (λ y. y * W) e, add-mul v (r * 2 ^ 32) W, add-mul (get_or ws i 0) x W, up_one r i)

-- a word is written for itself and x less, and r borrowed
stepped_down : (ws : List ℕ) (i v r x : ℕ) → i < length ws → v + x ≡ get_or ws i 0 + r * 2 ^ 32 → number (set ws i v) + x * 2 ^ (32 * i) ≡ number ws + r * 2 ^ (32 * (i + 1))
stepped_down ws i v r x lt e =
    let W = 2 ^ (32 * i) in
    omega (arith, number-set ws i v lt, ap (λ y. y * W) e, add-mul v x W, add-mul (get_or ws i 0) (r * 2 ^ 32) W, up_one r i)

-- a word is written for itself and x more, or x less, and r passed on
pub weighed : (down : Bool) (ws : List ℕ) (i v r x : ℕ) → i < length ws → Balanced down (get_or ws i 0) x v (r * 2 ^ 32) → Balanced down (number ws) (x * 2 ^ (32 * i)) (number (set ws i v)) (r * 2 ^ (32 * (i + 1)))
weighed false ws i v r x lt e = stepped ws i v r x lt e
weighed true ws i v r x lt e = stepped_down ws i v r x lt e

-- what was passed on goes with what comes next
passed : (down : Bool) (a x b r y c s : ℕ) → Balanced down a x b r → Balanced down b (y + r) c s → Balanced down a (x + y) c s
passed false a x b r y c s e f = omega arith
passed true a x b r y c s e f = omega arith

pub renamed : (down : Bool) (a x y b r s : ℕ) → x ≡ y → r ≡ s → Balanced down a x b r → Balanced down a y b s
renamed down a x y b r s e f h = rw (sym e, sym f) h

-- one that is passed on to the word i
pub on : (down : Bool) (n : ℕ) (ws : List ℕ) (i v r : ℕ) → i < length ws → Balanced down n 1 (number ws) (2 ^ (32 * i)) → Balanced down (get_or ws i 0) 1 v (r * 2 ^ 32) → Balanced down n 1 (number (set ws i v)) (r * 2 ^ (32 * (i + 1)))
on down n ws i v r lt e f =
    let W = 2 ^ (32 * i) in
    let one : 1 * W ≡ 0 + W = omega arith in
    passed down n 1 (number ws) W 0 _ _ e (renamed down _ _ _ _ _ _ one refl (weighed down ws i v r 1 lt f))

pub stops : (down : Bool) (a x b r y z : ℕ) → r ≡ 0 → Balanced down a x b (r * y) → Balanced down a x b (0 * z)
stops down a x b r y z e = renamed down a x x b _ _ refl (ap (λ k. k * y) e ∙ zero-mul y ∙ sym (zero-mul z))

pub goes_on : (down : Bool) (a x b r y : ℕ) → r ≡ 1 → Balanced down a x b (r * y) → Balanced down a x b y
goes_on down a x b r y e = renamed down a x x b _ _ refl (omega (arith, ap (λ k. k * y) e))

-- one word more of a whole number: o is the word, p what was passed on to it
pub gathered : (down : Bool) (n k : ℕ) (ws : List ℕ) (i v o p r : ℕ) → i < length ws → Balanced down n k (number ws) (p * 2 ^ (32 * i)) → Balanced down (get_or ws i 0) (o + p) v (r * 2 ^ 32) →
    Balanced down n (k + o * 2 ^ (32 * i)) (number (set ws i v)) (r * 2 ^ (32 * (i + 1)))
gathered down n k ws i v o p r lt e f =
    let W = 2 ^ (32 * i) in
    passed down n k (number ws) (p * W) (o * W) _ _ e (renamed down _ _ _ _ _ _ (add-mul o p W) refl (weighed down ws i v r (o + p) lt f))

-- one word more, past the last one too
pub take_word : (ws : List ℕ) (i : ℕ) → number (take (suc i) ws) ≡ get_or ws i 0 * 2 ^ (32 * i) + number (take i ws)
take_word [] zero = refl
take_word [] (suc i) = omega (arith, zero-mul (2 ^ (32 * suc i)))
take_word (w ∷ ws) zero = omega arith
take_word (w ∷ ws) (suc i) = omega (arith, take_word ws i, scaled (get_or ws i 0) i)

-- the words after others
number_append : (xs ys : List ℕ) → number (xs ++ ys) ≡ number xs + 2 ^ (32 * length xs) * number ys
number_append [] ys = omega arith
number_append (x ∷ xs) ys =
    let w = 2 ^ (32 * length xs) in
    omega (arith, number_append xs ys, ap (λ k. k * number ys) (weight_suc (length xs)), mul_assoc (2 ^ 32) w (number ys))

pub number-drop : (ws : List ℕ) (i : ℕ) → i < length ws → number (drop i ws) ≡ get_or ws i 0 + 2 ^ 32 * number (drop (i + 1) ws)
number-drop ws i lt = let x : i + 1 ≡ suc i = omega arith in rw (x, drop-cons ws i 0)

-- nothing is left past the last word
pub number_past : (ws : List ℕ) (i : ℕ) → length ws ≤ i → number (drop i ws) ≡ 0
number_past [] zero le = refl
number_past [] (suc i) le = refl
number_past (w ∷ ws) zero le = absurd (omega arith)
number_past (w ∷ ws) (suc i) le = number_past ws i (omega arith)

-- words of 32 bits hold numbers below 2^32 to their count
pub number_lt : (ws : List ℕ) → AllByRecursion (λ w. w < 2 ^ 32) ws → number ws < 2 ^ (32 * length ws)
number_lt [] h = omega arith
number_lt (w ∷ ws) (p, q) = omega (arith, number_lt ws q, weight_suc (length ws))

pub number_below : (ws : List ℕ) → Eight ws → number ws < 2 ^ 256
number_below ws h = rw h.long at (number_lt ws h.words32)

-- the words below one, and the words from there up
pub take_below : (ws : List ℕ) (i : ℕ) → AllByRecursion (λ w. w < 2 ^ 32) ws → number (take i ws) < 2 ^ (32 * i)
take_below ws zero h = omega arith
take_below [] (suc i) h = omega (arith, pow_pos (32 * suc i))
take_below (w ∷ ws) (suc i) (p, q) = omega (arith, take_below ws i q, weight_suc i)

pub number_split : (ws : List ℕ) (i : ℕ) → number (drop i ws) * 2 ^ (32 * i) + number (take i ws) ≡ number ws
number_split ws zero = omega arith
number_split [] (suc i) = omega (arith, zero-mul (2 ^ (32 * suc i)))
number_split (w ∷ ws) (suc i) = omega (arith, number_split ws i, scaled (number (drop i ws)) i)

-- all words
pub number_all : (ws : List ℕ) (i : ℕ) → length ws ≤ i → number (take i ws) ≡ number ws
number_all ws i le = omega (arith, number_split ws i, ap (λ n. n * 2 ^ (32 * i)) (number_past ws i le), zero-mul (2 ^ (32 * i)))

-- a word of another number, and what was passed on to it
pub gathered_word : (down : Bool) (n : ℕ) (os ws : List ℕ) (i v o p r : ℕ) → i < length ws → o ≡ get_or os i 0 → Balanced down n (number (take i os)) (number ws) (p * 2 ^ (32 * i)) →
    Balanced down (get_or ws i 0) (o + p) v (r * 2 ^ 32) → Balanced down n (number (take (i + 1) os)) (number (set ws i v)) (r * 2 ^ (32 * (i + 1)))
gathered_word down n os ws i v o p r lt is e f =
    let W = 2 ^ (32 * i) in
    let x : i + 1 ≡ suc i = omega arith in
    let more : number (take i os) + o * W ≡ number (take (i + 1) os) = rw x (omega (arith, take_word os i, ap (λ k. k * W) is)) in
    renamed down _ _ _ _ _ _ more refl (gathered down n _ ws i v o p r lt e f)

-- two words, one after the other
pub two_words : (down : Bool) (ws : List ℕ) (i v w low high r s : ℕ) → i + 1 < length ws → Balanced down (get_or ws i 0) low v (r * 2 ^ 32) →
    Balanced down (get_or (set ws i v) (i + 1) 0) (high + r) w (s * 2 ^ 32) → Balanced down (number ws) ((low + 2 ^ 32 * high) * 2 ^ (32 * i)) (number (set (set ws i v) (i + 1) w)) (s * 2 ^ (32 * (i + 2)))
two_words down ws i v w low high r s lt e f =
    let W = 2 ^ (32 * i) in
    let y : low + 2 ^ 32 * high ≡ low + high * 2 ^ 32 = omega arith in
    let x : low * W + high * 2 ^ (32 * (i + 1)) ≡ (low + 2 ^ 32 * high) * W = rw y (omega (arith, up_one high i, add-mul low (high * 2 ^ 32) W)) in
    let z : i + 1 + 1 ≡ i + 2 = omega arith in
    renamed down _ _ _ _ _ _ x (ap (λ k. s * 2 ^ (32 * k)) z)
    (gathered down (number ws) (low * W) (set ws i v) (i + 1) w high r s (omega (arith, length-set ws i v)) (weighed down ws i v r low (omega arith) e) f)

-- what one does to words, it does to those that they are the upper ones of
weighted : (down : Bool) (t w a b r : ℕ) → Balanced down a 1 b r → Balanced down (t + w * a) w (t + w * b) (w * r)
weighted false t w a b r e = omega (arith, ap (λ k. w * k) e, mul-add w b r, mul-add w a 1)
weighted true t w a b r e = omega (arith, ap (λ k. w * k) e, mul-add w b 1, mul-add w a r)

number_put : (ws us : List ℕ) (a k : ℕ) → a ≤ length ws → length ws ≤ a + k → number (put_mid a k ws us) ≡ number (take a ws) + 2 ^ (32 * a) * number us
number_put ws us a k le all =
    let post = drop k (drop a ws) in
    let none : number post ≡ 0 = number_past (drop a ws) k (omega (arith, length-drop a ws)) in
    let inner : number (us ++ post) ≡ number us = omega (arith, number_append us post, ap (λ n. 2 ^ (32 * length us) * n) none) in
    let long : length (take a ws) ≡ a = length-take-le a ws le in
    number_append (take a ws) (us ++ post) ∙ ap (λ n. number (take a ws) + 2 ^ (32 * n) * number (us ++ post)) long ∙ ap (λ n. number (take a ws) + 2 ^ (32 * a) * n) inner

all_take : (ws : List ℕ) (i : ℕ) → AllByRecursion (λ w. w < 2 ^ 32) ws → AllByRecursion (λ w. w < 2 ^ 32) (take i ws)
all_take ws zero h = tt
all_take [] (suc i) h = tt
all_take (w ∷ ws) (suc i) (p, q) = (p, all_take ws i q)

all_drop : (ws : List ℕ) (i : ℕ) → AllByRecursion (λ w. w < 2 ^ 32) ws → AllByRecursion (λ w. w < 2 ^ 32) (drop i ws)
all_drop ws zero h = h
all_drop [] (suc i) h = tt
all_drop (w ∷ ws) (suc i) (p, q) = all_drop ws i q

all_append : (ws vs : List ℕ) → AllByRecursion (λ w. w < 2 ^ 32) ws → AllByRecursion (λ w. w < 2 ^ 32) vs → AllByRecursion (λ w. w < 2 ^ 32) (ws ++ vs)
all_append [] vs h g = g
all_append (w ∷ ws) vs (p, q) g = (p, all_append ws vs q g)

eight_put : (ws us : List ℕ) (a k : ℕ) → Eight ws → a + k ≡ 8 → length us ≡ k → AllByRecursion (λ w. w < 2 ^ 32) us → Eight (put_mid a k ws us)
eight_put ws us a k h all long fit =
    let before = length-take-le a ws (omega (arith, h.long)) in
    record {
      long = omega (arith, length-append (take a ws) (us ++ drop k (drop a ws)), length-append us (drop k (drop a ws)), length-drop k (drop a ws), length-drop a ws, before, h.long);
      words32 = all_append (take a ws) (us ++ drop k (drop a ws)) (all_take ws a h.words32) (all_append us (drop k (drop a ws)) fit (all_drop (drop a ws) k (all_drop ws a h.words32)));
    }

-- one that is passed on to the upper of eight words
pub raised : (down : Bool) (ws us : List ℕ) (a k : ℕ) → Eight ws → a + k ≡ 8 → PassesOn down (mid_of a k ws) us → Moved down ws (2 ^ (32 * a)) (put_mid a k ws us)
raised down ws us a k eight all (as_long, fit, (r, most, e)) =
    let W = 2 ^ (32 * a) in
    let rest = drop a ws in
    let long = eight.long in
    let count : length rest ≡ k = omega (arith, length-drop a ws) in
    let mid : number (mid_of a k ws) ≡ number rest = number_all rest k (omega arith) in
    let size : length (mid_of a k ws) ≡ k = length-take-le k rest (omega arith) in
    let before : number (take a ws) + W * number (mid_of a k ws) ≡ number ws = omega (arith, number_split ws a, mul_comm W (number rest), ap (λ n. W * n) mid) in
    let same : 32 * a + 32 * k ≡ 256 = omega arith in
    let whole : W * 2 ^ (32 * k) ≡ 2 ^ 256 = sym (pow-add 2 (32 * a) (32 * k)) ∙ ap (λ n. 2 ^ n) same in
    let over : W * (r * 2 ^ (32 * length (mid_of a k ws))) ≡ r * 2 ^ 256 =
    ap (λ n. W * (r * 2 ^ (32 * n))) size ∙ sym (mul_assoc W r (2 ^ (32 * k))) ∙ ap (λ n. n * 2 ^ (32 * k)) (mul_comm W r) ∙ mul_assoc r W (2 ^ (32 * k)) ∙ ap (λ n. r * n) whole in
    let put = number_put ws us a k (omega arith) (omega arith) in
    let all' = weighted down (number (take a ws)) W (number (mid_of a k ws)) (number us) _ e in
    let put = number_put ws us a k (omega arith) (omega arith) in
    (eight_put ws us a k eight all (as_long ∙ size) fit, (r, most, rw (before, over, sym put) at all'))

-- what was passed on is passed on again
chained : (down : Bool) (a x b y c z : ℕ) → Balanced down a x b y → Balanced down b y c z → Balanced down a x c z
chained false a x b y c z e f = omega arith
chained true a x b y c z e f = omega arith

-- two words, and what is passed on from them
pub two_and_one : (down : Bool) (ws vs us : List ℕ) (n a s : ℕ) → s ≤ 1 → (s ≡ 0 → ⊥) → Balanced down (number ws) n (number vs) (s * 2 ^ (32 * a)) → Moved down vs (2 ^ (32 * a)) us → Moved down ws n us
two_and_one down ws vs us n a s most some e (eight, (r, one, f)) =
    (eight, (r, one, chained down _ _ _ _ _ _ (goes_on down _ _ _ _ _ (omega (arith, some)) e) f))
