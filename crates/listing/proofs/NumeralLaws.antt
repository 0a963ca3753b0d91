-- Laws of numerals and of decimal fractions.
use Rattle.std.proofs.Common.{◌≡◌, ℕ, zero, suc, ◌+◌, ◌-◌, ◌*◌, ◌/◌, ◌%◌, ◌^◌, ◌<◌, ◌≤◌, ◌≢◌, max, ◌⊎◌, Bool, false, List, [], ◌∷◌, ◌++◌, length, get_or, take, sym, refl, ap, ◌∙◌, inl, inr, ⊎_elim, mul_assoc, pow-suc, zero-mul, arith, lit<, lit≤, pow-add, w32}
use native.Mathlib.Nat.{pow-zero, mul_comm, lt_of_mul-lt-mul_right, mul-lt-mul_of_pos_right}
use Rattle.std.proofs.Math.Nat.{zero-div, pow-le-pow_right}
use Rattle.std.specs.Fmt.{digit_glyph}
use Rattle.std.specs.Int.{trailing_zeros}
use Rattle.std.specs.Int.Count.{count_trailing_zeros}
use Rattle.std.specs.Int.Digits.{number_from_digits}
use Rattle.std.proofs.lemmas.Nat.{pow_pos, div_below, mod_below, div-add-mod', mul-pow, shl-shr, trailing_le}
use Rattle.std.proofs.lemmas.Int.Digits.{number_push, number_more}
use Rattle.std.proofs.ByRecursion.{All-push}
use Rattle.std.proofs.lemmas.List.{length_push, map_push, take_all}
use Rattle.std.proofs.lemmas.Bool.{cases_eq}
use Rattle.listing.specs.Numerals.{Numeral, Fraction, Decimal, Grouped}
use Rattle.listing.specs.Texts.{numeral_text, bits_text, places_after, number_after, units_text}

numeral_none : (base n : ℕ) → n < base ^ 0 → Numeral base 0 n []
numeral_none base n h =
    let z : n ≡ 0 = omega (arith, pow-zero base) in
    record { digits = []; spelled = refl; long = refl; under = tt; value = sym z }

numeral_more : (base count n : ℕ) (text : List ℕ) → 2 ≤ base → Numeral base count (n / base) text → Numeral base (suc count) n (text ++ (digit_glyph false (n % base) ∷ []))
numeral_more base count n text two given =
    record {
      digits = given.digits ++ (n % base ∷ []);
      spelled = ap (λ t. t ++ (digit_glyph false (n % base) ∷ [])) given.spelled ∙ sym (map_push (digit_glyph false) given.digits (n % base));
      long = omega (arith, length_push given.digits (n % base), given.long);
      under = All-push (λ d. d < base) given.digits (n % base) given.under (mod_below n base (omega arith));
      value = number_push base given.digits (n % base) ∙ ap (λ x. x * base + n % base) given.value ∙ div-add-mod' n base;
    }

numeral_room : (base count n : ℕ) → 2 ≤ base → n < base ^ suc count → n / base < base ^ count
numeral_room base count n two h = div_below n base (base ^ count) (omega arith) (omega (arith, pow-suc base count))

pub numeral_text_lem : (base count n : ℕ) → 2 ≤ base → n < base ^ count → Numeral base count n (numeral_text base count n)
unfolding numeral_text
numeral_text_lem base zero n two h = numeral_none base n h
numeral_text_lem base (suc count) n two h =
    numeral_more base count n (numeral_text base count (n / base)) two (numeral_text_lem base count (n / base) two (numeral_room base count n two h))

-- n of k bits is an odd number of 2^z, with z zeros at its end, or 0
trailing : (k n : ℕ) → n < 2 ^ k → (q : ℕ) × (n ≡ q * 2 ^ count_trailing_zeros k n) × (((count_trailing_zeros k n ≡ k) × (n ≡ 0)) ⊎ (q % 2 ≡ 1))
unfolding count_trailing_zeros
trailing zero n lt = (n, omega (arith, pow-zero 2), inl (refl, omega (arith, pow-zero 2)))
trailing (suc k) n lt =
    let (q, is, end) = trailing k (n / 2) (omega (arith, pow-suc 2 k)) in
    let z = count_trailing_zeros k (n / 2) in
    ⊎_elim
    (λ even. rw even (
      q,
      omega (arith, pow-suc 2 z, ap (λ x. q * x) (pow-suc 2 z), mul_assoc q (2 ^ z) 2),
      ⊎_elim (λ none. inl (ap suc none.0, omega (arith, none.1))) (λ odd. inr odd) end,
    ))
    (λ (some : n % 2 ≢ 0). let odd : n % 2 ≡ 1 = omega arith in rw odd (n, omega (arith, pow-zero 2), inr odd))
    (cases_eq (n % 2) 0)

-- an odd number times a power of 5 is odd
odd_more : (q p : ℕ) → q % 2 ≡ 1 → (q * 5 ^ p) % 2 ≡ 1
odd_more q zero odd = omega (arith, ap (λ x. q * x) (pow-zero 5))
odd_more q (suc p) odd = omega (arith, odd_more q p odd, ap (λ x. q * x) (pow-suc 5 p), mul_assoc q (5 ^ p) 5)

some_five : (p : ℕ) → 0 < 5 ^ p
some_five zero = omega (arith, pow-zero 5)
some_five (suc p) = omega (arith, some_five p, pow-suc 5 p)

-- a number that ends in the digit 0 is even
ends_even : (ds : List ℕ) → 0 < length ds → get_or ds (length ds - 1) 0 ≡ 0 → number_from_digits 10 ds % 2 ≡ 0
ends_even ds some z =
    let i = length ds - 1 in
    let e : i + 1 ≡ length ds = omega arith in
    let more : number_from_digits 10 ds ≡ number_from_digits 10 (take i ds) * 10 + get_or ds i 0 =
    ap (number_from_digits 10) (sym (ap (λ k. take k ds) e ∙ take_all (length ds) ds (omega arith))) ∙ number_more 10 ds i (omega arith) in
    omega arith

-- the odd part of a fraction, and its places
parted : (f q : ℕ) → f ≡ q * 2 ^ trailing_zeros w32 f → (f / 2 ^ trailing_zeros w32 f ≡ q) × (places_after f + trailing_zeros w32 f ≡ 32)
parted f q is = let z = trailing_zeros w32 f in (ap (λ x. x / 2 ^ z) is ∙ shl-shr q z, omega (arith, trailing_le 32 f))

-- the number has no more digits than the places
pub number_below : (f : ℕ) → f < 2 ^ 32 → number_after f < 10 ^ places_after f
number_below f below =
    let z = trailing_zeros w32 f in
    let p = places_after f in
    let (q, is, end) = trailing 32 f below in
    let (whole, e) = parted f q is in
    let short : q < 2 ^ p = lt_of_mul-lt-mul_right (2 ^ z) (omega (arith, pow-add 2 p z, ap (λ x. 2 ^ x) e)) in
    rw (whole, mul-pow 2 5 p) (mul-lt-mul_of_pos_right short (some_five p))

-- the code's steps have room
pub five_room : (p : ℕ) → p ≤ 32 → 5 ^ p < 2 ^ 128
five_room p le = let m : 5 ^ p ≤ 5 ^ 32 = pow-le-pow_right (lit< tt) le in omega arith

pub number_room : (f : ℕ) → f < 2 ^ 32 → number_after f < 2 ^ 128
number_room f below =
    let le : places_after f ≤ 32 = omega arith in
    let m : 10 ^ places_after f ≤ 10 ^ 32 = pow-le-pow_right (lit< tt) le in
    omega (arith, number_below f below)

swapped : (q a b c : ℕ) → q * c * (b * a) ≡ q * a * (b * c)
swapped q a b c = mul_assoc q c (b * a) ∙ ap (λ x. q * x) (mul_comm c (b * a) ∙ ap (λ x. x * c) (mul_comm b a) ∙ mul_assoc a b c) ∙ sym (mul_assoc q a (b * c))

value : (f q z p : ℕ) → f ≡ q * 2 ^ z → p + z ≡ 32 → q * 5 ^ p * 2 ^ 32 ≡ f * 10 ^ p
value f q z p is e =
    let two : 2 ^ 32 ≡ 2 ^ p * 2 ^ z = ap (λ x. 2 ^ x) (sym e) ∙ pow-add 2 p z in
    ap (λ x. q * 5 ^ p * x) two ∙ swapped q (2 ^ z) (2 ^ p) (5 ^ p) ∙ ap (λ x. x * (2 ^ p * 5 ^ p)) (sym is) ∙ ap (λ x. f * x) (sym (mul-pow 2 5 p))

-- a fraction from its digits as a number
of_numeral : (f n count : ℕ) (text : List ℕ) → 0 < count → Numeral 10 count n text → n * 2 ^ 32 ≡ f * 10 ^ count → (n % 2 ≡ 0 → count ≡ 1) → Fraction f text
of_numeral f n count text some given is lone = record {
  digits = given.digits;
  spelled = given.spelled;
  under = given.under;
  some = omega (arith, given.long);
  value = rw (given.value, given.long) is;
  short = λ z. given.long ∙ lone (sym (ap (λ x. x % 2) given.value) ∙ ends_even given.digits (omega (arith, given.long)) z);
}

fraction : (f : ℕ) → f < 2 ^ 32 → Fraction f (numeral_text 10 (max (places_after f) 1) (number_after f))
fraction f below =
    let z = trailing_zeros w32 f in
    let p = places_after f in
    let (q, is, end) = trailing 32 f below in
    let (whole, e) = parted f q is in
    let ten : 2 ≤ 10 = lit≤ tt in
    ⊎_elim
    (λ (none : (z ≡ 32) × (f ≡ 0)).
    let one : max p 1 ≡ 1 = omega (arith, none.0) in
    let n : number_after f ≡ 0 = ap (λ x. x / 2 ^ z * 5 ^ p) none.1 ∙ ap (λ x. x * 5 ^ p) (zero-div (2 ^ z)) ∙ zero-mul (5 ^ p) in
    rw (one, n) (of_numeral f 0 1 _ (lit< tt) (numeral_text_lem 10 1 0 ten (lit< tt)) (omega (arith, none.1)) (λ _. refl)))
    (λ odd.
    let some : 0 < p = ⊎_elim (λ none. let all : z ≡ 32 = omega arith in absurd (omega (arith, is, ap (λ k. q * 2 ^ k) all))) (λ n. omega arith) (cases_eq p 0) in
    let more : max p 1 ≡ p = omega arith in
    let n : number_after f ≡ q * 5 ^ p = ap (λ x. x * 5 ^ p) whole in
    rw more
    (of_numeral f (number_after f) p _ some (numeral_text_lem 10 p (number_after f) ten (number_below f below)) (rw n (value f q z p is e))
    (λ even. absurd (omega (arith, odd_more q p odd, n)))))
    end

pub units_decimal : (negative : Bool) (n : ℕ) → Decimal negative n (units_text negative n)
unfolding units_text
units_decimal negative n =
    record {
      after = numeral_text 10 (max (places_after (n % 2 ^ 32)) 1) (number_after (n % 2 ^ 32));
      fraction = fraction (n % 2 ^ 32) (mod_below n (2 ^ 32) (lit< tt));
      spelled = refl;
    }

pub bits_grouped : (k p c : ℕ) → c < 2 ^ k → Grouped k p c (bits_text k p c)
bits_grouped k p c lt =
    let two : 2 ≤ 2 = lit≤ tt in
    record {
      sign = numeral_text 2 1 (2 * c / 2 ^ k);
      exponent = numeral_text 2 (k - p) (c / 2 ^ (p - 1) % 2 ^ (k - p));
      fraction = numeral_text 2 (p - 1) (c % 2 ^ (p - 1));
      sign_is = numeral_text_lem 2 1 (2 * c / 2 ^ k) two (div_below (2 * c) (2 ^ k) 2 (pow_pos k) (omega arith));
      exponent_is = numeral_text_lem 2 (k - p) (c / 2 ^ (p - 1) % 2 ^ (k - p)) two (mod_below (c / 2 ^ (p - 1)) (2 ^ (k - p)) (pow_pos (k - p)));
      fraction_is = numeral_text_lem 2 (p - 1) (c % 2 ^ (p - 1)) two (mod_below c (2 ^ (p - 1)) (pow_pos (p - 1)));
      spelled = refl;
    }
