-- Numbers as they are written with zeros before them.
use Rattle.std.proofs.Common.{◌≡◌, ℕ, zero, suc, ◌+◌, ◌-◌, ◌/◌, ◌%◌, ◌^◌, ◌<◌, ◌≤◌, max, false, Some, List, [], ◌∷◌, ◌++◌, length, sym, refl, ap, ◌∙◌, ⊎_elim, pow-suc, mod-eq_of_lt, append_assoc, arith, lit<, lit≤}
use native.Mathlib.Nat.{pow-zero}
use Rattle.std.proofs.Math.ListN.{replicate}
use Rattle.std.proofs.Math.Nat.{zero-div}
use Rattle.std.specs.Fmt.{digit_glyph, digits, digits_onto, digits_output, padded_integral, char_count, format_spec, styled_decimal, styled_digits_output}
use Rattle.std.specs.Option.{option_map}
use Rattle.std.proofs.lemmas.Fmt.{decimal_digit}
use Rattle.std.proofs.lemmas.Nat.{div_below}
use Rattle.std.proofs.lemmas.List.{append-nil, length_push, replicate_more}
use Rattle.std.proofs.lemmas.Bool.{cases_eq, eq-eqb, ne_eqb}
use Rattle.listing.specs.Texts.{numeral_text}

zeros_before : (width : ℕ) (numeral : List ℕ) → padded_integral (format_spec 32 0 4 width (2 ^ 64 - 1)) false [] numeral ≡ replicate (width - length numeral) 48 ++ numeral
unfolding padded_integral char_count
zeros_before width numeral =
    let short : width - length numeral - 0 - 0 ≡ width - length numeral = omega arith in
    rw (short, append-nil numeral)

pub no_digits : (base count n : ℕ) → count ≡ 0 → numeral_text base count n ≡ []
unfolding numeral_text
no_digits base count n e = rw e refl

-- the text of zero in so many digits
zeros : (base count : ℕ) → 0 < base → numeral_text base count 0 ≡ replicate count 48
unfolding numeral_text
zeros base zero some = refl
zeros base (suc count) some =
    let d : 0 / base ≡ 0 = zero-div base in
    let m : 0 % base ≡ 0 = mod-eq_of_lt some in
    let e : count + 1 ≡ suc count = omega arith in
    rw (d, m, zeros base count some) (replicate_more count 48 ∙ ap (λ k. replicate k 48) e)

one_more : (count x : ℕ) → length (x ∷ []) + count ≡ suc count
one_more count x = omega arith

longer : (ds : List ℕ) (x j count : ℕ) → length ds + j ≡ count → length (ds ++ (x ∷ [])) + j ≡ suc count
longer ds x j count long = omega (arith, length_push ds x)

-- the digits that are written, and the zeros that are wanting
padded : (base k count n : ℕ) (acc : List ℕ) → 2 ≤ base → 0 < count → count ≤ k → n < base ^ count
    → (j : ℕ) × (ds : List ℕ) × (digits_onto k base false n acc ≡ ds ++ acc) × (length ds + j ≡ count) × (numeral_text base count n ≡ replicate j 48 ++ ds)
unfolding numeral_text
padded base k zero n acc two some le lt = absurd (omega arith)
padded base zero (suc count) n acc two some le lt = absurd (omega arith)
padded base (suc k) (suc count) n acc two some le lt =
    let last = digit_glyph false (n % base) in
    ⊎_elim
    (λ none. rw none (
      count,
      last ∷ [],
      refl,
      one_more count last,
      ap (λ t. t ++ (last ∷ [])) (zeros base count (omega arith)),
    ))
    (λ more.
    let below : n / base < base ^ count = div_below n base (base ^ count) (omega arith) (omega (arith, pow-suc base count)) in
    let any : 0 < count = ⊎_elim (λ z. absurd (more (omega (arith, ap (λ c. base ^ c) z, pow-zero base)))) (λ c. omega arith) (cases_eq count 0) in
    let (j, ds, written, long, text) = padded base k count (n / base) (last ∷ acc) two any (omega arith) below in
    rw (ne_eqb (n / base) 0 more) (
      j,
      ds ++ (last ∷ []),
      written ∙ sym (append_assoc ds (last ∷ []) acc),
      longer ds last j count long,
      ap (λ t. t ++ (last ∷ [])) text ∙ append_assoc (replicate j 48) ds (last ∷ []),
    ))
    (cases_eq (n / base) 0)

-- what a hole with a width and zeros writes of a number that has no more digits
pub zero_padded : (base count n : ℕ) → 2 ≤ base → 0 < count → count ≤ 64 → n < base ^ count
    → padded_integral (format_spec 32 0 4 count (2 ^ 64 - 1)) false [] (digits base false n) ≡ numeral_text base count n
unfolding digits
zero_padded base count n two some most lt =
    let (j, ds, written, long, text) = padded base 64 count n [] two some most lt in
    let is : digits_onto 64 base false n [] ≡ ds = written ∙ append-nil ds in
    let wanting : count - length ds ≡ j = omega arith in
    zeros_before count (digits_onto 64 base false n []) ∙ rw (is, wanting) (sym text)

-- the same in binary or hexadecimal
pub radix_padded : (d : _) (s : _) (base count n : ℕ) → digits_output d ≡ Some (digits base false n) → s ≡ format_spec 32 0 4 count (2 ^ 64 - 1) → 2 ≤ base → 0 < count → count ≤ 64 → n < base ^ count
    → styled_digits_output d s ≡ Some (numeral_text base count n)
radix_padded d s base count n is laid two some most lt =
    rw laid (ap (option_map (padded_integral (format_spec 32 0 4 count (2 ^ 64 - 1)) false [])) is ∙ ap Some (zero_padded base count n two some most lt))

-- and in decimal, where a width of 0 means none
pub decimal_padded : (s : _) (count n : ℕ) → s ≡ format_spec 32 0 4 count (2 ^ 64 - 1) → count ≤ 64 → n < 10 ^ count → styled_decimal s n ≡ numeral_text 10 (max count 1) n
unfolding numeral_text
decimal_padded s count n laid most lt =
    ⊎_elim
    (λ none. let z : n ≡ 0 = omega (arith, ap (λ c. 10 ^ c) none, pow-zero 10) in
    let one : max count 1 ≡ 1 = omega arith in
    rw (laid, eq-eqb count 0 none, z, one) (decimal_digit 0 (lit< tt)))
    (λ some. let more : max count 1 ≡ count = omega arith in
    let any : 0 < count = omega arith in
    rw (laid, ne_eqb count 0 some, more) (zero_padded 10 count n (lit≤ tt) any most lt))
    (cases_eq count 0)
