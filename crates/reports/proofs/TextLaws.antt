-- Text that is written piece after piece.
use Rattle.std.proofs.Common.{◌≡◌, ℕ, ◌/◌, ◌%◌, ◌<◌, List, ◌++◌, zero, suc, Bool, true, false, ◌&&◌, eqb, refl, w16, arith, ap, ◌∙◌}
use Rattle.std.proofs.lemmas.Bool.Decides.{Decides-eqb, Decides-below_and}
use Rattle.std.proofs.lemmas.List.{append_assoc}
use Rattle.hex.specs.Hex.{lower_digits, encode_with, encode_lower}
use Rattle.std.specs.Prelude.{slice_index}
use Rattle.std.specs.Int.{to_be_bytes}
use Rattle.std.specs.Fmt.{digit_glyph}
use Rattle.reports.specs.Texts.{hexadecimal}

-- two pieces, one after the other
pub joined : (before x y : List ℕ) {middle after : List ℕ} → middle ≡ before ++ x → after ≡ middle ++ y → after ≡ before ++ (x ++ y)
joined before x y p q = q ∙ ap (λ t. t ++ y) p ∙ append_assoc before x y

-- so many digits of the table are the digits' glyphs
abbrev same : ℕ → Bool
same d = eqb (slice_index lower_digits d) (digit_glyph false d)

abbrev all_same : ℕ → Bool
all_same zero = true
all_same (suc d) = same d && all_same d

glyph : (d : ℕ) → d < 16 → slice_index lower_digits d ≡ digit_glyph false d
glyph = (Decides-below_and same (λ d. slice_index lower_digits d ≡ digit_glyph false d) all_same (λ d. Decides-eqb (slice_index lower_digits d) (digit_glyph false d)) refl (λ _. refl) 16).0 refl

-- a code's two bytes in hexadecimal
pub hexadecimal_is : (n : ℕ) → n < 65536 → encode_lower (to_be_bytes w16 n) ≡ hexadecimal n
unfolding encode_with
hexadecimal_is n lt =
    let glyph_of = λ (x y : ℕ) (below : x < 16) (e : x ≡ y). glyph x below ∙ ap (digit_glyph false) e in
    let a = glyph_of (n / 256 % 256 / 16) (n / 4096) (omega arith) (omega arith) in
    let b = glyph_of (n / 256 % 256 % 16) (n / 256 % 16) (omega arith) (omega arith) in
    let c = glyph_of (n % 256 / 16) (n / 16 % 16) (omega arith) (omega arith) in
    let d = glyph_of (n % 256 % 16) (n % 16) (omega arith) (omega arith) in
    cc
