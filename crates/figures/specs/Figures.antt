-- Figures worked out by hand, to which the definitions are held.
use Rattle.std.specs.Prelude.{◌≡◌, ℕ, ◌*◌, ◌^◌, List, [], ◌∷◌, length, ℤ, pos, neg_ℤ}
use Rattle.std.specs.List.{AllByRecursion}
use Rattle.formats.specs.AnyFormat.{byte_meaning}
use Rattle.formats.specs.Value.{finite}
use Rattle.rounding.specs.Projection.{projected}
use Rattle.rounding.specs.Rule.{Rule}
use Rattle.rounding.specs.Rules.{ties_to_even, ties_to_away, toward_negative, toward_zero}
use Rattle.rounding.specs.declared.answers.Mark.{Mark}
use Rattle.rounding.specs.declared.answers.Mark.TheVariants.{Exact}
use Rattle.rounding.specs.declared.answers.Saturation.TheVariants.{OvfInf}
use Rattle.terms.specs.Terms.{exact_sum}
use Rattle.registers.specs.Histories.{Call, add, book}

pub data Figure : Type 0 where
  -- a format byte, a code, and what the code reads as, in units of 2^-32
  reads : ℕ → ℕ → ℕ → Figure
  -- a rule, a value in units of 2^-96, and its code in binary8p4 and mode 2
  gets : Rule → ℤ → ℕ → Figure
  -- a history, the newest call first, and what register 0 then reads in binary8p4 under rule 0 and mode 2: code, mark and count
  leaves : List Call → ℕ → Mark → ℕ → Figure

abbrev pub Holds : Figure → Type 0
Holds (reads format code units) = (byte_meaning format).decode code ≡ finite (pos units)
Holds (gets rule z code) = (projected (byte_meaning 0x84) rule OvfInf (finite z)).0 ≡ code
Holds (leaves history code mark count) =
    let terms = book history 0 in
    (projected (byte_meaning 0x84) ties_to_even OvfInf (exact_sum terms) ≡ (code, mark)) × (length terms ≡ count)

abbrev whole : ℕ → ℤ
whole n = pos (n * 2 ^ 96)

-- a code goes into register 0
abbrev added : ℕ → ℕ → Call
added format code = add 0 (byte_meaning format) code

abbrev pub figures : List Figure
figures =
    -- binary8p4: 2^-10, 2^-7 and 224
    reads 0x84 0x01 (2 ^ 22) ∷
    (reads 0x84 0x08 (2 ^ 25) ∷
    (reads 0x84 0x7E (224 * 2 ^ 32) ∷
    -- binary8p2: 2^31
    (reads 0x82 0x7E (2 ^ 63) ∷
    -- binary16: 2^-24
    (reads 0x00 0x0001 (2 ^ 8) ∷
    -- 17 lies at the half between 16 and 18, and 19 between 18 and 20
    (gets ties_to_even (whole 17) 0x60 ∷
    (gets ties_to_away (whole 17) 0x61 ∷
    (gets ties_to_even (whole 19) 0x62 ∷
    (gets toward_negative (neg_ℤ (whole 17)) 0xE1 ∷
    -- 232 lies at the half between 224, the largest value, and 240
    (gets ties_to_even (whole 232) 0x7E ∷
    (gets ties_to_away (whole 232) 0x7F ∷
    (gets toward_zero (whole 240) 0x7E ∷
    -- 2^-11 is half of the smallest value
    (gets ties_to_even (pos (2 ^ 85)) 0x00 ∷
    (gets ties_to_away (pos (2 ^ 85)) 0x01 ∷
    -- 2^31, then 2^-10, then -2^31: what is left is not lost
    (leaves (added 0x82 0xFE ∷ (added 0x84 0x01 ∷ (added 0x82 0x7E ∷ []))) 0x01 Exact 3 ∷ []))))))))))))))

-- every figure of the table holds
abbrev pub FiguresHold : Type 0
FiguresHold = AllByRecursion Holds figures
