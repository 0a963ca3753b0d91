-- The text of a report.
use Rattle.std.specs.Prelude.{ℕ, ◌/◌, ◌%◌, false, List, [], ◌∷◌, ◌++◌, Some, None, codes, decimal, flat_map, Option}
use Rattle.std.specs.Fmt.{digit_glyph}
use Rattle.records.specs.Refusals.{Layer, in_arithmetic, in_record, in_sheet, Refusal}
use Rattle.rounding.specs.declared.answers.Mark.{Mark}
use Rattle.rounding.specs.declared.answers.Mark.TheVariants.{Exact, Low, High, Unordered}
use Rattle.sheets.specs.Sheets.{Outcome}
use Rattle.sheets.specs.declared.line.Line.{Line}

-- a number below 2^16 in four lowercase hexadecimal digits
abbrev pub hexadecimal : ℕ → List ℕ
hexadecimal n = digit_glyph false (n / 4096) ∷ (digit_glyph false (n / 256 % 16) ∷ (digit_glyph false (n / 16 % 16) ∷ (digit_glyph false (n % 16) ∷ [])))

abbrev pub mark_word : Mark → List ℕ
mark_word Exact = codes "exact"
mark_word Low = codes "low"
mark_word High = codes "high"
mark_word Unordered = codes "none"

abbrev pub layer_word : Layer → List ℕ
layer_word in_arithmetic = codes "arithmetic"
layer_word in_record = codes "record"
layer_word in_sheet = codes "sheet"

-- the record's number, the register, the code, the count and the mark
abbrev pub line_text : Line → List ℕ
line_text l =
    decimal l.«record» ++ (codes " " ++ (decimal l.register ++ (codes " " ++ (hexadecimal l.code ++ (codes " " ++ (decimal l.count ++ (codes " " ++ (mark_word l.mark ++ codes "\n"))))))))

-- the refusal's number, the layer where it arose, and its place
abbrev pub fault_text : Refusal → List ℕ
fault_text r =
    codes "fault " ++ (decimal r.number ++ (codes " " ++ (layer_word r.layer ++ (codes " " ++ (decimal r.place ++ codes "\n")))))

abbrev pub lines_text : List Line → List ℕ
lines_text ls = flat_map line_text ls

abbrev pub end_text : Option Refusal → List ℕ
end_text None = []
end_text (Some r) = fault_text r

abbrev pub report_text : Outcome → List ℕ
report_text o = lines_text o.lines ++ end_text o.fault
