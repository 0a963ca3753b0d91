-- The report of a sheet, by the lists of terms of the four registers.
use Rattle.std.specs.Prelude.{ℕ, zero, suc, ◌+◌, ◌-◌, ◌*◌, Bool, cond, ◌&&◌, List, [], ◌∷◌, length, take, drop, Some, None, Option, ◌==◌, nat_le, nat_lt, slice_index}
use Rattle.records.specs.Bodies.{parsed}
use Rattle.records.specs.Entries.{Parsed, refused}
use Rattle.records.specs.Refusals.{Refusal, refusal, in_sheet, shifted}
use Rattle.records.specs.declared.kind.Kind.{Kind}
use Rattle.records.specs.declared.kind.Kind.TheVariants.{Clear, Add, Dot, Join, Read}
use Rattle.registers.specs.Histories.{Book}
use Rattle.rounding.specs.declared.answers.Mark.{Mark}
use Rattle.sheets.specs.Verdicts.{Verdict, refuses, silent, tells, verdict, lists_after}
use Rattle.sheets.specs.declared.line.Line.{Line}

-- the length of the record at the head of what is left, which counts kind and body, and the number of its kind; little-endian
abbrev pub record_length : List ℕ → ℕ
record_length rest = slice_index rest 0 + 256 * slice_index rest 1

abbrev pub kind_number : List ℕ → ℕ
kind_number rest = slice_index rest 2 + 256 * slice_index rest 3

abbrev pub record_bytes : List ℕ → ℕ
record_bytes rest = 2 + record_length rest

-- a whole record stands there
abbrev pub is_whole : List ℕ → Bool
is_whole rest = nat_le 4 (length rest) && nat_le 2 (record_length rest) && nat_le (record_bytes rest) (length rest)

abbrev pub body : List ℕ → List ℕ
body rest = take (record_length rest - 2) (drop 4 rest)

abbrev pub kind_of : ℕ → Option Kind
kind_of n =
    cond (n == 1) (Some Clear)
    (cond (n == 2) (Some Add)
    (cond (n == 3) (Some Dot)
    (cond (n == 4) (Some Join)
    (cond (n == 5) (Some Read) None))))

abbrev pub of_kind : Option Kind → List ℕ → Parsed
of_kind None bytes = refused (refusal 8 in_sheet 2)
of_kind (Some kind) bytes = parsed kind bytes

-- what the record at the head comes to; places are counted from its first byte
abbrev pub parsed_head : List ℕ → Parsed
parsed_head rest = cond (is_whole rest) (of_kind (kind_of (kind_number rest)) (body rest)) (refused (refusal 7 in_sheet 0))

-- the lines of a report, and where it ends in a fault
pub record Outcome : Type 0 where
  pub lines : List Line
  pub fault : Option Refusal

abbrev pub outcome : List Line → Option Refusal → Outcome
outcome lines fault = record { lines = lines; fault = fault }

abbrev pub line : ℕ → ℕ → ℕ → Mark → ℕ → Line
line n r code mark count = record { «record» = n; register = r; code = code; count = count; mark = mark }

-- a verdict on the n-th record, at a place, and what comes later
abbrev pub followed : ℕ → ℕ → Verdict → Outcome → Outcome
followed n place (refuses r) later = outcome [] (Some (shifted place r))
followed n place silent later = later
followed n place (tells r code mark count) later = outcome (line n r code mark count ∷ later.lines) later.fault

-- the records from a place on: the lists so far, the number of the next record, its place, and what is left of the sheet; no sheet has more records than bytes
unfoldable pub remaining : ℕ → Book → ℕ → ℕ → List ℕ → Outcome
remaining zero b n place rest = outcome [] None
remaining (suc most) b n place rest =
    cond (length rest == 0) (outcome [] None)
    (followed n place (verdict b (parsed_head rest))
    (remaining most (lists_after b (parsed_head rest)) (n + 1) (place + record_bytes rest) (drop (record_bytes rest) rest)))

-- over 65,536 bytes nothing is run
abbrev pub reported : List ℕ → Outcome
reported sheet =
    cond (nat_lt 65536 (length sheet)) (outcome [] (Some (refusal 11 in_sheet 65536))) (remaining (length sheet) (λ i. []) 1 0 sheet)
