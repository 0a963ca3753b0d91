-- What the steps of a run answer.
use Rattle.std.specs.Prelude.{◌≡◌, ℕ, ◌<◌, true, false, List, [], ◌++◌, length, drop, Some, None, Ok, Err, Option, Result, slice_index_or}
use Rattle.std.specs.Borrow.{Bor}
use Rattle.formats.specs.declared.fault.Fault.{Fault}
use Rattle.formats.specs.declared.fault.Fault.TheVariants.{NoSuchFormat, CodeTooLarge, ValueNotRepresentable, ScaleOutOfRange, RegisterFull, NotWholeCodes}
use Rattle.records.specs.Entries.{Parsed, refused}
use Rattle.records.specs.Refusals.{Refusal, refusal_of}
use Rattle.records.specs.declared.fault.RecordFault.{RecordFault}
use Rattle.records.specs.declared.fault.RecordFault.TheVariants.{Arithmetic}
use Rattle.records.specs.declared.kind.Kind.{Kind}
use Rattle.registers.specs.Calls.{Has}
use Rattle.registers.specs.Histories.{Book}
use Rattle.registers.specs.declared.register.Register.{Register}
use Rattle.sheets.specs.Faults.{sheet_refusal, ended}
use Rattle.sheets.specs.Sheets.{line, kind_number, record_bytes, is_whole, body, kind_of, parsed_head, Outcome, remaining}
use Rattle.sheets.specs.Verdicts.{Verdict, refuses, silent, tells, verdict, lists_after}
use Rattle.sheets.specs.declared.bench.Bench.{Bench}
use Rattle.sheets.specs.declared.fault.SheetFault.{SheetFault}
use Rattle.sheets.specs.declared.fault.Stop.{Stop}
use Rattle.sheets.specs.declared.line.Line.{Line}

-- each of the four registers has just the terms of its list
pub record Keeps (bench : Bench) (b : Book) : Type 0 where
  pub four : length bench.registers ≡ 4
  pub each : (i : ℕ) (d : Register) → i < 4 → Has (slice_index_or bench.registers i d) (b i)

-- the answer to the n-th record tells what the verdict says
abbrev pub Tells : {F : Type 0} → (F → Refusal) → ℕ → Verdict → Result (Option Line) F → Type 0
Tells refusal n (refuses r) (Ok told) = ⊥
Tells refusal n (refuses r) (Err f) = refusal f ≡ r
Tells refusal n silent (Ok None) = Unit {0}
Tells refusal n silent (Ok (Some l)) = ⊥
Tells refusal n silent (Err f) = ⊥
Tells refusal n (tells r code mark count) (Ok None) = ⊥
Tells refusal n (tells r code mark count) (Ok (Some l)) = l ≡ line n r code mark count
Tells refusal n (tells r code mark count) (Err f) = ⊥

-- after a record the registers keep the lists after it, and a refused one leaves them as they were
abbrev pub Left : {F : Type 0} → Bench → Book → Result (Option Line) F → Bench → Type 0
Left old b (Ok told) new = Keeps new b
Left old b (Err f) new = new ≡ old

-- the n-th record of these fields was performed
abbrev pub Performs : ℕ → Parsed → Bench → Result (Option Line) RecordFault → Bench → Type 0
Performs n p old r new = (b : Book) → Keeps old b → Tells refusal_of n (verdict b p) r × Left old (lists_after b p) r new

-- a call's refusal, at its offset in the record: the codes begin at a given one
abbrev pub offset_of : ℕ → Fault → ℕ
offset_of codes NoSuchFormat = codes
offset_of codes (CodeTooLarge place) = codes
offset_of codes ValueNotRepresentable = codes
offset_of codes ScaleOutOfRange = 7
offset_of codes RegisterFull = 0
offset_of codes NotWholeCodes = codes

abbrev pub Placed : ℕ → Result Unit Fault → Result (Option Line) RecordFault → Type 0
Placed codes (Ok done) r = r ≡ Ok None
Placed codes (Err f) r = r ≡ Err (Arithmetic (offset_of codes f) f)

-- the whole record at the head: the number of its kind, its body and what is left after it; None where there is no whole one
abbrev pub Whole : List ℕ → Option (ℕ × Bor (List ℕ) × Bor (List ℕ)) → Type 0
Whole rest None = is_whole rest ≡ false
Whole rest (Some (number, bytes, left)) =
    (is_whole rest ≡ true) × (number ≡ kind_number rest) × (bytes.now ≡ body rest) × (left.now ≡ drop (record_bytes rest) rest)

-- the kind and the body of the record at the head and what is left after it, or why none stands there
pub record WholeHead (rest : List ℕ) (kind : Kind) (bytes left : List ℕ) : Type 0 where
  pub whole : is_whole rest ≡ true
  pub kind_is : kind_of (kind_number rest) ≡ Some kind
  pub body_is : bytes ≡ body rest
  pub left_is : left ≡ drop (record_bytes rest) rest

abbrev pub Heads : List ℕ → Result (Kind × Bor (List ℕ) × Bor (List ℕ)) SheetFault → Type 0
Heads rest (Ok (kind, bytes, left)) = WholeHead rest kind bytes.now left.now
Heads rest (Err f) = parsed_head rest ≡ refused (sheet_refusal f)

-- the record at the head was performed
pub record Stepped (n : ℕ) (rest : List ℕ) (b : Book) (told : Option Line) (left : List ℕ) (new : Bench) : Type 0 where
  pub whole : is_whole rest ≡ true
  pub tells : Tells sheet_refusal n (verdict b (parsed_head rest)) (Ok told)
  pub keeps : Keeps new (lists_after b (parsed_head rest))
  pub left_is : left ≡ drop (record_bytes rest) rest

abbrev pub Steps : ℕ → List ℕ → Bench → Result (Option Line × Bor (List ℕ)) SheetFault → Bench → Type 0
Steps n rest old (Ok (told, left)) new = (b : Book) → Keeps old b → Stepped n rest b told left.now new
Steps n rest old (Err f) new = (b : Book) → Keeps old b → Tells sheet_refusal n (verdict b (parsed_head rest)) (Err f)

-- the lines and the fault of an outcome
pub record Reports (o : Outcome) (lines : List Line) (fault : Option Stop) : Type 0 where
  pub lines_are : lines ≡ o.lines
  pub fault_is : ended fault ≡ o.fault

-- the lines of a sheet after those that were there, and its fault
abbrev pub Follows : List ℕ → List Line → Option Stop → List Line → Type 0
Follows sheet before fault after =
    (lines : List Line) × (after ≡ before ++ lines) × Reports (remaining (length sheet) (λ i. []) 1 0 sheet) lines fault
