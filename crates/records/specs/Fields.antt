-- What the functions that read records answer.
use Rattle.std.specs.Prelude.{◌≡◌, ℕ, ◌<◌, ◌≤◌, true, false, ◌⊎◌, List, length, Ok, Err, Result}
use Rattle.formats.specs.AnyFormat.{meaning_of, byte_meaning}
use Rattle.formats.specs.Meaning.{Meaning}
use Rattle.formats.specs.declared.any.AnyFormat.{AnyFormat}
use Rattle.registers.specs.Runs.{wide, code_bytes, code_at}
use Rattle.rounding.specs.Rules.{table_of, ByRuleByte, ByModeByte}
use Rattle.rounding.specs.declared.answers.Saturation.{Saturation}
use Rattle.rounding.specs.declared.rules.AnyRule.{AnyRule}
use Rattle.records.specs.Bodies.{is_format, rule_of, mode_of, clear_fields, add_fields, dot_fields, join_fields, read_fields}
use Rattle.records.specs.Entries.{Parsed, refused}
use Rattle.records.specs.Refusals.{refusal, in_arithmetic, in_record, refusal_of}
use Rattle.records.specs.declared.fault.RecordFault.{RecordFault}
use Rattle.records.specs.declared.kind.Kind.{Kind}
use Rattle.records.specs.declared.kind.Kind.TheVariants as kinds
use Rattle.records.specs.declared.kind.NoSuchKind.{NoSuchKind}
use Rattle.records.specs.declared.record.Record.{Record}
use Rattle.records.specs.declared.record.Record.TheVariants.{Clear, Add, Dot, Join, Read}

-- what the fields of a record come to
abbrev pub fields_of : Record → Parsed
fields_of (Clear r) = clear_fields r
fields_of (Add r f code) = add_fields r f code.now
fields_of (Dot r f g scale pairs) = dot_fields r f g scale pairs.now
fields_of (Join r o) = join_fields r o
fields_of (Read r f rule mode) = read_fields r f rule mode

-- the record whose fields come to the same, or the fault that was found
abbrev pub Splits : Parsed → Result Record RecordFault → Type 0
Splits p (Ok r) = fields_of r ≡ p
Splits p (Err f) = p ≡ refused (refusal_of f)

abbrev pub kind_number : Kind → ℕ
kind_number kinds.Clear = 1
kind_number kinds.Add = 2
kind_number kinds.Dot = 3
kind_number kinds.Join = 4
kind_number kinds.Read = 5

-- the kind of a number, or an error where it is not 1 to 5
abbrev pub ByNumber : ℕ → Result Kind NoSuchKind → Type 0
ByNumber n (Ok k) = kind_number k ≡ n
ByNumber n (Err e) = (n ≡ 0) ⊎ (5 < n)

abbrev pub RegisterAt : ℕ → ℕ → Result ℕ RecordFault → Type 0
RegisterAt offset b (Ok r) = (r ≡ b) × (b < 4)
RegisterAt offset b (Err f) = (4 ≤ b) × (refusal_of f ≡ refusal 10 in_record offset)

abbrev pub FormatAt : ℕ → ℕ → Result AnyFormat RecordFault → Type 0
FormatAt offset b (Ok f) = (is_format b ≡ true) × (meaning_of f ≡ byte_meaning b)
FormatAt offset b (Err f) = (is_format b ≡ false) × (refusal_of f ≡ refusal 1 in_arithmetic offset)

-- what a byte gives, or refusal 10 at a byte that gives nothing
abbrev pub NumberedAt : {T E : Type 0} → (ℕ → Result T E → Type 0) → ℕ → ℕ → Result T RecordFault → Type 0
NumberedAt gives offset b (Ok x) = gives b (Ok x)
NumberedAt {E = E} gives offset b (Err f) = ((e : E) × gives b (Err e)) × (refusal_of f ≡ refusal 10 in_record offset)

abbrev pub RuleAt : ℕ → ℕ → Result AnyRule RecordFault → Type 0
RuleAt offset b (Ok r) = (b < 5) × (table_of r ≡ rule_of b)
RuleAt offset b (Err f) = (5 ≤ b) × (refusal_of f ≡ refusal 10 in_record offset)

-- so it is at the byte of a rule
abbrev pub RulesAt : Type 0
RulesAt = (offset b : ℕ) (r : Result AnyRule RecordFault) → NumberedAt ByRuleByte offset b r → RuleAt offset b r

abbrev pub ModeAt : ℕ → ℕ → Result Saturation RecordFault → Type 0
ModeAt offset b (Ok m) = (b < 3) × (m ≡ mode_of b)
ModeAt offset b (Err f) = (3 ≤ b) × (refusal_of f ≡ refusal 10 in_record offset)

-- and at the byte of a mode
abbrev pub ModesAt : Type 0
ModesAt = (offset b : ℕ) (r : Result Saturation RecordFault) → NumberedAt ByModeByte offset b r → ModeAt offset b r

-- the code that the bytes are, where they are as many as a code of the format takes
abbrev pub OneCode : ℕ → Meaning → List ℕ → Result ℕ RecordFault → Type 0
OneCode offset m bytes (Ok c) = (length bytes ≡ code_bytes m) × (c ≡ code_at (wide m) bytes 0)
OneCode offset m bytes (Err f) = ((length bytes ≡ code_bytes m) → ⊥) × (refusal_of f ≡ refusal 6 in_arithmetic offset)
