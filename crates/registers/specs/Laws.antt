-- What holds of every register that a history leads to.
use Rattle.std.specs.Prelude.{◌≡◌, ℕ, ◌*◌, ◌^◌, ◌<◌, ◌≤◌, true, false, List, [], ◌∷◌, length, ℤ, unsigned_abs}
use Rattle.formats.specs.Meaning.{Meaning, Lawful}
use Rattle.formats.specs.Value.{Value, finite, is_nan, less}
use Rattle.rounding.specs.Laws.{distance}
use Rattle.rounding.specs.Projection.{projected}
use Rattle.rounding.specs.Rule.{Rule, Monotone, Nearest}
use Rattle.rounding.specs.declared.answers.Mark.{Mark}
use Rattle.rounding.specs.declared.answers.Saturation.{Saturation}
use Rattle.terms.specs.Terms.{exact_sum}
use Rattle.registers.specs.Calls.{New, read_of}
use Rattle.registers.specs.Histories.{Call, join, Store, Step, Leads, Known}
use Rattle.registers.specs.declared.register.Register.{Register}

-- as many terms, and the same exact sum
abbrev pub SameTerms : List Value → List Value → Type 0
SameTerms ts ts' = (length ts ≡ length ts') × (exact_sum ts ≡ exact_sum ts')

-- two registers are equal in every field exactly when their counts of terms and their exact sums are
abbrev pub EqualExactlyWhen : Register → Register → Type 0
EqualExactlyWhen r r' = (ts ts' : List Value) → Known r ts → Known r' ts' →
    (r ≡ r' → SameTerms ts ts') × (SameTerms ts ts' → r ≡ r')

-- the answer is the projection of the terms' exact sum, and their number
abbrev pub ReadsItsTerms : Meaning → Rule → Saturation → Register → (ℕ × Mark) × ℕ → Type 0
ReadsItsTerms m rule mode r answer = (ts : List Value) → Known r ts →
    answer ≡ (projected m rule mode (exact_sum ts), length ts)

-- the value that a register reads, in units of 2^-32
abbrev pub value_read : Meaning → Rule → Saturation → Register → Value
value_read m rule mode r = m.decode (read_of m rule mode r).0.0

-- of two registers, neither sum NaN, the one with the lesser sum never reads the greater value
abbrev pub KeepsOrder : Meaning → Rule → Saturation → Register → Register → Type 0
KeepsOrder m rule mode r r' = (ts ts' : List Value) → Known r ts → Known r' ts' →
    is_nan (exact_sum ts) ≡ false → is_nan (exact_sum ts') ≡ false → less (exact_sum ts) (exact_sum ts') ≡ true →
    less (value_read m rule mode r') (value_read m rule mode r) ≡ false

-- the code reads a finite value, and no finite value of the format is nearer to x, in units of 2^-96
pub record NearestCode (m : Meaning) (x : ℤ) (code : ℕ) : Type 0 where
  pub value : ℤ
  pub reads : m.decode code ≡ finite value
  pub nearest : (c : ℕ) (w : ℤ) → c < 2 ^ m.width → m.decode c ≡ finite w → distance value x ≤ distance w x

-- where the terms' exact sum is finite and of size at most M, the code that is read is a nearest one
abbrev pub ReadsNearest : Meaning → Rule → Saturation → Register → Type 0
ReadsNearest m rule mode r = (ts : List Value) (x : ℤ) → Known r ts → exact_sum ts ≡ finite x → unsigned_abs x ≤ m.largest * 2 ^ 64 →
    NearestCode m x (read_of m rule mode r).0.0

-- the laws together, over every lawful format, every rule and every mode, for all registers that histories lead to
pub record RegisterLaws : Type 0 where
  pub start : (r : Register) → New r → Known r []
  pub equal : (r r' : Register) → EqualExactlyWhen r r'
  pub reading : (m : Meaning) (rule : Rule) (mode : Saturation) (r : Register) → Lawful m → Monotone rule → ReadsItsTerms m rule mode r (read_of m rule mode r)
  pub order : (m : Meaning) (rule : Rule) (mode : Saturation) (r r' : Register) → Lawful m → Monotone rule → KeepsOrder m rule mode r r'
  pub nearest : (m : Meaning) (rule : Rule) (mode : Saturation) (r : Register) → Lawful m → Monotone rule → Nearest rule → ReadsNearest m rule mode r

-- the store after a call, in which the history with that call added leads to the register as the call left it
pub record Continued (call : Call) (earlier : List Call) (s : Store) (i : ℕ) (new : Register) : Type 0 where
  pub store : Store
  pub step : Step call s store
  pub leads : Leads (call ∷ earlier) store
  pub is : store i ≡ new

-- a history that leads to the register as the call found it leads, with the call added, to the register as it left it
abbrev pub Recorded : (ℕ → Call) → Register → Register → Type 0
Recorded call old new = (h : List Call) (s : Store) (i : ℕ) → Leads h s → s i ≡ old → Continued (call i) h s i new

-- the same of a join, where the history leads to the other register too, which may be the same one
abbrev pub RecordedJoin : Register → Register → Register → Type 0
RecordedJoin other old new = (h : List Call) (s : Store) (i o : ℕ) → Leads h s → s i ≡ old → s o ≡ other →
    Continued (join i o) h s i new
