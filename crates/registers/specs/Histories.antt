-- Histories of calls, the book that is fed the calls alone, and the registers that a history leads to.
use Rattle.std.specs.Prelude.{◌≡◌, ℕ, ◌+◌, cond, List, [], ◌∷◌, ◌++◌, length, ℤ, Result, ◌==◌, ◌≢◌, nat_le}
use Rattle.formats.specs.Meaning.{Meaning}
use Rattle.formats.specs.Value.{Value}
use Rattle.formats.specs.declared.fault.Fault.{Fault}
use Rattle.rounding.specs.Rule.{Rule}
use Rattle.rounding.specs.declared.answers.Saturation.{Saturation}
use Rattle.terms.specs.Offers.{Offer, refusal, terms, add_offer, product_offer}
use Rattle.registers.specs.Calls.{New, limit, Answers, Joins}
use Rattle.registers.specs.Runs.{dot_offer}
use Rattle.registers.specs.declared.register.Register.{Register}

-- a call by its kind, the names of its registers and its other arguments; formats and rules stand by their meanings, whatever these are
pub data Call : Type 0 where
  add : (r : ℕ) → Meaning → (code : ℕ) → Call
  product : (r : ℕ) → Meaning → Meaning → (scale : ℤ) → (x y : ℕ) → Call
  dot : (r : ℕ) → Meaning → Meaning → (scale : ℤ) → (run : List ℕ) → Call
  join : (r other : ℕ) → Call
  read : (r : ℕ) → Meaning → Rule → Saturation → Call

-- the register that a call names first
abbrev pub named : Call → ℕ
named (add r f c) = r
named (product r f g s x y) = r
named (dot r f g s run) = r
named (join r o) = r
named (read r f rule mode) = r

-- the book: a list of terms for each register, the oldest first
abbrev pub Book : Type 0
Book = ℕ → List Value

-- the list after an offer: as it was where the offer is a refusal or the list would be too long
abbrev pub entered : List Value → Offer → List Value
entered old (refusal number place) = old
entered old (terms new) = cond (nat_le (length old + length new) limit) (old ++ new) old

-- the list of the register r after a call
abbrev pub listed : Call → Book → List Value
listed (add r f c) b = entered (b r) (add_offer f c)
listed (product r f g s x y) b = entered (b r) (product_offer f g s x y)
listed (dot r f g s run) b = entered (b r) (dot_offer f g s run)
listed (join r o) b = entered (b r) (terms (b o))
listed (read r f rule mode) b = b r

-- a call changes the list of the register that it names first
abbrev pub note : Call → Book → Book
note call b i = cond (i == named call) (listed call b) (b i)

-- a history, the newest call first
abbrev pub book : List Call → Book
book [] i = []
book (call ∷ earlier) i = note call (book earlier) i

-- registers by their names
abbrev pub Store : Type 0
Store = ℕ → Register

-- what a call makes of the register that it names first: what the contract of the call promises
abbrev pub Effect : Call → Store → Register → Type 0
Effect (add r f c) s new = (a : Result Unit Fault) × Answers (add_offer f c) (s r) a new
Effect (product r f g k x y) s new = (a : Result Unit Fault) × Answers (product_offer f g k x y) (s r) a new
Effect (dot r f g k run) s new = (a : Result Unit Fault) × Answers (dot_offer f g k run) (s r) a new
Effect (join r o) s new = (a : Result Unit Fault) × Joins (s o) (s r) a new
Effect (read r f rule mode) s new = new ≡ s r

-- one call: its effect on the register that it names first, and every other register as it was
pub record Step (call : Call) (s s' : Store) : Type 0 where
  pub effect : Effect call s (s' (named call))
  pub others : (i : ℕ) → (i ≢ named call) → s' i ≡ s i

-- all registers are new at the start, and each call makes its step
abbrev pub Leads : List Call → Store → Type 0
Leads [] s = (i : ℕ) → New (s i)
Leads (call ∷ earlier) s' = (s : Store) × Leads earlier s × Step call s s'

-- the register is one that a history leads to, and these are its terms
pub record Known (r : Register) (ts : List Value) : Type 0 where
  pub history : List Call
  pub store : Store
  pub name : ℕ
  pub leads : Leads history store
  pub is : store name ≡ r
  pub kept : book history name ≡ ts
