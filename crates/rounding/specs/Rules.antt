-- The rounding rules by their tables, and their bytes.
use Rattle.std.specs.Prelude.{◌≡◌, ℕ, ◌≤◌, Bool, true, false, not, Ok, Err, Result}
use Rattle.rounding.specs.Rule.{Rule}
use Rattle.sums.specs.declared.magnitude.Remainder.{Remainder}
use Rattle.sums.specs.declared.magnitude.Remainder.TheVariants.{BelowHalf, Half, AboveHalf}
use Rattle.rounding.specs.declared.answers.Saturation.{Saturation}
use Rattle.rounding.specs.declared.answers.Saturation.TheVariants.{SatFinite, SatPropagate, OvfInf}
use Rattle.rounding.specs.declared.modes.NoSuchMode.{NoSuchMode}
use Rattle.rounding.specs.declared.rules.AnyRule.{AnyRule}
use Rattle.rounding.specs.declared.rules.AnyRule.TheVariants.{TiesToEven, TiesToAway, Upward, Downward, Chop}
use Rattle.rounding.specs.declared.rules.NoSuchRule.{NoSuchRule}

abbrev rule : (Bool → Bool → Remainder → Bool) → (Bool → Bool) → Rule
rule away overflows = record { away = away; overflows = overflows }

-- "toward" below the half, "away" above it, and a word at the half
abbrev pub nearer : Remainder → Bool → Bool
nearer BelowHalf at_half = false
nearer Half at_half = at_half
nearer AboveHalf at_half = true

-- 0: to the nearer, at the half to the even one; to infinity
abbrev pub ties_to_even : Rule
ties_to_even = rule (λ negative odd r. nearer r odd) (λ negative. true)

-- 1: to the nearer, at the half away from zero; to infinity
abbrev pub ties_to_away : Rule
ties_to_away = rule (λ negative odd r. nearer r true) (λ negative. true)

-- 2: away and to infinity for the positive sign only
abbrev pub toward_positive : Rule
toward_positive = rule (λ negative odd r. not negative) (λ negative. not negative)

-- 3: away and to infinity for the negative sign only
abbrev pub toward_negative : Rule
toward_negative = rule (λ negative odd r. negative) (λ negative. negative)

-- 4: never away, and to the end
abbrev pub toward_zero : Rule
toward_zero = rule (λ negative odd r. false) (λ negative. false)

abbrev pub table_of : AnyRule → Rule
table_of TiesToEven = ties_to_even
table_of TiesToAway = ties_to_away
table_of Upward = toward_positive
table_of Downward = toward_negative
table_of Chop = toward_zero

abbrev pub rule_byte : AnyRule → ℕ
rule_byte TiesToEven = 0
rule_byte TiesToAway = 1
rule_byte Upward = 2
rule_byte Downward = 3
rule_byte Chop = 4

-- the rule of a byte, or no rule from 5 up
abbrev pub ByRuleByte : ℕ → Result AnyRule NoSuchRule → Type 0
ByRuleByte b (Ok r) = rule_byte r ≡ b
ByRuleByte b (Err e) = 5 ≤ b

abbrev pub mode_byte : Saturation → ℕ
mode_byte SatFinite = 0
mode_byte SatPropagate = 1
mode_byte OvfInf = 2

abbrev pub ByModeByte : ℕ → Result Saturation NoSuchMode → Type 0
ByModeByte b (Ok m) = mode_byte m ≡ b
ByModeByte b (Err e) = 3 ≤ b
