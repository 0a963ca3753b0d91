use Rattle.std.proofs.Common.{◌≡◌, ◌≤◌, take}
use Rattle.layout.specs.Digits.{digits}
use Rattle.sums.specs.Words.{number}
use Rattle.sums.proofs.magnitude.Magnitude.bit_length.Given as goal

-- the digits of the words below the index
abbrev pub invariant-loop-i : goal.invariant-loop-i
invariant-loop-i l = (l.bits ≡ digits (number (take l.i l.self.words))) × (l.bits ≤ 256)
