use Rattle.std.proofs.Common.{◌*◌, ◌^◌, ◌≤◌, take}
use Rattle.sums.specs.Words.{number, Eight, Balanced}
use Rattle.sums.proofs.words.move_all.Given as goal

-- the words of the other number below the index have gone in
abbrev pub invariant-loop-i : goal.invariant-loop-i
invariant-loop-i l =
    (l.passed ≤ 1) × Eight l.words × Balanced l.down (number l.initial.words) (number (take l.i l.other)) (number l.words) (l.passed * 2 ^ (32 * l.i))
