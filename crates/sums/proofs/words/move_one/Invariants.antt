use Rattle.std.proofs.Common.{◌<◌, ◌*◌, ◌^◌}
use Rattle.std.specs.List.{AllByRecursion}
use Rattle.sums.specs.Words.{number, Balanced}
use Rattle.sums.proofs.words.move_one.Given as goal

-- one is still to go to the word at the index
abbrev pub invariant-loop-word : goal.invariant-loop-word
invariant-loop-word l =
    AllByRecursion (λ w. w < 2 ^ 32) l.words × Balanced l.down (number l.initial.words) 1 (number l.words) (2 ^ (32 * l.word-index))
