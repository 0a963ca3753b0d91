use Rattle.std.proofs.Common.{rules, ◌+◌, ◌-◌, ◌*◌, ◌^◌, List, ℕ, set, arith}
use Rattle.sums.specs.Words.{number, Eight, Balanced}
use Rattle.sums.proofs.WordLaws.{eight_of, two_words, raised, two_and_one, stops}
use Rattle.sums.proofs.words.move_at.Goals as goal
use Rattle.sums.proofs.words.move_at.Goals.{After-moved-word-2, at-returns-then-second-ne0, at-returns-else-second-ne0}

after : After-moved-word-2 → List ℕ
after c = set (set c.args.words.now c.args.at c.moved-word.result.0) (c.args.at + 1) c.moved-word-2.result.0

eight : (c : After-moved-word-2) → Eight (after c)
unfolding after
eight c = eight_of _ (search rules) (λ k. search rules)

-- both words, and what is passed on
both : (c : After-moved-word-2) →
    Balanced c.args.down (number c.args.words.now) ((c.args.low + 2 ^ 32 * c.args.high) * 2 ^ (32 * c.args.at)) (number (after c)) (c.moved-word-2.result.1 * 2 ^ (32 * (c.args.at + 2)))
unfolding after
both c =
    let first = rw c.from.ensures at c.moved-word.ensures.0 in
    let second = rw c.from-2.ensures at c.moved-word-2.ensures.0 in
    two_words c.args.down c.args.words.now c.args.at _ _ c.args.low c.args.high _ _ (omega arith) first second

pub returns-then-second-ne0 : goal.returns-then-second-ne0
unfolding after
returns-then-second-ne0 c =
    let d = (at-returns-then-second-ne0 c).After-moved-word-2 in
    two_and_one c.args.down _ (after d) _ _ (c.args.at + 2) _ c.moved-word-2.ensures.1 c.if-second-ne0.true (both d)
    (raised c.args.down (after d) _ (c.args.at + 2) (8 - (c.args.at + 2)) (eight d) (omega arith) c.move_one.ensures)

pub returns-else-second-ne0 : goal.returns-else-second-ne0
unfolding after
returns-else-second-ne0 c =
    let d = (at-returns-else-second-ne0 c).After-moved-word-2 in
    (eight d, (0, omega arith, stops c.args.down _ _ _ _ _ (2 ^ 256) c.if-second-ne0.false (both d)))
