use Rattle.std.proofs.Common.{rules, ◌<◌, ◌^◌, ◌∙◌, arith, length-set}
use Rattle.std.proofs.ByRecursion.{All-set}
use Rattle.sums.proofs.WordLaws.{on, stops, goes_on}
use Rattle.sums.proofs.words.move_one.Goals as goal

pub returns-then-passed-eq0 : goal.returns-then-passed-eq0
returns-then-passed-eq0 c = (
  length-set c.loop-word.words c.loop-word.word-index c.moved-next.result.0 ∙ c.loop-word.auto.words,
  All-set (λ w. w < 2 ^ 32) c.loop-word.words c.loop-word.word-index c.moved-next.result.0 (search rules) c.loop-word.invariant.0,
  (0, omega arith, stops c.args.down _ _ _ _ _ _ c.if-passed-eq0.true (on c.args.down _ _ _ _ _ (omega arith) c.loop-word.invariant.1 c.moved-next.ensures.0)),
)

pub loop-word-preserved : goal.loop-word-preserved
loop-word-preserved c = (
  All-set (λ w. w < 2 ^ 32) c.loop-word.words c.loop-word.word-index c.moved-next.result.0 (search rules) c.loop-word.invariant.0,
  goes_on c.args.down _ _ _ _ _ (omega (arith, c.moved-next.ensures.1, c.if-passed-eq0.false)) (on c.args.down _ _ _ _ _ (omega arith) c.loop-word.invariant.1 c.moved-next.ensures.0),
)
