use Rattle.std.proofs.Common.{rules, ◌<◌, length, arith}
use Rattle.sums.proofs.WordLaws.{eight_set, gathered_word}
use Rattle.sums.proofs.words.move_all.Goals as goal

pub loop-i-preserved : goal.loop-i-preserved
loop-i-preserved c =
    let (most, eight, sum) = c.loop-i.invariant in
    let within : c.loop-i.i < length c.loop-i.words = omega (arith, eight.long) in (
      c.moved-word.ensures.1,
      eight_set _ _ _ eight (search rules),
      gathered_word c.args.down _ c.args.other.now _ _ _ c.from.result c.loop-i.passed _ within c.from.ensures sum c.moved-word.ensures.0,
    )
