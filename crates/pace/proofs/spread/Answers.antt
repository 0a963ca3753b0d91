use Rattle.std.proofs.Common.{◌+◌, ◌/◌, ◌%◌, ◌<◌, length, ◌∙◌, arith, length-set}
use Rattle.std.proofs.ByRecursion.{All-get_or, All-set, All-weaker}
use Rattle.pace.specs.Pace.{Within}
use Rattle.pace.proofs.TermLaws.{within_more, within_next}
use Rattle.pace.proofs.spread.Goals as goal

pub loop-i-preserved : goal.loop-i-preserved
loop-i-preserved c =
    let i = c.loop-i.i in
    let sums = c.loop-i.sums in
    let t = c.drawn-t.result in
    let short = t.short in
    let low = c.drawn-t.ensures in
    let lt : i / 2 % 8 < length sums = omega (arith, c.loop-i.invariant.0) in
    let h = All-get_or (Within i) sums (i / 2 % 8) _ lt c.loop-i.invariant.1 in
    let next = within_next _ c.add_term.new.self i t.digits t.place t.negative h short low c.add_term.ensures in
    let rest = All-weaker (Within i) (Within (i + 1)) (λ s. within_more s i (i + 1) (omega arith)) sums c.loop-i.invariant.1 in
    (length-set sums (i / 2 % 8) _ ∙ c.loop-i.invariant.0, All-set (Within (i + 1)) sums (i / 2 % 8) _ next rest)
