use Rattle.pace.proofs.TermLaws.{within_next}
use Rattle.pace.proofs.added.Goals as goal

pub loop-i-preserved : goal.loop-i-preserved
loop-i-preserved c =
    let t = c.drawn-t.result in
    let short = t.short in
    let low = c.drawn-t.ensures in
    within_next c.loop-i.sum c.add_term.new.self c.loop-i.i t.digits t.place t.negative c.loop-i.invariant short low c.add_term.ensures
