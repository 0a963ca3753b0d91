use Rattle.std.proofs.Common.{sym, arith}
use Rattle.layout.proofs.DigitLaws.{digits_zero}
use Rattle.sums.proofs.CutLaws.{top_digits, no_digits}
use Rattle.sums.proofs.magnitude.Magnitude.bit_length.Goals as goal
use Rattle.sums.proofs.magnitude.Magnitude.bit_length.Goals.{then-word-ne0, else-word-ne0}

pub loop-i-init : goal.loop-i-init
loop-i-init c = (sym digits_zero, omega arith)

pub loop-i-preserved : goal.loop-i-preserved
loop-i-preserved c =
    let ws = c.args.self.now.words in
    let i = c.loop-i.i in
    elim c.if-word-ne0.branch [
      | then-word-ne0 w ↦ rw w.bits-is (top_digits ws i c.args.self.now.eight c.loop-i-test.true w.if-word-ne0.true, omega arith)
      | else-word-ne0 w ↦ rw (w.bits-is, no_digits ws i w.if-word-ne0.false) c.loop-i.invariant
    ]
