use Rattle.std.proofs.Common.{sym}
use Rattle.std.proofs.lemmas.Bool.{not-true, not-false}
use Rattle.sums.proofs.SignedLaws.{size_positive, size_negative}
use Rattle.sums.proofs.signed.Signed.size.Goals as goal
use Rattle.sums.proofs.signed.Signed.size.Goals.{then-is_negative, else-is_negative}

pub returns : goal.returns
returns c =
    let ws = c.args.self.now.words in
    let eight = c.args.self.now.eight in
    elim c.if-is_negative.branch [
      | then-is_negative w ↦
          rw w.words-is (size_negative ws _ eight w.negative.result.eight (not-true _ (sym w.if-is_negative.ensures)) w.negative.ensures.negated)
      | else-is_negative w ↦ rw w.words-is (size_positive ws eight (not-false _ (sym w.if-is_negative.ensures)))
    ]
