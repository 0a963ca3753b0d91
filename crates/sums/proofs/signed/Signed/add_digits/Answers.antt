use Rattle.sums.proofs.SignedLaws.{moved_signed, term_words}
use Rattle.sums.proofs.signed.Signed.add_digits.Goals as goal

pub returns : goal.returns
returns c =
    let term = term_words c.from.result c.args.digits c.from-at.result c.args.place c.requires.short.0 c.from.ensures c.from-at.ensures in
    moved_signed c.args.negative _ _ _ c.args.self.now.eight c.requires.fits (rw term at c.move_at.ensures)
