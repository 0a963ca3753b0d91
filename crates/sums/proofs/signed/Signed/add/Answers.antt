use Rattle.sums.proofs.SignedLaws.{summed_signed}
use Rattle.sums.proofs.signed.Signed.add.Goals as goal

pub returns : goal.returns
returns c = summed_signed _ c.args.other.now.words _ c.args.self.now.eight c.args.other.now.eight c.requires c.move_all.ensures
