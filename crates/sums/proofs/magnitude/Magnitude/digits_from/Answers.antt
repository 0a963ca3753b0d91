use Rattle.std.proofs.Common.{arith}
use Rattle.std.proofs.lemmas.Nat.{shr_below}
use Rattle.sums.specs.Words.{number}
use Rattle.sums.proofs.CutLaws.{two_from}
use Rattle.sums.proofs.magnitude.Magnitude.digits_from.Goals as goal

pub overflow_cast-result-2 : goal.overflow_cast-result-2
overflow_cast-result-2 c =
    let ws = c.args.self.now.words in
    let place = c.args.place in
    rw (c.word-high.ensures.0, c.word-low.ensures.0, c.from-at.ensures, two_from ws place c.args.self.now.eight c.requires)
    (record { fits = omega (arith, shr_below (number ws) 12 place c.requires) })

pub returns : goal.returns
returns c = rw (c.word-high.ensures.0, c.word-low.ensures.0, c.from-at.ensures) (two_from c.args.self.now.words c.args.place c.args.self.now.eight c.requires)
