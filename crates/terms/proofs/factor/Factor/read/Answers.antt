use Rattle.terms.proofs.ReadingLaws.{read_small, read_finite}
use Rattle.terms.proofs.factor.Factor.read.Goals as goal

pub invariant_of-result : goal.invariant_of-result
invariant_of-result g c =
    let format = c.args.format.now in
    record { small = read_small (g.F.Format.meaning format) c.args.code _ (g.met.F.Format.lawful format) (rw c.in-Finite.is at c.in_ok-decode.ensures) }

pub returns-in-Finite : goal.returns-in-Finite
returns-in-Finite g c =
    let format = c.args.format.now in
    read_finite (g.F.Format.meaning format) c.args.code _ (g.met.F.Format.lawful format) (rw c.in-Finite.is at c.in_ok-decode.ensures)
