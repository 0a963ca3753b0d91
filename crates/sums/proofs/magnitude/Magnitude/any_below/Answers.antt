use Rattle.std.proofs.Common.{not, eqb, sym, ap, ◌∙◌}
use Rattle.std.proofs.lemmas.Bool.{ne_eqb}
use Rattle.sums.proofs.CutLaws.{rest_some, rest_none, any_number}
use Rattle.sums.proofs.magnitude.Magnitude.any_below.Goals as goal

pub returns-then-self-at-ne0 : goal.returns-then-self-at-ne0
returns-then-self-at-ne0 c =
    let some = rw c.from-at.ensures at c.if-self-at-ne0.true in
    rw c.from-at.ensures
    (ap not (ne_eqb _ 0 some ∙ sym (ne_eqb _ 0 (rest_some c.args.self.now.words c.args.place c.args.self.now.eight c.ranges.place.fits some))))

pub returns-else-self-at-ne0 : goal.returns-else-self-at-ne0
returns-else-self-at-ne0 c =
    (rw c.from-at.ensures at c.any_set.ensures) ∙ any_number _
    ∙ ap (λ n. not (eqb n 0)) (sym (rest_none c.args.self.now.words c.args.place c.args.self.now.eight c.ranges.place.fits (rw c.from-at.ensures at c.if-self-at-ne0.false)))
