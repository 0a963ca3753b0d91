use Rattle.std.proofs.Common.{◌+◌, ap, arith}
use Rattle.rounding.proofs.StepLaws.{settled, overflown}
use Rattle.rounding.proofs.project.Target.of_size.Goals as goal

pub returns-then-within : goal.returns-then-within
returns-then-within g c n at is =
    let m = g.F.Format.meaning c.args.self.now.format.now in
    let laws = g.met.F.Format.lawful c.args.self.now.format.now in
    let p = c.args.size.now in
    settled m laws (g.R.RoundingRule.table c.args.self.now.rule.now) n p at is
    c.goes_away-away.result _ c.goes_away-away.ensures (ap (λ x. p.cut.digits + x) c.from.ensures) c.args.self.now.mode _
    (omega (arith, (c.within.ensures.within c.if-within.true).1)) c.finite.ensures c.mark.ensures

pub returns-else-within : goal.returns-else-within
returns-else-within g c n at is =
    let m = g.F.Format.meaning c.args.self.now.format.now in
    let laws = g.met.F.Format.lawful c.args.self.now.format.now in
    let p = c.args.size.now in
    overflown m laws (g.R.RoundingRule.table c.args.self.now.rule.now) n p at is
    c.goes_away-away.result _ c.goes_away-away.ensures (ap (λ x. p.cut.digits + x) c.from.ensures) c.args.self.now.mode _
    (c.within.ensures.beyond c.if-within.false) c.of_overflow.ensures
